-- What the request of an operation asks for.
use Rattle.qu_objects.specs.declared.op.Op.{Op}
use Rattle.qu_objects.specs.declared.op.Op.TheVariants as op
use Rattle.qu_frames.specs.declared.frame.Body.{Body}
use Rattle.qu_frames.specs.declared.frame.Body.TheVariants as body

abbrev pub body_of : Op → Body
body_of (op.Act act) = body.Act act
body_of (op.Query query) = body.Ask query
