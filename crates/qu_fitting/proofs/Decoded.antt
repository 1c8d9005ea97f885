-- What was decoded fits its format, so a request that was decoded has parts.
use Rattle.std.proofs.Common.{List, refl}
use Rattle.std.specs.Prelude.{IsTrue}
use Rattle.qu_base.specs.declared.party.ObjectId.{ObjectId}
use Rattle.qu_objects.specs.Formats.{method_form, ask_form, act_form, query_form}
use Rattle.qu_frames.specs.declared.frame.Body.{Body}
use Rattle.qu_frames.specs.declared.frame.Body.TheVariants as body
use Rattle.qu_frames.specs.Formats.{body_form}
use Rattle.qu_rows.specs.Allowed.{has_parts}
use Rattle.qu_objects.proofs.ReadingLaws.{in_order}

pub body_has_parts : (objects : List ObjectId) (asks : Body) → (body_form objects).Fits asks → IsTrue (has_parts asks)
unfolding body_form act_form query_form
body_has_parts objects (body.Act parts) fits = in_order method_form _ parts fits.1
body_has_parts objects (body.Ask parts) fits = in_order ask_form _ parts fits.1
body_has_parts objects (body.Mend target) fits = refl
