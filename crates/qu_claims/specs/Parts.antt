-- The objects that the parts of an operation name, and their values.
use Rattle.std.specs.Prelude.{List, map}
use Rattle.qu_base.specs.declared.party.ObjectId.{ObjectId}
use Rattle.qu_objects.specs.declared.act.Method.{Method}
use Rattle.qu_objects.specs.declared.kind.Value.{Value}
pub use Rattle.qu_plan.specs.Copying.{Names}

-- the values of the objects that the parts name
abbrev pub values_on : (ObjectId → Value) → List (ObjectId × Method) → List Value
values_on value parts = map (λ (part : ObjectId × Method). value part.0) parts
