-- One machine that runs whole operations on plain values, the values of objects 0, 1, 2, ..
use Rattle.std.specs.Prelude.{List, [], ◌∷◌, filter_map, slice_get, slice_set}
use Rattle.qu_base.specs.declared.party.ObjectId.{ObjectId}
use Rattle.qu_objects.specs.declared.act.Method.{Method}
use Rattle.qu_objects.specs.declared.query.Ask.{Ask}
use Rattle.qu_objects.specs.declared.answer.Answer.{Answer}
use Rattle.qu_objects.specs.declared.kind.Value.{Value}
use Rattle.qu_objects.specs.Performing.{performed_answer, performed_values, told_answer}

-- the values of the objects that an operation names
abbrev pub values_at : {X : Type 0} → List Value → List (ObjectId × X) → List Value
values_at values parts = filter_map (λ part. slice_get values (part.0).0) parts

-- the values with these as those of the objects that an operation names
abbrev pub with_values : {X : Type 0} → List Value → List (ObjectId × X) → List Value → List Value
with_values values [] made = values
with_values values (part ∷ parts) [] = values
with_values values (part ∷ parts) (value ∷ made) = with_values (slice_set values (part.0).0 value) parts made

-- an act answers an item for each part, or the first refused part
abbrev pub act_answer : List Value → List (ObjectId × Method) → Answer
act_answer values parts = performed_answer parts (values_at values parts)

-- an act changes the values of all its objects, or none where a part is refused
abbrev pub act_values : List Value → List (ObjectId × Method) → List Value
act_values values parts = with_values values parts (performed_values parts (values_at values parts))

-- a query answers an item for each part, or its first refused part
abbrev pub query_answer : List Value → List (ObjectId × Ask) → Answer
query_answer values parts = told_answer parts (values_at values parts)
