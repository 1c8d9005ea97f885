-- An act is performed in the order of its parts on the values before it. The first refused part
-- is its answer, and then no value changes.
use Rattle.std.specs.Prelude.{ℕ, ◌+◌, List, [], ◌∷◌, Option, None, Some}
use Rattle.qu_base.specs.declared.party.ObjectId.{ObjectId}
use Rattle.qu_objects.specs.declared.act.Method.{Method}
use Rattle.qu_objects.specs.declared.query.Ask.{Ask}
use Rattle.qu_base.specs.declared.kind.Item.{Item}
use Rattle.qu_objects.specs.declared.answer.Answer.{Answer}
use Rattle.qu_objects.specs.declared.answer.Answer.TheVariants as answer
use Rattle.qu_objects.specs.declared.kind.Value.{Value}
use Rattle.qu_base.specs.declared.kind.Applied.{Applied}
use Rattle.qu_base.specs.declared.kind.Applied.TheVariants.{Changed, Refused}
use Rattle.qu_base.specs.declared.kind.Told.{Told}
use Rattle.qu_base.specs.declared.kind.Told.TheVariants as tells
use Rattle.qu_objects.specs.Kind.{applied, value_told}

-- what each part makes of its value
abbrev pub outcomes : List (ObjectId × Method) → List Value → List (Applied Value)
outcomes [] values = []
outcomes (part ∷ parts) [] = []
outcomes (part ∷ parts) (value ∷ values) = applied part.1 value ∷ outcomes parts values

-- the first refused part and why, where the first part has this position
abbrev pub refusal_from : ℕ → List (Applied Value) → Option (ℕ × ℕ)
refusal_from at [] = None
refusal_from at (Changed value item ∷ later) = refusal_from (at + 1) later
refusal_from at (Refused why ∷ later) = Some (at, why)

abbrev pub items_of : List (Applied Value) → List Item
items_of [] = []
items_of (Changed value item ∷ later) = item ∷ items_of later
items_of (Refused why ∷ later) = items_of later

abbrev pub changed_values : List (Applied Value) → List Value
changed_values [] = []
changed_values (Changed value item ∷ later) = value ∷ changed_values later
changed_values (Refused why ∷ later) = changed_values later

abbrev pub answer_by : Option (ℕ × ℕ) → List Item → Answer
answer_by None items = answer.Ok items
answer_by (Some refusal) items = answer.Refused refusal.0 refusal.1

abbrev pub values_by : Option (ℕ × ℕ) → List Value → List Value → List Value
values_by None before after = after
values_by (Some refusal) before after = before

-- an item for each part, or the first refused part
abbrev pub answer_from : List (Applied Value) → Answer
answer_from made = answer_by (refusal_from 0 made) (items_of made)

abbrev pub performed_answer : List (ObjectId × Method) → List Value → Answer
performed_answer parts values = answer_from (outcomes parts values)

-- the values after the act
abbrev pub performed_values : List (ObjectId × Method) → List Value → List Value
performed_values parts values =
    let made = outcomes parts values in values_by (refusal_from 0 made) values (changed_values made)

-- an ask leaves the value
abbrev pub left_by : Value → Told → Applied Value
left_by value (tells.Item item) = Changed value item
left_by value (tells.Refused why) = Refused why

abbrev pub told_outcomes : List (ObjectId × Ask) → List Value → List (Applied Value)
told_outcomes [] values = []
told_outcomes (part ∷ parts) [] = []
told_outcomes (part ∷ parts) (value ∷ values) = left_by value (value_told part.1 value) ∷ told_outcomes parts values

-- a query answers an item for each part, or its first refused part
abbrev pub told_answer : List (ObjectId × Ask) → List Value → Answer
told_answer parts values = answer_from (told_outcomes parts values)
