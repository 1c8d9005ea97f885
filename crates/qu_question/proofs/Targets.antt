-- The object to be mended is one of those that are named.
use Rattle.std.proofs.Common.{ℕ, Bool, List, [], ◌∷◌, find, Option, None, Some, IfSome}
use Rattle.std.specs.Prelude.{unwrap_or}
use Rattle.std.specs.List.{AllByRecursion}
use Rattle.std.specs.Option.{option_or}
use Rattle.std.proofs.lemmas.Bool.{cond_both}
use Rattle.qu_base.specs.declared.party.ObjectId.{ObjectId}
use Rattle.qu_history.specs.declared.sets.SetOf.{SetOf}
use Rattle.qu_class.specs.Class.{class_in}
use Rattle.qu_question.specs.Question.{lowest_of, is_torn, awaits_copy, first_of_class, target_of}

found_such : (P : ObjectId → Type 0) (test : ObjectId → Bool) (objects : List ObjectId) → AllByRecursion P objects
    → IfSome (find test objects) P
found_such P test [] each = tt
found_such P test (object ∷ later) each =
    cond_both (test object) _ _ (λ (it : Option ObjectId). IfSome it P) (λ _. each.0)
    (λ _. found_such P test later each.1)

or_such : (P : ObjectId → Type 0) (one other : Option ObjectId) (last : ObjectId) → IfSome one P → IfSome other P
    → P last → P (unwrap_or (option_or one other) last)
or_such P (Some object) other last is or_is holds = is
or_such P None (Some object) last is or_is holds = or_is
or_such P None None last is or_is holds = holds

-- what holds of all of them, and of the lowest, holds of it
pub target_such : (P : ObjectId → Type 0) (bounds : ℕ) (sets : List SetOf) (objects : List ObjectId)
    → AllByRecursion P objects → P (lowest_of objects) → P (target_of bounds sets objects)
target_such P bounds sets objects each lowest =
    or_such P (first_of_class is_torn bounds sets objects) (first_of_class awaits_copy bounds sets objects)
    (lowest_of objects) (found_such P (λ object. is_torn (class_in bounds sets object)) objects each)
    (found_such P (λ object. awaits_copy (class_in bounds sets object)) objects each) lowest
