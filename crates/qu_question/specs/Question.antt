-- What a client asks in a round of an operation: upon which sets, for what, and whom (Query/Update: the client's
-- requests).
use Rattle.std.specs.Prelude.{ℕ, zero, suc, Bool, true, false, not, ◌+◌, ◌-◌, ◌%◌, ◌==◌, nat_lt, if◌then◌else◌, List, [], ◌∷◌, map, find, length, Option, None, Some, is_some, unwrap_or}
use Rattle.std.specs.List.{fold, list_all}
use Rattle.std.specs.Option.{option_or}
use Rattle.qu_base.specs.declared.party.ObjectId.{ObjectId}
use Rattle.qu_base.specs.Bounds.{replicas, quorum}
use Rattle.qu_history.specs.declared.limits.TheConstants.{OBJECTS_LIMIT}
use Rattle.qu_history.specs.declared.sets.SetOf.{SetOf}
use Rattle.qu_history.specs.declared.sealed.Sealed.{Sealed}
use Rattle.qu_history.specs.Sets.{entries_of, method_at}
use Rattle.qu_history.specs.Trimming.{trimmed}
use Rattle.qu_class.specs.declared.class.Class.{Class}
use Rattle.qu_class.specs.declared.class.Class.TheVariants as class
use Rattle.qu_class.specs.Class.{class_in}
use Rattle.qu_objects.specs.declared.op.Op.{Op}
use Rattle.qu_frames.specs.declared.frame.Body.TheVariants as body
use Rattle.qu_frames.specs.Body.{body_of}
use Rattle.qu_question.specs.declared.kept.Kept.{Kept}
use Rattle.qu_question.specs.Kept.{kept_of}
use Rattle.qu_question.specs.Named.{operation_objects, with_named}
pub use Rattle.qu_question.specs.declared.question.Question.{Question}

-- the lowest of some objects, which rise
abbrev pub lowest_of : List ObjectId → ObjectId
lowest_of [] = record { 0 = 0 }
lowest_of (object ∷ objects) = object

-- the entries of an object that are not left out, of so many replicas from this one on
unfoldable pub entries_from : ObjectId → ℕ → ℕ → List Kept → List Sealed
entries_from object replica zero kept = []
entries_from object replica (suc count) kept =
    elim (kept_of object replica kept) [
      | None ↦ entries_from object (replica + 1) count kept
      | Some sealed ↦
          sealed ∷ entries_from object (replica + 1) count kept
    ]

abbrev pub set_of : ℕ → List Kept → ObjectId → SetOf
set_of bounds kept object = record { object = object; entries = entries_from object 0 (replicas bounds) kept }

-- of each of the objects all that is kept of it, without what is left out
abbrev pub whole_sets : ℕ → List Kept → List ObjectId → List SetOf
whole_sets bounds kept objects = map (λ object. set_of bounds kept object) objects

-- the sets of a round upon these objects: in rounds 1, 3 and so on they are trimmed
abbrev pub sets_of : ℕ → ℕ → List Kept → List ObjectId → List SetOf
sets_of bounds round kept objects =
    if round % 2 == 1 then trimmed bounds (whole_sets bounds kept objects) else whole_sets bounds kept objects

-- each object has a quorum of entries
abbrev pub are_full : ℕ → List SetOf → Bool
are_full bounds sets = list_all (λ set. not (nat_lt (length set.entries) (quorum bounds))) sets

-- each of the objects is of class METHOD in the sets
abbrev pub are_current : ℕ → List SetOf → List ObjectId → Bool
are_current bounds sets objects = list_all (λ object. is_some (method_at bounds (entries_of object sets))) objects

-- ---- the objects that are named besides

-- the object that has to be shown before such a class can be told
abbrev pub need_of : Class → Option ObjectId
need_of (class.Needs object) = Some object
need_of _ = None

-- the lower one, where there are two
abbrev pub lower_of : Option ObjectId → Option ObjectId → Option ObjectId
lower_of None other = other
lower_of (Some object) None = Some object
lower_of (Some object) (Some other) = if nat_lt other.0 object.0 then Some other else Some object

-- the lowest object that the class of one of these needs
abbrev pub lowest_needed : ℕ → List SetOf → List ObjectId → Option ObjectId
lowest_needed bounds sets objects =
    fold (λ lowest object. lower_of lowest (need_of (class_in bounds sets object))) None objects

-- the object that has to be named too; none is looked for where an object has less than a quorum of entries
abbrev pub needed_in : ℕ → List SetOf → List ObjectId → Option ObjectId
needed_in bounds sets named = if are_full bounds sets then lowest_needed bounds sets named else None

-- the objects that are named when a round is built: where one has to be named too, the building starts again with it,
-- so many times at most
unfoldable pub named_within : ℕ → ℕ → ℕ → List Kept → List ObjectId → List ObjectId
named_within zero bounds round kept named = named
named_within (suc more) bounds round kept named =
    elim (needed_in bounds (sets_of bounds round kept named) named) [
      | None ↦ named
      | Some object ↦ named_within more bounds round kept (with_named object named)
    ]

-- the same, until as many are named as one set may have
abbrev pub named_for : ℕ → ℕ → List Kept → List ObjectId → List ObjectId
named_for bounds round kept named = named_within (OBJECTS_LIMIT - length named) bounds round kept named

-- ---- what is asked

-- of a class that is neither METHOD nor COPY; one that needs an object which cannot be named counts as BARRIER
abbrev pub is_torn : Class → Bool
is_torn (class.Method candidate) = false
is_torn class.Copy = false
is_torn _ = true

abbrev pub awaits_copy : Class → Bool
awaits_copy class.Copy = true
awaits_copy _ = false

-- the lowest of the objects whose class in the sets is such a one
abbrev pub first_of_class : (Class → Bool) → ℕ → List SetOf → List ObjectId → Option ObjectId
first_of_class test bounds sets objects = find (λ object. test (class_in bounds sets object)) objects

-- the object to be mended: the lowest that is neither METHOD nor COPY, and where there is none the lowest of class
-- COPY. Where all are METHOD there is nothing to mend
abbrev pub target_of : ℕ → List SetOf → List ObjectId → ObjectId
target_of bounds sets objects =
    unwrap_or (option_or (first_of_class is_torn bounds sets objects) (first_of_class awaits_copy bounds sets objects))
    (lowest_of objects)

-- what is asked upon these sets: the operation of all replicas, where an object has less than a quorum of entries, so
-- that their answers show more; the operation of the preferred ones, where all its own objects are of class METHOD; and
-- otherwise all are asked to mend one of the objects that are named
abbrev pub asked_upon : ℕ → Op → List ObjectId → List SetOf → Question
asked_upon bounds op named sets =
    if not (are_full bounds sets) then record { named = named; sets = sets; body = body_of op; all = true }
    else if are_current bounds sets (operation_objects op) then
    record { named = named; sets = sets; body = body_of op; all = false }
    else record { named = named; sets = sets; body = body.Mend (target_of bounds sets named); all = true }

-- the building of a round of an operation in which these objects are named so far
abbrev pub question_of : ℕ → Op → ℕ → List Kept → List ObjectId → Question
question_of bounds op round kept objects =
    let named = named_for bounds round kept objects in asked_upon bounds op named (sets_of bounds round kept named)
