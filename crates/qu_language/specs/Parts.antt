-- The parts of an operation that were read so far, and what may stand behind them.
use Rattle.std.specs.Prelude.{ℕ, ◌≤◌, ◌+◌, Bool, true, false, ◌&&◌, nat_eq, nat_lt, List, [], ◌∷◌, ◌++◌, length, map, IsTrue, if◌then◌else◌}
use Rattle.std.specs.List.{list_all}
use Rattle.qu_base.specs.declared.party.ObjectId.{ObjectId}
use Rattle.qu_objects.specs.declared.op.Op.{Op}
use Rattle.qu_objects.specs.declared.op.Op.TheVariants as op
use Rattle.qu_objects.specs.Parts.{is_sized_method, is_sized_ask, are_sized, are_objects_from}
use Rattle.qu_language.specs.declared.operation.Part.{Part}
use Rattle.qu_language.specs.declared.operation.Part.TheVariants.{Does, Asks}
use Rattle.qu_language.specs.declared.operation.Verb.{Verb}
use Rattle.qu_language.specs.declared.operation.Verb.TheVariants as verb
use Rattle.qu_language.specs.declared.parts.Parts.{Parts}

abbrev pub no_parts : Parts
no_parts = record { updates = []; queries = [] }

-- the verb of a query
abbrev pub is_of_query : Verb → Bool
is_of_query verb.Add = false
is_of_query verb.Take = false
is_of_query verb.Put = false
is_of_query verb.Append = false
is_of_query verb.Link = false
is_of_query verb.Unlink = false
is_of_query verb.Read = true
is_of_query verb.Cat = true
is_of_query verb.Find = true
is_of_query verb.All = true

-- an update stands behind updates alone, and a query behind queries alone
abbrev pub may_precede : Parts → Verb → Bool
may_precede parts verb = nat_eq (if is_of_query verb then length parts.updates else length parts.queries) 0

abbrev pub are_all_below : {X : Type 0} → ObjectId → List (ObjectId × X) → Bool
are_all_below object parts = list_all (λ part. nat_lt (part.0).0 object.0) parts

-- the objects rise: those of the parts so far are below the next one
abbrev pub are_below : ObjectId → Parts → Bool
are_below object parts = are_all_below object parts.updates && are_all_below object parts.queries

abbrev pub with_part : Parts → ObjectId → Part → Parts
with_part parts object (Does method) =
    record { updates = parts.updates ++ (object, method) ∷ []; queries = parts.queries }
with_part parts object (Asks ask) =
    record { updates = parts.updates; queries = parts.queries ++ (object, ask) ∷ [] }

abbrev pub is_sized_part : Part → Bool
is_sized_part (Does method) = is_sized_method method
is_sized_part (Asks ask) = is_sized_ask ask

-- the operation that has these parts
abbrev pub op_of : Parts → Op
op_of parts = if nat_eq (length parts.queries) 0 then op.Act parts.updates else op.Query parts.queries

-- ---- what holds of the parts so far

-- their objects rise, and none carries more than it may
pub record AreGood {X : Type 0} (is_sized : X → Bool) (parts : List (ObjectId × X)) : Type 0 where
  pub rise : IsTrue (are_objects_from 0 (map (λ part. part.0) parts))
  pub sized : IsTrue (are_sized is_sized parts)

-- from a least to a greatest number of them
pub record AreBuilt (least most : ℕ) (parts : Parts) : Type 0 where
  pub some : least ≤ length parts.updates + length parts.queries
  pub few : length parts.updates + length parts.queries ≤ most
  pub updates : AreGood is_sized_method parts.updates
  pub queries : AreGood is_sized_ask parts.queries
