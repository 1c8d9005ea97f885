-- What a plan is looked up in.
use Rattle.std.specs.Prelude.{ℕ, List, map, Option}
use Rattle.qu_base.specs.declared.party.ObjectId.{ObjectId}
use Rattle.qu_stamp.specs.declared.candidate.Candidate.{Candidate}
use Rattle.qu_history.specs.declared.sets.SetOf.{SetOf}
use Rattle.qu_history.specs.Sets.{entries_of, method_at}
use Rattle.qu_plan.specs.declared.fact.Fact.{Fact}

-- what a plan is made from
pub record Knowledge : Type 0 where
  pub bounds : ℕ
  pub sets : List SetOf
  pub facts : List Fact

-- an object, and its version of class METHOD
abbrev pub Version : Type 0
Version = ObjectId × Option Candidate

-- those of the objects of the sets
unfoldable pub versions_of : ℕ → List SetOf → List Version
versions_of bounds sets = map (λ (set : SetOf). (set.object, method_at bounds (entries_of set.object sets))) sets
