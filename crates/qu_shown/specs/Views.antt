-- What a request shows: histories that their replicas, where those are correct, had at an earlier moment of the run.
use Rattle.std.specs.Prelude.{◌≡◌, true, ℕ, ◌≤◌, List, Some}
use Rattle.std.specs.List.{AllByRecursion}
use Rattle.qu_history.specs.declared.sealed.Sealed.{Sealed}
use Rattle.qu_history.specs.declared.sets.SetOf.{SetOf}
use Rattle.qu_history.specs.History.{ObjectHistory}
use Rattle.qu_trace.specs.declared.trace.Trace.{Trace}
use Rattle.qu_trace.specs.Faulty.{is_good}
use Rattle.qu_world.specs.State.{history_at}
use Rattle.qu_claims.specs.Times.{world_after}

-- the replica of this history had it at an earlier moment of the run
pub record WasHeld (trace : Trace) (count : ℕ) (history : ObjectHistory) : Type 0 where
  pub past : ℕ
  pub earlier : past ≤ count
  pub held : history_at (world_after trace past) history.replica history.object ≡ Some history

-- where its replica is correct
abbrev pub HeldIfCorrect : Trace → ℕ → ObjectHistory → Type 0
HeldIfCorrect trace count history = is_good trace.setup (history.replica).0 ≡ true → WasHeld trace count history

-- it holds of each entry of the sets
abbrev pub EachEntry : (Sealed → Type 0) → List SetOf → Type 0
EachEntry P sets = AllByRecursion (λ (set : SetOf). AllByRecursion P set.entries) sets

-- what the sets show of correct replicas, these had by then, whatever else a client keeps and does not show
abbrev pub AreHeld : Trace → ℕ → List SetOf → Type 0
AreHeld trace count sets = EachEntry (λ (it : Sealed). HeldIfCorrect trace count it.history) sets
