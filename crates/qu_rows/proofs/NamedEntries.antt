-- What a replica names of a request: nothing where an object is unknown, else all that is left out.
use Rattle.std.proofs.Common.{◌≡◌, cond, List, [], Option, None, Some, refl, sym}
use Rattle.std.specs.Prelude.{is_none}
use Rattle.std.proofs.lemmas.Option.{none-some}
use Rattle.qu_history.specs.declared.sets.SetOf.{SetOf}
use Rattle.qu_history.specs.Culling.{left_out}
use Rattle.qu_rows.specs.declared.decision.Decision.{Decision}
use Rattle.qu_rows.specs.State.{ReplicaState}
use Rattle.qu_rows.specs.Rows.{unknown_in, unknown_refused}
use Rattle.qu_rows.specs.Named.{named}
use Rattle.qu_rows.proofs.CulledRequests.{unknown_decides, unknown_may, known_passes}

module _ (state : ReplicaState) (sets : List SetOf) where
  pub unknown_names : (decision : Decision) → Some decision ≡ unknown_refused (unknown_in state sets)
      → [] ≡ named state sets
  unfolding named
  unknown_names decision found = by_unknown (unknown_in state sets) found
    where
      by_unknown : (unknown : Option SetOf) → Some decision ≡ unknown_refused unknown
          → [] ≡ cond (is_none unknown) (left_out state.keys state.me sets) []
      by_unknown None none = absurd (none-some decision (sym none))
      by_unknown (Some set) is = refl

  pub known_names : None ≡ unknown_refused (unknown_in state sets)
      → left_out state.keys state.me sets ≡ named state sets
  unfolding named
  known_names none = by_unknown (unknown_in state sets) none
    where
      by_unknown : (unknown : Option SetOf) → None ≡ unknown_refused unknown
          → left_out state.keys state.me sets ≡ cond (is_none unknown) (left_out state.keys state.me sets) []
      by_unknown None is = refl
      by_unknown (Some set) is = absurd (none-some _ is)

pub ruleset handling = (unknown_decides, unknown_names, unknown_may, known_passes, known_names)
