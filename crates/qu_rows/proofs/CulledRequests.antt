-- Culled sets are of the same objects, so that an unknown object is found before they are culled.
use Rattle.std.proofs.Common.{◌≡◌, ℕ, List, [], ◌∷◌, Option, None, Some, inl, inr, refl, sym, subst, ◌∙◌}
use Rattle.std.specs.Prelude.{find, map, nat_le, option_map, length}
use Rattle.std.proofs.lemmas.Bool.{cases_Bool}
use Rattle.std.proofs.lemmas.Option.{none-some, same_Some}
use Rattle.qu_base.specs.declared.party.ClientId.{ClientId}
use Rattle.qu_base.specs.declared.party.ReplicaId.{ReplicaId}
use Rattle.qu_seal.specs.Keys.{Ring}
use Rattle.qu_history.specs.declared.sets.SetOf.{SetOf}
use Rattle.qu_history.specs.Culling.{culled_set, culled}
use Rattle.qu_frames.specs.declared.frame.Body.{Body}
use Rattle.qu_frames.specs.declared.frame.Body.TheVariants as body
use Rattle.qu_verdicts.specs.declared.verdict.Refusal.TheVariants as refusal
use Rattle.qu_rows.specs.declared.decision.Decision.{Decision}
use Rattle.qu_rows.specs.State.{ReplicaState}
use Rattle.qu_rows.specs.Rows.{Asked, asked_at, refuse, unknown_in, unknown_refused, row_unknown, decide_act, decide_ask, decide_repair, decision_on}
use Rattle.qu_rows.specs.declared.decision.Decision.TheVariants.{Waits}
use Rattle.qu_mends.specs.Table.{first_given}
use Rattle.qu_rows.specs.Allowed.{MayDecide}

find_culled : (ring : Ring) (me : ReplicaId) (known : ℕ) (sets : List SetOf)
    → find (λ (set : SetOf). nat_le known (set.object).0) (map (culled_set ring me) sets) ≡ option_map
    (culled_set ring me) (find (λ (set : SetOf). nat_le known (set.object).0) sets)
find_culled ring me known [] = refl
find_culled ring me known (set ∷ later) =
    elim (cases_Bool (nat_le known (set.object).0)) [
      | inl here ↦ rw here refl
      | inr other ↦ rw other (find_culled ring me known later)
    ]

pub unknown_culled : (state : ReplicaState) (sets : List SetOf) → unknown_in state (culled state.keys state.me sets)
    ≡ option_map (culled_set state.keys state.me) (unknown_in state sets)
unfolding culled
unknown_culled state sets = find_culled state.keys state.me (length state.histories) sets

first_is_given : (decision : Decision) (row : Option Decision) (later : List (Option Decision)) → row ≡ Some decision
    → first_given (Waits []) (row ∷ later) ≡ decision
unfolding first_given
first_is_given decision row later is = rw is refl

row_decides : (state : ReplicaState) (asked : Asked) (asks : Body) (decision : Decision)
    → row_unknown state asked ≡ Some decision → decision_on state asked asks ≡ decision
unfolding decide_act decide_ask decide_repair
row_decides state asked (body.Act parts) decision is = first_is_given decision _ _ is
row_decides state asked (body.Ask parts) decision is = first_is_given decision _ _ is
row_decides state asked (body.Mend target) decision is = first_is_given decision _ _ is

module _ (state : ReplicaState) (sets : List SetOf) where
  refused_culled : unknown_refused (unknown_in state (culled state.keys state.me sets)) ≡ unknown_refused
      (unknown_in state sets)
  refused_culled = rw (unknown_culled state sets) (same (unknown_in state sets))
    where
      same : (found : Option SetOf) → unknown_refused (option_map (culled_set state.keys state.me) found)
          ≡ unknown_refused found
      same None = refl
      same (Some set) = refl

  -- a request with an unknown object is refused
  pub unknown_decides : (client : ClientId) (number : ℕ) (asks : Body) (decision : Decision)
      → Some decision ≡ unknown_refused (unknown_in state sets)
      → decision ≡ decision_on state (asked_at state client number sets asks) asks
  unfolding row_unknown
  unknown_decides client number asks decision found =
      sym (row_decides state (asked_at state client number sets asks) asks decision (refused_culled ∙ sym found))

  pub unknown_may : (decision : Decision) → Some decision ≡ unknown_refused (unknown_in state sets)
      → MayDecide state decision
  unknown_may decision found = by_unknown (unknown_in state sets) found
    where
      by_unknown : (unknown : Option SetOf) → Some decision ≡ unknown_refused unknown → MayDecide state decision
      by_unknown None none = absurd (none-some decision (sym none))
      by_unknown (Some set) is =
          subst (MayDecide state) (sym (same_Some decision (refuse (refusal.UnknownObject set.object)) is)) tt

  -- a request without one passes the row
  pub known_passes : (client : ClientId) (number : ℕ) (asks : Body)
      → None ≡ unknown_refused (unknown_in state sets)
      → row_unknown state (asked_at state client number sets asks) ≡ None
  unfolding row_unknown
  known_passes client number asks none = refused_culled ∙ sym none
