-- What a tick makes of a client, exactly.
use Rattle.std.proofs.Common.{◌≡◌, ℕ, ◌-◌, true, false, leb, Option, None, Some, refl}
use Rattle.std.proofs.lemmas.Bool.{cond_both}
use Rattle.qu_client.specs.declared.state.ClientState.{ClientState}
use Rattle.qu_client.specs.declared.work.Phase.{Phase}
use Rattle.qu_client.specs.declared.work.Phase.TheVariants.{Asking, Resting}
use Rattle.qu_client.specs.declared.work.Work.{Work}
use Rattle.qu_client.specs.State.{Stepped}
use Rattle.qu_client.specs.Rounds.{asks_others}
use Rattle.qu_client.specs.Steps.{stays, ends_round, next_round, ticked_in, ticked, client_tick}

module _ (state : ClientState) (P : Stepped → Type 0) (same : P (stays state))
    (over : (work : Work) → state.work ≡ Some work → P (ends_round state work))
    (next : (work : Work) → state.work ≡ Some work → P (next_round state work))
    (waits : (work : Work) (ticks : ℕ) → state.work ≡ Some work
    → P (stays (record state { work = Some (record work { phase = Resting ticks }) })))
    (again : (work : Work) → state.work ≡ Some work → P (asks_others state work)) where
  clock_in : (work : Work) (phase : Phase) → state.work ≡ Some work → P (ticked_in state work phase)
  clock_in work (Asking true) is = over work is
  clock_in work (Asking false) is = again work is
  clock_in work (Resting ticks) is = cond_both (leb ticks 1) _ _ P (λ _. next work is) (λ _. waits work (ticks - 1) is)

  clock_by : (found : Option Work) → state.work ≡ found → P (ticked state found)
  clock_by None is = same
  clock_by (Some work) is = clock_in work work.phase is

  -- it ends the round, begins the next one, shortens a rest, or has the others asked
  pub clock_cases : P (client_tick state)
  clock_cases = clock_by state.work refl
