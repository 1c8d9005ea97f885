-- The first ticket that may follow some steps is known from the last of them.
use Rattle.std.proofs.Common.{◌≡◌, ℕ, suc, ◌+◌, ◌-◌, List, [], ◌∷◌, length, None, Some, refl, sym, ap, ◌∙◌, arith}
use Rattle.std.specs.Prelude.{slice_get}
use Rattle.std.proofs.lemmas.Option.{none-some, same_Some}
use Rattle.qu_replay.specs.declared.kept_step.KeptStep.{KeptStep}
use Rattle.qu_replay.specs.Replays.{first_free_ticket}

pub free_behind : (low : ℕ) (steps : List KeptStep) (last : KeptStep)
    → slice_get steps (length steps - 1) ≡ Some last → first_free_ticket low steps ≡ last.ticket + 1
unfolding first_free_ticket
free_behind low [] last is = absurd (none-some last is)
free_behind low (step ∷ []) last is =
    let first : length (step ∷ []) - 1 ≡ 0 = omega arith in
    ap (λ (it : KeptStep). it.ticket + 1) (same_Some step last (sym (ap (slice_get (step ∷ [])) first) ∙ is))
free_behind low (step ∷ next ∷ later) last is =
    let place : length (step ∷ next ∷ later) - 1 ≡ suc (length (next ∷ later) - 1) = omega arith in
    free_behind (step.ticket + 1) (next ∷ later) last
    (sym (ap (slice_get (step ∷ next ∷ later)) place) ∙ is)

cons-none : (step : KeptStep) (later : List KeptStep) → step ∷ later ≡ [] → ⊥
cons-none step later is = cc

-- where no step is last there is none
pub none_last : (steps : List KeptStep) → slice_get steps (length steps - 1) ≡ None → steps ≡ []
none_last [] is = refl
none_last (step ∷ []) is =
    let first : length (step ∷ []) - 1 ≡ 0 = omega arith in
    absurd (none-some step (sym is ∙ ap (slice_get (step ∷ [])) first))
none_last (step ∷ next ∷ later) is =
    let place : length (step ∷ next ∷ later) - 1 ≡ suc (length (next ∷ later) - 1) = omega arith in
    absurd (cons-none next later (none_last (next ∷ later) (sym (ap (slice_get (step ∷ next ∷ later)) place) ∙ is)))
