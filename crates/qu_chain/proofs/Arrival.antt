-- The step at which something begins to hold.
use Rattle.std.proofs.Common.{◌≡◌, ℕ, zero, suc, ◌<◌, ◌≤◌, Bool, true, false, sym, ap, ◌∙◌, arith, inl, inr}
use Rattle.std.proofs.lemmas.Bool.{false≢true, cases_Bool, cases_eq}

-- a step, from the least time on and before the end, at which the test turns true
pub record Turn (test : ℕ → Bool) (least end : ℕ) : Type 0 where
  pub time : ℕ
  pub from : least ≤ time
  pub within : time < end
  pub before : test time ≡ false
  pub after : test (suc time) ≡ true

later_turn : (test : ℕ → Bool) (least end : ℕ) → Turn test least end → Turn test least (suc end)
later_turn test least end turn = record {
  time = turn.time;
  from = turn.from;
  within = let within : turn.time < end = turn.within in omega arith;
  before = turn.before;
  after = turn.after;
}

-- two times at which the test answers otherwise are not the same
apart : (test : ℕ → Bool) (first second : ℕ) → test first ≡ false → test second ≡ true → first ≡ second → ⊥
apart test first second fails passes same = false≢true (sym fails ∙ ap test same ∙ passes)

-- what does not hold at the least time and holds at the end begins between them
pub turn_between : (test : ℕ → Bool) (least end : ℕ) → least ≤ end → test least ≡ false → test end ≡ true
    → Turn test least end
turn_between test least zero order before after =
    absurd (apart test least zero before after (omega arith))
turn_between test least (suc end) order before after =
    elim (cases_eq least (suc end)) [
      | inl same ↦ absurd (apart test least (suc end) before after same)
      | inr other ↦ elim (cases_Bool (test end)) [
        | inl already ↦ later_turn test least end (turn_between test least end (omega arith) before already)
        | inr not_yet ↦ record { time = end; from = omega arith; within = omega arith; before = not_yet; after = after }
      ]
    ]
