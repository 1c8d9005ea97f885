-- The laws of counters.
use Rattle.std.proofs.Common.{◌≡◌, Bool, true, false, ℕ, ◌+◌, ◌-◌, ◌^◌, ◌<◌, ◌≤◌, cond, nat_lt, refl, arith, ltb-true}
use Rattle.std.specs.Int.{w64}
use Rattle.qu_base.specs.Format.{IsExact, IsPrefixCode}
use Rattle.qu_base.specs.declared.kind.Item.{Item}
use Rattle.qu_base.specs.declared.kind.Applied.{Applied}
use Rattle.qu_base.specs.declared.kind.Applied.TheVariants as made
use Rattle.qu_base.proofs.Formats.{number-exact, wide64}
use Rattle.qu_base.proofs.PrefixCodes.{prefix_code}
use Rattle.qu_base.proofs.Reading.{given_exactly}
use Rattle.kind_counter.specs.declared.counter.CounterUpdate.{CounterUpdate}
use Rattle.kind_counter.specs.declared.counter.CounterUpdate.TheVariants.{Add, Take}
use Rattle.kind_counter.specs.Counter.{counter_form, counter_applied, CounterUpdateFits}

pub counter-exact : IsExact counter_form
unfolding counter_form
counter-exact = number-exact w64 (2 ^ 64) 0 (2 ^ 64 - 1) wide64 (omega arith)

pub ruleset counter_read = (given_exactly, counter-exact)

pub counter-code : IsPrefixCode counter_form
counter-code = prefix_code counter_form counter-exact

pub counter-first : counter_form.Fits 0
unfolding counter_form
counter-first = (omega arith, omega arith)

changed_is : (first second : ℕ) (one two : Item) → made.Changed first one ≡ made.Changed second two → first ≡ second
changed_is first second one two same = cc

abbrev refused_counter : ℕ → Applied ℕ
refused_counter why = made.Refused why

no_change : (why : ℕ) (changed : ℕ) (item : Item) → refused_counter why ≡ made.Changed changed item → ⊥
no_change why changed item same = cc

by_test : (test : Bool) (value : ℕ) (answer item : Item) (why changed : ℕ) → (test ≡ true → value ≤ 2 ^ 64 - 1)
    → cond test (made.Changed value answer) (made.Refused why) ≡ made.Changed changed item → changed ≤ 2 ^ 64 - 1
by_test true value answer item why changed fits is =
    let same : value ≡ changed = changed_is value changed answer item is in
    let below : value ≤ 2 ^ 64 - 1 = fits refl in
    omega (arith, same, below)
by_test false value answer item why changed fits is = absurd (no_change why changed item is)

by_other : (test : Bool) (value : ℕ) (answer item : Item) (why changed : ℕ) → value ≤ 2 ^ 64 - 1
    → cond test (made.Refused why) (made.Changed value answer) ≡ made.Changed changed item → changed ≤ 2 ^ 64 - 1
by_other true value answer item why changed fits is = absurd (no_change why changed item is)
by_other false value answer item why changed fits is =
    let same : value ≡ changed = changed_is value changed answer item is in
    omega (arith, same, fits)

pub counter-changed : (update : CounterUpdate) (value changed : ℕ) (item : Item) → CounterUpdateFits update
    → counter_form.Fits value → counter_applied update value ≡ made.Changed changed item → counter_form.Fits changed
unfolding counter_form
counter-changed (Add more) value changed item numbers fits is = (
  omega arith,
  by_test (nat_lt (value + more) (2 ^ 64)) (value + more) _ item _ changed
      (λ below. let within : value + more < 2 ^ 64 = ltb-true _ _ below in omega (arith, within)) is,
)
counter-changed (Take fewer) value changed item numbers fits is =
    (omega arith, by_other (nat_lt value fewer) (value - fewer) _ item _ changed (omega (arith, fits.1)) is)
