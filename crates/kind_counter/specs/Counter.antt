-- Counters: numbers below 2^64, first 0. An update answers the new value, a read the value.
use Rattle.std.specs.Prelude.{ℕ, ◌+◌, ◌-◌, ◌^◌, ◌<◌, nat_lt, if◌then◌else◌}
use Rattle.std.specs.Int.{w64}
use Rattle.qu_base.specs.Format.{Format, number}
use Rattle.qu_base.specs.declared.kind.Item.TheVariants.{Number}
use Rattle.qu_base.specs.declared.kind.Applied.{Applied}
use Rattle.qu_base.specs.declared.kind.Applied.TheVariants as made
use Rattle.qu_base.specs.declared.kind.Told.{Told}
use Rattle.qu_base.specs.declared.kind.Told.TheVariants as tells
use Rattle.kind_counter.specs.declared.counter.CounterUpdate.{CounterUpdate}
use Rattle.kind_counter.specs.declared.counter.CounterUpdate.TheVariants.{Add, Take}
use Rattle.kind_counter.specs.declared.counter.CounterQuery.{CounterQuery}
use Rattle.kind_counter.specs.declared.counter.CounterQuery.TheVariants.{Read}
use Rattle.kind_counter.specs.declared.counter.TheConstants.{OVER, UNDER}

unfoldable pub counter_form : Format ℕ
counter_form = number w64 0 (2 ^ 64 - 1)

-- what an update makes of a value
abbrev pub counter_applied : CounterUpdate → ℕ → Applied ℕ
counter_applied (Add more) value =
    if nat_lt (value + more) (2 ^ 64) then made.Changed (value + more) (Number (value + more)) else made.Refused OVER
counter_applied (Take fewer) value =
    if nat_lt value fewer then made.Refused UNDER else made.Changed (value - fewer) (Number (value - fewer))

-- what a query is told
abbrev pub counter_told : CounterQuery → ℕ → Told
counter_told Read value = tells.Item (Number value)

-- a number that is added or taken fits its bytes
abbrev pub CounterUpdateFits : CounterUpdate → Type 0
CounterUpdateFits (Add more) = more < 2 ^ 64
CounterUpdateFits (Take fewer) = fewer < 2 ^ 64
