-- The numbers by which texts name refusals.
use Rattle.std.specs.Prelude.{ℕ, Option, None, Some}
use Rattle.qu_base.specs.declared.bad_text.ReadFail.{ReadFail}
use Rattle.qu_base.specs.declared.bad_text.ReadFail.TheVariants as fail
use Rattle.qu_base.specs.declared.bad_text.Why.{Why}
use Rattle.qu_base.specs.declared.bad_text.Why.TheVariants as why
use Rattle.qu_base.specs.declared.bounds.BadBounds.{BadBounds}
use Rattle.qu_base.specs.declared.bounds.BadBounds.TheVariants.{OutOfRange}
use Rattle.qu_base.specs.declared.refusal_number.TheConstants.{OUT_OF_RANGE, SHORT, UNKNOWN_KIND, RANGE, ORDER, REST}

-- of a number of liars
abbrev pub bad_bounds_number : BadBounds → ℕ
bad_bounds_number (OutOfRange b) = OUT_OF_RANGE

-- of a field of a text
abbrev pub why_number : Why → ℕ
why_number why.Short = SHORT
why_number why.Kind = UNKNOWN_KIND
why_number why.Range = RANGE
why_number why.Order = ORDER
why_number why.Rest = REST

-- of a text; want of memory has none
abbrev pub read_fail_number : ReadFail → Option ℕ
read_fail_number (fail.Bad bad) = Some (why_number bad.why)
read_fail_number fail.NoMemory = None
