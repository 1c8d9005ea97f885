-- The numbers by which texts name what is wrong with a line in the run of its script.
use Rattle.std.specs.Prelude.{ℕ, Option, None, Some}
use Rattle.qu_script_words.specs.declared.bad.BadKind.{BadKind}
use Rattle.qu_script_words.specs.declared.bad.BadKind.TheVariants as bad
use Rattle.qu_script_words.specs.declared.refusal_number.TheConstants.{BUSY, NO_SUCH_LETTER, TOO_MANY_EVENTS, NO_REQUEST, TOO_MANY_BYTES}

abbrev pub bad_kind_number : BadKind → Option ℕ
bad_kind_number bad.NoSuchLetter = Some NO_SUCH_LETTER
bad_kind_number bad.Busy = Some BUSY
bad_kind_number bad.NoRequest = Some NO_REQUEST
bad_kind_number bad.TooManyEvents = Some TOO_MANY_EVENTS
bad_kind_number bad.TooManyBytes = Some TOO_MANY_BYTES
bad_kind_number _ = None
