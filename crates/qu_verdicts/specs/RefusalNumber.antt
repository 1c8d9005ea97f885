-- The numbers by which texts name refusals.
use Rattle.std.specs.Prelude.{ℕ, Bool, ◌==◌, ◌&&◌, ◌||◌, nat_le}
use Rattle.qu_verdicts.specs.declared.refusal_number.TheConstants.{HISTORY_FULL, THIN, NEEDS, STALE, NOT_CURRENT, NOT_METHOD, SPENT, TIME_SPENT, UNKNOWN_OBJECT, SOUND}
use Rattle.qu_verdicts.specs.declared.verdict.Refusal.{Refusal}
use Rattle.qu_verdicts.specs.declared.verdict.Refusal.TheVariants.{HistoryFull, Thin, Needs, Stale, NotCurrent, NotMethod, Spent, TimeSpent, UnknownObject, Sound}

abbrev pub refusal_number : Refusal → ℕ
refusal_number (HistoryFull object) = HISTORY_FULL
refusal_number (Thin object) = THIN
refusal_number (Needs object) = NEEDS
refusal_number (Stale object) = STALE
refusal_number (NotCurrent object latest) = NOT_CURRENT
refusal_number (NotMethod object class) = NOT_METHOD
refusal_number (Spent object number) = SPENT
refusal_number (TimeSpent object) = TIME_SPENT
refusal_number (UnknownObject object) = UNKNOWN_OBJECT
refusal_number (Sound object) = SOUND

abbrev pub is_refusal_number : ℕ → Bool
is_refusal_number code =
    code == HISTORY_FULL
    || (code == THIN || (code == NEEDS || (code == STALE || (nat_le NOT_CURRENT code && nat_le code SOUND))))
