-- The formats of refusals and verdicts.
use Rattle.std.specs.Prelude.{ℕ, Bool, ◌==◌, ◌&&◌, ◌-◌, ◌+◌, nat_le, if◌then◌else◌, List, ◌++◌, Option, None, Some}
use Rattle.std.specs.Int.{w8}
use Rattle.qu_base.specs.declared.party.ObjectId.{ObjectId}
use Rattle.qu_base.specs.Format.{Format, number, both, made, either, items, counted, tagged, object_form}
use Rattle.qu_stamp.specs.declared.stamp.Stamp.{Stamp}
use Rattle.qu_stamp.specs.Formats.{stamp_form, object_from}
use Rattle.qu_objects.specs.declared.limits.TheConstants.{MOST_PARTS}
use Rattle.qu_objects.specs.declared.answer.Answer.{Answer}
use Rattle.qu_base.specs.Texts.{word_form}
use Rattle.qu_objects.specs.Formats.{answer_form}
use Rattle.qu_verdicts.specs.declared.refusal_number.TheConstants.{HISTORY_FULL, THIN, NEEDS, STALE, NOT_CURRENT, NOT_METHOD, SPENT, TIME_SPENT, UNKNOWN_OBJECT}
use Rattle.qu_verdicts.specs.RefusalNumber.{refusal_number, is_refusal_number}
use Rattle.qu_verdicts.specs.declared.verdict.ClassCode.{ClassCode}
use Rattle.qu_verdicts.specs.declared.verdict.ClassCode.TheVariants as class
use Rattle.qu_verdicts.specs.declared.verdict.Refusal.{Refusal}
use Rattle.qu_verdicts.specs.declared.verdict.Refusal.TheVariants.{HistoryFull, Thin, Needs, Stale, NotCurrent, NotMethod, Spent, TimeSpent, UnknownObject, Sound}
use Rattle.qu_verdicts.specs.declared.verdict.Verdict.{Verdict}
use Rattle.qu_verdicts.specs.declared.verdict.Verdict.TheVariants.{Done, Told, Already, Mended, Refused}
use Rattle.qu_verdicts.specs.Verdict.{number_of_class}

-- ---- refusals

abbrev pub class_numbered : ℕ → ClassCode
class_numbered code =
    if code == 2 then class.InlineMethod else
    if code == 3 then class.Copy else
    if code == 4 then class.InlineBarrier else
    if code == 5 then class.Barrier else class.Needs

abbrev pub class_form : Format ClassCode
class_form = made class_numbered (λ class. Some (number_of_class class)) (number w8 2 6)

abbrev pub refused_object : Refusal → ObjectId
refused_object (HistoryFull object) = object
refused_object (Thin object) = object
refused_object (Needs object) = object
refused_object (Stale object) = object
refused_object (NotCurrent object latest) = object
refused_object (NotMethod object class) = object
refused_object (Spent object number) = object
refused_object (TimeSpent object) = object
refused_object (UnknownObject object) = object
refused_object (Sound object) = object

abbrev pub latest_told : Refusal → Option (ObjectId × Stamp)
latest_told (NotCurrent object latest) = Some (object, latest)
latest_told _ = None

abbrev pub class_refused : Refusal → Option (ObjectId × ClassCode)
class_refused (NotMethod object class) = Some (object, class)
class_refused _ = None

abbrev pub number_told : Refusal → Option (ObjectId × ℕ)
number_told (Spent object number) = Some (object, number)
number_told _ = None

-- the refusal with this number that tells an object and no more
abbrev pub plain_refusal : ℕ → ObjectId → Refusal
plain_refusal code object =
    if code == HISTORY_FULL then HistoryFull object else
    if code == THIN then Thin object else
    if code == NEEDS then Needs object else
    if code == STALE then Stale object else
    if code == TIME_SPENT then TimeSpent object else
    if code == UNKNOWN_OBJECT then UnknownObject object else Sound object

abbrev pub plain_object : ℕ → Refusal → Option ObjectId
plain_object code refusal = if refusal_number refusal == code then Some (refused_object refusal) else None

abbrev pub refusal_body : ℕ → Format Refusal
refusal_body code =
    either (code == NOT_CURRENT)
    (made (λ fields. NotCurrent fields.0 fields.1) latest_told (both object_form (λ object. stamp_form)))
    (either (code == NOT_METHOD)
    (made (λ fields. NotMethod fields.0 fields.1) class_refused (both object_form (λ object. class_form)))
    (either (code == SPENT)
    (made (λ fields. Spent fields.0 fields.1) number_told (both object_form (λ object. word_form)))
    (made (plain_refusal code) (plain_object code) object_form)))

-- the number of the refusal, the object, and what else it tells: a stamp, a class or a number
unfoldable pub refusal_form : Format Refusal
refusal_form = tagged is_refusal_number refusal_number refusal_body

-- ---- verdicts

abbrev pub spelled_stamp : ObjectId × Stamp → List ℕ
spelled_stamp told = object_form.spell told.0 ++ stamp_form.spell told.1

-- an object that is not below this number, and the stamp that is told of it
abbrev pub stamp_from : ℕ → Format (ObjectId × Stamp)
stamp_from least = both (object_from least) (λ object. stamp_form)

abbrev pub after_told : ObjectId × Stamp → ℕ
after_told told = (told.0).0 + 1

abbrev pub some_stamps : ℕ → ℕ → Format (List (ObjectId × Stamp))
some_stamps least count = items spelled_stamp stamp_from after_told least count

-- stamps by rising objects
unfoldable pub stamps_form : Format (List (ObjectId × Stamp))
stamps_form = counted (number w8 1 MOST_PARTS) spelled_stamp stamp_from after_told 0

abbrev pub verdict_code : Verdict → ℕ
verdict_code (Done stamps answer) = 1
verdict_code (Told stamps answer) = 2
verdict_code (Already answer) = 3
verdict_code (Mended object stamp) = 4
verdict_code (Refused refusal) = 5

abbrev pub is_verdict_code : ℕ → Bool
is_verdict_code code = nat_le 1 code && nat_le code 5

abbrev pub done : Verdict → Option (List (ObjectId × Stamp) × Answer)
done (Done stamps answer) = Some (stamps, answer)
done _ = None

abbrev pub told : Verdict → Option (List (ObjectId × Stamp) × Answer)
told (Told stamps answer) = Some (stamps, answer)
told _ = None

abbrev pub already : Verdict → Option Answer
already (Already answer) = Some answer
already _ = None

abbrev pub mended : Verdict → Option (ObjectId × Stamp)
mended (Mended object stamp) = Some (object, stamp)
mended _ = None

abbrev pub refusal : Verdict → Option Refusal
refusal (Refused why) = Some why
refusal _ = None

abbrev pub answered_form : Format (List (ObjectId × Stamp) × Answer)
answered_form = both stamps_form (λ stamps. answer_form)

abbrev pub verdict_body : ℕ → Format Verdict
verdict_body code =
    either (code == 1) (made (λ fields. Done fields.0 fields.1) done answered_form)
    (either (code == 2) (made (λ fields. Told fields.0 fields.1) told answered_form)
    (either (code == 3) (made Already already answer_form)
    (either (code == 4) (made (λ fields. Mended fields.0 fields.1) mended (both object_form (λ object. stamp_form)))
    (made Refused refusal refusal_form))))

-- 1: done; 2: told; 3: done already; 4: mended; 5: refused
unfoldable pub verdict_form : Format Verdict
verdict_form = tagged is_verdict_code verdict_code verdict_body
