-- How verdicts are told, in the words of the protocol.
use Rattle.std.specs.Prelude.{ℕ, Bool, true, false, ◌==◌, if◌then◌else◌, List, ◌++◌, codes}
use Rattle.std.specs.List.{flat_map}
use Rattle.std.specs.Fmt.{decimal}
use Rattle.qu_base.specs.declared.party.ObjectId.{ObjectId}
use Rattle.qu_base.specs.declared.party.Party.TheVariants.{Client}
use Rattle.qu_stamp.specs.declared.stamp.Stamp.{Stamp}
use Rattle.qu_objects.specs.declared.answer.Answer.{Answer}
use Rattle.qu_verdicts.specs.declared.verdict.ClassCode.{ClassCode}
use Rattle.qu_verdicts.specs.declared.verdict.ClassCode.TheVariants as class
use Rattle.qu_verdicts.specs.declared.verdict.Refusal.{Refusal}
use Rattle.qu_verdicts.specs.declared.verdict.Refusal.TheVariants.{HistoryFull, Thin, Needs, Stale, NotCurrent, NotMethod, Spent, TimeSpent, UnknownObject, Sound}
use Rattle.qu_verdicts.specs.declared.verdict.Verdict.{Verdict}
use Rattle.qu_verdicts.specs.declared.verdict.Verdict.TheVariants.{Done, Told, Already, Mended, Refused}
use Rattle.qu_print.specs.Words.{answer_text}
use Rattle.qu_listed.specs.Names.{party_text, object_text}

-- ---- stamps

abbrev pub time_word : Bool → List ℕ
time_word false = codes "time "
time_word true = codes "barrier "

-- `time 3 of client 1`, and `opening` at time 0; its digests are not told
unfoldable pub stamp_text : Stamp → List ℕ
stamp_text stamp =
    if stamp.time == 0 then codes "opening"
    else time_word stamp.barrier ++ decimal stamp.time ++ codes " of " ++ party_text (Client stamp.client)

abbrev pub object_at_text : ObjectId × Stamp → List ℕ
object_at_text told = codes ", " ++ object_text told.0 ++ codes " at " ++ stamp_text told.1

-- ---- refusals, each with its object and what else it carries

abbrev pub class_text : ClassCode → List ℕ
class_text class.InlineMethod = codes "inline method"
class_text class.Copy = codes "copy"
class_text class.InlineBarrier = codes "inline barrier"
class_text class.Barrier = codes "barrier"
class_text class.Needs = codes "needs"

unfoldable pub not_method_text : ObjectId → ClassCode → List ℕ
not_method_text object class = codes "not of class METHOD " ++ decimal object.0 ++ codes " but " ++ class_text class

abbrev pub refusal_text : Refusal → List ℕ
refusal_text (HistoryFull object) = codes "history full " ++ decimal object.0
refusal_text (Thin object) = codes "thin " ++ decimal object.0
refusal_text (Needs object) = codes "needs " ++ decimal object.0
refusal_text (Stale object) = codes "stale " ++ decimal object.0
refusal_text (NotCurrent object latest) =
    codes "not current " ++ decimal object.0 ++ codes " latest " ++ stamp_text latest
refusal_text (NotMethod object class) = not_method_text object class
refusal_text (Spent object number) = codes "spent " ++ decimal object.0 ++ codes " at " ++ decimal number
refusal_text (TimeSpent object) = codes "time spent " ++ decimal object.0
refusal_text (UnknownObject object) = codes "unknown " ++ object_text object
refusal_text (Sound object) = codes "sound " ++ decimal object.0

-- ---- verdicts

abbrev pub answered_text : Answer → List (ObjectId × Stamp) → List ℕ
answered_text answer stamps = answer_text answer ++ flat_map object_at_text stamps

unfoldable pub verdict_text : Verdict → List ℕ
verdict_text (Done stamps answer) = codes "done " ++ answered_text answer stamps
verdict_text (Told stamps answer) = codes "told " ++ answered_text answer stamps
verdict_text (Already answer) = codes "already " ++ answer_text answer
verdict_text (Mended object stamp) = codes "mended " ++ decimal object.0 ++ codes " at " ++ stamp_text stamp
verdict_text (Refused refusal) = refusal_text refusal
