-- When two verdicts are identical.
use Rattle.std.specs.Prelude.{ℕ, Bool, false, ◌==◌, ◌&&◌, List}
use Rattle.std.specs.Cmp.Lexicographic.{pointwise}
use Rattle.qu_base.specs.declared.party.ObjectId.{ObjectId}
use Rattle.qu_stamp.specs.declared.stamp.Stamp.{Stamp}
use Rattle.qu_stamp.specs.Stamp.{same_stamp}
use Rattle.qu_objects.specs.Alike.{same_answer}
use Rattle.qu_verdicts.specs.declared.verdict.ClassCode.{ClassCode}
use Rattle.qu_verdicts.specs.declared.verdict.ClassCode.TheVariants as class
use Rattle.qu_verdicts.specs.declared.verdict.Refusal.{Refusal}
use Rattle.qu_verdicts.specs.declared.verdict.Refusal.TheVariants.{HistoryFull, Thin, Needs, Stale, NotCurrent, NotMethod, Spent, TimeSpent, UnknownObject, Sound}
use Rattle.qu_verdicts.specs.declared.verdict.Verdict.{Verdict}
use Rattle.qu_verdicts.specs.declared.verdict.Verdict.TheVariants.{Done, Told, Already, Mended, Refused}

abbrev pub same_object : ObjectId → ObjectId → Bool
same_object a b = a.0 == b.0

abbrev pub same_stamps : List (ObjectId × Stamp) → List (ObjectId × Stamp) → Bool
same_stamps stamps others = pointwise (λ (a b : ObjectId × Stamp). same_object a.0 b.0 && same_stamp a.1 b.1)
    stamps others

abbrev pub number_of_class : ClassCode → ℕ
number_of_class class.InlineMethod = 2
number_of_class class.Copy = 3
number_of_class class.InlineBarrier = 4
number_of_class class.Barrier = 5
number_of_class class.Needs = 6

abbrev pub same_refusal : Refusal → Refusal → Bool
same_refusal (HistoryFull a) (HistoryFull b) = same_object a b
same_refusal (Thin a) (Thin b) = same_object a b
same_refusal (Needs a) (Needs b) = same_object a b
same_refusal (Stale a) (Stale b) = same_object a b
same_refusal (NotCurrent a stamp) (NotCurrent b other) = same_object a b && same_stamp stamp other
same_refusal (NotMethod a class) (NotMethod b other) = same_object a b && number_of_class class == number_of_class other
same_refusal (Spent a number) (Spent b other) = same_object a b && number == other
same_refusal (TimeSpent a) (TimeSpent b) = same_object a b
same_refusal (UnknownObject a) (UnknownObject b) = same_object a b
same_refusal (Sound a) (Sound b) = same_object a b
same_refusal _ _ = false

abbrev pub same_verdict : Verdict → Verdict → Bool
same_verdict (Done stamps answer) (Done others reply) = same_stamps stamps others && same_answer answer reply
same_verdict (Told stamps answer) (Told others reply) = same_stamps stamps others && same_answer answer reply
same_verdict (Already answer) (Already reply) = same_answer answer reply
same_verdict (Mended a stamp) (Mended b other) = same_object a b && same_stamp stamp other
same_verdict (Refused a) (Refused b) = same_refusal a b
same_verdict _ _ = false
