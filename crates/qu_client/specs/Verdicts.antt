-- The verdicts that count in a round: which fit what was asked, whether a quorum agrees, and whether none can.
use Rattle.std.specs.Prelude.{ℕ, Bool, true, false, not, ◌+◌, ◌==◌, ◌&&◌, ◌||◌, nat_lt, nat_le, if◌then◌else◌, List, [], ◌∷◌, length, count_by, max, Option, None, Some, is_some}
use Rattle.std.specs.List.{list_any, range_with_len}
use Rattle.qu_base.specs.Bounds.{replicas, quorum}
use Rattle.qu_objects.specs.declared.answer.Answer.{Answer}
use Rattle.qu_frames.specs.declared.frame.Body.{Body}
use Rattle.qu_frames.specs.declared.frame.Body.TheVariants as body
use Rattle.qu_verdicts.specs.declared.verdict.Verdict.{Verdict}
use Rattle.qu_verdicts.specs.declared.verdict.Verdict.TheVariants as verdict
use Rattle.qu_verdicts.specs.Verdict.{same_verdict}
use Rattle.qu_client.specs.declared.whom.Whom.{Whom}
use Rattle.qu_client.specs.declared.work.Counted.{Counted}
use Rattle.qu_client.specs.Whom.{is_asked}

-- the answer of a verdict that fits what was asked, where it tells one: an act was performed now, or was performed
-- before; a query was answered
abbrev pub fitting : Body → Verdict → Option Answer
fitting (body.Act parts) (verdict.Done stamps answer) = Some answer
fitting (body.Act parts) (verdict.Already answer) = Some answer
fitting (body.Ask parts) (verdict.Told stamps answer) = Some answer
fitting _ _ = None

-- an object was to be mended, and one was
abbrev pub is_mended : Body → Verdict → Bool
is_mended (body.Mend target) (verdict.Mended object stamp) = true
is_mended _ _ = false

-- a verdict that fits what was asked
abbrev pub fits : Body → Verdict → Bool
fits body verdict = is_some (fitting body verdict) || is_mended body verdict

-- how many verdicts are identical to this one
unfoldable pub identical_verdicts : Verdict → List Counted → ℕ
identical_verdicts verdict replies = count_by (λ counted. same_verdict counted.verdict verdict) replies

-- a verdict that fits, with which a quorum agrees
abbrev pub is_agreed : ℕ → Body → List Counted → Verdict → Bool
is_agreed bounds body replies verdict =
    fits body verdict && nat_le (quorum bounds) (identical_verdicts verdict replies)

-- the greatest number of identical verdicts that fit, among these verdicts
unfoldable pub best_of : Body → List Counted → List Counted → ℕ
best_of body [] replies = 0
best_of body (counted ∷ later) replies =
    max (if fits body counted.verdict then identical_verdicts counted.verdict replies else 0)
    (best_of body later replies)

-- a verdict of the replica is among those that count
abbrev pub has_replied : List Counted → ℕ → Bool
has_replied replies replica = list_any (λ counted. (counted.replica).0 == replica) replies

-- how many replicas are silent: they were asked, and have not replied
unfoldable pub silent : ℕ → Whom → List Counted → ℕ
silent bounds whom replies =
    count_by (λ replica. is_asked bounds whom replica && not (has_replied replies replica))
    (range_with_len 0 (replicas bounds))

-- a quorum replied, and those that are silent can make no quorum of any verdict that fits
abbrev pub is_hopeless : ℕ → Body → Whom → List Counted → Bool
is_hopeless bounds body whom replies =
    nat_le (quorum bounds) (length replies)
    && nat_lt (best_of body replies replies + silent bounds whom replies) (quorum bounds)
