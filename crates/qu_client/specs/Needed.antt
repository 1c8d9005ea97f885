-- What a client names too at the end of a round: objects of which replicas say that more has to be shown (Query/Update:
-- the refusal Needs).
use Rattle.std.specs.Prelude.{ℕ, Bool, false, ◌==◌, nat_lt, List, map, filter, count_by}
use Rattle.std.specs.List.{fold, range_with_len}
use Rattle.qu_base.specs.declared.limits.TheConstants.{OBJECT_IDS}
use Rattle.qu_base.specs.declared.party.ObjectId.{ObjectId}
use Rattle.qu_verdicts.specs.declared.verdict.Refusal.TheVariants as refusal
use Rattle.qu_verdicts.specs.declared.verdict.Verdict.{Verdict}
use Rattle.qu_verdicts.specs.declared.verdict.Verdict.TheVariants as verdict
use Rattle.qu_client.specs.declared.work.Counted.{Counted}
use Rattle.qu_question.specs.Named.{with_named}

-- more of this object has to be shown
abbrev pub tells_need : ObjectId → Verdict → Bool
tells_need object (verdict.Refused (refusal.Needs needed)) = needed.0 == object.0
tells_need object _ = false

-- more replies say so of it than replicas may lie
abbrev pub is_needed : ℕ → List Counted → ObjectId → Bool
is_needed bounds replies object = nat_lt bounds (count_by (λ counted. tells_need object counted.verdict) replies)

abbrev pub numbered_object : ℕ → ObjectId
numbered_object number = record { 0 = number }

-- all such objects, in rising order
unfoldable pub needed_objects : ℕ → List Counted → List ObjectId
needed_objects bounds replies = filter (is_needed bounds replies) (map numbered_object (range_with_len 0 OBJECT_IDS))

-- each of them is named too, the lower one first
unfoldable pub named_after : ℕ → List Counted → List ObjectId → List ObjectId
named_after bounds replies named =
    fold (λ those object. with_named object those) named (needed_objects bounds replies)
