-- What the end of a round leaves as it was.
use Rattle.std.proofs.Common.{ℕ, List, [], ◌∷◌}
use Rattle.std.specs.List.{fold}
use Rattle.qu_base.specs.declared.party.ObjectId.{ObjectId}
use Rattle.qu_question.specs.declared.kept.Kept.{Kept}
use Rattle.qu_question.specs.Named.{with_named}
use Rattle.qu_client.specs.declared.work.Counted.{Counted}
use Rattle.qu_client.specs.Leaving.{mark_after, after_replies}
use Rattle.qu_client.specs.Needed.{needed_objects, named_after}
use Rattle.qu_question.proofs.Marks.{IsRemarked, remarked}
use Rattle.qu_question.proofs.Naming.{AreMore, same_named, and_more, with_named-more}

-- the same histories are kept
pub after_replies-remarked : (bounds : ℕ) (replies : List Counted) (kept : List Kept)
    → IsRemarked kept (after_replies bounds replies kept)
unfolding after_replies
after_replies-remarked bounds replies kept = remarked (mark_after bounds replies kept) kept

each_named-more : (objects named : List ObjectId)
    → AreMore named (fold (λ (those : List ObjectId) (object : ObjectId). with_named object those) named objects)
each_named-more [] named = same_named named
each_named-more (object ∷ later) named =
    and_more (with_named-more object named) (each_named-more later (with_named object named))

-- what was named stays named
pub named_after-more : (bounds : ℕ) (replies : List Counted) (named : List ObjectId)
    → AreMore named (named_after bounds replies named)
unfolding named_after
named_after-more bounds replies named = each_named-more (needed_objects bounds replies) named
