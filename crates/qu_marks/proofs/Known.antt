-- What is to be marked by what is known of the replicas is to be marked.
use Rattle.std.proofs.Common.{◌≡◌, ℕ, Bool, List, refl, ap, count_by}
use Rattle.std.specs.Prelude.{position}
use Rattle.qu_world.specs.State.{WorldState}
use Rattle.qu_claims.specs.Accepted.{accepts}
use Rattle.qu_known.specs.declared.tracked.Tracked.{Tracked}
use Rattle.qu_known.specs.Known.{ShownRow, knows, AreKnown}
use Rattle.qu_known.proofs.Learning.{count_known}
use Rattle.qu_marks.specs.Tracker.{is_next, is_next_known}

next_known : (world : WorldState) (bounds : ℕ) (rows : List ShownRow) (all : List Tracked)
    → world.setup.bounds ≡ bounds → AreKnown world.replicas rows → (tracked : Tracked)
    → is_next_known bounds rows all tracked ≡ is_next world all tracked
unfolding is_next is_next_known
next_known world bounds rows all same known tracked =
    let count : count_by (knows tracked.object tracked.candidate) rows
    ≡ count_by (accepts tracked.object tracked.candidate) world.replicas =
    count_known tracked.object tracked.candidate world.replicas rows known in
    rw (← same, count) refl

pub position_known : (world : WorldState) (bounds : ℕ) (rows : List ShownRow) (all : List Tracked)
    → world.setup.bounds ≡ bounds → AreKnown world.replicas rows
    → position (is_next_known bounds rows all) all ≡ position (is_next world all) all
position_known world bounds rows all same known =
    ap (λ (test : Tracked → Bool). position test all)
    (λ i tracked. next_known world bounds rows all same known tracked i)
