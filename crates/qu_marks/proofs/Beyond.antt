-- What is tracked: at the beginning all that is known, and then what is new.
use Rattle.std.proofs.Common.{◌≡◌, ℕ, Bool, true, false, ◌||◌, cond, List, [], ◌∷◌, ◌++◌, sym, ap, subst, ◌∙◌, inl, inr}
use Rattle.std.specs.List.{All}
use Rattle.std.proofs.lemmas.Bool.{cases_Bool, or_left, or_parts}
use Rattle.std.proofs.lemmas.List.Elements.{All-push}
use Rattle.qu_base.specs.declared.party.ObjectId.{ObjectId}
use Rattle.qu_stamp.specs.declared.candidate.Candidate.{Candidate}
use Rattle.qu_world.specs.State.{WorldState}
use Rattle.qu_runs.proofs.Worlds.Objects.{EachHas}
use Rattle.qu_known.specs.declared.tracked.Tracked.{Tracked}
use Rattle.qu_known.specs.Known.{ShownRow, rows_tracked, AreKnown}
use Rattle.qu_known.specs.Tracked.{is_tracked_as, is_tracked, undecided}
use Rattle.qu_known.proofs.Held.{is_tracked-append, or_false, rows_accepted, or_assoc}
use Rattle.qu_marks.specs.Tracker.{with_tracked, with_all, AreAccepted}
use Rattle.qu_marks.proofs.Settling.{is_of_equal}

-- ---- what is tracked

pushed : (object : ObjectId) (candidate : Candidate) (new : Tracked) (tracked : List Tracked)
    → is_tracked object candidate (tracked ++ undecided new.object new.candidate ∷ [])
    ≡ (is_tracked object candidate tracked || is_tracked_as object candidate new)
unfolding is_tracked
pushed object candidate new tracked =
    is_tracked-append object candidate tracked (undecided new.object new.candidate ∷ []) ∙
    ap (λ (test : Bool). is_tracked object candidate tracked || test) (or_false (is_tracked_as object candidate new))

already : (object : ObjectId) (candidate : Candidate) (new : Tracked) (tracked : List Tracked)
    → is_tracked new.object new.candidate tracked ≡ true
    → is_tracked object candidate tracked ≡ (is_tracked object candidate tracked || is_tracked_as object candidate new)
already object candidate new tracked known =
    elim (cases_Bool (is_tracked_as object candidate new)) [
      | inl it ↦
          let same : (new.object ≡ object) × (new.candidate ≡ candidate) = is_of_equal object candidate new it in
          let here : is_tracked object candidate tracked ≡ true = rw (same.0, same.1) at known in
          here ∙ sym (or_left _ _ here)
      | inr other ↦ sym (ap (λ (test : Bool). is_tracked object candidate tracked || test) other
          ∙ or_false (is_tracked object candidate tracked))
    ]

not_before : (object : ObjectId) (candidate : Candidate) (new : Tracked) (tracked : List Tracked)
    → is_tracked object candidate (tracked ++ undecided new.object new.candidate ∷ []) ≡ false
    → is_tracked object candidate tracked ≡ false
not_before object candidate new tracked not_after =
    (or_parts (is_tracked object candidate tracked) (is_tracked_as object candidate new)
    (sym (pushed object candidate new tracked) ∙ not_after)).0

is_tracked-with_tracked : (object : ObjectId) (candidate : Candidate) (new : Tracked) (tracked : List Tracked)
    → is_tracked object candidate
    (with_tracked new tracked) ≡ (is_tracked object candidate tracked || is_tracked_as object candidate new)
unfolding with_tracked
is_tracked-with_tracked object candidate new tracked =
    elim (cases_Bool (is_tracked new.object new.candidate tracked)) [
      | inl known ↦ ap
          (λ (test : Bool). is_tracked object candidate
          (cond test tracked (tracked ++ undecided new.object new.candidate ∷ []))) known
          ∙ already object candidate new tracked known
      | inr unknown ↦
          ap (λ (test : Bool). is_tracked object candidate
          (cond test tracked (tracked ++ undecided new.object new.candidate ∷ []))) unknown ∙
          pushed object candidate new tracked
    ]

-- tracked already, or added now
pub is_tracked-with_all : (object : ObjectId) (candidate : Candidate) (news tracked : List Tracked)
    → is_tracked object candidate
    (with_all news tracked) ≡ (is_tracked object candidate tracked || is_tracked object candidate news)
unfolding with_all is_tracked
is_tracked-with_all object candidate [] tracked = sym (or_false (is_tracked object candidate tracked))
is_tracked-with_all object candidate (new ∷ later) tracked =
    is_tracked-with_all object candidate later (with_tracked new tracked) ∙
    ap (λ (test : Bool). test || is_tracked object candidate later)
    (is_tracked-with_tracked object candidate new tracked) ∙
    or_assoc (is_tracked object candidate tracked) (is_tracked_as object candidate new) (is_tracked object candidate
    later)

-- what is true of all that was tracked, and of each undecided candidate that was not, is true of all
pub all_with_all : (P : Tracked → Type 0) (news tracked : List Tracked) → All P tracked
    → ((object : ObjectId) (candidate : Candidate) → is_tracked object candidate tracked ≡ false
    → P (undecided object candidate)) → All P (with_all news tracked)
unfolding with_all with_tracked
all_with_all P [] tracked all fresh = all
all_with_all P (new ∷ later) tracked all fresh =
    elim (cases_Bool (is_tracked new.object new.candidate tracked)) [
      | inl known ↦
          subst (λ (it : List Tracked). All P (with_all later it))
          (ap (λ (test : Bool). cond test tracked (tracked ++ undecided new.object new.candidate ∷ [])) (sym known))
          (all_with_all P later tracked all fresh)
      | inr unknown ↦
          subst (λ (it : List Tracked). All P (with_all later it))
          (ap (λ (test : Bool). cond test tracked (tracked ++ undecided new.object new.candidate ∷ []))
          (sym unknown))
          (all_with_all P later (tracked ++ undecided new.object new.candidate ∷ [])
          (All-push P tracked (undecided new.object new.candidate) all (fresh new.object new.candidate unknown))
          (λ object candidate still. fresh object candidate (not_before object candidate new tracked still)))
    ]

-- what is known of all replicas, tracked at the beginning, is what they accepted
pub accepted_opening : (objects : ℕ) (world : WorldState) (rows : List ShownRow) → EachHas objects world.replicas
    → AreKnown world.replicas rows → AreAccepted world (with_all (rows_tracked objects rows) [])
unfolding is_tracked
accepted_opening objects world rows few known object candidate =
    is_tracked-with_all object candidate (rows_tracked objects rows) [] ∙
    rows_accepted objects world.replicas rows object candidate few known
