-- A run by hand: what its replicas accept step by step.
use Rattle.std.proofs.Common.{[], ◌≡◌, ℕ, zero, suc, ◌+◌, ◌<◌, ◌≤◌, Bool, true, false, not, ◌&&◌, ◌||◌, cond, refl, sym, ap, ◌∙◌, arith, inl, inr, None, Some}
use Rattle.std.specs.Prelude.{nat_le, nat_lt, nat_eq}
use Rattle.std.proofs.lemmas.Bool.{false≢true, and_parts, and_from, cases_eq, cases_lt, leb-true, le-leb, ltb-true, lt-ltb, eqb-true, eq-eqb}
use Rattle.std.proofs.lemmas.Bool.Decides.{nat_tests}
use Rattle.qu_base.specs.declared.party.ObjectId.{ObjectId}
use Rattle.qu_stamp.specs.declared.stamp.Stamp.{Stamp}
use Rattle.qu_stamp.specs.declared.candidate.Candidate.{Candidate}
use Rattle.qu_stamp.specs.Stamp.{opening_stamp}
use Rattle.qu_stamp.specs.Candidate.{same}
use Rattle.qu_stamp.proofs.Order.{same-self, equal_by_same}
use Rattle.qu_claims.specs.Count.{count}
use Rattle.qu_claims.specs.Setting.{Setting, acceptors, IsNew}
use Rattle.qu_chain.proofs.Counting.{count-more}

-- ---- the run

-- 1 is the act, 2 a barrier, 3 the copy, 4 a barrier, 5 the copy's copy
abbrev pub is_barrier : ℕ → Bool
is_barrier number = nat_eq number 2 || nat_eq number 4

abbrev pub prior_of : ℕ → ℕ
prior_of number = cond (nat_le number 1) 0 (cond (nat_le number 3) 1 3)

abbrev pub stamp_at : ℕ → Stamp
stamp_at number = record opening_stamp { time = number; barrier = is_barrier number }

abbrev pub candidate_at : ℕ → Candidate
candidate_at number = record { stamp = stamp_at number; prior = stamp_at (prior_of number); group = [] }

-- the first three are of both objects, the later ones of the first alone
abbrev width : ℕ → ℕ
width number = cond (nat_le number 3) 2 1

abbrev pub reaches : ℕ → ObjectId → Bool
reaches number object = nat_lt object.0 (width number)

-- who accepts at each step, and which candidate
abbrev pub mover : ℕ → ℕ
mover time = cond (nat_eq time 3) 1 (cond (nat_eq time 4) 2 0)

abbrev pub number_at : ℕ → ℕ
number_at time = cond (nat_le time 2) (time + 1) (cond (nat_le time 4) 3 (cond (nat_eq time 5) 4 5))

-- by which time a replica has accepted a candidate; never is 99
abbrev pub when : ℕ → ℕ → ℕ
when replica number =
    cond (nat_eq number 0) 0
    (cond (nat_eq number 3) (replica + 3)
    (cond (nat_eq replica 0) (cond (nat_le number 2) number (number + 2)) 99))

abbrev has : ℕ → ℕ → ℕ → Bool
has time replica number = nat_le (when replica number) time

abbrev pub is_accepted : ℕ → ObjectId → ℕ → Candidate → Bool
is_accepted time object replica candidate =
    same candidate (candidate_at candidate.stamp.time)
    && (nat_lt candidate.stamp.time 6 && (reaches candidate.stamp.time object
    && has time replica candidate.stamp.time))

abbrev pub run : Setting
run = record {
  n = 5;
  faults = 2;
  b = 2;
  quorum = 5;
  repair = 3;
  last = 7;
  good = λ replica. nat_lt replica 3;
  known = λ object. nat_lt object.0 2;
  plain = λ candidate. not candidate.stamp.barrier;
  is_act = λ candidate. nat_eq candidate.stamp.time 1;
  member = λ candidate object. cond (reaches candidate.stamp.time object) (Some candidate.stamp) None;
  accepted = is_accepted;
}

-- ---- tests on all numbers below a bound

abbrev pub all_below : ℕ → (ℕ → Bool) → Bool
all_below zero test = true
all_below (suc n) test = test n && all_below n test

pub all_below-at : (n : ℕ) (test : ℕ → Bool) → all_below n test ≡ true → (index : ℕ) → index < n → test index ≡ true
all_below-at zero test all index within = absurd (omega arith)
all_below-at (suc n) test all index within =
    let parts : (test n ≡ true) × (all_below n test ≡ true) = and_parts (test n) (all_below n test) all in
    elim (cases_eq index n) [
      | inl here ↦ ap test here ∙ parts.0
      | inr other ↦ all_below-at n test parts.1 index (omega arith)
    ]

-- what holds where a condition does
abbrev where_holds : Bool → Bool → Bool
where_holds condition test = cond condition test true

holds : (condition test : Bool) → where_holds condition test ≡ true → condition ≡ true → test ≡ true
holds true test all here = all
holds false test all here = absurd (false≢true here)

-- how many correct replicas have a candidate
abbrev pub holders : ℕ → ℕ → ℕ
holders time number = count 5 (λ replica. nat_lt replica 3 && has time replica number)

-- ---- what an acceptance says

pub record Held (time : ℕ) (object : ObjectId) (replica : ℕ) (candidate : Candidate) : Type 0 where
  pub is_numbered : candidate ≡ candidate_at candidate.stamp.time
  pub within : candidate.stamp.time < 6
  pub here : reaches candidate.stamp.time object ≡ true
  pub since : when replica candidate.stamp.time ≤ time

pub held : (time : ℕ) (object : ObjectId) (replica : ℕ) (candidate : Candidate)
    → is_accepted time object replica candidate ≡ true → Held time object replica candidate
held time object replica candidate accepted =
    let number : ℕ = candidate.stamp.time in
    let first : (same candidate (candidate_at number) ≡ true)
    × ((nat_lt number 6 && (reaches number object && has time replica number)) ≡ true) =
    and_parts (same candidate (candidate_at number))
    (nat_lt number 6 && (reaches number object && has time replica number)) accepted in
    let second : (nat_lt number 6 ≡ true) × ((reaches number object && has time replica number) ≡ true) =
    and_parts (nat_lt number 6) (reaches number object && has time replica number) first.1 in
    let third : (reaches number object ≡ true) × (has time replica number ≡ true) =
    and_parts (reaches number object) (has time replica number) second.1 in
    record {
      is_numbered = equal_by_same candidate (candidate_at number) first.0;
      within = ltb-true number 6 second.0;
      here = third.0;
      since = leb-true (when replica number) time third.1;
    }

pub accepted_at : (time : ℕ) (object : ObjectId) (replica number : ℕ) → number < 6 → reaches number object ≡ true
    → when replica number ≤ time → is_accepted time object replica (candidate_at number) ≡ true
accepted_at time object replica number within here since =
    and_from (same (candidate_at number) (candidate_at number))
    (nat_lt number 6 && (reaches number object && has time replica number))
    (same-self (candidate_at number))
    (and_from (nat_lt number 6) (reaches number object && has time replica number) (lt-ltb number 6 within)
    (and_from (reaches number object) (has time replica number) here (le-leb (when replica number) time since)))

pub by_held : (time late : ℕ) (object other : ObjectId) (replica : ℕ) (candidate : Candidate)
    → Held time object replica candidate → reaches candidate.stamp.time other ≡ true
    → when replica candidate.stamp.time ≤ late
    → is_accepted late other replica candidate ≡ true
by_held time late object other replica candidate it here since =
    ap (is_accepted late other replica) it.is_numbered
    ∙ accepted_at late other replica candidate.stamp.time it.within here since

-- an earlier candidate is of no fewer objects
pub reaches-more : (lower upper : ℕ) (object : ObjectId) → lower ≤ upper → reaches upper object ≡ true
    → reaches lower object ≡ true
reaches-more lower upper object order here = grind (arith, nat_tests)

-- ---- what a step brings

pub record Brings (time : ℕ) (object : ObjectId) (replica : ℕ) (candidate : Candidate) : Type 0 where
  pub bound : time < 7
  pub by : replica ≡ mover time
  pub is : candidate ≡ candidate_at (number_at time)
  pub here : reaches (number_at time) object ≡ true

steps : (time replica number : ℕ) → time < 7 → replica < 3 → number < 6 → when replica number ≡ suc time
    → (nat_eq replica (mover time) && nat_eq number (number_at time)) ≡ true
steps time replica number bound within known since =
    holds (nat_eq (when replica number) (suc time)) (nat_eq replica (mover time) && nat_eq number (number_at time))
    (all_below-at 6 (λ it. where_holds (nat_eq (when replica it) (suc time))
    (nat_eq replica (mover time) && nat_eq it (number_at time)))
    (all_below-at 3 (λ by. all_below 6 (λ it. where_holds (nat_eq (when by it) (suc time))
    (nat_eq by (mover time) && nat_eq it (number_at time))))
    (all_below-at 7 (λ step. all_below 3 (λ by. all_below 6 (λ it. where_holds (nat_eq (when by it) (suc step))
    (nat_eq by (mover step) && nat_eq it (number_at step))))) refl time bound) replica within) number known)
    (eq-eqb (when replica number) (suc time) since)

pub brings : (time : ℕ) (object : ObjectId) (replica : ℕ) (candidate : Candidate)
    → IsNew run time object replica candidate → Brings time object replica candidate
brings time object replica candidate new =
    let it : Held (suc time) object replica candidate = held (suc time) object replica candidate new.after in
    let number : ℕ = candidate.stamp.time in
    let since : when replica number ≡ suc time =
    elim (cases_lt time (when replica number)) [
      | inl later ↦ let by : when replica number ≤ suc time = it.since in omega arith
      | inr earlier ↦
          absurd (false≢true (sym new.before ∙ by_held (suc time) time object object replica candidate it it.here
          earlier))
    ] in
    let parts : (nat_eq replica (mover time) ≡ true) × (nat_eq number (number_at time) ≡ true) =
    and_parts (nat_eq replica (mover time)) (nat_eq number (number_at time))
    (steps time replica number new.step (ltb-true replica 3 new.good) it.within since) in
    let same_number : number ≡ number_at time = eqb-true number (number_at time) parts.1 in
    record {
      bound = new.step;
      by = eqb-true replica (mover time) parts.0;
      is = it.is_numbered ∙ ap candidate_at same_number;
      here = ap (λ (index : ℕ). reaches index object) (sym same_number) ∙ it.here;
    }

-- ---- tests of each step

pub rises : (time number : ℕ) → time < 7 → number < 6 → when (mover time) number ≤ time → number < number_at time
rises time number bound known since =
    ltb-true number (number_at time)
    (holds (has time (mover time) number) (nat_lt number (number_at time))
    (all_below-at 6 (λ it. where_holds (has time (mover time) it) (nat_lt it (number_at time)))
    (all_below-at 7 (λ step. all_below 6 (λ it. where_holds (has step (mover step) it) (nat_lt it (number_at step))))
    refl time bound) number known) (le-leb (when (mover time) number) time since))

-- its prior passes over nothing without barrier that the replica had
pub passes_none : (time number : ℕ) → time < 7 → number < 6 → when (mover time) number ≤ time
    → is_barrier number ≡ false → is_barrier (number_at time) ≡ false → number ≤ prior_of (number_at time)
passes_none time number bound known since plain upper_plain =
    leb-true number (prior_of (number_at time))
    (holds (has time (mover time) number && (not (is_barrier number) && not (is_barrier (number_at time))))
    (nat_le number (prior_of (number_at time)))
    (all_below-at 6 (λ it.
    where_holds (has time (mover time) it && (not (is_barrier it) && not (is_barrier (number_at time))))
    (nat_le it (prior_of (number_at time))))
    (all_below-at 7 (λ step. all_below 6 (λ it.
    where_holds (has step (mover step) it && (not (is_barrier it) && not (is_barrier (number_at step))))
    (nat_le it (prior_of (number_at step))))) refl time bound) number known)
    (and_from (has time (mover time) number) (not (is_barrier number) && not (is_barrier (number_at time)))
    (le-leb (when (mover time) number) time since)
    (and_from (not (is_barrier number)) (not (is_barrier (number_at time))) (ap not plain) (ap not upper_plain))))

-- the prior was held by one correct replica, and by all three where an act or a narrower candidate rests on it
abbrev pub is_settling : ℕ → Bool
is_settling number = nat_eq number 1 || nat_eq number 5

abbrev is_rested : ℕ → Bool
is_rested time = nat_le (cond (is_settling (number_at time)) 3 1) (holders time (prior_of (number_at time)))

pub rested : (time : ℕ) → time < 7 → is_barrier (number_at time) ≡ false
    → cond (is_settling (number_at time)) 3 1 ≤ holders time (prior_of (number_at time))
unfolding count
rested time bound plain =
    leb-true (cond (is_settling (number_at time)) 3 1) (holders time (prior_of (number_at time)))
    (holds (not (is_barrier (number_at time))) (is_rested time)
    (all_below-at 7 (λ step. where_holds (not (is_barrier (number_at step))) (is_rested step)) refl time bound)
    (ap not plain))

-- what is held on a candidate's object is accepted there
pub here_too : (time : ℕ) (object : ObjectId) (number : ℕ) → number < 6 → reaches number object ≡ true
    → holders time number ≤ acceptors run time object (candidate_at number)
here_too time object number known here =
    count-more 5 (λ replica. nat_lt replica 3 && has time replica number)
    (λ replica. nat_lt replica 3 && is_accepted time object replica (candidate_at number)) (λ replica within both.
    let parts : (nat_lt replica 3 ≡ true) × (has time replica number ≡ true) =
    and_parts (nat_lt replica 3) (has time replica number) both in
    and_from (nat_lt replica 3) (is_accepted time object replica (candidate_at number)) parts.0
    (accepted_at time object replica number known here (leb-true (when replica number) time parts.1)))
