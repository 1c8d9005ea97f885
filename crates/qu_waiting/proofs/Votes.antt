-- The votes of different replicas are counted as the replicas are.
use Rattle.std.proofs.Common.{◌≡◌, ℕ, zero, suc, ◌+◌, ◌==◌, ◌<◌, ◌≤◌, Bool, true, false, not, ◌&&◌, ◌||◌, nat_lt, cond, if◌then◌else◌, List, [], ◌∷◌, ◌++◌, inl, inr, refl, sym, ap, ◌∙◌, zero-add, arith}
use Rattle.std.specs.Prelude.{IsTrue}
use Rattle.std.specs.List.{list_any, count_by, All, AllByRecursion}
use Rattle.std.specs.Cmp.{IsEquivalence}
use Rattle.std.proofs.lemmas.Bool.{false≢true, and_parts, and_from, or_parts, or_from, or_cases, not-true, not_from_false, lt-ltb, cases_Bool}
use Rattle.std.proofs.lemmas.Bool.Decides.{nat_tests}
use Rattle.std.proofs.lemmas.List.Elements.{recursion_from_All}
use Rattle.std.proofs.lemmas.List.Folds.{list_any-append}
use Rattle.std.proofs.lemmas.List.Sums.{sum_by-cons, sum_by_push}
use Rattle.qu_base.specs.declared.limits.TheConstants.{REPLICA_IDS}
use Rattle.qu_base.specs.declared.party.ReplicaId.{ReplicaId}
use Rattle.qu_waiting.specs.declared.vote.Vote.{Vote}
use Rattle.qu_waiting.specs.Tally.{has_voted, is_once, is_for, replicas_for, count_of}

-- ---- a vote more

-- one number more: the vote is of this number or of another one
step : (replica number rest more : ℕ) (passes others : Bool) → (replica ≡ number → others ≡ false)
    → more ≡ (if nat_lt replica number && passes then 1 else 0) + rest
    → (if (replica == number && passes) || others then 1 else 0) + more ≡
    (if nat_lt replica (suc number) && passes then 1 else 0) + ((if others then 1 else 0) + rest)
step replica number rest more passes others alone is = grind (arith, nat_tests)

at_zero : (replica : ℕ) (passes : Bool) → 0 ≡ (if nat_lt replica 0 && passes then 1 else 0) + 0
at_zero replica passes = grind (arith, nat_tests)

other_way : (a b : ℕ) → (a == b) ≡ false → (b == a) ≡ false
other_way a b differ = grind (arith, nat_tests)

module _ {T : Type 0} where
  -- no vote of the replica, none that passes
  pub none_for : (test : T → Bool) (replica : ReplicaId) (votes : List (Vote T)) → has_voted replica votes ≡ false
      → list_any (is_for test replica.0) votes ≡ false
  none_for test replica [] none = refl
  none_for test replica (vote ∷ later) none = grind (arith, nat_tests, none_for test replica later)

  -- a vote of a replica that did not vote adds one, where it passes
  one_more : (test : T → Bool) (number : ℕ) (vote : Vote T) (votes : List (Vote T))
      → has_voted vote.replica votes ≡ false
      → replicas_for test number (vote ∷ votes) ≡
      (if nat_lt (vote.replica).0 number && test vote.value then 1 else 0) + replicas_for test number votes
  unfolding replicas_for
  one_more test zero vote votes new = at_zero (vote.replica).0 (test vote.value)
  one_more test (suc number) vote votes new =
      step (vote.replica).0 number (replicas_for test number votes) (replicas_for test number (vote ∷ votes))
      (test vote.value) (list_any (is_for test number) votes)
      (λ same. rw (← same) (none_for test vote.replica votes new)) (one_more test number vote votes new)

  none_at_all : (test : T → Bool) (number : ℕ) → replicas_for test number [] ≡ 0
  unfolding replicas_for
  none_at_all test zero = refl
  none_at_all test (suc number) = zero-add _ ∙ none_at_all test number

  -- votes of different replicas are as many as the replicas
  pub votes_are_replicas : (test : T → Bool) (votes : List (Vote T)) → IsTrue (is_once votes)
      → replicas_for test REPLICA_IDS votes ≡ count_by (λ vote. test vote.value) votes
  unfolding is_once
  votes_are_replicas test [] once = none_at_all test REPLICA_IDS
  votes_are_replicas test (vote ∷ later) once =
      let parts : (nat_lt (vote.replica).0 REPLICA_IDS ≡ true) ×
      ((not (has_voted vote.replica later) && is_once later) ≡ true) = and_parts _ _ once in
      let rest : (not (has_voted vote.replica later) ≡ true) × (is_once later ≡ true) = and_parts _ _ parts.1 in
      one_more test REPLICA_IDS vote later (not-true _ rest.0)
      ∙ (λ i. cond (parts.0 i && test vote.value) 1 0 + votes_are_replicas test later rest.1 i)
      ∙ sym (sum_by-cons (λ (cast : Vote T). cond (test cast.value) 1 0) vote later)

  few : (test : T → Bool) (number : ℕ) (votes : List (Vote T)) → replicas_for test number votes ≤ number
  unfolding replicas_for
  few test zero votes = omega arith
  few test (suc number) votes =
      let rest : replicas_for test number votes ≤ number = few test number votes in grind arith

  -- ---- the words of the clauses

  pub count_is : (same : T → T → Bool) (value : T) (votes : List (Vote T)) → IsTrue (is_once votes)
      → count_of same value votes ≡ count_by (λ vote. same vote.value value) votes
  unfolding count_of
  count_is same value votes once = votes_are_replicas (λ answer. same answer value) votes once

  pub counts_are_few : (same : T → T → Bool) (value : T) (votes : List (Vote T))
      → count_of same value votes ≤ REPLICA_IDS
  unfolding count_of
  counts_are_few same value votes = few (λ answer. same answer value) REPLICA_IDS votes

  pub once_push : (votes : List (Vote T)) (vote : Vote T) → IsTrue (is_once votes)
      → has_voted vote.replica votes ≡ false → (vote.replica).0 < REPLICA_IDS → IsTrue (is_once (votes ++ vote ∷ []))
  unfolding is_once
  once_push [] vote once new few = and_from _ _ (lt-ltb _ _ few) refl
  once_push (first ∷ later) vote once new few =
      let parts : (nat_lt (first.replica).0 REPLICA_IDS ≡ true) ×
      ((not (has_voted first.replica later) && is_once later) ≡ true) = and_parts _ _ once in
      let rest : (not (has_voted first.replica later) ≡ true) × (is_once later ≡ true) = and_parts _ _ parts.1 in
      let others : (((first.replica).0 == (vote.replica).0) ≡ false) × (has_voted vote.replica later ≡ false) =
      or_parts _ _ new in
      let alone : has_voted first.replica (later ++ vote ∷ []) ≡ false =
      list_any-append (λ (cast : Vote T). (cast.replica).0 == (first.replica).0) later (vote ∷ [])
      ∙ or_from _ _ (not-true _ rest.0) (or_from _ _ (other_way _ _ others.0) refl) in
      and_from _ _ parts.0 (and_from _ _ (not_from_false _ alone) (once_push later vote rest.1 others.1 few))

  pub count_push : (same : T → T → Bool) (other : T) (votes : List (Vote T)) (vote : Vote T) → IsTrue (is_once votes)
      → has_voted vote.replica votes ≡ false → (vote.replica).0 < REPLICA_IDS
      → count_of same other (votes ++ vote ∷ []) ≡
      count_of same other votes + (if same vote.value other then 1 else 0)
  count_push same other votes vote once new few =
      count_is same other (votes ++ vote ∷ []) (once_push votes vote once new few)
      ∙ sum_by_push (λ (cast : Vote T). cond (same cast.value other) 1 0) votes vote
      ∙ sym (ap (λ (count : ℕ). count + (if same vote.value other then 1 else 0)) (count_is same other votes once))

  -- ---- the greatest count

  none_counted : (test : T → Bool) (votes : List (Vote T)) → list_any (λ vote. test vote.value) votes ≡ false
      → count_by (λ vote. test vote.value) votes ≡ 0
  none_counted test [] none = refl
  none_counted test (vote ∷ later) none =
      let parts : (test vote.value ≡ false) × (list_any (λ (cast : Vote T). test cast.value) later ≡ false) =
      or_parts _ _ none in
      sum_by-cons (λ (cast : Vote T). cond (test cast.value) 1 0) vote later
      ∙ (λ i. cond (parts.0 i) 1 0 + none_counted test later parts.1 i)

  module _ (same : T → T → Bool) (laws : IsEquivalence same) where
    -- what equals one of two equal values equals the other
    alike : (one other : T) → same one other ≡ true → (value : T) → same value other ≡ same value one
    alike one other is value =
        laws.symm value other ∙ sym (laws.congr one other value is) ∙ laws.symm one value

    count_alike : (one other : T) (votes : List (Vote T)) → same one other ≡ true
        → count_of same other votes ≡ count_of same one votes
    unfolding count_of
    count_alike one other votes is =
        ap (λ (test : T → Bool). replicas_for test REPLICA_IDS votes) (λ i value. alike one other is value i)

    from_one : (votes some : List (Vote T)) (most : ℕ) (other : T)
        → AllByRecursion (λ vote. count_of same vote.value votes ≤ most) some
        → list_any (λ vote. same vote.value other) some ≡ true → count_of same other votes ≤ most
    from_one votes [] most other each found = absurd (false≢true found)
    from_one votes (vote ∷ later) most other each found =
        elim (or_cases _ _ found) [
          | inl here ↦ rw (count_alike vote.value other votes here) (each.0)
          | inr there ↦ from_one votes later most other each.1 there
        ]

    pub greatest_of_all : (votes : List (Vote T)) (most : ℕ) → IsTrue (is_once votes)
        → All (λ vote. count_of same vote.value votes ≤ most) votes → (other : T) → count_of same other votes ≤ most
    greatest_of_all votes most once greatest other =
        elim (cases_Bool (list_any (λ (vote : Vote T). same vote.value other) votes)) [
          | inl some ↦
              from_one votes votes most other
              (recursion_from_All (λ (vote : Vote T). count_of same vote.value votes ≤ most) votes greatest) some
          | inr none ↦
              let zero_of : count_of same other votes ≡ 0 =
              count_is same other votes once ∙ none_counted (λ answer. same answer other) votes none in
              omega arith
        ]
