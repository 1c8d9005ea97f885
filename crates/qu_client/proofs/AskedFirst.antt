-- From whatever replica one begins, going round one comes to a quorum of them.
use Rattle.std.proofs.Common.{◌≡◌, ℕ, zero, suc, ◌+◌, ◌-◌, ◌%◌, ◌<◌, ◌≤◌, Bool, cond, min, nat_lt, count_by, ◌++◌, List, ◌∷◌, ap, ◌∙◌, arith}
use Rattle.std.specs.List.{range_with_len}
use Rattle.std.proofs.lemmas.Bool.Decides.{nat_tests}
use Rattle.std.proofs.lemmas.List.Sums.{sum_by-cons, sum_by-append}
use Rattle.std.proofs.Math.Nat.{mod-eq_of_lt, add-mod_right}
use Rattle.qu_base.specs.declared.party.ObjectId.{ObjectId}
use Rattle.qu_base.specs.Bounds.{replicas, quorum, AreThresholds}
use Rattle.qu_client.specs.AskedFirst.{place, how_many_preferred}

-- ---- places in a row

one_more : (most offset count : ℕ)
    → cond (nat_lt offset most) 1 0 + min count (most - (offset + 1)) ≡ min (suc count) (most - offset)
one_more most offset count = grind (arith, nat_tests)

-- of so many numbers, whose places rise one by one, those with a place below `most`
along : (test : ℕ → Bool) (most start offset count : ℕ)
    → ((index : ℕ) → index < count → test (start + index) ≡ nat_lt (offset + index) most)
    → count_by test (range_with_len start count) ≡ min count (most - offset)
along test most start offset zero same = omega arith
along test most start offset (suc count) same =
    let first : test start ≡ nat_lt offset most =
    ap test (omega arith) ∙ same 0 (omega arith) ∙ ap (λ (it : ℕ). nat_lt it most) (omega arith) in
    let later : count_by test (range_with_len (start + 1) count) ≡ min count (most - (offset + 1)) =
    along test most (start + 1) (offset + 1) count (λ index below. ap test (omega arith) ∙ same (index + 1)
    (omega (arith, below)) ∙ ap (λ (it : ℕ). nat_lt it most) (omega arith)) in
    sum_by-cons (λ (it : ℕ). cond (test it) 1 0) start (range_with_len (start + 1) count)
    ∙ ap (λ (it : Bool). cond it 1 0 + count_by test (range_with_len (start + 1) count)) first
    ∙ ap (λ (it : ℕ). cond (nat_lt offset most) 1 0 + it) later ∙ one_more most offset count

range_split : (start first more : ℕ)
    → range_with_len start (first + more) ≡ range_with_len start first ++ range_with_len (start + first) more
range_split start zero more =
    let same : zero + more ≡ more = omega arith in
    let here : start ≡ start + zero = omega arith in
    ap (range_with_len start) same ∙ ap (λ (it : ℕ). range_with_len it more) here
range_split start (suc first) more =
    let same : suc first + more ≡ suc (first + more) = omega arith in
    let here : start + 1 + first ≡ start + suc first = omega arith in
    ap (range_with_len start) same ∙ ap (λ (it : List ℕ). start ∷ it) (range_split (start + 1) first more)
    ∙ ap (λ (it : ℕ). start ∷ (range_with_len (start + 1) first ++ range_with_len it more)) here

-- ---- going round

module _ (count most start : ℕ) (within : start < count) (few : most ≤ count) where
  abbrev test : ℕ → Bool
  test number = nat_lt ((number + count - start) % count) most

  -- those before the first one come last
  before : (index : ℕ) → index < start → test (0 + index) ≡ nat_lt (count - start + index) most
  before index below =
      let place : 0 + index + count - start ≡ count - start + index = omega arith in
      let small : count - start + index < count = omega arith in
      ap (λ (it : ℕ). nat_lt it most) (ap (λ (it : ℕ). it % count) place ∙ mod-eq_of_lt small)

  behind : (first index : ℕ) → first ≡ start → index < count - start → test (first + index) ≡ nat_lt (0 + index) most
  behind first index is below =
      let place : first + index + count - start ≡ index + count = omega arith in
      let small : index < count = omega arith in
      let same : index ≡ 0 + index = omega arith in
      ap (λ (it : ℕ). nat_lt it most)
      (ap (λ (it : ℕ). it % count) place ∙ add-mod_right index count ∙ mod-eq_of_lt small ∙ same)

  pub around : count_by test (range_with_len 0 count) ≡ most
  around =
      let whole : count ≡ start + (count - start) = omega arith in
      let first : 0 + start ≡ start = omega arith in
      ap (λ (it : ℕ). count_by test (range_with_len 0 it)) whole
      ∙ ap (count_by test) (range_split 0 start (count - start))
      ∙ sum_by-append (λ (it : ℕ). cond (test it) 1 0) (range_with_len 0 start)
      (range_with_len (0 + start) (count - start))
      ∙ omega (
        arith,
        along test most 0 (count - start) start before,
        along test most (0 + start) 0 (count - start) (λ index below. behind (0 + start) index first below),
      )

-- ---- a quorum

pub some_replicas : (b : ℕ) → AreThresholds b → 0 < replicas b
some_replicas b sizes =
    omega (arith, sizes.quorums_share_repair, sizes.repair_outnumbers, sizes.correct_make_quorum)

remainder_within : (number count : ℕ) → 0 < count → number % count < count
remainder_within number count some = omega arith

pub preferred_make_a_quorum : (b : ℕ) (first : ObjectId) → AreThresholds b → how_many_preferred b first ≡ quorum b
unfolding place how_many_preferred
preferred_make_a_quorum b first sizes =
    around (replicas b) (quorum b) (first.0 % replicas b)
    (remainder_within first.0 (replicas b) (some_replicas b sizes)) (omega (arith, sizes.correct_make_quorum))
