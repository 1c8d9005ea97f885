-- Counting the numbers below a bound that pass a test.
use Rattle.std.proofs.Common.{◌≡◌, ℕ, zero, suc, ◌+◌, ◌<◌, ◌≤◌, Bool, true, false, not, ◌&&◌, cond, List, [], ◌∷◌, length, refl, sym, ap, ◌∙◌, arith, inl, inr}
use Rattle.std.specs.Prelude.{count_by, Some}
use Rattle.std.specs.List.{slice_get}
use Rattle.std.proofs.lemmas.Bool.{false≢true, cases_Bool, and_parts, cases_eq, cases_lt}
use Rattle.std.proofs.lemmas.List.Sums.{sum_by-cons}
use Rattle.qu_claims.specs.Count.{count, passes, test_at}

-- what one number adds to a count
abbrev pub bit : Bool → ℕ
bit test = cond test 1 0

bit-more : (first second : Bool) → (first ≡ true → second ≡ true) → bit first ≤ bit second
bit-more true true follows = omega arith
bit-more true false follows = absurd (false≢true (follows refl))
bit-more false true follows = omega arith
bit-more false false follows = omega arith

bit-both : (first second all : Bool) → (first ≡ true → all ≡ true) → (second ≡ true → all ≡ true)
    → bit first + bit second ≤ bit all + bit (first && second)
bit-both true true true first_in second_in = omega arith
bit-both true true false first_in second_in = absurd (false≢true (first_in refl))
bit-both true false true first_in second_in = omega arith
bit-both true false false first_in second_in = absurd (false≢true (first_in refl))
bit-both false true true first_in second_in = omega arith
bit-both false true false first_in second_in = absurd (false≢true (second_in refl))
bit-both false false true first_in second_in = omega arith
bit-both false false false first_in second_in = omega arith

bit-not : (test : Bool) → bit test + bit (not test) ≡ 1
bit-not true = refl
bit-not false = refl

-- a weaker test counts at least as many
pub count-more : (n : ℕ) (first second : ℕ → Bool)
    → ((index : ℕ) → index < n → first index ≡ true → second index ≡ true) → count n first ≤ count n second
unfolding count
count-more zero first second follows = omega arith
count-more (suc n) first second follows =
    let below : count n first ≤ count n second =
    count-more n first second (λ index within. follows index (omega arith)) in
    let here : bit (first n) ≤ bit (second n) = bit-more (first n) (second n) (follows n (omega arith)) in
    omega arith

pub count-both : (n : ℕ) (first second all : ℕ → Bool) → ((index : ℕ) → first index ≡ true → all index ≡ true)
    → ((index : ℕ) → second index ≡ true → all index ≡ true)
    → count n first + count n second ≤ count n all + count n (λ index. first index && second index)
unfolding count
count-both zero first second all first_in second_in = omega arith
count-both (suc n) first second all first_in second_in =
    let below : count n first + count n second ≤ count n all + count n (λ index. first index && second index) =
    count-both n first second all first_in second_in in
    let here : bit (first n) + bit (second n) ≤ bit (all n) + bit (first n && second n) =
    bit-both (first n) (second n) (all n) (first_in n) (second_in n) in
    omega arith

-- tests that answer alike count the same
pub count-same : (n : ℕ) (first second : ℕ → Bool) → ((index : ℕ) → index < n → first index ≡ second index)
    → count n first ≡ count n second
unfolding count
count-same zero first second alike = refl
count-same (suc n) first second alike =
    let below : count n first ≡ count n second =
    count-same n first second (λ index within. alike index (omega arith)) in
    let here : bit (first n) ≡ bit (second n) = ap bit (alike n (omega arith)) in
    omega arith

-- each number passes a test or its opposite
pub count-not : (n : ℕ) (test : ℕ → Bool) → count n test + count n (λ index. not (test index)) ≡ n
unfolding count
count-not zero test = omega arith
count-not (suc n) test =
    let below : count n test + count n (λ index. not (test index)) ≡ n = count-not n test in
    let here : bit (test n) + bit (not (test n)) ≡ 1 = bit-not (test n) in
    omega arith

pub count-further : (test : ℕ → Bool) (least n : ℕ) → least ≤ n → count least test ≤ count n test
unfolding count
count-further test zero zero order = omega arith
count-further test (suc least) zero order = absurd (omega arith)
count-further test least (suc n) order =
    elim (cases_eq least (suc n)) [
      | inl same ↦ rw same (omega arith)
      | inr other ↦
          let before : count least test ≤ count n test = count-further test least n (omega arith) in
          omega (arith, before)
    ]

pub count-le : (n : ℕ) (test : ℕ → Bool) → count n test ≤ n
count-le n test = omega (arith, count-not n test)

-- a number that fails adds nothing
count-here : (n : ℕ) (test : ℕ → Bool) → test n ≡ false → count (suc n) test ≡ count n test
unfolding count
count-here n test not_here = ap (λ found. count n test + bit found) not_here ∙ omega arith

-- a count above zero has a witness
pub record Passing (n : ℕ) (test : ℕ → Bool) : Type 0 where
  pub index : ℕ
  pub within : index < n
  pub passed : test index ≡ true

later_passing : (n : ℕ) (test : ℕ → Bool) → Passing n test → Passing (suc n) test
later_passing n test found = record {
  index = found.index;
  within = let within : found.index < n = found.within in omega arith;
  passed = found.passed;
}

pub passing : (n : ℕ) (test : ℕ → Bool) → 1 ≤ count n test → Passing n test
unfolding count
passing zero test some = absurd (omega arith)
passing (suc n) test some =
    elim (cases_Bool (test n)) [
      | inl here ↦ record { index = n; within = omega arith; passed = here }
      | inr not_here ↦
          let same : count (suc n) test ≡ count n test = count-here n test not_here in
          later_passing n test (passing n test (omega arith))
    ]

-- where a number passes, the count is above zero
pub count-some : (n : ℕ) (test : ℕ → Bool) (index : ℕ) → index < n → test index ≡ true → 1 ≤ count n test
unfolding count
count-some zero test index within passed = absurd (omega arith)
count-some (suc n) test index within passed =
    elim (cases_eq index n) [
      | inl same ↦
          let here : bit (test n) ≡ 1 = ap (λ number. bit (test number)) (sym same) ∙ ap bit passed in
          omega arith
      | inr other ↦
          let below : 1 ≤ count n test = count-some n test index (omega arith) passed in
          omega arith
    ]

-- a number that passes the second test and not the first
pub record Gained (n : ℕ) (first second : ℕ → Bool) : Type 0 where
  pub index : ℕ
  pub within : index < n
  pub before : first index ≡ false
  pub after : second index ≡ true

later_gained : (n : ℕ) (first second : ℕ → Bool) → Gained n first second → Gained (suc n) first second
later_gained n first second found = record {
  index = found.index;
  within = let within : found.index < n = found.within in omega arith;
  before = found.before;
  after = found.after;
}

bit-gained : (first second : Bool) → bit first < bit second → (first ≡ false) × (second ≡ true)
bit-gained true true more = absurd (omega arith)
bit-gained true false more = absurd (omega arith)
bit-gained false true more = (refl, refl)
bit-gained false false more = absurd (omega arith)

-- where the second test counts more, a number passes it that fails the first
pub count-gained : (n : ℕ) (first second : ℕ → Bool) → count n first < count n second → Gained n first second
unfolding count
count-gained zero first second more = absurd (omega arith)
count-gained (suc n) first second more =
    elim (cases_lt (count n first) (count n second)) [
      | inl below ↦ later_gained n first second (count-gained n first second below)
      | inr not_below ↦
          let here : bit (first n) < bit (second n) = omega arith in
          let parts : (first n ≡ false) × (second n ≡ true) = bit-gained (first n) (second n) here in
          record { index = n; within = omega arith; before = parts.0; after = parts.1 }
    ]

-- two sets that outnumber a set in which both lie share a member
pub record Shared (n : ℕ) (first second : ℕ → Bool) : Type 0 where
  pub index : ℕ
  pub within : index < n
  pub in_first : first index ≡ true
  pub in_second : second index ≡ true

shared_of : (n : ℕ) (first second : ℕ → Bool) → Passing n (λ index. first index && second index) → Shared n first second
shared_of n first second found = record {
  index = found.index;
  within = found.within;
  in_first = (and_parts (first found.index) (second found.index) found.passed).0;
  in_second = (and_parts (first found.index) (second found.index) found.passed).1;
}

pub shared : (n : ℕ) (first second all : ℕ → Bool) → ((index : ℕ) → first index ≡ true → all index ≡ true)
    → ((index : ℕ) → second index ≡ true → all index ≡ true) → count n all < count n first + count n second
    → Shared n first second
shared n first second all first_in second_in enough =
    let both : count n first + count n second ≤ count n all + count n (λ index. first index && second index) =
    count-both n first second all first_in second_in in
    shared_of n first second (passing n (λ index. first index && second index) (omega arith))

-- ---- counting the items of a list

-- the first number counted apart from the others
pub count-first : (n : ℕ) (test : ℕ → Bool) → count (suc n) test ≡ bit (test 0) + count n (λ index. test (suc index))
unfolding count
count-first zero test = omega arith
count-first (suc n) test =
    let below : count (suc n) test ≡ bit (test 0) + count n (λ index. test (suc index)) = count-first n test in
    omega arith

-- a list's items that pass, counted by index
pub count-test_at : {X : Type 0} (test : X → Bool) (items : List X)
    → count (length items) (test_at test items) ≡ count_by test items
unfolding count
count-test_at test [] = refl
count-test_at test (item ∷ items) =
    let first : count (suc (length items)) (test_at test (item ∷ items))
    ≡ bit (test item) + count (length items) (test_at test items) =
    count-first (length items) (test_at test (item ∷ items)) in
    let later : count (length items) (test_at test items) ≡ count_by test items = count-test_at test items in
    first ∙ ap (λ number. bit (test item) + number) later ∙ sym (sum_by-cons (λ each. bit (test each)) item items)

-- ---- what a test at an index says

pub record Found {X : Type 0} (test : X → Bool) (items : List X) (index : ℕ) : Type 0 where
  pub item : X
  pub is_at : slice_get items index ≡ Some item
  pub passed : test item ≡ true

found_later : {X : Type 0} (test : X → Bool) (first : X) (items : List X) (index : ℕ) → Found test items index
    → Found test (first ∷ items) (suc index)
found_later test first items index found = record { item = found.item; is_at = found.is_at; passed = found.passed }

pub found_at : {X : Type 0} (test : X → Bool) (items : List X) (index : ℕ) → test_at test items index ≡ true
    → Found test items index
found_at test [] index held = absurd (false≢true held)
found_at test (item ∷ items) zero held = record { item = item; is_at = refl; passed = held }
found_at test (item ∷ items) (suc index) held = found_later test item items index (found_at test items index held)

pub test_at-here : {X : Type 0} (test : X → Bool) (items : List X) (index : ℕ) (item : X)
    → slice_get items index ≡ Some item → test_at test items index ≡ test item
test_at-here test items index item is_at = ap (passes test) is_at
