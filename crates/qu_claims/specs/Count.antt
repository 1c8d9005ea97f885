-- How many numbers below a bound pass a test.
use Rattle.std.specs.Prelude.{ℕ, Bool, false, ◌+◌, zero, suc, cond, List, Option, None, Some}
use Rattle.std.specs.List.{slice_get}

-- how many numbers below n pass the test
unfoldable pub count : ℕ → (ℕ → Bool) → ℕ
count zero test = 0
count (suc n) test = count n test + cond (test n) 1 0

abbrev pub passes : {X : Type 0} → (X → Bool) → Option X → Bool
passes test None = false
passes test (Some item) = test item

-- the list has an item at this index, and it passes the test
abbrev pub test_at : {X : Type 0} → (X → Bool) → List X → ℕ → Bool
test_at test items index = passes test (slice_get items index)
