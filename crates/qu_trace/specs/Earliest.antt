-- The earlier of two events of a run.
use Rattle.std.specs.Prelude.{◌≡◌, ℕ, ◌≤◌, min, Option, None, Some}

-- the earlier of two events, where there are two
abbrev pub earlier_of : Option ℕ → Option ℕ → Option ℕ
earlier_of None second = second
earlier_of (Some first) None = Some first
earlier_of (Some first) (Some second) = Some (min first second)

-- there is an event, and it is not after this one
abbrev pub IsUpTo : Option ℕ → ℕ → Type 0
IsUpTo first event = (at : ℕ) × (first ≡ Some at) × (at ≤ event)
