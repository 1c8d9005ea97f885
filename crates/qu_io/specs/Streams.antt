-- What is known of a source or of a sink.
use Rattle.std.specs.Prelude.{◌≡◌, ℕ, ◌+◌, ◌-◌, ◌^◌, ◌≤◌, min, List, Option}

pub record StreamView : Type 0 where
  -- the bytes that are left in a source, or that a sink took, where it tells them
  pub bytes : Option (List ℕ)
  -- how many of its calls a fault ended
  pub faults : ℕ

-- one more; a count that is kept in 64 bits stays at its largest value
abbrev pub next_count : ℕ → ℕ
next_count count = min (count + 1) (2 ^ 64 - 1)

-- the count of faults rose
abbrev pub Rose : StreamView → StreamView → Type 0
Rose before now = next_count before.faults ≤ now.faults

-- no fault was counted
abbrev pub IsCalm : StreamView → StreamView → Type 0
IsCalm before now = now.faults ≡ before.faults
