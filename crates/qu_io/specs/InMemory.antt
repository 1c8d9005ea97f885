-- A source or a sink in memory, whose calls fail where its maker says.
use Rattle.std.specs.Prelude.{◌≡◌, ◌<◌, ◌⊎◌, ℕ, Bool, List, Some, Contains, IsTrue}
use Rattle.qu_io.specs.Streams.{StreamView, next_count}

pub record InMemory : Type 0 where
  -- the bytes that are left in the source, or that the sink took
  pub bytes : List ℕ
  -- the most bytes that a call moves
  pub largest : ℕ
  -- the numbers of the calls that fail, counted from 1
  pub failing : List ℕ
  -- how many calls were made
  pub calls : ℕ
  -- how many calls a fault ended
  pub faults : ℕ
  -- whether the call that was made last found no memory for its bytes
  pub lacked : Bool

-- what it tells as a source or as a sink
abbrev pub known_of : InMemory → StreamView
known_of memory = record { bytes = Some memory.bytes; faults = memory.faults }

-- a call was counted, and the plan of failures stays; both counts stay at 2 ^ 64 - 1
pub record CountsCall (old new : InMemory) : Type 0 where
  pub calls : new.calls ≡ next_count old.calls
  pub largest : new.largest ≡ old.largest
  pub failing : new.failing ≡ old.failing

-- the call that was made last is one that has to fail
abbrev pub HasToFail : InMemory → Type 0
HasToFail memory = Contains memory.failing memory.calls

-- why a write of so many bytes fails: it has to, it may take nothing of them, or there was no memory for them
abbrev pub FailsWriting : InMemory → ℕ → Type 0
FailsWriting memory count = HasToFail memory ⊎ ((memory.largest ≡ 0 × 0 < count) ⊎ IsTrue memory.lacked)
