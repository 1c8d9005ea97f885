-- How much a call takes from a source, and how much it leaves in a sink.
use Rattle.std.specs.Prelude.{ℕ, ◌+◌, ◌<◌, ◌≤◌, List, length, take, ◌⊎◌}
use Rattle.std.specs.Io.KnownBytes.{Consumes, Appends, IsAtEnd}
use Rattle.qu_io.specs.Streams.{StreamView, Rose}
use Rattle.qu_io.specs.declared.limits.TheConstants.{SCRIPT_LIMIT}

-- a script was taken: all that the source had, or one byte more than a script may have
pub record TakesScript (before now : StreamView) (script : List ℕ) : Type 0 where
  pub taken : Consumes before.bytes now.bytes script
  pub to_end : length script ≤ SCRIPT_LIMIT → IsAtEnd now.bytes
  pub few : length script ≤ SCRIPT_LIMIT + 1

-- no more was taken than a script may have, and one byte
pub record TakesFew (before now : StreamView) : Type 0 where
  pub bytes : List ℕ
  pub taken : Consumes before.bytes now.bytes bytes
  pub few : length bytes ≤ SCRIPT_LIMIT + 1

-- the whole text was taken
abbrev pub Writes : StreamView → StreamView → List ℕ → Type 0
Writes before now text = Appends before.bytes now.bytes text

-- a fault left the text short: a front of it was taken, and not the whole
pub record WritesShort (before now : StreamView) (text : List ℕ) : Type 0 where
  pub count : ℕ
  pub short : count < length text
  pub front : Appends before.bytes now.bytes (take count text)
  pub rose : Rose before now

abbrev pub WritesOrFails : StreamView → StreamView → List ℕ → Type 0
WritesOrFails before now text = Writes before now text ⊎ WritesShort before now text
