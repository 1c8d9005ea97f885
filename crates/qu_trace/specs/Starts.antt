-- Where the letters of each entry begin among all letters.
use Rattle.std.specs.Prelude.{◌≡◌, ℕ, ◌+◌, ◌-◌, ◌^◌, ◌<◌, ◌≤◌, min, List, [], ◌∷◌, length, get_or}
use Rattle.qu_trace.specs.declared.trace.Entry.{Entry}
use Rattle.qu_trace.specs.declared.sent.Starts.{Starts}

-- how many letters there are behind those of an entry, at most the greatest number of 64 bits
abbrev pub start_behind : ℕ → Entry → ℕ
start_behind before entry = min (before + length entry.letters) (2 ^ 64 - 1)

-- for each entry how many letters there are before its own, where there are so many before the first
unfoldable pub starts_from : ℕ → List Entry → List ℕ
starts_from before [] = []
starts_from before (entry ∷ later) = before ∷ starts_from (start_behind before entry) later

-- how many there are behind all entries
unfoldable pub start_after : ℕ → List Entry → ℕ
start_after before [] = before
start_after before (entry ∷ later) = start_after (start_behind before entry) later

-- what is kept of it
pub record AreStarts (entries : List Entry) (starts : Starts) : Type 0 where
  pub places : starts.places.items ≡ starts_from 0 entries
  pub next : starts.next ≡ start_after 0 entries

-- so many of these starts, which rise, stand at the place or before it
pub record IsBegun (starts : List ℕ) (place count : ℕ) : Type 0 where
  pub bound : count ≤ length starts
  pub before : (index default : ℕ) → index < count → get_or starts index default ≤ place
  pub behind : (index default : ℕ) → count ≤ index → index < length starts → place < get_or starts index default
