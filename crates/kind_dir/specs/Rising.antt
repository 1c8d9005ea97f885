-- Entries whose names rise.
use Rattle.std.specs.Prelude.{ℕ, ◌-◌, Bool, true, ◌&&◌, List, [], ◌∷◌, length, slice_get, Option, Some}
use Rattle.std.specs.Option.{option_map}
use Rattle.qu_base.specs.Texts.{is_name_above}

-- each name is above the one before it
abbrev pub are_rising : Option (List ℕ) → List (List ℕ × ℕ) → Bool
are_rising before [] = true
are_rising before (entry ∷ later) = is_name_above before entry.0 && are_rising (Some entry.0) later

-- the name of the last entry, if there is one
abbrev pub last_name : List (List ℕ × ℕ) → Option (List ℕ)
last_name entries = option_map (λ entry. entry.0) (slice_get entries (length entries - 1))
