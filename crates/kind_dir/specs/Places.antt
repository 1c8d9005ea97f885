-- Where a name is among entries, or where it would go.
use Rattle.std.specs.Prelude.{◌≡◌, ℕ, ◌<◌, ◌≤◌, List, length, get_or, None, Some}
use Rattle.std.specs.List.{insert, remove}
use Rattle.kind_dir.specs.Dir.{linked_number, with_entry, without_entry}

-- the entry of this name is at this place
pub record IsAt (name : List ℕ) (entries : List (List ℕ × ℕ)) (at : ℕ) : Type 0 where
  pub in_range : at < length entries
  pub number : (default : List ℕ × ℕ) → linked_number name entries ≡ Some (get_or entries at default).1
  pub without : without_entry name entries ≡ remove entries at

-- no entry has this name, and one of it would go to this place
pub record IsGap (name : List ℕ) (entries : List (List ℕ × ℕ)) (at : ℕ) : Type 0 where
  pub in_range : at ≤ length entries
  pub number : linked_number name entries ≡ None
  pub with_one : (number : ℕ) → with_entry name number entries ≡ insert entries at (name, number)
