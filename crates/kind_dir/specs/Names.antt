-- Which names an entry may have: 1 to 255 bytes without the bytes 0 and `/`, and neither `.` nor `..`.
use Rattle.std.specs.Prelude.{ℕ, Bool, ◌==◌, ◌&&◌, ◌||◌, not, nat_le, List, [], ◌∷◌, length}
use Rattle.std.specs.List.{list_any}
use Rattle.std.specs.Cmp.Lexicographic.{pointwise}
use Rattle.qu_base.specs.declared.limits.TheConstants.{NAME_LIMIT}

-- the bytes 0 and `/`
abbrev pub is_barred : ℕ → Bool
is_barred byte = byte == 0 || byte == 47

-- `.` and `..`
abbrev pub is_dots : List ℕ → Bool
is_dots name = pointwise ◌==◌ name (46 ∷ []) || pointwise ◌==◌ name (46 ∷ 46 ∷ [])

unfoldable pub is_good_name : List ℕ → Bool
is_good_name name =
    nat_le 1 (length name) && nat_le (length name) NAME_LIMIT && not (list_any is_barred name) && not (is_dots name)
