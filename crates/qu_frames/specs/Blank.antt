-- The HMACs of frames before they are made: 32 zero bytes each.
use Rattle.std.specs.Prelude.{ℕ, List, [], ◌∷◌}
use Rattle.std.specs.List.{repeat}

unfoldable pub blank_mac : List ℕ
blank_mac = repeat 32 (0 ∷ [])
