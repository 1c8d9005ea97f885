-- Decimal numbers below 2^64, by the digits that write them.
use Rattle.std.specs.Prelude.{ℕ, ◌^◌, ◌&&◌, nat_lt, List, [], ◌∷◌, Option, None, Some, if◌then◌else◌}
use Rattle.std.specs.Str.{all_ascii_digits}
use Rattle.std.specs.Str.Parse.{digits_value}

-- the number below 2^64 that digits write
unfoldable pub number_of : List ℕ → Option ℕ
number_of [] = None
number_of (d ∷ ds) =
    if all_ascii_digits (d ∷ ds) && nat_lt (digits_value 10 (d ∷ ds)) (2 ^ 64)
    then Some (digits_value 10 (d ∷ ds)) else None
