-- A link, the stamp that an object had when it was last made together with another one, beside a stamp of the object.
use Rattle.std.specs.Prelude.{Bool, true, false, Option, None, Some}
use Rattle.qu_stamp.specs.declared.stamp.Stamp.{Stamp}
use Rattle.qu_stamp.specs.Stamp.{is_below, same_stamp}

-- the link is none, or below the stamp
unfoldable pub is_passed : Stamp → Option Stamp → Bool
is_passed stamp None = true
is_passed stamp (Some own) = is_below own stamp

unfoldable pub is_at : Stamp → Option Stamp → Bool
is_at stamp None = false
is_at stamp (Some own) = same_stamp own stamp

unfoldable pub is_above : Stamp → Option Stamp → Bool
is_above stamp None = false
is_above stamp (Some own) = is_below stamp own
