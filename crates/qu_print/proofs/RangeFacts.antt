-- Numbers in a row.
use Rattle.std.proofs.Common.{◌≡◌, ℕ, ◌+◌, ◌-◌, ◌<◌, List, ◌++◌, append_assoc}
use Rattle.std.specs.List.{flat_map, range_with_len}
use Rattle.qu_base.proofs.Items.{range_begins}
use Rattle.qu_print.specs.Lines.{lines_text}
use Rattle.qu_print.proofs.LineFacts.{lines_text-append}

-- what is written stays the front of the whole as the lines of the next number are written
pub lines_step : (lines_at : ℕ → List (List ℕ)) (earlier last : ℕ) (before written whole : List ℕ) → earlier < last
    → before ++ lines_text (flat_map lines_at (range_with_len (earlier + 1) (last - earlier))) ≡ whole
    → written ≡ before ++ lines_text (lines_at (earlier + 1))
    → written ++ lines_text (flat_map lines_at (range_with_len (earlier + 1 + 1) (last - (earlier + 1)))) ≡ whole
lines_step lines_at earlier last before written whole h so_far next =
    rw next (rw append_assoc (rw (← lines_text-append) (rw (range_begins earlier last h) at so_far)))
