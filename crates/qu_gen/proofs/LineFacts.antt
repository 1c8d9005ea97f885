-- Lines that stand behind one another, and those of the operations, one by one.
use Rattle.std.proofs.Common.{◌≡◌, ℕ, ◌+◌, ◌-◌, ◌<◌, List, [], ◌∷◌, ◌++◌, ap, sym, ◌∙◌, append_assoc}
use Rattle.std.specs.List.{flat_map, range_with_len}
use Rattle.std.proofs.lemmas.Grind.{flat_map-append}
use Rattle.qu_base.proofs.Items.{range_begins}
use Rattle.qu_gen.specs.Script.{generated_setup, lines_of_first, ended, generated_script}

pub ended-append : (lines more : List (List ℕ)) → ended (lines ++ more) ≡ ended lines ++ ended more
unfolding ended
ended-append lines more = flat_map-append (λ line. line ++ 10 ∷ []) lines more

pub in_a_row : (before first second third : List ℕ)
    → ((before ++ first) ++ second) ++ third ≡ before ++ (first ++ (second ++ third))
in_a_row before first second third =
    append_assoc (before ++ first) second third ∙ append_assoc before first (second ++ third)

-- the line feed belongs to the line before it
pub line_closed : (before head middle tail : List ℕ)
    → before ++ (head ++ (middle ++ 10 ∷ tail)) ≡ before ++ (head ++ ((middle ++ 10 ∷ []) ++ tail))
line_closed before head middle tail =
    ap (λ rest. before ++ (head ++ rest)) (sym (append_assoc middle (10 ∷ []) tail))

pub script_parts : (number : ℕ) → generated_script number
    ≡ ended (generated_setup number) ++ ended (lines_of_first 400 number)
script_parts number = ended-append (generated_setup number) (lines_of_first 400 number)

-- what is written stays the front of the whole as the lines of the next place are written
pub places_written : (at : ℕ → List (List ℕ)) (earlier last : ℕ) (before written whole : List ℕ) → earlier < last
    → before ++ ended (flat_map at (range_with_len (earlier + 1) (last - earlier))) ≡ whole
    → written ≡ before ++ ended (at (earlier + 1))
    → written ++ ended (flat_map at (range_with_len (earlier + 1 + 1) (last - (earlier + 1)))) ≡ whole
places_written at earlier last before written whole h so_far next =
    rw next (rw append_assoc (rw (← ended-append) (rw (range_begins earlier last h) at so_far)))
