-- How many lines a script has.
use Rattle.std.proofs.Common.{◌≡◌, ◌==◌, ℕ, ◌+◌, ◌%◌, suc, Bool, true, false, cond, List, [], ◌∷◌, length, refl, sym, ◌∙◌}
use Rattle.std.specs.List.{flat_map, range_with_len, sum_by}
use Rattle.std.proofs.lemmas.List.{length-append}
use Rattle.std.proofs.lemmas.List.Sums.{sum_by-cons}
use Rattle.qu_gen.specs.Script.{numbers_of_setup, objects_and_liar, generated_setup, flowing, course, lie_behind, lines_at, lines_of_first, generated_lines}

-- the lines of an operation: eight, and one more behind each tenth
abbrev count_at : ℕ → ℕ
count_at place = 8 + cond (place % 10 == 0) 1 0

one_more : (t : Bool) (line : List ℕ)
    → suc (suc (suc (suc (suc (suc (suc (suc (length (cond t (line ∷ []) []))))))))) ≡ 8 + cond t 1 0
one_more true line = refl
one_more false line = refl

operation_counted : (number place : ℕ) → length (lines_at number place) ≡ count_at place
unfolding lines_at course flowing lie_behind
operation_counted number place = one_more (place % 10 == 0) _

places_counted : (number : ℕ) (places : List ℕ) → length (flat_map (lines_at number) places) ≡ sum_by count_at places
places_counted number [] = refl
places_counted number (place ∷ places) =
    length-append (lines_at number place) (flat_map (lines_at number) places)
    ∙ rw (operation_counted number place) (rw (places_counted number places) (sym (sum_by-cons count_at place places)))

first_counted : (count number : ℕ) → length (lines_of_first count number) ≡ sum_by count_at (range_with_len 1 count)
unfolding lines_of_first
first_counted count number = places_counted number (range_with_len 1 count)

setup_counted : (number : ℕ) → length (generated_setup number) ≡ 12
unfolding generated_setup numbers_of_setup objects_and_liar
setup_counted number = refl

pub lines_counted : (number : ℕ) → length (generated_lines number) ≡ 3252
lines_counted number =
    length-append (generated_setup number) (lines_of_first 400 number)
    ∙ rw (setup_counted number) (rw (first_counted 400 number) refl)
