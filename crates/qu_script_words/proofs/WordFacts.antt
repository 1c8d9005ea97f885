-- Facts on the words that are left of a line.
use Rattle.std.proofs.Common.{◌≡◌, ℕ, ◌+◌, ◌-◌, ◌<◌, ◌≤◌, List, [], ◌∷◌, length, drop, length-drop, refl, ap, ◌∙◌, zero, suc, slice_index_or, nat_eq, arith}
use Rattle.std.specs.Borrow.{Bor}
use Rattle.std.proofs.lemmas.Bool.Decides.{nat_tests}
use Rattle.std.proofs.lemmas.List.{drop_more, at_drop_all, get_or-map, length-map}
use Rattle.qu_notation.proofs.TextFacts.{texts}
use Rattle.qu_script_words.specs.Words.{is_nil}

-- one word is left at least
pub one_more : (i : ℕ) (words : List (Bor (List ℕ))) (d : Bor (List ℕ)) → i < length words
    → drop i (texts words) ≡ (slice_index_or words i d).now ∷ drop (i + 1) (texts words)
one_more i words d lt =
    drop_more (texts words) i [] (simp length-map lt)
    ∙ ap (λ word. word ∷ drop (i + 1) (texts words)) (get_or-map (λ w. w.now) words i d [] lt)

pub none_left : (i : ℕ) (words : List (Bor (List ℕ))) → i ≡ length words → drop i (texts words) ≡ []
none_left i words e = at_drop_all (λ words. words) (texts words) i (simp length-map (omega (arith, e)))

pub left_is_nil : (i : ℕ) (words : List (Bor (List ℕ))) → i ≤ length words
    → nat_eq i (length words) ≡ is_nil (drop i (texts words))
left_is_nil zero [] e = refl
left_is_nil zero (word ∷ words) e = grind (arith, nat_tests)
left_is_nil (suc i) [] e = absurd (omega arith)
left_is_nil (suc i) (word ∷ words) e = grind (arith, nat_tests, left_is_nil i words (omega arith))

pub left_many : (i : ℕ) (words : List (Bor (List ℕ))) → length (drop i (texts words)) ≡ length words - i
left_many i words = length-drop i (texts words) ∙ ap (λ many. many - i) (length-map words (λ word. word.now))

pub ruleset word_facts = (one_more, none_left)

pub ruleset left_facts = (left_is_nil)

pub ruleset left_counts = (left_many)
