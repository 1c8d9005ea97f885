-- Facts on the pieces of names.
use Rattle.std.proofs.Common.{◌≡◌, ℕ, ◌+◌, ◌<◌, ◌≤◌, List, [], ◌∷◌, ◌++◌, length, get_or, drop, Option, None, Some, refl, sym, ap, ◌∙◌, append_assoc, append-nil}
use Rattle.std.specs.Borrow.{Bor}
use Rattle.std.specs.Option.{option_map, option_and_then}
use Rattle.std.proofs.lemmas.List.{at_drop_more, at_drop_all, get_or-map, length-map}
use Rattle.qu_notation.specs.Names.{coded_bytes, coded_pieces}
use Rattle.qu_notation.proofs.TextFacts.{texts}

coded_pieces-cons : (piece : List ℕ) (pieces : List (List ℕ))
    → coded_pieces (piece ∷ pieces) ≡ option_and_then
    (λ bytes. option_map (λ more. bytes ++ more) (coded_pieces pieces)) (coded_bytes piece)
unfolding coded_pieces
coded_pieces-cons piece pieces = refl

coded_pieces-nil : coded_pieces [] ≡ Some []
unfolding coded_pieces
coded_pieces-nil = refl

-- the bytes so far with those of the pieces
abbrev pub pieces_with : List ℕ → List (List ℕ) → Option (List ℕ)
pieces_with name pieces = option_map (λ more. name ++ more) (coded_pieces pieces)

onto_back : (name bytes : List ℕ) (rest : Option (List ℕ))
    → option_map (λ more. name ++ more) (option_map (λ more. bytes ++ more) rest) ≡ option_map
    (λ more. (name ++ bytes) ++ more) rest
onto_back name bytes None = refl
onto_back name bytes (Some more) = ap Some (sym (append_assoc name bytes more))

abbrev one_more : List ℕ → List (List ℕ) → Option (List ℕ) → Option (List ℕ)
one_more name pieces found = option_map (λ more. name ++ more)
    (option_and_then (λ bytes. option_map (λ more. bytes ++ more) (coded_pieces pieces)) found)

step : (name : List ℕ) (i : ℕ) (words : List (Bor (List ℕ))) (d : Bor (List ℕ)) → i < length words
    → pieces_with name (drop i (texts words))
    ≡ one_more name (drop (i + 1) (texts words)) (coded_bytes (get_or words i d).now)
step name i words d lt =
    at_drop_more (pieces_with name) (texts words) i [] (simp length-map lt)
    ∙ ap (option_map (λ more. name ++ more))
    (coded_pieces-cons (get_or (texts words) i []) (drop (i + 1) (texts words)))
    ∙ ap (λ w. one_more name (drop (i + 1) (texts words)) (coded_bytes w))
    (get_or-map (λ w. w.now) words i d [] lt)

pub pieces_more : (name bytes : List ℕ) (i : ℕ) (words : List (Bor (List ℕ))) (d : Bor (List ℕ))
    → i < length words → coded_bytes (get_or words i d).now ≡ Some bytes
    → pieces_with (name ++ bytes) (drop (i + 1) (texts words)) ≡ pieces_with name (drop i (texts words))
pieces_more name bytes i words d lt e =
    sym (step name i words d lt
    ∙ ap (one_more name (drop (i + 1) (texts words))) e
    ∙ onto_back name bytes (coded_pieces (drop (i + 1) (texts words))))

pub pieces_stop : (name : List ℕ) (i : ℕ) (words : List (Bor (List ℕ))) (d : Bor (List ℕ)) → i < length words
    → coded_bytes (get_or words i d).now ≡ None → pieces_with name (drop i (texts words)) ≡ None
pieces_stop name i words d lt e =
    step name i words d lt ∙ ap (one_more name (drop (i + 1) (texts words))) e

pub pieces_end : (name : List ℕ) (i : ℕ) (words : List (Bor (List ℕ))) → length words ≤ i
    → pieces_with name (drop i (texts words)) ≡ Some name
pieces_end name i words le =
    at_drop_all (pieces_with name) (texts words) i (simp length-map le)
    ∙ ap (option_map (λ more. name ++ more)) coded_pieces-nil ∙ ap Some (append-nil name)

pub ruleset piece_facts = (pieces_more, pieces_stop, pieces_end)
