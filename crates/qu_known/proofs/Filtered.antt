-- What a list gives under a filter, with one item more.
use Rattle.std.proofs.Common.{◌≡◌, ℕ, ◌+◌, ◌<◌, List, [], ◌∷◌, ◌++◌, length, take, get_or, Option, sym, ap, ◌∙◌}
use Rattle.std.specs.List.{filter_map, cons_option}
use Rattle.std.proofs.lemmas.List.{take_more}
use Rattle.std.proofs.lemmas.List.Elements.{filter_map-append}

pub filtered_more : {X Y : Type 0} (filter : X → Option Y) (items : List X) (index : ℕ) (item : X)
    (found new : List Y) → index < length items → item ≡ get_or items index item
    → found ≡ filter_map filter (take index items) → new ≡ found ++ cons_option (filter item) []
    → new ≡ filter_map filter (take (index + 1) items)
filtered_more filter items index item found new below is before after =
    let all : filter_map filter (take (index + 1) items) ≡ filter_map filter (take index items) ++ cons_option
    (filter (get_or items index item)) [] =
    ap (filter_map filter) (take_more items index item below) ∙ filter_map-append filter (take index items)
    (get_or items index item ∷ []) in
    after ∙ (λ i. before i ++ cons_option (filter (is i)) []) ∙ sym all
