-- Lists of items by rising keys, with at most one item of each key.
use Rattle.std.specs.Prelude.{ℕ, ◌<◌, ◌==◌, nat_lt, List, [], ◌∷◌, ◌++◌, filter, find, Option, ⊤}
use Rattle.std.specs.List.{AllByRecursion}

-- the item of a key
abbrev pub item_of : {X : Type 0} → (X → ℕ) → ℕ → List X → Option X
item_of key wanted items = find (λ item. key item == wanted) items

-- with this item in place of that of its key, between the items of lower and of higher keys
abbrev pub with_item : {X : Type 0} → (X → ℕ) → X → List X → List X
with_item key item items =
    filter (λ other. nat_lt (key other) (key item)) items ++ item ∷ filter (λ other. nat_lt (key item) (key other))
    items

-- each key is below all that follow
unfoldable pub Rising : {X : Type 0} → (X → ℕ) → List X → Type 0
Rising key [] = ⊤
Rising key (item ∷ later) = AllByRecursion (λ other. key item < key other) later × Rising key later
