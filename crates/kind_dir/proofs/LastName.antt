-- The last name of entries to which one was added.
use Rattle.std.proofs.Common.{◌≡◌, ℕ, zero, suc, List, [], ◌∷◌, ◌++◌, length, Some, refl, ap, length-append, arith}
use Rattle.std.specs.List.{slice_get}
use Rattle.std.specs.Option.{option_map}
use Rattle.kind_dir.specs.Rising.{last_name}

last_place : {A : Type 0} (items : List A) (item : A) (place : ℕ) → place ≡ length items
    → slice_get (items ++ item ∷ []) place ≡ Some item
last_place [] item zero is = refl
last_place [] item (suc place) is = absurd (omega arith)
last_place (first ∷ items) item zero is = absurd (omega arith)
last_place (first ∷ items) item (suc place) is = last_place items item place (omega arith)

pub last_more : (entries : List (List ℕ × ℕ)) (entry : List ℕ × ℕ) → last_name (entries ++ entry ∷ []) ≡ Some entry.0
last_more entries entry =
    ap (option_map (λ (last : List ℕ × ℕ). last.0))
    (last_place entries entry _ (omega (arith, length-append entries (entry ∷ []))))
