-- Each byte of a block is padded in its turn.
use Rattle.std.proofs.Common.{◌≡◌, ℕ, zero, suc, ◌+◌, List, [], ◌∷◌, ◌++◌, map, take, drop, get_or, slice_set, refl, sym, ap, ◌∙◌, add-one}

abbrev part : (ℕ → ℕ) → ℕ → List ℕ → List ℕ
part pad index block = map pad (take index block) ++ drop index block

next_of : (pad : ℕ → ℕ) (block : List ℕ) (index : ℕ) → slice_set (part pad index block) index
    (pad (get_or (part pad index block) index 0)) ≡ part pad (suc index) block
next_of pad [] zero = refl
next_of pad [] (suc index) = refl
next_of pad (byte ∷ later) zero = refl
next_of pad (byte ∷ later) (suc index) = ap (λ (rest : List ℕ). pad byte ∷ rest) (next_of pad later index)

-- one byte more
pub padded_next : (pad : ℕ → ℕ) (block items : List ℕ) (index : ℕ) → items ≡ map pad (take index block) ++ drop
    index block
    → slice_set items index (pad (get_or items index 0)) ≡ map pad (take (index + 1) block) ++ drop (index + 1) block
padded_next pad block items index is =
    ap (λ (it : List ℕ). slice_set it index (pad (get_or it index 0))) is ∙
    next_of pad block index ∙
    ap (λ (it : ℕ). part pad it block) (sym (add-one index))
