-- What is made of the numbers below a number, with one number more.
use Rattle.std.proofs.Common.{◌≡◌, ℕ, zero, suc, ◌+◌, List, [], ◌∷◌, ◌++◌, map, sym, ap, ◌∙◌, arith, add-one}
use Rattle.std.specs.List.{range_with_len}

above : {X : Type 0} (make : ℕ → X) (first count : ℕ) → map make (range_with_len first (suc count)) ≡ map make
    (range_with_len first count) ++ make (first + count) ∷ []
above make first zero = ap (λ (number : ℕ). make number ∷ []) (omega arith)
above make first (suc count) =
    ap (λ rest. make first ∷ rest)
    (above make (first + 1) count
    ∙ ap (λ (number : ℕ). map make (range_with_len (first + 1) count) ++ make number ∷ []) (omega arith))

pub numbers_more : {X : Type 0} (make : ℕ → X) (count : ℕ) (made new : List X) (item : X)
    → made ≡ map make (range_with_len 0 count) → new ≡ made ++ item ∷ [] → item ≡ make count
    → new ≡ map make (range_with_len 0 (count + 1))
numbers_more make count made new item before pushed is =
    pushed ∙ (λ i. before i ++ is i ∷ [])
    ∙ ap (λ (number : ℕ). map make (range_with_len 0 count) ++ make number ∷ []) (omega arith)
    ∙ sym (above make 0 count) ∙ ap (λ (number : ℕ). map make (range_with_len 0 number)) (sym (add-one count))
