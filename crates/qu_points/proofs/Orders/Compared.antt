-- One text stands before another by the order of lists.
use Rattle.std.proofs.Common.{◌≡◌, ℕ, List, [], ◌∷◌, Some, refl, ap, ◌∙◌}
use Rattle.std.specs.declared.cmp.Ordering.{Ordering}
use Rattle.std.specs.declared.cmp.Ordering.TheVariants.{Less, Equal, Greater}
use Rattle.std.specs.Ordering.{nat_cmp, ordering_then, is_lt, is_some_and, partial_ordering_then}
use Rattle.std.specs.Cmp.Lexicographic.{slice_cmp, slice_partial_cmp}

both_told : (first later : Ordering) → partial_ordering_then (Some first) (Some later) ≡ Some
    (ordering_then first later)
both_told Less later = refl
both_told Equal later = refl
both_told Greater later = refl

told : (text other : List ℕ) → slice_partial_cmp (λ x y. Some (nat_cmp x y)) text other
    ≡ Some (slice_cmp nat_cmp text other)
told [] [] = refl
told [] (second ∷ later) = refl
told (first ∷ rest) [] = refl
told (first ∷ rest) (second ∷ later) =
    ap (partial_ordering_then (Some (nat_cmp first second))) (told rest later)
    ∙ both_told (nat_cmp first second) (slice_cmp nat_cmp rest later)

pub told_before : (text other : List ℕ) → is_some_and is_lt (slice_partial_cmp (λ x y. Some (nat_cmp x y)) text other)
    ≡ is_lt (slice_cmp nat_cmp text other)
told_before text other = ap (is_some_and is_lt) (told text other)
