-- Items of lists that pass a test.
use Rattle.std.proofs.Common.{◌≡◌, ℕ, suc, Bool, true, false, List, [], ◌∷◌, Some, refl, ap, ◌∙◌, inl, inr}
use Rattle.std.specs.Prelude.{◌||◌, map, reverse, slice_get}
use Rattle.std.specs.List.{list_any, flat_map}
use Rattle.std.proofs.lemmas.Bool.{false≢true, or_cases}
use Rattle.std.proofs.lemmas.List.{reverse-append}
use Rattle.std.proofs.lemmas.List.Concat.{flat_map-cons}
use Rattle.std.proofs.lemmas.List.Folds.{list_any-append, list_any_at}
use Rattle.std.proofs.lemmas.Option.{slice_get_within, get_or_from_slice_get}

-- an item that passes
pub record Passing {X : Type 0} (test : X → Bool) (items : List X) : Type 0 where
  pub place : ℕ
  pub item : X
  pub at : slice_get items place ≡ Some item
  pub passes : test item ≡ true

pub passing : {X : Type 0} (test : X → Bool) (items : List X) → list_any test items ≡ true → Passing test items
passing test [] any = absurd (false≢true any)
passing test (first ∷ later) any =
    elim (or_cases (test first) (list_any test later) any) [
      | inl here ↦ record { place = 0; item = first; at = refl; passes = here }
      | inr there ↦
          let it : Passing test later = passing test later there in
          record { place = suc it.place; item = it.item; at = it.at; passes = it.passes }
    ]

pub any_at : {X : Type 0} (test : X → Bool) (items : List X) (place : ℕ) (item : X)
    → slice_get items place ≡ Some item → test item ≡ true → list_any test items ≡ true
any_at test items place item at passes =
    list_any_at test items place item (slice_get_within items place item at)
    (ap test (get_or_from_slice_get items place item item at) ∙ passes)

pub any_flat : {X Y : Type 0} (test : Y → Bool) (f : X → List Y) (items : List X) → list_any test
    (flat_map f items) ≡ list_any (λ item. list_any test (f item)) items
any_flat test f [] = refl
any_flat test f (first ∷ later) =
    ap (list_any test) (flat_map-cons f first later) ∙
    list_any-append test (f first) (flat_map f later) ∙
    ap (λ rest. list_any test (f first) || rest) (any_flat test f later)

pub any_mapped : {X Y : Type 0} (test : Y → Bool) (f : X → Y) (items : List X) → list_any test
    (map f items) ≡ list_any (λ item. test (f item)) items
any_mapped test f [] = refl
any_mapped test f (first ∷ later) = ap (λ rest. test (f first) || rest) (any_mapped test f later)

either_way : (one other : Bool) → (one || (other || false)) ≡ (other || one)
either_way true true = refl
either_way true false = refl
either_way false true = refl
either_way false false = refl

pub any_reversed : {X : Type 0} (test : X → Bool) (items : List X) → list_any test (reverse items) ≡ list_any test items
any_reversed test [] = refl
any_reversed test (first ∷ later) =
    ap (list_any test) (reverse-append (first ∷ []) later) ∙
    list_any-append test (reverse later) (first ∷ []) ∙
    ap (λ rest. rest || (test first || false)) (any_reversed test later) ∙
    either_way (list_any test later) (test first)
