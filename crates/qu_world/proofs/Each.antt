-- What holds of each item of a list, and where an item stands in it.
use Rattle.std.proofs.Common.{◌≡◌, ◌≢◌, ◌⊎◌, ℕ, zero, suc, ◌<◌, List, [], ◌∷◌, length, get_or, Some, refl, sym, ap, subst, arith, inl, inr}
use Rattle.std.specs.Prelude.{slice_get, slice_set}
use Rattle.std.specs.List.{AllByRecursion}
use Rattle.std.proofs.lemmas.Option.{none-some, same_Some}
use Rattle.qu_world.specs.State.{numbered, with_numbered}

pub each_set : {X : Type 0} (P : X → Type 0) (items : List X) (place : ℕ) (new : X) → AllByRecursion P items
    → P new → AllByRecursion P (slice_set items place new)
each_set P [] place new each here = each
each_set P (item ∷ later) zero new each here = (here, each.1)
each_set P (item ∷ later) (suc place) new each here = (each.0, each_set P later place new each.1 here)

pub each_found : {X : Type 0} (P : X → Type 0) (items : List X) (place : ℕ) (item : X) → AllByRecursion P items
    → slice_get items place ≡ Some item → P item
each_found P [] place item each found = absurd (none-some item found)
each_found P (first ∷ later) zero item each found = subst P (same_Some first item found) each.0
each_found P (first ∷ later) (suc place) item each found = each_found P later place item each.1 found

pub each_at : {X : Type 0} (P : X → Type 0) (items : List X) (place : ℕ) (default : X) → AllByRecursion P items
    → place < length items → P (get_or items place default)
each_at P [] place default each below = absurd (omega arith)
each_at P (first ∷ later) zero default each below = each.0
each_at P (first ∷ later) (suc place) default each below = each_at P later place default each.1 (omega arith)

pub each_with_numbered : {X : Type 0} (P : X → Type 0) (items : List X) (number : ℕ) (new : X)
    → AllByRecursion P items → P new → AllByRecursion P (with_numbered items number new)
each_with_numbered P items zero new each here = each
each_with_numbered P items (suc place) new each here = each_set P items place new each here

pub each_numbered : {X : Type 0} (P : X → Type 0) (items : List X) (number : ℕ) (item : X)
    → AllByRecursion P items → numbered items number ≡ Some item → P item
each_numbered P items zero item each found = absurd (none-some item found)
each_numbered P items (suc place) item each found = each_found P items place item each found

-- what stands in a list with one item replaced
pub set_cases : {X : Type 0} (items : List X) (place index : ℕ) (new found : X)
    → slice_get (slice_set items place new) index ≡ Some found → ((index ≡ place) × (found ≡ new))
    ⊎ ((index ≢ place) × (slice_get items index ≡ Some found))
set_cases [] place index new found is = absurd (none-some found is)
set_cases (first ∷ later) zero zero new found is = inl (refl, sym (same_Some new found is))
set_cases (first ∷ later) zero (suc index) new found is = inr ((λ same. omega arith), is)
set_cases (first ∷ later) (suc place) zero new found is = inr ((λ same. omega arith), is)
set_cases (first ∷ later) (suc place) (suc index) new found is =
    elim (set_cases later place index new found is) [
      | inl here ↦ inl (ap suc here.0, here.1)
      | inr other ↦ inr ((λ same. other.0 (omega arith)), other.1)
    ]

pub with_cases : {X : Type 0} (items : List X) (place number : ℕ) (new found : X)
    → numbered (with_numbered items place new) number ≡ Some found → ((number ≡ place) × (found ≡ new))
    ⊎ ((number ≢ place) × (numbered items number ≡ Some found))
with_cases items place zero new found is = absurd (none-some found is)
with_cases items zero (suc index) new found is = inr ((λ same. omega arith), is)
with_cases items (suc place) (suc index) new found is =
    elim (set_cases items place index new found is) [
      | inl here ↦ inl (ap suc here.0, here.1)
      | inr other ↦ inr ((λ same. other.0 (omega arith)), other.1)
    ]

pub set_here : {X : Type 0} (items : List X) (place : ℕ) (old new : X) → slice_get items place ≡ Some old
    → slice_get (slice_set items place new) place ≡ Some new
set_here [] place old new found = absurd (none-some old found)
set_here (item ∷ later) zero old new found = refl
set_here (item ∷ later) (suc place) old new found = set_here later place old new found

pub set_other : {X : Type 0} (items : List X) (place other : ℕ) (new : X) → (other ≡ place → ⊥)
    → slice_get (slice_set items place new) other ≡ slice_get items other
set_other [] place other new apart = refl
set_other (item ∷ later) zero zero new apart = absurd (apart refl)
set_other (item ∷ later) zero (suc other) new apart = refl
set_other (item ∷ later) (suc place) zero new apart = refl
set_other (item ∷ later) (suc place) (suc other) new apart =
    set_other later place other new (λ same. apart (ap suc same))

-- and so under a number
pub numbered_here : {X : Type 0} (items : List X) (number : ℕ) (old new : X) → numbered items number ≡ Some old
    → numbered (with_numbered items number new) number ≡ Some new
numbered_here items zero old new found = absurd (none-some old found)
numbered_here items (suc place) old new found = set_here items place old new found
