-- What lists have, what is left of them, and what was found.
use Rattle.std.proofs.Common.{◌≡◌, ℕ, suc, ◌+◌, ◌-◌, ◌<◌, ◌≤◌, Bool, true, false, cond, List, [], ◌∷◌, length, Option, None, Some, refl, sym, ap, arith}
use Rattle.std.specs.Prelude.{slice_get, filter, Contains}
use Rattle.std.specs.List.{list_any, range_with_len}
use Rattle.std.specs.Option.{is_some, option_or}
use Rattle.std.proofs.lemmas.Bool.{false≢true}
use Rattle.std.proofs.lemmas.List.Elements.{Contains-append_right}
use Rattle.std.proofs.lemmas.List.Sums.{length-filter, count_by-le-length}
use Rattle.std.proofs.lemmas.List.Folds.{list_any-from_Any}
use Rattle.std.proofs.lemmas.Option.{none-some, slice_get_within, get_or_from_slice_get}

pub contains_at : {X : Type 0} (items : List X) (place : ℕ) (item : X) → slice_get items place ≡ Some item
    → Contains items item
contains_at items place item at =
    (place, slice_get_within items place item at, get_or_from_slice_get items place item item at)

pub later_contains : {X : Type 0} (first : X) (later : List X) (item : X) → Contains later item
    → Contains (first ∷ later) item
later_contains first later item held = Contains-append_right (first ∷ []) later item held

-- a test of an item that a list contains
pub any_contained : {X : Type 0} (test : X → Bool) (items : List X) (item : X) → Contains items item
    → test item ≡ true → list_any test items ≡ true
any_contained test items item held passes = list_any-from_Any test items (held.0, item, held.1, held.2, passes)

pub no_item : {X : Type 0} (item : X) (items : List X) → [] ≡ item ∷ items → ⊥
no_item item items same = omega (arith, ap length same)

-- the numbers from the one behind `earlier` up to `last` begin with that one
pub range_begins : (earlier last : ℕ) → earlier < last → range_with_len (earlier + 1) (last - earlier)
    ≡ (earlier + 1) ∷ range_with_len (earlier + 1 + 1) (last - (earlier + 1))
range_begins earlier last order = above (last - earlier) (last - (earlier + 1)) (omega arith)
  where
    above : (count fewer : ℕ) → count ≡ suc fewer
        → range_with_len (earlier + 1) count ≡ (earlier + 1) ∷ range_with_len (earlier + 1 + 1) fewer
    above count fewer one_more = ap (range_with_len (earlier + 1)) one_more

pub some_found : {X : Type 0} (found : Option X) → is_some found ≡ true → (item : X) × (found ≡ Some item)
some_found None some = absurd (false≢true some)
some_found (Some item) some = (item, refl)

pub not_first : {X : Type 0} (test : Bool) (item : X) (rest : Option X) → cond test (Some item) rest ≡ None
    → (test ≡ false) × (rest ≡ None)
not_first true item rest is = absurd (none-some item (sym is))
not_first false item rest is = (refl, is)

pub or_none : {X : Type 0} (found : Option X) → option_or found None ≡ found
or_none None = refl
or_none (Some item) = refl

pub few_left : {X : Type 0} (test : X → Bool) (items : List X) → length (filter test items) ≤ length items
few_left test items = omega (arith, length-filter test items, count_by-le-length test items)
