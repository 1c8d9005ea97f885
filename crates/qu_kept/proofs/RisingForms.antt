-- A format that holds each item to the one before it, and the rising keys of the items.
use Rattle.std.proofs.Common.{◌≡◌, ℕ, ◌<◌, List, [], ◌∷◌, Option, None, Some, refl, subst, arith}
use Rattle.std.specs.List.{AllByRecursion}
use Rattle.std.proofs.lemmas.Option.{none-some, same_Some}
use Rattle.qu_base.specs.Format.{Format, FitsFrom}
use Rattle.qu_kept.specs.Keyed.{Rising}

-- the key of an item is the number of what the item is of
module _ {X K : Type 0} (number : K → ℕ) (of : X → K) where
  abbrev key : X → ℕ
  key item = number (of item)

  abbrev pub IsAbove : Option K → X → Type 0
  IsAbove before item = (it : K) → before ≡ Some it → number it < key item

  all_above : (it : K) (items : List X) → AllByRecursion (λ (other : X). number it < key other) items
      → AllByRecursion (IsAbove (Some it)) items
  all_above it [] all = tt
  all_above it (item ∷ later) all = (
    λ one is. subst (λ (what : K). number what < key item) (same_Some it one is) all.0,
    all_above it later all.1,
  )

  later_above : (low high : ℕ) (items : List X) → low < high
      → AllByRecursion (λ (other : X). high < key other) items
      → AllByRecursion (λ (other : X). low < key other) items
  later_above low high [] order all = tt
  later_above low high (item ∷ later) order all =
      let here : high < key item = all.0 in
      (omega (arith, here, order), later_above low high later order all.1)

  pub none_before : (items : List X) → AllByRecursion (IsAbove None) items
  none_before [] = tt
  none_before (item ∷ later) = (λ it is. absurd (none-some it is), none_before later)

  module _ (form : Option K → Format X) (P : X → Type 0) where
    -- what has the property, by rising keys, fits
    pub rising_fits : ((before : Option K) (item : X) → P item → IsAbove before item → (form before).Fits item)
        → (before : Option K) (items : List X) → AllByRecursion P items → Rising key items
        → AllByRecursion (IsAbove before) items → FitsFrom form (λ item. Some (of item)) before items
    unfolding Rising
    rising_fits fits before [] all rising above = tt
    rising_fits fits before (item ∷ later) all rising above = (
      fits before item all.0 above.0,
      rising_fits fits (Some (of item)) later all.1 rising.1 (all_above (of item) later rising.0),
    )

    -- and the other way round
    pub all_read : ((before : Option K) (item : X) → (form before).Fits item → P item)
        → (before : Option K) (items : List X) → FitsFrom form (λ item. Some (of item)) before items
        → AllByRecursion P items
    all_read reads before [] fits = tt
    all_read reads before (item ∷ later) fits =
        (reads before item fits.0, all_read reads (Some (of item)) later fits.1)

  module _ (form : Option K → Format X)
      (later_than : (before : Option K) (item : X) → (form before).Fits item → IsAbove before item) where
    all_later : (it : K) (items : List X) → FitsFrom form (λ item. Some (of item)) (Some it) items
        → AllByRecursion (λ (other : X). number it < key other) items
    all_later it [] fits = tt
    all_later it (item ∷ later) fits =
        let here : number it < key item = later_than (Some it) item fits.0 it refl in
        (here, later_above (number it) (key item) later here (all_later (of item) later fits.1))

    pub rising_read : (before : Option K) (items : List X) → FitsFrom form (λ item. Some (of item)) before items
        → Rising key items
    unfolding Rising
    rising_read before [] fits = tt
    rising_read before (item ∷ later) fits =
        (all_later (of item) later fits.1, rising_read (Some (of item)) later fits.1)
