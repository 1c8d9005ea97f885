-- What stands under a key once an item was put in, and that keys rise as before.
use Rattle.std.proofs.lemmas.Bool.{true≢false, false≢true}
use Rattle.std.proofs.Common.{◌≡◌, ℕ, ◌+◌, ◌<◌, ◌≤◌, ◌==◌, ◌⊎◌, inl, inr, Bool, true, false, cond, List, [], ◌∷◌, ◌++◌, length, None, Some, refl, ◌∙◌, arith}
use Rattle.std.specs.Prelude.{nat_lt, find, filter, ◌≢◌}
use Rattle.std.specs.Option.{option_or}
use Rattle.std.specs.List.{AllByRecursion}
use Rattle.std.proofs.lemmas.Bool.Decides.{nat_tests}
use Rattle.qu_base.proofs.EachItem.{each_append, each_kept}
use Rattle.qu_base.proofs.Items.{or_none}
use Rattle.qu_kept.specs.Keyed.{item_of, with_item, Rising}

-- ---- what is found in lists that were put together, and in parts of a list

found_append : {X : Type 0} (test : X → Bool) (front back : List X)
    → find test (front ++ back) ≡ option_or (find test front) (find test back)
found_append test [] back = refl
found_append test (item ∷ front) back =
    elim (test item)
    as (λ (passes : Bool). cond passes (Some item) (find test (front ++ back)) ≡ option_or
    (cond passes (Some item) (find test front)) (find test back)) [
      | true ↦ refl
      | false ↦ found_append test front back
    ]

module _ {X : Type 0} (key : X → ℕ) where
  -- where the part has all of this key
  within_step : (passes same : Bool) (wanted : ℕ) (item : X) (part all : List X) → (same ≡ true → passes ≡ true)
      → (key item == wanted) ≡ same → item_of key wanted part ≡ item_of key wanted all
      → item_of key wanted (cond passes (item ∷ part) part) ≡ cond same (Some item) (item_of key wanted all)
  within_step true true wanted item part all has is so_far = rw is refl
  within_step true false wanted item part all has is so_far = rw is so_far
  within_step false true wanted item part all has is so_far = absurd (false≢true (has refl))
  within_step false false wanted item part all has is so_far = so_far

  found_within : (passes : X → Bool) (wanted : ℕ)
      → ((item : X) → (key item == wanted) ≡ true → passes item ≡ true) → (items : List X)
      → item_of key wanted (filter passes items) ≡ item_of key wanted items
  found_within passes wanted has [] = refl
  found_within passes wanted has (item ∷ items) =
      within_step (passes item) (key item == wanted) wanted item (filter passes items) items (has item) refl
      (found_within passes wanted has items)

  -- where it has none
  without_step : (passes same : Bool) (wanted : ℕ) (item : X) (part : List X) → (same ≡ true → passes ≡ false)
      → (key item == wanted) ≡ same → item_of key wanted part ≡ None
      → item_of key wanted (cond passes (item ∷ part) part) ≡ None
  without_step true true wanted item part lacks is so_far = absurd (true≢false (lacks refl))
  without_step true false wanted item part lacks is so_far = rw is so_far
  without_step false same wanted item part lacks is so_far = so_far

  found_without : (passes : X → Bool) (wanted : ℕ)
      → ((item : X) → (key item == wanted) ≡ true → passes item ≡ false) → (items : List X)
      → item_of key wanted (filter passes items) ≡ None
  found_without passes wanted lacks [] = refl
  found_without passes wanted lacks (item ∷ items) =
      without_step (passes item) (key item == wanted) wanted item (filter passes items) (lacks item) refl
      (found_without passes wanted lacks items)

  -- ---- what is found once an item was put in

  pub own_item : (item : X) (items : List X) → item_of key (key item) (with_item key item items) ≡ Some item
  own_item item items =
      let front : List X = filter (λ other. nat_lt (key other) (key item)) items in
      let back : List X = filter (λ other. nat_lt (key item) (key other)) items in
      let none : item_of key (key item) front ≡ None =
      found_without (λ other. nat_lt (key other) (key item)) (key item) (λ other is. grind (arith, nat_tests)) items in
      let same : (key item == key item) ≡ true = grind (arith, nat_tests) in
      found_append (λ other. key other == key item) front (item ∷ back) ∙ (rw (none, same) refl)

  lower_item : (wanted : ℕ) (item : X) (items : List X) → wanted < key item
      → item_of key wanted (with_item key item items) ≡ item_of key wanted items
  lower_item wanted item items lower =
      let front : List X = filter (λ other. nat_lt (key other) (key item)) items in
      let back : List X = filter (λ other. nat_lt (key item) (key other)) items in
      let found : item_of key wanted front ≡ item_of key wanted items =
      found_within (λ other. nat_lt (key other) (key item)) wanted (λ other is. grind (arith, nat_tests)) items in
      let none : item_of key wanted back ≡ None =
      found_without (λ other. nat_lt (key item) (key other)) wanted (λ other is. grind (arith, nat_tests)) items in
      let differs : (key item == wanted) ≡ false = grind (arith, nat_tests) in
      found_append (λ other. key other == wanted) front (item ∷ back)
      ∙ (rw (found, differs, none) (or_none (item_of key wanted items)))

  higher_item : (wanted : ℕ) (item : X) (items : List X) → key item < wanted
      → item_of key wanted (with_item key item items) ≡ item_of key wanted items
  higher_item wanted item items higher =
      let front : List X = filter (λ other. nat_lt (key other) (key item)) items in
      let back : List X = filter (λ other. nat_lt (key item) (key other)) items in
      let none : item_of key wanted front ≡ None =
      found_without (λ other. nat_lt (key other) (key item)) wanted (λ other is. grind (arith, nat_tests)) items in
      let found : item_of key wanted back ≡ item_of key wanted items =
      found_within (λ other. nat_lt (key item) (key other)) wanted (λ other is. grind (arith, nat_tests)) items in
      let differs : (key item == wanted) ≡ false = grind (arith, nat_tests) in
      found_append (λ other. key other == wanted) front (item ∷ back) ∙ (rw (none, differs) found)

  below_or_above : (wanted at : ℕ) → wanted ≢ at → (wanted < at) ⊎ (at < wanted)
  below_or_above wanted at differs = grind (arith)

  by_side : (wanted : ℕ) (item : X) (items : List X) → (wanted < key item) ⊎ (key item < wanted)
      → item_of key wanted (with_item key item items) ≡ item_of key wanted items
  by_side wanted item items (inl lower) = lower_item wanted item items lower
  by_side wanted item items (inr higher) = higher_item wanted item items higher

  pub other_item : (wanted : ℕ) (item : X) (items : List X) → wanted ≢ key item
      → item_of key wanted (with_item key item items) ≡ item_of key wanted items
  other_item wanted item items differs = by_side wanted item items (below_or_above wanted (key item) differs)

-- ---- what holds of all items

passed_step : {X : Type 0} (P : X → Type 0) (test : Bool) (item : X) (part : List X) → (test ≡ true → P item)
    → AllByRecursion P part → AllByRecursion P (cond test (item ∷ part) part)
passed_step P true item part means so_far = (means refl, so_far)
passed_step P false item part means so_far = so_far

all_passed : {X : Type 0} (P : X → Type 0) (passes : X → Bool) → ((item : X) → passes item ≡ true → P item)
    → (items : List X) → AllByRecursion P (filter passes items)
all_passed P passes means [] = tt
all_passed P passes means (item ∷ items) =
    passed_step P (passes item) item (filter passes items) (means item) (all_passed P passes means items)

pub all_both : {X : Type 0} (P Q R : X → Type 0) → ((item : X) → P item → Q item → R item) → (items : List X)
    → AllByRecursion P items → AllByRecursion Q items → AllByRecursion R items
all_both P Q R means [] all others = tt
all_both P Q R means (item ∷ items) all others =
    (means item all.0 others.0, all_both P Q R means items all.1 others.1)

pub all_with : {X : Type 0} (key : X → ℕ) (P : X → Type 0) (item : X) (items : List X) → P item
    → AllByRecursion P items → AllByRecursion P (with_item key item items)
all_with key P item items holds all =
    each_append P _ _ (each_kept P (λ other. nat_lt (key other) (key item)) items all)
    (holds, each_kept P (λ other. nat_lt (key item) (key other)) items all)

-- ---- rising keys

rising_filtered : {X : Type 0} (key : X → ℕ) (passes : X → Bool) (items : List X) → Rising key items
    → Rising key (filter passes items)
unfolding Rising
rising_filtered key passes [] rising = tt
rising_filtered key passes (item ∷ items) rising =
    elim (passes item)
    as (λ (test : Bool). Rising key (cond test (item ∷ filter passes items) (filter passes items))) [
      | true ↦ (
        each_kept (λ other. key item < key other) passes items rising.0,
        rising_filtered key passes items rising.1,
      )
      | false ↦ rising_filtered key passes items rising.1
    ]

rising_append : {X : Type 0} (key : X → ℕ) (item : X) (front back : List X) → Rising key front
    → AllByRecursion (λ other. key other < key item) front → AllByRecursion (λ other. key item < key other) back
    → Rising key back → Rising key (front ++ item ∷ back)
unfolding Rising
rising_append key item [] back rising lower higher later = (higher, later)
rising_append key item (first ∷ front) back rising lower higher later = (
  each_append (λ other. key first < key other) front (item ∷ back) rising.0 (
    lower.0,
    all_both (λ other. key item < key other) (λ other. key item < key other) (λ other. key first < key other)
        (λ other above also. below_both (key first) (key item) (key other) lower.0 above) back higher higher,
  ),
  rising_append key item front back rising.1 lower.1 higher later,
)
  where
    below_both : (a b c : ℕ) → a < b → b < c → a < c
    below_both a b c lower higher = omega (arith)

pub rising_with : {X : Type 0} (key : X → ℕ) (item : X) (items : List X) → Rising key items
    → Rising key (with_item key item items)
rising_with key item items rising =
    rising_append key item _ _ (rising_filtered key (λ other. nat_lt (key other) (key item)) items rising)
    (all_passed (λ other. key other < key item) (λ other. nat_lt (key other) (key item))
    (λ other is. grind (arith, nat_tests)) items)
    (all_passed (λ other. key item < key other) (λ other. nat_lt (key item) (key other))
    (λ other is. grind (arith, nat_tests)) items)
    (rising_filtered key (λ other. nat_lt (key item) (key other)) items rising)

-- rising keys above the least and up to the most are not more than lie between
pub rising_within : {X : Type 0} (key : X → ℕ) (least most : ℕ) (items : List X) → least ≤ most → Rising key items
    → AllByRecursion (λ item. (least < key item) × (key item ≤ most)) items → least + length items ≤ most
unfolding Rising
rising_within key least most [] below rising within = omega (arith)
rising_within key least most (item ∷ items) below rising within =
    let later : key item + length items ≤ most =
    rising_within key (key item) most items (within.0).1 rising.1
    (all_both (λ other. key item < key other) (λ other. (least < key other) × (key other ≤ most))
    (λ other. (key item < key other) × (key other ≤ most)) (λ other above it. (above, it.1)) items rising.0 within.1) in
    let above : least < key item = (within.0).0 in
    omega (arith)
