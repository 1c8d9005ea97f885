-- Points in order: another one goes to its place, and two lists in order with the same members are equal.
use Rattle.std.proofs.Common.{◌≡◌, ◌⊎◌, zero, suc, ◌<◌, true, false, not, List, [], ◌∷◌, ◌++◌, length, take, drop, refl, sym, ap, subst, ◌∙◌, arith, inl, inr}
use Rattle.std.proofs.Math.Numerals.{one-add}
use Rattle.std.specs.Prelude.{Contains}
use Rattle.std.specs.List.{position_or_len}
use Rattle.std.proofs.lemmas.Bool.{false≢true, cases_Bool, and_parts, and_from}
use Rattle.std.specs.declared.cmp.Ordering.{Ordering}
use Rattle.std.specs.declared.cmp.Ordering.TheVariants.{Less, Equal, Greater}
use Rattle.std.specs.Ordering.{nat_cmp, ordering_reverse, is_lt}
use Rattle.std.specs.Cmp.{IsTotalOrder}
use Rattle.std.specs.Cmp.Lexicographic.{slice_cmp}
use Rattle.std.proofs.lemmas.Cmp.{nat_cmp_total, nat_list_cmp_total, on_total, then_total, tied_itself}
use Rattle.std.proofs.lemmas.Map.Lookups.{exact_unsigned, exact_bytes}
use Rattle.qu_stamp.proofs.Below.{is_Less, both_equal}
use Rattle.qu_machine.specs.declared.record.Point.{Point}
use Rattle.qu_claims.specs.Order.{op_bytes, point_cmp, is_earlier, are_in_order}
use Rattle.qu_points.specs.Points.{with_point}

-- ---- the order of two points

abbrev asked_cmp : Point → Point → Ordering
asked_cmp a b = slice_cmp nat_cmp (op_bytes a.op) (op_bytes b.op)

points_total : IsTotalOrder point_cmp
points_total =
    then_total (on_total (λ (point : Point). point.event) nat_cmp_total)
    (then_total (on_total (λ (point : Point). (point.client).0) nat_cmp_total)
    (then_total (on_total (λ (point : Point). point.number) nat_cmp_total)
    (on_total (λ (point : Point). op_bytes point.op) nat_list_cmp_total)))

pub is_earlier-self : (a : Point) → is_earlier a a ≡ false
is_earlier-self a = ap is_lt (tied_itself points_total a)

pub is_earlier-chain : (a b c : Point) → is_earlier a b ≡ true → is_earlier b c ≡ true → is_earlier a c ≡ true
is_earlier-chain a b c ab bc =
    ap is_lt (points_total.trans a b c (is_Less (point_cmp a b) ab) (is_Less (point_cmp b c) bc))

-- neither is earlier
level : (order : Ordering) → is_lt order ≡ false → is_lt (ordering_reverse order) ≡ false → order ≡ Equal
level Less one two = absurd (false≢true (sym one))
level Equal one two = refl
level Greater one two = absurd (false≢true (sym two))

-- two points that differ in client, number or what is asked for are one before the other
pub is_earlier-other : (a b : Point) → is_earlier a b ≡ false
    → ((a.client).0 ≡ (b.client).0 → a.number ≡ b.number → op_bytes a.op ≡ op_bytes b.op → ⊥)
    → is_earlier b a ≡ true
is_earlier-other a b not_before apart =
    elim (cases_Bool (is_earlier b a)) [
      | inl before ↦ before
      | inr not_after ↦
          let same : point_cmp a b ≡ Equal =
          level (point_cmp a b) not_before (ap is_lt (sym (points_total.antisymm b a)) ∙ not_after) in
          let event : _ = both_equal (nat_cmp a.event b.event) _ same in
          let client : _ = both_equal (nat_cmp (a.client).0 (b.client).0) _ event.1 in
          let number : _ = both_equal (nat_cmp a.number b.number) (asked_cmp a b) client.1 in
          absurd (apart (exact_unsigned (a.client).0 (b.client).0 client.0)
          (exact_unsigned a.number b.number number.0) (exact_bytes (op_bytes a.op) (op_bytes b.op) number.1))
    ]

-- ---- membership

contains_cases : (first : Point) (later : List Point) (point : Point) → Contains (first ∷ later) point
    → (first ≡ point) ⊎ Contains later point
contains_cases first later point (zero, below, at) = inl at
contains_cases first later point (suc place, below, at) = inr (place, omega arith, at)

pub contains_first : (first : Point) (later : List Point) → Contains (first ∷ later) first
contains_first first later = (0, omega arith, refl)

pub contains_later : (first : Point) (later : List Point) (point : Point) → Contains later point
    → Contains (first ∷ later) point
contains_later first later point held =
    let below : held.0 < length later = held.1 in
    (suc held.0, omega arith, held.2)

contains_none : (point : Point) → Contains [] point → ⊥
contains_none point held =
    let below : held.0 < 0 = held.1 in
    absurd (omega arith)

-- ---- a point in its place

pub contains_with_point : (point : Point) (points : List Point) (other : Point)
    → Contains (with_point point points) other → (point ≡ other) ⊎ Contains points other
unfolding with_point
contains_with_point point [] other held = contains_cases point [] other held
contains_with_point point (first ∷ later) other held =
    elim (cases_Bool (is_earlier first point)) [
      | inl before ↦
          elim (contains_cases first (with_point point later) other (rw before at held)) [
            | inl is ↦ inr (subst (λ (it : Point). Contains (first ∷ later) it) is (contains_first first later))
            | inr there ↦ elim (contains_with_point point later other there) [
              | inl is ↦ inl is
              | inr below ↦ inr (contains_later first later other below)
            ]
          ]
      | inr after ↦ contains_cases point (first ∷ later) other (rw after at held)
    ]

pub with_point_contains : (point : Point) (points : List Point) → Contains (with_point point points) point
unfolding with_point
with_point_contains point [] = contains_first point []
with_point_contains point (first ∷ later) =
    elim (cases_Bool (is_earlier first point)) [
      | inl before ↦ rw before (contains_later first (with_point point later) point (with_point_contains point later))
      | inr after ↦ rw after (contains_first point (first ∷ later))
    ]

pub with_point_keeps : (point : Point) (points : List Point) (other : Point) → Contains points other
    → Contains (with_point point points) other
unfolding with_point
with_point_keeps point [] other held = absurd (contains_none other held)
with_point_keeps point (first ∷ later) other held =
    elim (cases_Bool (is_earlier first point)) [
      | inl before ↦ rw before (elim (contains_cases first later other held) [
        | inl is ↦ subst (λ (it : Point). Contains (first ∷ with_point point later) it) is
            (contains_first first (with_point point later))
        | inr there ↦ contains_later first (with_point point later) other (with_point_keeps point later other there)
      ])
      | inr after ↦ rw after (contains_later point (first ∷ later) other held)
    ]

pub in_order_parts : (first second : Point) (later : List Point) → are_in_order (first ∷ second ∷ later) ≡ true
    → (is_earlier first second ≡ true) × (are_in_order (second ∷ later) ≡ true)
unfolding are_in_order
in_order_parts first second later order = and_parts _ _ order

pub in_order_tail : (first : Point) (later : List Point) → are_in_order (first ∷ later) ≡ true
    → are_in_order later ≡ true
unfolding are_in_order
in_order_tail first [] order = refl
in_order_tail first (second ∷ later) order = (in_order_parts first second later order).1

-- the first of a list that begins with what is after this one
in_order_below : (first point : Point) (later : List Point) → is_earlier first point ≡ true
    → are_in_order (first ∷ later) ≡ true → are_in_order (with_point point later) ≡ true
    → are_in_order (first ∷ with_point point later) ≡ true
unfolding with_point are_in_order
in_order_below first point [] before order rest = and_from _ _ before refl
in_order_below first point (second ∷ later) before order rest =
    elim (cases_Bool (is_earlier second point)) [
      | inl earlier ↦ rw earlier (and_from _ _ (in_order_parts first second later order).0 (rw earlier at rest))
      | inr after ↦ rw after (and_from _ _ before (rw after at rest))
    ]

pub in_order-with_point : (point : Point) (points : List Point) → are_in_order points ≡ true
    → ((other : Point) → Contains points other → is_earlier other point ≡ false → is_earlier point other ≡ true)
    → are_in_order (with_point point points) ≡ true
unfolding with_point are_in_order
in_order-with_point point [] order apart = refl
in_order-with_point point (first ∷ later) order apart =
    elim (cases_Bool (is_earlier first point)) [
      | inl before ↦ rw before (in_order_below first point later before order
          (in_order-with_point point later (in_order_tail first later order)
          (λ other held. apart other (contains_later first later other held))))
      | inr after ↦ rw after (and_from _ _ (apart first (contains_first first later) after) order)
    ]

-- the place of a point, as the code finds it
pub with_point-place : (point : Point) (points : List Point) → with_point point points ≡ take
    (position_or_len (λ first. not (is_earlier first point)) points) points ++ point ∷ drop
    (position_or_len (λ first. not (is_earlier first point)) points) points
unfolding with_point
with_point-place point [] = refl
with_point-place point (first ∷ later) =
    elim (cases_Bool (is_earlier first point)) [
      | inl before ↦ rw (before, one-add) (ap (λ (points : List Point). first ∷ points) (with_point-place point later))
      | inr after ↦ rw after refl
    ]
