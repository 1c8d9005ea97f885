-- The events of points in order rise, where no two points have one event.
use Rattle.std.proofs.Common.{◌≡◌, ℕ, zero, suc, ◌+◌, ◌<◌, ◌≤◌, true, IsTrue, List, [], ◌∷◌, length, get_or, map, inl, inr, sym, ap, subst, ◌∙◌, arith}
use Rattle.std.specs.Prelude.{Contains}
use Rattle.std.specs.declared.cmp.Ordering.{Ordering}
use Rattle.std.specs.Ordering.{nat_cmp, ordering_then, is_lt}
use Rattle.std.proofs.lemmas.Bool.{false≢true, cases_lt, and_parts}
use Rattle.std.proofs.lemmas.Bool.Decides.{nat_tests}
use Rattle.qu_machine.specs.declared.record.Point.{Point}
use Rattle.qu_machine.specs.Serial.{IsRising}
use Rattle.qu_claims.specs.Order.{is_earlier, are_in_order}
use Rattle.qu_points.proofs.Orders.Sorted.{contains_first, contains_later, is_earlier-self}

not_after : (first second : ℕ) (later : Ordering) → is_lt (ordering_then (nat_cmp first second) later) ≡ true
    → first ≤ second
not_after first second later before = grind (arith, nat_tests)

event_not_after : (first second : Point) → is_earlier first second ≡ true → first.event ≤ second.event
event_not_after first second earlier = not_after first.event second.event _ earlier

event_before : (first second : Point) → is_earlier first second ≡ true
    → (first.event ≡ second.event → first ≡ second) → first.event < second.event
event_before first second earlier one =
    let order : first.event ≤ second.event = event_not_after first second earlier in
    elim (cases_lt first.event second.event) [
      | inl before ↦ before
      | inr not_before ↦
          let same : first ≡ second = one (omega arith) in
          absurd (false≢true (sym (is_earlier-self first) ∙ ap (is_earlier first) same ∙ earlier))
    ]

pub rising_from_order : (order : List Point) → IsTrue (are_in_order order)
    → ((first second : Point) → Contains order first → Contains order second → first.event ≡ second.event
    → first ≡ second) → IsRising order
unfolding are_in_order
rising_from_order [] in_order one place within = absurd (omega arith)
rising_from_order (point ∷ []) in_order one place within = absurd (omega arith)
rising_from_order (first ∷ second ∷ later) in_order one zero within =
    event_before first second (and_parts _ _ in_order).0
    (one first second (contains_first first (second ∷ later))
    (contains_later first (second ∷ later) second (contains_first second later)))
rising_from_order (first ∷ second ∷ later) in_order one (suc place) within =
    let next : suc (place + 1) ≡ suc place + 1 = omega arith in
    let below : place + 1 < length (map (λ (point : Point). point.event) (second ∷ later)) = omega arith in
    let rest : IsRising (second ∷ later) = rising_from_order (second ∷ later) (and_parts _ _ in_order).1
    (λ one_point other held other_held. one one_point other (contains_later first (second ∷ later) one_point held)
    (contains_later first (second ∷ later) other other_held)) in
    subst (λ (at : ℕ). get_or (map (λ (point : Point). point.event) (second ∷ later)) place 0 < get_or
    (map (λ (point : Point). point.event) (first ∷ second ∷ later)) at 0) next (rest place below)
