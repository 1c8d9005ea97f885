-- Each request waits in the slot of its client.
use Rattle.std.proofs.Common.{◌≡◌, ℕ, zero, suc, ◌+◌, Bool, true, cond, List, [], ◌∷◌, set, replicate, Option, None, Some, inl, inr, refl, sym, ap, ◌∙◌, arith}
use Rattle.std.specs.Prelude.{slice_get, IfSome, unwrap_or}
use Rattle.std.proofs.lemmas.Bool.{and_parts, and_from, eq-eqb, eqb-true, cases_Bool}
use Rattle.std.proofs.lemmas.Option.{none-some, same_Some}
use Rattle.qu_base.specs.declared.party.ObjectId.{ObjectId}
use Rattle.qu_stamp.specs.declared.stamp.Stamp.{Stamp}
use Rattle.qu_waiting.specs.Waiting.{Waiting}
use Rattle.qu_waiting.specs.declared.next.Turn.{Turn}
use Rattle.qu_waiting.specs.Slots.{are_slots, lacks, first_waiting, next_slot, with_turn, AreSlots, TurnFits}

slots_with : (number place : ℕ) (slots : List (Option Waiting)) (slot : Option Waiting)
    → are_slots number slots ≡ true
    → IfSome slot (λ (waiting : Waiting). ((waiting.request).client).0 ≡ number + place)
    → are_slots number (set slots place slot) ≡ true
unfolding are_slots
slots_with number place [] slot all here = all
slots_with number zero (None ∷ later) None all here = all
slots_with number zero (None ∷ later) (Some waiting) all here =
    and_from _ _ (eq-eqb _ _ (here ∙ omega arith)) all
slots_with number zero (Some first ∷ later) None all here = (and_parts _ _ all).1
slots_with number zero (Some first ∷ later) (Some waiting) all here =
    and_from _ _ (eq-eqb _ _ (here ∙ omega arith)) (and_parts _ _ all).1
slots_with number (suc place) (None ∷ later) slot all here =
    slots_with (number + 1) place later slot all (moved slot here)
  where
    moved : (slot : Option Waiting) → IfSome slot (λ (waiting : Waiting). ((waiting.request).client).0
        ≡ number + suc place)
        → IfSome slot (λ (waiting : Waiting). ((waiting.request).client).0 ≡ (number + 1) + place)
    moved None is = tt
    moved (Some waiting) is = omega (arith, is)
slots_with number (suc place) (Some first ∷ later) slot all here =
    let parts = and_parts _ _ all in
    and_from _ _ parts.0 (slots_with (number + 1) place later slot parts.1 (moved slot here))
  where
    moved : (slot : Option Waiting) → IfSome slot (λ (waiting : Waiting). ((waiting.request).client).0
        ≡ number + suc place)
        → IfSome slot (λ (waiting : Waiting). ((waiting.request).client).0 ≡ (number + 1) + place)
    moved None is = tt
    moved (Some waiting) is = omega (arith, is)

-- the request that is found waits in the slot of its client
record IsAt (slots : List (Option Waiting)) (number : ℕ) (waiting : Waiting) : Type 0 where
  place : ℕ
  at : ((waiting.request).client).0 ≡ number + place
  holds_it : slice_get slots place ≡ Some (Some waiting)

lowest_at : (object : ObjectId) (stamp : Stamp) (number : ℕ) (slots : List (Option Waiting)) (waiting : Waiting)
    → are_slots number slots ≡ true → first_waiting object stamp slots ≡ Some waiting → IsAt slots number waiting
unfolding are_slots first_waiting
lowest_at object stamp number [] waiting all found = absurd (none-some waiting found)
lowest_at object stamp number (None ∷ later) waiting all found =
    let at : IsAt later (number + 1) waiting = lowest_at object stamp (number + 1) later waiting all found in
    record { place = suc at.place; at = omega (arith, at.at); holds_it = at.holds_it }
lowest_at object stamp number (Some first ∷ later) waiting all found =
    let parts = and_parts _ _ all in
    elim (cases_Bool (lacks object stamp first)) [
      | inl is ↦
          let same : first ≡ waiting = same_Some first waiting
          (sym (ap (λ (test : Bool). cond test (Some first) (first_waiting object stamp later)) is) ∙ found) in
          record {
            place = 0;
            at =
                let own : ((first.request).client).0 ≡ number = eqb-true _ _ parts.0 in
                let client : ((waiting.request).client).0 ≡ ((first.request).client).0 =
                ap (λ (it : Waiting). ((it.request).client).0) (sym same) in
                omega (arith, own, client);
            holds_it = ap (λ (it : Waiting). Some (Some it)) same;
          }
      | inr not ↦
          let at : IsAt later (number + 1) waiting = lowest_at object stamp (number + 1) later waiting parts.1
          (sym (ap (λ (test : Bool). cond test (Some first) (first_waiting object stamp later)) not) ∙ found) in
          record { place = suc at.place; at = omega (arith, at.at); holds_it = at.holds_it }
    ]

pub in_its_slot : (object : ObjectId) (stamp : Stamp) (slots : List (Option Waiting)) (waiting : Waiting)
    → AreSlots slots → first_waiting object stamp slots ≡ Some waiting
    → slice_get slots ((waiting.request).client).0 ≡ Some (Some waiting)
in_its_slot object stamp slots waiting all found =
    let at : IsAt slots 0 waiting = lowest_at object stamp 0 slots waiting all found in
    ap (slice_get slots) (at.at ∙ omega arith) ∙ at.holds_it

pub turned : (slots : List (Option Waiting)) (turn : Option Turn) → AreSlots slots → TurnFits slots turn
    → AreSlots (with_turn turn slots)
turned slots None all fits = all
turned slots (Some turn) all fits =
    let slot : Option Waiting = next_slot turn.next (unwrap_or (slice_get slots (turn.client).0) None) in
    slots_with 0 (turn.client).0 slots slot all (from_zero slot fits)
  where
    from_zero : (slot : Option Waiting)
        → IfSome slot (λ (waiting : Waiting). ((waiting.request).client).0 ≡ (turn.client).0)
        → IfSome slot (λ (waiting : Waiting). ((waiting.request).client).0 ≡ 0 + (turn.client).0)
    from_zero None is = tt
    from_zero (Some waiting) is = omega (arith, is)

pub set_over : {X : Type 0} (items : List X) (place : ℕ) (first last : X)
    → set (set items place first) place last ≡ set items place last
set_over [] place first last = refl
set_over (item ∷ items) zero first last = refl
set_over (item ∷ items) (suc place) first last = ap (λ (rest : List _). item ∷ rest) (set_over items place first last)

-- the slots begin empty
pub opening_slots : (number count : ℕ) → are_slots number (replicate count None) ≡ true
unfolding are_slots
opening_slots number zero = refl
opening_slots number (suc count) = opening_slots (number + 1) count
