use Rattle.std.proofs.Common.{◌≡◌, ℕ, ◌+◌, ◌-◌, ◌<◌, ◌≤◌, List, get_or, length, map, subst, inl, inr, arith}
use Rattle.std.proofs.lemmas.Bool.{false≢true, cases_lt}
use Rattle.std.proofs.lemmas.List.{get_or-map, length-map}
use Rattle.qu_machine.specs.declared.record.Point.{Point}
use Rattle.qu_machine.specs.Serial.{IsRising}
use Rattle.qu_machine.proofs.judgeable.is_rising.Goals as goal

abbrev events : List Point → List ℕ
events order = map (λ point. point.event) order

event_of : (order : List Point) (place : ℕ) (default : Point) → place < length order
    → get_or (events order) place 0 ≡ (get_or order place default).event
event_of order place default below = get_or-map (λ (it : Point). it.event) order place default 0 below

not_rising : (order : List Point) (index : ℕ) (first second : Point) → 1 ≤ index → index < length order
    → (get_or order index second).event ≤ (get_or order (index - 1) first).event → IsRising order → ⊥
not_rising order index first second above below falls rising =
    let size : length (events order) ≡ length order = length-map order (λ (it : Point). it.event) in
    let next : index - 1 + 1 ≡ index = omega arith in
    let rises : get_or (events order) (index - 1) 0 < get_or (events order) (index - 1 + 1) 0 =
    rising (index - 1) (omega arith) in
    let to : get_or (events order) (index - 1) 0 < get_or (events order) index 0 =
    subst (λ (at : ℕ). get_or (events order) (index - 1) 0 < get_or (events order) at 0) next rises in
    let one : get_or (events order) (index - 1) 0 ≡ (get_or order (index - 1) first).event =
    event_of order (index - 1) first (omega arith) in
    let two : get_or (events order) index 0 ≡ (get_or order index second).event = event_of order index second below in
    absurd (omega arith)

rises_here : (order : List Point) (index place : ℕ) (first second : Point) → index < length order
    → (get_or order (index - 1) first).event < (get_or order index second).event → place + 1 ≡ index
    → get_or (events order) place 0 < get_or (events order) (place + 1) 0
rises_here order index place first second below rises same =
    let before : place ≡ index - 1 = omega arith in
    let one : get_or (events order) (index - 1) 0 ≡ (get_or order (index - 1) first).event =
    event_of order (index - 1) first (omega arith) in
    let two : get_or (events order) index 0 ≡ (get_or order index second).event = event_of order index second below in
    let to : get_or (events order) (index - 1) 0 < get_or (events order) index 0 = omega arith in
    rw (same, before) to

rises_more : (order : List Point) (index : ℕ) (first second : Point) → index < length order
    → (get_or order (index - 1) first).event < (get_or order index second).event
    → ((place : ℕ) → place + 1 < index → get_or (events order) place 0 < get_or (events order) (place + 1) 0)
    → (place : ℕ) → place + 1 < index + 1 → get_or (events order) place 0 < get_or (events order) (place + 1) 0
rises_more order index first second below rises so_far place within =
    elim (cases_lt (place + 1) index) [
      | inl earlier ↦ so_far place earlier
      | inr last ↦ rises_here order index place first second below rises (omega arith)
    ]

pub returns-then-order-index : goal.returns-then-order-index
returns-then-order-index c = (
  λ never. absurd (false≢true never),
  λ rising. absurd
      (not_rising c.args.order.now c.loop-index.index c.index-order-index.result
      c.index-order-index-in-loop-index.result
      (omega arith) (omega arith) c.if-order-index.true rising),
)

pub loop-index-preserved : goal.loop-index-preserved
loop-index-preserved c =
    rises_more c.args.order.now c.loop-index.index c.index-order-index.result c.index-order-index-in-loop-index.result
    c.loop-index-test.true c.if-order-index.false c.loop-index.invariant
