-- What holds of the values along an order whose events rise, one time after another.
use Rattle.std.proofs.Common.{◌≡◌, ℕ, zero, suc, ◌+◌, ◌<◌, ◌≤◌, List, length, get_or, map, take, Some, inl, inr, refl, sym, ap, subst, ◌∙◌, arith}
use Rattle.std.specs.Prelude.{slice_get, Contains}
use Rattle.std.proofs.lemmas.Bool.{cases_lt}
use Rattle.std.proofs.lemmas.List.{get_or-map, length-map}
use Rattle.std.proofs.lemmas.List.Kept.{AllPairs-from_increasing}
use Rattle.std.proofs.lemmas.Option.{slice_get_cases, slice_get-get_or, slice_get_within, get_or_from_slice_get}
use Rattle.qu_base.specs.declared.party.ObjectId.{ObjectId}
use Rattle.qu_base.proofs.Items.{contains_at}
use Rattle.qu_objects.specs.declared.act.Method.{Method}
use Rattle.qu_objects.specs.declared.kind.KindName.{KindName}
use Rattle.qu_objects.specs.declared.kind.Value.{Value}
use Rattle.qu_objects.specs.declared.op.Op.{Op}
use Rattle.qu_objects.specs.declared.op.Op.TheVariants as op
use Rattle.qu_objects.specs.Kind.{fresh_value}
use Rattle.qu_machine.specs.declared.record.Point.{Point}
use Rattle.qu_machine.specs.Machine.{act_values}
use Rattle.qu_machine.specs.Serial.{IsRising, op_values, values_after}
use Rattle.qu_machine.proofs.Firsts.{at_contains, one_at}
use Rattle.qu_machine.proofs.Running.{values_none, values_more}

abbrev pub IsQuestion : Op → Type 0
IsQuestion (op.Act act) = ⊥
IsQuestion (op.Query query) = Unit {0}

-- ---- places and events

-- a later place has a later event
pub later_event : (order : List Point) → IsRising order → (early late : ℕ) (first second : Point)
    → slice_get order early ≡ Some first → slice_get order late ≡ Some second → early < late
    → first.event < second.event
later_event order rising early late first second at_early at_late before =
    let events : List ℕ = map (λ (point : Point). point.event) order in
    let size : length events ≡ length order = length-map order (λ (point : Point). point.event) in
    let within : late < length order = slice_get_within order late second at_late in
    let rises : get_or events early 0 < get_or events late 0 =
    AllPairs-from_increasing events rising early late 0 before (omega arith) in
    let one : get_or events early 0 ≡ first.event =
    get_or-map (λ (point : Point). point.event) order early first 0 (omega arith)
    ∙ ap (λ (point : Point). point.event) (get_or_from_slice_get order early first first at_early) in
    let two : get_or events late 0 ≡ second.event =
    get_or-map (λ (point : Point). point.event) order late second 0 within ∙ ap (λ (point : Point). point.event)
    (get_or_from_slice_get order late second second at_late) in
    omega arith

-- no two points have one event
pub one_event : (order : List Point) → IsRising order → (first second : Point) → Contains order first
    → Contains order second → first.event ≡ second.event → first ≡ second
one_event order rising first second held_first held_second same =
    let at_first : slice_get order held_first.0 ≡ Some first = at_contains order first held_first in
    let at_second : slice_get order held_second.0 ≡ Some second = at_contains order second held_second in
    elim (cases_lt held_first.0 held_second.0) [
      | inl before ↦
          let rises : first.event < second.event =
          later_event order rising held_first.0 held_second.0 first second at_first at_second before in
          absurd (omega arith)
      | inr not_before ↦ elim (cases_lt held_second.0 held_first.0) [
        | inl after ↦
            let rises : second.event < first.event =
            later_event order rising held_second.0 held_first.0 second first at_second at_first after in
            absurd (omega arith)
        | inr not_after ↦
            let place : held_second.0 ≡ held_first.0 = omega arith in
            one_at order held_first.0 first second at_first
            (subst (λ (at : ℕ). slice_get order at ≡ Some second) place at_second)
      ]
    ]

-- the points whose events are not after this time are so many, the first
record Reached (order : List Point) (time many : ℕ) : Type 0 where
  past : (at : ℕ) (point : Point) → slice_get order at ≡ Some point → at < many → point.event ≤ time
  coming : (at : ℕ) (point : Point) → slice_get order at ≡ Some point → many ≤ at → time < point.event

-- nothing is after the last point, and each of the earlier points was reached
reached_same : (order : List Point) (time many : ℕ) → Reached order time many
    → ((point : Point) → Contains order point → point.event ≡ suc time → ⊥) → Reached order (suc time) many
reached_same order time many reached none =
    record {
      past = λ at point there before.
          let not_after : point.event ≤ time = reached.past at point there before in
          omega arith;
      coming = λ at point there from.
          let after : time < point.event = reached.coming at point there from in
          elim (cases_lt (suc time) point.event) [
            | inl later ↦ later
            | inr not_later ↦ absurd (none point (contains_at order at point there) (omega arith))
          ];
    }

reached_more : (order : List Point) → IsRising order → (time many : ℕ) (point : Point) → Reached order time many
    → slice_get order many ≡ Some point → point.event ≡ suc time → Reached order (suc time) (many + 1)
reached_more order rising time many point reached here same =
    record {
      past = λ at other there before.
          elim (cases_lt at many) [
            | inl earlier ↦
                let not_after : other.event ≤ time = reached.past at other there earlier in
                omega arith
            | inr not_earlier ↦
                let place : at ≡ many = omega arith in
                let itself : other ≡ point =
                one_at order many other point
                (subst (λ (at : ℕ). slice_get order at ≡ Some other) place there) here in
                let event : other.event ≡ point.event = ap (λ (point : Point). point.event) itself in
                omega arith
          ];
      coming = λ at other there from.
          let rises : point.event < other.event =
          later_event order rising many at point other here there (omega arith) in
          omega arith;
    }

-- as many points were reached as stand before the next one
reached_at : (order : List Point) → IsRising order → (time many at : ℕ) (point : Point) → Reached order time many
    → slice_get order at ≡ Some point → point.event ≡ suc time → many ≡ at
reached_at order rising time many at point reached there same =
    elim (cases_lt at many) [
      | inl before ↦
          let not_after : point.event ≤ time = reached.past at point there before in
          absurd (omega arith)
      | inr from ↦ elim (cases_lt many at) [
        | inl after ↦
            let within : at < length order = slice_get_within order at point there in
            let other : Point = get_or order many point in
            let here : slice_get order many ≡ Some other = slice_get-get_or order many point (omega arith) in
            let coming : time < other.event = reached.coming many other here (omega arith) in
            let rises : other.event < point.event = later_event order rising many at other point here there after in
            absurd (omega arith)
        | inr not_after ↦ omega arith
      ]
    ]

-- ---- the values

module _ (kinds : List KindName) (order : List Point) (last : ℕ) (IsValues : ℕ → List Value → Type 0)
    (rising : IsRising order)
    (inside : (point : Point) → Contains order point → (1 ≤ point.event) × (point.event ≤ last))
    (start : IsValues 0 (map fresh_value kinds))
    (quiet : (time : ℕ) (values : List Value) → time < last → IsValues time values
    → ((point : Point) → Contains order point → point.event ≡ suc time → IsQuestion point.op)
    → IsValues (suc time) values)
    (loud : (time : ℕ) (values : List Value) (point : Point) (parts : List (ObjectId × Method)) → time < last
    → IsValues time values → Contains order point → point.event ≡ suc time → point.op ≡ op.Act parts
    → IsValues (suc time) (act_values values parts)) where
  -- the values after the point of the next event
  with_next : (time : ℕ) (values : List Value) (point : Point) (it : Op) → point.op ≡ it → time < last
      → IsValues time values → Contains order point → point.event ≡ suc time → IsValues (suc time) (op_values values it)
  with_next time values point (op.Act parts) is below held there same =
      loud time values point parts below held there same is
  with_next time values point (op.Query query) is below held there same =
      quiet time values below held (λ other other_there other_same.
      let itself : other ≡ point = one_event order rising other point other_there there (other_same ∙ sym same) in
      subst IsQuestion (sym (ap (λ (point : Point). point.op) itself ∙ is)) tt)

  at_next : (time many : ℕ) (point : Point) → slice_get order many ≡ Some point → time < last
      → IsValues time (values_after kinds (take many order)) → point.event ≡ suc time
      → IsValues (suc time) (values_after kinds (take (many + 1) order))
  at_next time many point here below held same =
      let more : values_after kinds (take (many + 1) order) ≡ op_values (values_after kinds (take many order))
      point.op =
      values_more kinds order many point (slice_get_within order many point here)
      ∙ ap (λ (it : Point). op_values (values_after kinds (take many order)) it.op)
      (get_or_from_slice_get order many point point here) in
      subst (IsValues (suc time)) (sym more)
      (with_next time (values_after kinds (take many order)) point point.op refl below held
      (contains_at order many point here) same)

  -- where no point has the next event
  stays : (time many : ℕ) → time < last → Reached order time many
      → IsValues time (values_after kinds (take many order))
      → ((point : Point) → Contains order point → point.event ≡ suc time → ⊥) → (many : ℕ)
      × Reached order (suc time) many × IsValues (suc time) (values_after kinds (take many order))
  stays time many below reached held none = (
    many,
    reached_same order time many reached none,
    quiet time (values_after kinds (take many order)) below
        held (λ point there same. absurd (none point there same)),
  )

  -- the next event is before that of the first point that is to come, if there is one
  none_yet : (time many : ℕ) → Reached order time many
      → ((point : Point) → slice_get order many ≡ Some point → suc time < point.event) → (point : Point)
      → Contains order point → point.event ≡ suc time → ⊥
  none_yet time many reached later point there same =
      let at_point : slice_get order there.0 ≡ Some point = at_contains order point there in
      let place : many ≡ there.0 = reached_at order rising time many there.0 point reached at_point same in
      let after : suc time < point.event =
      later point (subst (λ (at : ℕ). slice_get order at ≡ Some point) (sym place) at_point) in
      absurd (omega arith)

  goes_on : (time many : ℕ) → time < last → Reached order time many
      → IsValues time (values_after kinds (take many order)) → (many : ℕ) × Reached order (suc time) many
      × IsValues (suc time) (values_after kinds (take many order))
  goes_on time many below reached held =
      elim ((slice_get_cases order many).1) [
        | inl found ↦
            let point : Point = found.0 in
            let here : slice_get order many ≡ Some point = found.2 in
            let after : time < point.event = reached.coming many point here (omega arith) in
            elim (cases_lt (suc time) point.event) [
              | inl later ↦ stays time many below reached held (none_yet time many reached (λ other there.
                  subst (λ (it : Point). suc time < it.event) (one_at order many point other here there) later))
              | inr not_later ↦
                  let same : point.event ≡ suc time = omega arith in (
                    many + 1,
                    reached_more order rising time many point reached here same,
                    at_next time many point
                        here below held same,
                  )
            ]
        | inr past ↦ stays time many below reached held (none_yet time many reached (λ other there.
            let within : many < length order = slice_get_within order many other there in
            let beyond : length order ≤ many = past.0 in
            absurd (omega arith)))
      ]

  -- at each time, what holds of the values holds of those after the points so far
  at_each : (time : ℕ) → time ≤ last → (many : ℕ) × Reached order time many
      × IsValues time (values_after kinds (take many order))
  at_each zero below = (
    0,
    record {
      past = λ at point there before. absurd (omega arith);
      coming = λ at point there from.
          (let first : 1 ≤ point.event = (inside point (contains_at order at point there)).0 in omega arith);
    },
    subst (IsValues 0) (sym (values_none kinds order)) start,
  )
  at_each (suc time) below =
      let so_far = at_each time (omega arith) in
      goes_on time so_far.0 (omega arith) so_far.1 so_far.2

  -- it holds of the values that a point meets, at the time before its event
  pub fold_along : (at : ℕ) (point : Point) → slice_get order at ≡ Some point → (time : ℕ)
      → point.event ≡ suc time → IsValues time (values_after kinds (take at order))
  fold_along at point there time same =
      let within : point.event ≤ last = (inside point (contains_at order at point there)).1 in
      let so_far = at_each time (omega arith) in
      let place : so_far.0 ≡ at = reached_at order rising time so_far.0 at point so_far.1 there same in
      subst (λ (many : ℕ). IsValues time (values_after kinds (take many order))) place so_far.2
