-- Client and number tell an operation of a trace.
use Rattle.std.proofs.Common.{◌≡◌, ℕ, ◌<◌, List, length, get_or, sym, ap, subst, ◌∙◌, inl, inr}
use Rattle.std.specs.Prelude.{Contains}
use Rattle.std.specs.List.{AllPairs}
use Rattle.std.proofs.lemmas.Bool.{cases_order}
use Rattle.std.proofs.lemmas.List.{get_or_default}
use Rattle.qu_machine.specs.declared.record.OpRecord.{OpRecord}
use Rattle.qu_trace.specs.declared.trace.Trace.{Trace}
use Rattle.qu_trace.specs.Operation.{operations_of}
use Rattle.qu_points.specs.Points.{AreApart}
use Rattle.qu_points.proofs.Operations.Distinct.{operations_apart}

apart_in : (operations : List OpRecord) (first second : OpRecord) (i j : ℕ) → AllPairs AreApart operations → i < j
    → i < length operations → j < length operations → get_or operations i first ≡ first
    → get_or operations j second ≡ second → AreApart first second
apart_in operations first second i j apart order below_first below_second first_is second_is =
    let other : get_or operations j first ≡ second = get_or_default operations j first second below_second
    ∙ second_is in
    let pair : AreApart (get_or operations i first) (get_or operations j first) = apart i j first order below_second in
    subst (λ (it : OpRecord). AreApart it second) first_is
    (subst (λ (it : OpRecord). AreApart (get_or operations i first) it) other pair)

recorded_in : (operations : List OpRecord) (first second : OpRecord) → AllPairs AreApart operations
    → Contains operations first → Contains operations second → (first.client).0 ≡ (second.client).0
    → first.number ≡ second.number → first ≡ second
recorded_in operations first second apart one two same_client same_number =
    elim (cases_order one.0 two.0) [
      | inl same ↦
          let there : get_or operations one.0 second ≡ second =
          ap (λ (place : ℕ). get_or operations place second) same ∙ two.2 in
          sym one.2 ∙ get_or_default operations one.0 first second one.1 ∙ there
      | inr other ↦ elim other [
        | inl before ↦ absurd (apart_in operations first second one.0 two.0 apart before one.1 two.1 one.2 two.2
            same_client same_number)
        | inr after ↦ absurd (apart_in operations second first two.0 one.0 apart after two.1 one.1 two.2 one.2
            (sym same_client) (sym same_number))
      ]
    ]

-- two operations of a trace with one client and one number are the same
pub recorded_op : (trace : Trace) (first second : OpRecord) → Contains (operations_of trace) first
    → Contains (operations_of trace) second → (first.client).0 ≡ (second.client).0
    → first.number ≡ second.number → first ≡ second
recorded_op trace first second one two same_client same_number =
    recorded_in (operations_of trace) first second (operations_apart trace) one two same_client
    same_number
