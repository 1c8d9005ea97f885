-- Each operation of a trace begins at an event of it, and of one client, what began earlier has a lower number.
use Rattle.std.proofs.Common.{◌≡◌, ℕ, zero, suc, ◌+◌, ◌<◌, ◌≤◌, Bool, true, false, cond, List, [], ◌∷◌, ◌++◌, length, take, drop, get_or, Some, refl, sym, ap, subst, ◌∙◌, arith, inl, inr}
use Rattle.std.specs.Prelude.{slice_get, Contains}
use Rattle.std.specs.List.{All, AllPairs}
use Rattle.std.proofs.lemmas.Bool.{eq-eqb, cases_order}
use Rattle.std.proofs.lemmas.List.{append_assoc, get_or_default, length-append, take_at}
use Rattle.std.proofs.lemmas.List.Elements.{All-nil, All-cons, All-weaker, All-contains}
use Rattle.std.proofs.lemmas.List.Sums.{sum_by_push}
use Rattle.std.proofs.lemmas.Option.{slice_get_within}
use Rattle.std.proofs.Math.Seq.{drop-append_seam}
use Rattle.qu_base.specs.declared.party.ClientId.{ClientId}
use Rattle.qu_base.specs.declared.party.Party.TheVariants as party
use Rattle.qu_objects.specs.declared.op.Op.{Op}
use Rattle.qu_machine.specs.declared.record.OpRecord.{OpRecord}
use Rattle.qu_trace.specs.declared.event.Event.{Event}
use Rattle.qu_trace.specs.declared.event.Event.TheVariants.{Invoke, Deliver, Tick, Inject}
use Rattle.qu_trace.specs.declared.trace.Entry.{Entry}
use Rattle.qu_trace.specs.declared.trace.Setup.{Setup}
use Rattle.qu_trace.specs.declared.trace.Trace.{Trace}
use Rattle.qu_trace.specs.Faulty.{is_faulty}
use Rattle.qu_trace.specs.Operation.{invokes, begun_by, record_of, begins_at, operations_from, operations_of}
use Rattle.qu_trace.proofs.LetterLaws.{slice_get-append_right}

-- the operation begins at the event of an entry of these, and ends at the first later one that tells of its end
pub record IsBegunIn (entries : List Entry) (operation : OpRecord) : Type 0 where
  pub index : ℕ
  pub entry : Entry
  pub is_entry : slice_get entries index ≡ Some entry
  pub event_is : entry.event ≡ Invoke operation.client operation.op
  pub record_is : operation
      ≡ record_of operation.client operation.op (index + 1) (take index entries) (drop index entries)

-- an operation that began after these entries, at this event or later, has a later number than all of its client there
record IsLater (entries earlier : List Entry) (at : ℕ) (operation : OpRecord) : Type 0 where
  number : begun_by operation.client earlier < operation.number
  invoked : at ≤ operation.invoked
  begun : IsBegunIn entries operation

-- the first began before the second, and has a lower number where both are of one client
pub record InOrder (first second : OpRecord) : Type 0 where
  pub invoked : first.invoked < second.invoked
  pub number : first.client ≡ second.client → first.number < second.number

abbrev begins : ClientId → Event → ℕ
begins client event = cond (invokes client event) 1 0

begun_more : (client : ClientId) (earlier : List Entry) (entry : Entry)
    → begun_by client (earlier ++ entry ∷ []) ≡ begun_by client earlier + begins client entry.event
unfolding begun_by
begun_more client earlier entry = sum_by_push (λ (it : Entry). cond (invokes client it.event) 1 0) earlier entry

pairs_cons : (R : OpRecord → OpRecord → Type 0) (first : OpRecord) (later : List OpRecord) → All (R first) later
    → AllPairs R later → AllPairs R (first ∷ later)
pairs_cons R first later here rest zero zero default order below = absurd (omega arith)
pairs_cons R first later here rest zero (suc j) default order below = here j default (omega arith)
pairs_cons R first later here rest (suc i) zero default order below = absurd (omega arith)
pairs_cons R first later here rest (suc i) (suc j) default order below = rest i j default (omega arith) (omega arith)

record AreOperations (entries earlier : List Entry) (at : ℕ) (operations : List OpRecord) : Type 0 where
  later : All (IsLater entries earlier at) operations
  in_order : AllPairs InOrder operations

module _ (setup : Setup) (entries earlier : List Entry) (entry : Entry) (later : List Entry) (at : ℕ)
    (whole : entries ≡ earlier ++ entry ∷ later) (here : at ≡ length earlier + 1) where
  later_still : (operation : OpRecord) → IsLater entries (earlier ++ entry ∷ []) (at + 1) operation
      → IsLater entries earlier at operation
  later_still operation after =
      let more : begun_by operation.client (earlier ++ entry ∷ [])
      ≡ begun_by operation.client earlier + begins operation.client entry.event =
      begun_more operation.client earlier entry in
      let number : begun_by operation.client (earlier ++ entry ∷ []) < operation.number = after.number in
      let invoked : at + 1 ≤ operation.invoked = after.invoked in
      record { number = omega arith; invoked = omega arith; begun = after.begun }

  operations_next : (operations : List OpRecord) → AreOperations entries (earlier ++ entry ∷ []) (at + 1) operations
      → AreOperations entries earlier at operations
  operations_next operations are = record {
    later = All-weaker (IsLater entries (earlier ++ entry ∷ []) (at + 1)) (IsLater entries earlier at) later_still
        operations are.later;
    in_order = are.in_order;
  }

  module _ (client : ClientId) (op : Op) (is : entry.event ≡ Invoke client op) where
    abbrev began : OpRecord
    began = record_of client op at earlier (entry ∷ later)

    -- the operation that begins here is before those that begin later
    before_later : (second : OpRecord) → IsLater entries (earlier ++ entry ∷ []) (at + 1) second
        → InOrder began second
    before_later second after =
        let invoked : at + 1 ≤ second.invoked = after.invoked in
        record {
          invoked = omega arith;
          number = λ same.
              let counted : begins client entry.event ≡ 1 =
              ap (begins client) is ∙ ap (λ (it : Bool). cond it 1 0) (eq-eqb client.0 client.0 refl) in
              let more : begun_by client (earlier ++ entry ∷ [])
              ≡ begun_by client earlier + begins client entry.event =
              begun_more client earlier entry in
              let here : begun_by client (earlier ++ entry ∷ []) < second.number =
              subst (λ (who : ClientId). begun_by who (earlier ++ entry ∷ []) < second.number)
              (sym same) after.number in
              omega arith;
        }

    begins_here : IsBegunIn entries began
    begins_here =
        let place : length earlier ≡ length earlier + 0 = omega arith in
        let front : take (length earlier) entries ≡ earlier =
        ap (take (length earlier)) whole ∙ take_at earlier (entry ∷ later) (length earlier) refl in
        let rest : drop (length earlier) entries ≡ entry ∷ later =
        ap (drop (length earlier)) whole ∙ drop-append_seam earlier (entry ∷ later) in
        record {
          index = length earlier;
          entry = entry;
          is_entry = ap (λ (it : List Entry). slice_get it (length earlier)) whole
              ∙ slice_get-append_right earlier (entry ∷ later) (length earlier) 0 place;
          event_is = is;
          record_is = λ i. record_of client op (here i) (sym front i) (sym rest i);
        }

    operation_begins : (operations : List OpRecord) → AreOperations entries (earlier ++ entry ∷ []) (at + 1) operations
        → AreOperations entries earlier at (began ∷ operations)
    operation_begins operations are = record {
      later = All-cons (IsLater entries earlier at) began operations
          (record { number = omega arith; invoked = omega arith; begun = begins_here })
          (operations_next operations are).later;
      in_order = pairs_cons InOrder began operations
          (All-weaker (IsLater entries (earlier ++ entry ∷ []) (at + 1)) (InOrder began) before_later operations
          are.later) are.in_order;
    }

    by_faulty : (faulty : Bool) (operations : List OpRecord)
        → AreOperations entries (earlier ++ entry ∷ []) (at + 1) operations
        → AreOperations entries earlier at (cond faulty [] (began ∷ []) ++ operations)
    by_faulty true operations are = operations_next operations are
    by_faulty false operations are = operation_begins operations are

  operations_begin : (event : Event) (operations : List OpRecord) → entry.event ≡ event
      → AreOperations entries (earlier ++ entry ∷ []) (at + 1) operations
      → AreOperations entries earlier at (begins_at setup event at earlier (entry ∷ later) ++ operations)
  operations_begin (Invoke client op) operations is are =
      by_faulty client op is (is_faulty setup (party.Client client)) operations are
  operations_begin (Deliver letter) operations is are = operations_next operations are
  operations_begin (Tick client) operations is are = operations_next operations are
  operations_begin (Inject to text) operations is are = operations_next operations are

are_operations : (setup : Setup) (entries earlier : List Entry) (at : ℕ) (later : List Entry)
    → entries ≡ earlier ++ later → at ≡ length earlier + 1
    → AreOperations entries earlier at (operations_from setup earlier at later)
unfolding operations_from
are_operations setup entries earlier at [] whole here =
    record { later = All-nil (IsLater entries earlier at); in_order = λ i j default order below. absurd (omega arith) }
are_operations setup entries earlier at (entry ∷ later) whole here =
    operations_begin setup entries earlier entry later at whole here entry.event
    (operations_from setup (earlier ++ entry ∷ []) (at + 1) later) refl
    (are_operations setup entries (earlier ++ entry ∷ []) (at + 1) later
    (whole ∙ sym (append_assoc earlier (entry ∷ []) later))
    (omega (arith, here, length-append earlier (entry ∷ []))))

-- ---- operations of a trace

in_order_at : (operations : List OpRecord) (first second : OpRecord) (i j : ℕ) → AllPairs InOrder operations → i < j
    → j < length operations → get_or operations i first ≡ first → get_or operations j second ≡ second
    → InOrder first second
in_order_at operations first second i j pairs order below first_is second_is =
    let other : get_or operations j first ≡ second = get_or_default operations j first second below ∙ second_is in
    subst (λ (it : OpRecord). InOrder it second) first_is
    (subst (λ (it : OpRecord). InOrder (get_or operations i first) it) other (pairs i j first order below))

lower_in : (operations : List OpRecord) (first second : OpRecord) → AllPairs InOrder operations
    → Contains operations first → Contains operations second → first.client ≡ second.client
    → first.invoked < second.invoked → first.number < second.number
lower_in operations first second pairs one two client before =
    elim (cases_order one.0 two.0) [
      | inl same ↦
          let there : get_or operations one.0 second ≡ second =
          ap (λ (place : ℕ). get_or operations place second) same ∙ two.2 in
          let records : first ≡ second = sym one.2 ∙ get_or_default operations one.0 first second one.1 ∙ there in
          let invoked : first.invoked ≡ second.invoked = ap (λ (it : OpRecord). it.invoked) records in
          absurd (omega arith)
      | inr other ↦ elim other [
        | inl sooner ↦ (in_order_at operations first second one.0 two.0 pairs sooner two.1 one.2 two.2).number client
        | inr later ↦
            let back : InOrder second first =
            in_order_at operations second first two.0 one.0 pairs later one.1 two.2 one.2 in
            let after : second.invoked < first.invoked = back.invoked in
            absurd (omega arith)
      ]
    ]

abbrev all_of : (trace : Trace) → AreOperations trace.entries [] 1 (operations_of trace)
all_of trace = are_operations trace.setup trace.entries [] 1 trace.entries refl refl

pub operations_in_order : (trace : Trace) → AllPairs InOrder (operations_of trace)
operations_in_order trace = (all_of trace).in_order

-- of one client, what began earlier has a lower number
pub earlier_is_lower : (trace : Trace) (first second : OpRecord) → Contains (operations_of trace) first
    → Contains (operations_of trace) second → first.client ≡ second.client
    → first.invoked < second.invoked → first.number < second.number
earlier_is_lower trace first second one two client before =
    lower_in (operations_of trace) first second (all_of trace).in_order one two client before

-- an operation begins at an event of the trace
pub begun_in : (trace : Trace) (operation : OpRecord) → Contains (operations_of trace) operation
    → IsBegunIn trace.entries operation
begun_in trace operation among =
    (All-contains (IsLater trace.entries [] 1) (operations_of trace) operation (all_of trace).later among).begun

pub invoked_within : (trace : Trace) (operation : OpRecord) → Contains (operations_of trace) operation
    → operation.invoked ≤ length trace.entries
invoked_within trace operation among =
    let is : IsBegunIn trace.entries operation = begun_in trace operation among in
    let below : is.index < length trace.entries = slice_get_within trace.entries is.index is.entry is.is_entry in
    let invoked : operation.invoked ≡ is.index + 1 = ap (λ (it : OpRecord). it.invoked) is.record_is in
    omega arith
