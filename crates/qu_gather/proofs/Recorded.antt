-- The record of operations of a run on threads has the operations that its clients are called for.
use Rattle.std.proofs.Common.{◌≡◌, ℕ, ◌+◌, Bool, true, false, cond, eqb, List, [], ◌∷◌, ◌++◌, map, filter, refl, sym, ap, ◌∙◌, inl, inr}
use Rattle.std.proofs.lemmas.Bool.{cases_Bool, eqb-true, false≢true}
use Rattle.std.proofs.lemmas.List.{map-append}
use Rattle.std.proofs.lemmas.List.Elements.{filter-append}
use Rattle.qu_base.specs.declared.party.ClientId.{ClientId}
use Rattle.qu_base.specs.declared.party.Party.TheVariants as party
use Rattle.qu_objects.specs.declared.op.Op.{Op}
use Rattle.qu_machine.specs.declared.record.OpRecord.{OpRecord}
use Rattle.qu_trace.specs.Faulty.{is_faulty}
use Rattle.qu_trace.specs.declared.event.Event.{Event}
use Rattle.qu_trace.specs.declared.event.Event.TheVariants as event
use Rattle.qu_trace.specs.declared.trace.Entry.{Entry}
use Rattle.qu_trace.specs.declared.trace.Setup.{Setup}
use Rattle.qu_trace.specs.Operation.{record_of, begins_at, operations_from}
use Rattle.qu_replay.specs.Operations.{invoked_at, invoked_by}
use Rattle.qu_lock.specs.Calls.{calls_by}
use Rattle.qu_gather.specs.Live.{IsCorrectClient, AreCallsOf, operations_by}

abbrev client_at_number : ℕ → ClientId
client_at_number number = record { 0 = number }

by_append : (me : ClientId) (front later : List OpRecord)
    → operations_by me (front ++ later) ≡ operations_by me front ++ operations_by me later
unfolding operations_by
by_append me front later =
    let is_mine : OpRecord → Bool = λ operation. eqb (operation.client).0 me.0 in
    let op_of : OpRecord → Op = λ operation. operation.op in
    ap (map op_of) (filter-append is_mine front later) ∙ map-append op_of (filter is_mine front) (filter is_mine later)

-- an operation of another client is none of this one
other_record : (me other : ClientId) (op : Op) (at : ℕ) (earlier later : List Entry) (faulty : Bool)
    → eqb other.0 me.0 ≡ false
    → operations_by me (cond faulty [] (record_of other op at earlier later ∷ [])) ≡ []
unfolding operations_by
other_record me other op at earlier later true apart = refl
other_record me other op at earlier later false apart = rw apart refl

own_record : (me other : ClientId) (op : Op) (at : ℕ) (earlier later : List Entry) → eqb other.0 me.0 ≡ true
    → operations_by me (record_of other op at earlier later ∷ []) ≡ op ∷ []
unfolding operations_by
own_record me other op at earlier later same = rw same refl

faulty_as : (setup : Setup) (me other : ClientId) → eqb other.0 me.0 ≡ true
    → is_faulty setup (party.Client other) ≡ is_faulty setup (party.Client me)
faulty_as setup me other same =
    ap (λ (it : ClientId). is_faulty setup (party.Client it)) (ap client_at_number (eqb-true other.0 me.0 same))

-- ---- one event

correct_event : (setup : Setup) (me : ClientId) (happened : Event) (at : ℕ) (earlier later : List Entry)
    → is_faulty setup (party.Client me) ≡ false
    → operations_by me (begins_at setup happened at earlier later) ≡ invoked_at me happened
unfolding operations_by
correct_event setup me (event.Invoke other op) at earlier later correct =
    elim (cases_Bool (eqb other.0 me.0)) [
      | inl same ↦
          ap (λ (it : Bool). operations_by me (cond it [] (record_of other op at earlier later ∷ [])))
          (faulty_as setup me other same ∙ correct)
          ∙ own_record me other op at earlier later same
          ∙ sym (ap (λ (it : Bool). cond it (op ∷ []) []) same)
      | inr apart ↦
          other_record me other op at earlier later (is_faulty setup (party.Client other)) apart
          ∙ sym (ap (λ (it : Bool). cond it (op ∷ []) []) apart)
    ]
correct_event setup me (event.Deliver number) at earlier later correct = refl
correct_event setup me (event.Tick other) at earlier later correct = refl
correct_event setup me (event.Inject who text) at earlier later correct = refl

faulty_event : (setup : Setup) (me : ClientId) (happened : Event) (at : ℕ) (earlier later : List Entry)
    → is_faulty setup (party.Client me) ≡ true → operations_by me (begins_at setup happened at earlier later) ≡ []
unfolding operations_by
faulty_event setup me (event.Invoke other op) at earlier later faulty =
    elim (cases_Bool (eqb other.0 me.0)) [
      | inl same ↦
          ap (λ (it : Bool). operations_by me (cond it [] (record_of other op at earlier later ∷ [])))
          (faulty_as setup me other same ∙ faulty)
      | inr apart ↦ other_record me other op at earlier later (is_faulty setup (party.Client other)) apart
    ]
faulty_event setup me (event.Deliver number) at earlier later faulty = refl
faulty_event setup me (event.Tick other) at earlier later faulty = refl
faulty_event setup me (event.Inject who text) at earlier later faulty = refl

-- ---- all events

correct_events : (setup : Setup) (me : ClientId) (earlier : List Entry) (at : ℕ) (entries : List Entry)
    → is_faulty setup (party.Client me) ≡ false
    → operations_by me (operations_from setup earlier at entries) ≡ invoked_by me entries
unfolding operations_from invoked_by operations_by
correct_events setup me earlier at [] correct = refl
correct_events setup me earlier at (entry ∷ entries) correct =
    by_append me (begins_at setup entry.event at earlier (entry ∷ entries))
    (operations_from setup (earlier ++ entry ∷ []) (at + 1) entries)
    ∙ ap (λ (it : List Op). it ++ operations_by me (operations_from setup (earlier ++ entry ∷ []) (at + 1) entries))
    (correct_event setup me entry.event at earlier (entry ∷ entries) correct)
    ∙ ap (λ (it : List Op). invoked_at me entry.event ++ it)
    (correct_events setup me (earlier ++ entry ∷ []) (at + 1) entries correct)

faulty_events : (setup : Setup) (me : ClientId) (earlier : List Entry) (at : ℕ) (entries : List Entry)
    → is_faulty setup (party.Client me) ≡ true
    → operations_by me (operations_from setup earlier at entries) ≡ []
unfolding operations_from operations_by
faulty_events setup me earlier at [] faulty = refl
faulty_events setup me earlier at (entry ∷ entries) faulty =
    by_append me (begins_at setup entry.event at earlier (entry ∷ entries))
    (operations_from setup (earlier ++ entry ∷ []) (at + 1) entries)
    ∙ ap (λ (it : List Op). it ++ operations_by me (operations_from setup (earlier ++ entry ∷ []) (at + 1) entries))
    (faulty_event setup me entry.event at earlier (entry ∷ entries) faulty)
    ∙ faulty_events setup me (earlier ++ entry ∷ []) (at + 1) entries faulty

-- a faulty client is not called
faulty_called : (setup : Setup) (calls : List (ClientId × Op)) (me : ClientId) → AreCallsOf setup calls
    → is_faulty setup (party.Client me) ≡ true → calls_by me calls ≡ []
unfolding calls_by
faulty_called setup [] me callable faulty = refl
faulty_called setup (call ∷ later) me callable faulty =
    elim (cases_Bool (eqb call.0.0 me.0)) [
      | inl same ↦
          let here : IsCorrectClient setup call.0 = callable.0 in
          absurd (false≢true (sym here.correct ∙ faulty_as setup me call.0 same ∙ faulty))
      | inr apart ↦ rw apart (faulty_called setup later me callable.1 faulty)
    ]

-- the operations of each client in the record are its calls
pub calls_recorded : (setup : Setup) (calls : List (ClientId × Op)) (entries : List Entry) (me : ClientId)
    → AreCallsOf setup calls → invoked_by me entries ≡ calls_by me calls
    → operations_by me (operations_from setup [] 1 entries) ≡ calls_by me calls
calls_recorded setup calls entries me callable invoked =
    elim (cases_Bool (is_faulty setup (party.Client me))) [
      | inl faulty ↦ faulty_events setup me [] 1 entries faulty ∙ sym (faulty_called setup calls me callable faulty)
      | inr correct ↦ correct_events setup me [] 1 entries correct ∙ invoked
    ]
