-- The operations of a trace are of correct clients.
use Rattle.std.proofs.Common.{◌≡◌, ℕ, ◌+◌, Bool, true, false, cond, List, [], ◌∷◌, ◌++◌, refl}
use Rattle.std.specs.List.{All}
use Rattle.std.proofs.lemmas.List.Elements.{All-nil, All-cons}
use Rattle.qu_base.specs.declared.party.Party.TheVariants as party
use Rattle.qu_machine.specs.declared.record.OpRecord.{OpRecord}
use Rattle.qu_trace.specs.declared.event.Event.{Event}
use Rattle.qu_trace.specs.declared.event.Event.TheVariants.{Invoke, Deliver, Tick, Inject}
use Rattle.qu_trace.specs.declared.trace.Entry.{Entry}
use Rattle.qu_trace.specs.declared.trace.Setup.{Setup}
use Rattle.qu_trace.specs.declared.trace.Trace.{Trace}
use Rattle.qu_trace.specs.Faulty.{is_faulty}
use Rattle.qu_trace.specs.Operation.{record_of, begins_at, operations_from, operations_of}
use Rattle.qu_points.specs.Points.{IsOfCorrect}

begins_correct : (setup : Setup) (event : Event) (at : ℕ) (earlier later : List Entry) (operations : List OpRecord)
    → All (IsOfCorrect setup) operations → All (IsOfCorrect setup)
    (begins_at setup event at earlier later ++ operations)
begins_correct setup (Invoke client op) at earlier later operations all =
    by (is_faulty setup (party.Client client)) refl
  where
    by : (faulty : Bool) → is_faulty setup (party.Client client) ≡ faulty
        → All (IsOfCorrect setup) (cond faulty [] (record_of client op at earlier later ∷ []) ++ operations)
    by true is = all
    by false is = All-cons (IsOfCorrect setup) (record_of client op at earlier later) operations is all
begins_correct setup (Deliver letter) at earlier later operations all = all
begins_correct setup (Tick client) at earlier later operations all = all
begins_correct setup (Inject to text) at earlier later operations all = all

correct_from : (setup : Setup) (earlier : List Entry) (at : ℕ) (later : List Entry)
    → All (IsOfCorrect setup) (operations_from setup earlier at later)
unfolding operations_from
correct_from setup earlier at [] = All-nil (IsOfCorrect setup)
correct_from setup earlier at (entry ∷ later) =
    begins_correct setup entry.event at earlier (entry ∷ later)
    (operations_from setup (earlier ++ entry ∷ []) (at + 1) later)
    (correct_from setup (earlier ++ entry ∷ []) (at + 1) later)

pub operations_correct : (trace : Trace) → All (IsOfCorrect trace.setup) (operations_of trace)
operations_correct trace = correct_from trace.setup [] 1 trace.entries
