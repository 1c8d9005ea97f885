-- The entry of a run at an index is the one that the step at that index records.
use Rattle.std.proofs.Common.{◌≡◌, ℕ, zero, suc, ◌+◌, ◌<◌, ◌≤◌, List, [], ◌∷◌, ◌++◌, length, take, Some, sym, ap, ◌∙◌, arith, append_assoc}
use Rattle.std.specs.Prelude.{slice_get}
use Rattle.std.proofs.lemmas.List.{append-nil, length-append, length-map, length-take-le, take-map}
use Rattle.std.proofs.lemmas.Option.{same_Some}
use Rattle.qu_trace.specs.declared.event.Event.{Event}
use Rattle.qu_trace.specs.declared.trace.Entry.{Entry}
use Rattle.qu_trace.specs.declared.trace.Trace.{Trace}
use Rattle.qu_world.specs.State.{WorldState, opening_world}
use Rattle.qu_world.specs.Step.{world_step}
use Rattle.qu_world.specs.Run.{run_from, events_of, IsRun}
use Rattle.qu_trace.proofs.LetterLaws.{slice_get-append_right}
use Rattle.qu_world.proofs.RunLaws.{Records, step_records}
use Rattle.qu_claims.specs.Times.{world_after}

-- ---- what a run records

-- a world records its entries behind those that it began with
run_adds : (world : WorldState) (events : List Event) → (more : List Entry)
    × ((run_from world events).entries ≡ world.entries ++ more)
unfolding run_from
run_adds world [] = ([], sym (append-nil world.entries))
run_adds world (event ∷ later) =
    let first : Records world (world_step world event) event = step_records world event in
    let rest : (more : List Entry)
    × ((run_from (world_step world event) later).entries ≡ (world_step world event).entries ++ more) =
    run_adds (world_step world event) later in (
      first.entry ∷ rest.0,
      rest.1 ∙ ap (λ (entries : List Entry). entries ++ rest.0) first.entries
          ∙ append_assoc world.entries (first.entry ∷ []) rest.0,
    )

take_adds : (world : WorldState) (count : ℕ) (events : List Event) → (more : List Entry)
    × ((run_from world events).entries ≡ (run_from world (take count events)).entries ++ more)
unfolding run_from
take_adds world zero events = run_adds world events
take_adds world (suc count) [] = ([], sym (append-nil world.entries))
take_adds world (suc count) (event ∷ later) = take_adds (world_step world event) count later

-- one entry for each event
run_length : (world : WorldState) (events : List Event) → length (run_from world events).entries ≡ length
    world.entries + length events
unfolding run_from
run_length world [] = omega arith
run_length world (event ∷ later) =
    let first : Records world (world_step world event) event = step_records world event in
    let one : length (world_step world event).entries ≡ length world.entries + 1 =
    ap (λ (entries : List Entry). length entries) first.entries ∙ length-append world.entries (first.entry ∷ []) in
    let rest : length (run_from (world_step world event) later).entries ≡ length
    (world_step world event).entries + length later = run_length (world_step world event) later in
    omega arith

pub length_after : (trace : Trace) (count : ℕ) → count ≤ length trace.entries
    → length (world_after trace count).entries ≡ count
length_after trace count within =
    let events : length (events_of (take count trace.entries)) ≡ length (take count trace.entries) =
    length-map (take count trace.entries) (λ (entry : Entry). entry.event) in
    let front : length (take count trace.entries) ≡ count = length-take-le count trace.entries within in
    let total : length (world_after trace count).entries ≡ 0 + length (events_of (take count trace.entries)) =
    run_length (opening_world trace.setup) (events_of (take count trace.entries)) in
    omega arith

-- ---- the entries of a run

-- those of each of its worlds come first
pub entries_begin : (trace : Trace) → IsRun trace → (count : ℕ) → (more : List Entry)
    × (trace.entries ≡ (world_after trace count).entries ++ more)
entries_begin trace is_run count =
    let adds : (more : List Entry)
    × ((run_from (opening_world trace.setup) (events_of trace.entries)).entries
    ≡ (run_from (opening_world trace.setup) (take count (events_of trace.entries))).entries ++ more) =
    take_adds (opening_world trace.setup) count (events_of trace.entries) in
    let events : take count (events_of trace.entries) ≡ events_of (take count trace.entries) =
    take-map (λ (entry : Entry). entry.event) count trace.entries in (
      adds.0,
      sym is_run.entries ∙ adds.1
          ∙ ap (λ (it : List Event). (run_from (opening_world trace.setup) it).entries ++ adds.0) events,
    )

pub entry_recorded : (trace : Trace) → IsRun trace → (at : ℕ) → at < length trace.entries → (entry made : Entry)
    → slice_get trace.entries at ≡ Some entry
    → (world_after trace (at + 1)).entries ≡ (world_after trace at).entries ++ made ∷ [] → made ≡ entry
entry_recorded trace is_run at below entry made is_entry is_made =
    let begin : (more : List Entry) × (trace.entries ≡ (world_after trace (at + 1)).entries ++ more) =
    entries_begin trace is_run (at + 1) in
    let before : List Entry = (world_after trace at).entries in
    let size : length before ≡ at = length_after trace at (omega arith) in
    let all : trace.entries ≡ before ++ made ∷ begin.0 =
    begin.1 ∙ ap (λ (entries : List Entry). entries ++ begin.0) is_made ∙ append_assoc before (made ∷ []) begin.0 in
    let place : at ≡ length before + 0 = omega arith in
    same_Some made entry
    (sym (slice_get-append_right before (made ∷ begin.0) at 0 place)
    ∙ ap (λ (entries : List Entry). slice_get entries at) (sym all) ∙ is_entry)
