-- A letter that was sent keeps its number in all later worlds of a run.
use Rattle.std.proofs.Common.{◌≡◌, ℕ, zero, suc, ◌+◌, ◌-◌, ◌<◌, ◌≤◌, List, [], ◌∷◌, ◌++◌, length, get_or, Some, ap, subst, ◌∙◌, arith, add-zero}
use Rattle.qu_frames.specs.declared.frame.Letter.{Letter}
use Rattle.qu_trace.specs.declared.event.Event.{Event}
use Rattle.qu_trace.specs.declared.trace.Entry.{Entry}
use Rattle.qu_trace.specs.declared.trace.Trace.{Trace}
use Rattle.qu_trace.specs.Letters.{letters_of}
use Rattle.qu_world.specs.State.{WorldState, numbered, letter_of}
use Rattle.qu_world.specs.Step.{world_step}
use Rattle.qu_trace.proofs.LetterLaws.{letters-push, numbered-append}
use Rattle.qu_world.proofs.RunLaws.{Records, step_records}
use Rattle.qu_claims.specs.Times.{world_after}
use Rattle.qu_runs.proofs.Worlds.WorldGrowth.{world_after-next}
use Rattle.qu_runs.proofs.Small.{some_entry}

letters_more : (entries : List Entry) (entry : Entry) (number : ℕ) (letter : Letter)
    → numbered (letters_of entries) number ≡ Some letter → numbered (letters_of (entries ++ entry ∷ []))
    number ≡ Some letter
letters_more entries entry number letter found =
    ap (λ (it : List Letter). numbered it number) (letters-push entries entry)
    ∙ numbered-append (letters_of entries) entry.letters number letter found

letter_next : (world : WorldState) (event : Event) (number : ℕ) (letter : Letter)
    → letter_of world number ≡ Some letter → letter_of (world_step world event) number ≡ Some letter
letter_next world event number letter found =
    let made : Records world (world_step world event) event = step_records world event in
    ap (λ (it : List Entry). numbered (letters_of it) number) made.entries
    ∙ letters_more world.entries made.entry number letter found

letter_after : (trace : Trace) (past more number : ℕ) (letter : Letter) → past + more ≤ length trace.entries
    → letter_of (world_after trace past) number ≡ Some letter → letter_of (world_after trace (past + more))
    number ≡ Some letter
letter_after trace past zero number letter within found =
    ap (λ (at : ℕ). letter_of (world_after trace at) number) (add-zero past) ∙ found
letter_after trace past (suc more) number letter within found =
    let default : Entry = some_entry trace.entries (omega arith) in
    let event : Event = (get_or trace.entries (past + more) default).event in
    let before : letter_of (world_after trace (past + more)) number ≡ Some letter =
    letter_after trace past more number letter (omega arith) found in
    let count : past + suc more ≡ (past + more) + 1 = omega arith in
    let below : past + more < length trace.entries = omega arith in
    ap (λ (at : ℕ). letter_of (world_after trace at) number) count ∙
    ap (λ (world : WorldState). letter_of world number) (world_after-next trace (past + more) default below) ∙
    letter_next (world_after trace (past + more)) event number letter before

pub letter_later : (trace : Trace) (past later number : ℕ) (letter : Letter) → past ≤ later
    → later ≤ length trace.entries → letter_of (world_after trace past) number ≡ Some letter
    → letter_of (world_after trace later) number ≡ Some letter
letter_later trace past later number letter order within found =
    let count : past + (later - past) ≡ later = omega arith in
    subst (λ (at : ℕ). letter_of (world_after trace at) number ≡ Some letter) count
    (letter_after trace past (later - past) number letter (omega arith) found)
