use Rattle.std.proofs.Common.{◌≡◌, ℕ, ◌+◌, ◌<◌, Bool, true, false, List, ◌++◌, length, get_or, take, drop, map, refl, sym, ap, subst, ◌∙◌, Some, None}
use Rattle.std.specs.Prelude.{slice_get}
use Rattle.std.proofs.lemmas.List.{drop_at}
use Rattle.std.proofs.lemmas.Option.{slice_get_read}
use Rattle.qu_frames.specs.declared.frame.Letter.{Letter}
use Rattle.qu_trace.specs.declared.trace.Entry.{Entry}
use Rattle.qu_trace.specs.declared.trace.Trace.{Trace}
use Rattle.qu_trace.specs.Decoded.{frame_sent}
use Rattle.qu_trace.proofs.DecodedLaws.{frame_of_entry}
use Rattle.qu_claims.specs.Digested.{texts_at}
use Rattle.qu_audit.specs.declared.auditing.Past.{Past}
use Rattle.qu_audit.specs.Digests.{look, Notes, first_clash}
use Rattle.qu_audit.specs.Forging.{ShownLetter, letter_shown, shown_in_all, is_forged}
use Rattle.qu_audit.proofs.Frames.{frame_before_entry}
use Rattle.qu_audit.proofs.Steps.{forged_at, unforged_at, first_forged, past_more, collision_here}
use Rattle.qu_audit.proofs.auditing.follow.Goals as goal

-- the entry with this index
entry_at : (trace run : Trace) (items : List Entry) (index : ℕ) (entry : Entry) → run ≡ trace → items ≡ run.entries
    → entry ≡ get_or items index entry → entry ≡ get_or trace.entries index entry
entry_at trace run items index entry is_run are is =
    is ∙ ap (λ (it : List Entry). get_or it index entry) (are ∙ ap (λ (it : Trace). it.entries) is_run)

found_at : (trace : Trace) (index : ℕ) (entry : Entry) → index < length trace.entries
    → entry ≡ get_or trace.entries index entry → slice_get trace.entries index ≡ Some entry
found_at trace index entry within is = slice_get_read trace.entries (length trace.entries) index entry refl within is

pub is_forged-requires-clause-frame : goal.is_forged-requires-clause-frame
is_forged-requires-clause-frame c =
    let trace = c.args.trace.now in
    let entry = c.index-as_slice-index.result in
    let at : entry ≡ get_or trace.entries c.args.index entry =
    entry_at trace c.trace-run.result.now c.as_slice.result.now c.args.index entry c.trace-run.ensures
    c.as_slice.ensures c.index-as_slice-index.is in
    frame_before_entry trace.entries c.first-sent.result c.args.index entry _
    (found_at trace c.args.index entry c.requires.within at) c.first-sent.ensures c.offered-frame.ensures

pub add-requires : goal.add-requires
add-requires c =
    let trace = c.args.trace.now in
    let entry = c.index-as_slice-index.result in
    let at : entry ≡ get_or trace.entries c.args.index entry =
    entry_at trace c.trace-run.result.now c.as_slice.result.now c.args.index entry c.trace-run.ensures
    c.as_slice.ensures c.index-as_slice-index.is in
    c.frames_at.ensures entry (found_at trace c.args.index entry c.requires.within at)
    ∙ ap (λ (letters : List Letter). map frame_sent letters) (sym c.as_slice-2.ensures)

pub texts_at-requires-clause-frame : goal.texts_at-requires-clause-frame
texts_at-requires-clause-frame c =
    let trace = c.args.trace.now in
    let entry = c.index-as_slice-index.result in
    let at : entry ≡ get_or trace.entries c.args.index entry =
    entry_at trace c.trace-run.result.now c.as_slice.result.now c.args.index entry c.trace-run.ensures
    c.as_slice.ensures c.index-as_slice-index.is in
    frame_of_entry trace.entries c.args.index entry _ (found_at trace c.args.index entry c.requires.within at)
    c.offered-frame.ensures

pub texts_at-requires-clause-shown : goal.texts_at-requires-clause-shown
texts_at-requires-clause-shown c =
    let old = (c.args.past.now).shown in
    c.since-shown.ensures ∙
    ap (drop c.len-before.result) (c.in_ok-add.ensures ∙
    ap (λ (letters : List Letter). old ++ map letter_shown letters) c.as_slice-2.ensures) ∙
    drop_at old (map letter_shown (c.index-as_slice-index.result).letters) c.len-before.result
    (sym c.len-before.ensures)

-- what is forged at the entry, by what is known of the entries before it
is_forged_at : (trace run : Trace) (before : List Entry) (shown : List ShownLetter) (index : ℕ) (entry : Entry)
    (forged : Bool) → run ≡ trace → before ≡ take index trace.entries
    → shown ≡ shown_in_all (take index trace.entries)
    → forged ≡ is_forged run.setup before shown entry.event
    → is_forged trace.setup (take index trace.entries) (shown_in_all (take index trace.entries)) entry.event ≡ forged
is_forged_at trace run before shown index entry forged is_run are is_shown is =
    sym (is
    ∙ ap (λ (it : Trace). is_forged it.setup before shown entry.event) is_run
    ∙ ap (λ (it : List Entry). is_forged trace.setup it shown entry.event) are
    ∙ ap (λ (it : List ShownLetter). is_forged trace.setup (take index trace.entries) it entry.event) is_shown)

pub returns-then-branch : goal.returns-then-branch
returns-then-branch c =
    let trace = c.args.trace.now in
    let index = c.args.index in
    let entry = c.index-as_slice-index.result in
    let at : entry ≡ get_or trace.entries index entry =
    entry_at trace c.trace-run.result.now c.as_slice.result.now index entry c.trace-run.ensures
    c.as_slice.ensures c.index-as_slice-index.is in
    let forged : is_forged trace.setup (take index trace.entries) (shown_in_all (take index trace.entries))
    entry.event ≡ true =
    is_forged_at trace c.trace-run.result.now c.first-sent.result (c.args.past.now).shown index entry _
    c.trace-run.ensures c.first-sent.ensures c.requires.past.shown c.in_ok-is_forged.ensures ∙ c.if-branch.true in
    first_forged trace index c.args.past.now c.requires.past c.requires.within
    (forged_at trace c.requires.run index entry c.requires.within (sym at) forged)

pub returns-in-Some : goal.returns-in-Some
returns-in-Some c =
    let trace = c.args.trace.now in
    let index = c.args.index in
    let entry = c.index-as_slice-index.result in
    let new : Past = record { shown = c.add.new.self; digests = c.note_all.new.self } in
    let at : entry ≡ get_or trace.entries index entry =
    entry_at trace c.trace-run.result.now c.as_slice.result.now index entry c.trace-run.ensures
    c.as_slice.ensures c.index-as_slice-index.is in
    let unforged : is_forged trace.setup (take index trace.entries) (shown_in_all (take index trace.entries))
    entry.event ≡ false =
    is_forged_at trace c.trace-run.result.now c.first-sent.result (c.args.past.now).shown index entry _
    c.trace-run.ensures c.first-sent.ensures c.requires.past.shown c.in_ok-is_forged.ensures ∙ c.if-branch.false in
    let texts : c.as_slice-3.result.now ≡ texts_at trace entry = c.as_slice-3.ensures ∙ c.in_ok-texts.ensures in
    let again : c.as_slice-4.result.now ≡ texts_at trace entry = c.as_slice-4.ensures ∙ c.in_ok-texts.ensures in
    let some : first_clash (look new.digests) (texts_at trace entry) ≡ Some c.in-Some.first =
    ap (first_clash (look new.digests)) (sym again) ∙ sym c.first_clash.ensures ∙ c.in-Some.is in
    collision_here trace index entry c.args.past.now new c.in-Some.first c.requires.past c.requires.within (sym at)
    (unforged_at trace c.requires.run index entry c.requires.within (sym at) unforged)
    (subst (λ it. Notes (look (c.args.past.now).digests) (look new.digests) (index + 1) it) texts
    c.in_ok-note_all.ensures) some

pub returns : goal.returns
returns c =
    let trace = c.args.trace.now in
    let index = c.args.index in
    let entry = c.index-as_slice-index.result in
    let old = (c.args.past.now).shown in
    let new : Past = record { shown = c.add.new.self; digests = c.note_all.new.self } in
    let at : entry ≡ get_or trace.entries index entry =
    entry_at trace c.trace-run.result.now c.as_slice.result.now index entry c.trace-run.ensures
    c.as_slice.ensures c.index-as_slice-index.is in
    let unforged : is_forged trace.setup (take index trace.entries) (shown_in_all (take index trace.entries))
    entry.event ≡ false =
    is_forged_at trace c.trace-run.result.now c.first-sent.result (c.args.past.now).shown index entry _
    c.trace-run.ensures c.first-sent.ensures c.requires.past.shown c.in_ok-is_forged.ensures ∙ c.if-branch.false in
    let texts : c.as_slice-3.result.now ≡ texts_at trace entry = c.as_slice-3.ensures ∙ c.in_ok-texts.ensures in
    let again : c.as_slice-4.result.now ≡ texts_at trace entry = c.as_slice-4.ensures ∙ c.in_ok-texts.ensures in
    let none : first_clash (look new.digests) (texts_at trace entry) ≡ None =
    ap (first_clash (look new.digests)) (sym again) ∙ sym c.first_clash.ensures ∙ c.in-None.is in
    past_more trace index entry c.args.past.now new c.requires.past c.requires.within (sym at)
    (unforged_at trace c.requires.run index entry c.requires.within (sym at) unforged)
    (subst (λ it. Notes (look (c.args.past.now).digests) (look new.digests) (index + 1) it) texts
    c.in_ok-note_all.ensures)
    (c.in_ok-add.ensures ∙ ap (λ (letters : List Letter). old ++ map letter_shown letters) c.as_slice-2.ensures) none
