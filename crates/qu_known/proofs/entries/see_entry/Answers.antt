use Rattle.std.proofs.Common.{◌≡◌, List, map, length, get_or, refl, sym, ap, ◌∙◌}
use Rattle.std.proofs.lemmas.Option.{get_or_from_slice_get, slice_get_read}
use Rattle.qu_frames.specs.declared.frame.Letter.{Letter}
use Rattle.qu_trace.specs.declared.trace.Entry.{Entry}
use Rattle.qu_trace.specs.declared.trace.Trace.{Trace}
use Rattle.qu_trace.specs.Decoded.{frame_sent}
use Rattle.qu_known.specs.Answers.{rounds_told}
use Rattle.qu_known.proofs.Learning.{entry_told, letters_learned}
use Rattle.qu_known.proofs.entries.see_entry.Goals as goal

pub returns-clause-learned : goal.returns-clause-learned
returns-clause-learned c =
    let entry_is : c.index-as_slice-index.result ≡ get_or c.args.trace.now.entries c.args.index
    c.index-as_slice-index.result =
    c.index-as_slice-index.is
    ∙ ap (λ (entries : List Entry). get_or entries c.args.index c.index-as_slice-index.result)
    (c.as_slice.ensures ∙ ap (λ (trace : Trace). trace.entries) c.trace.ensures) in
    letters_learned c.args.trace.now c.requires.run c.requires.bytes c.args.index c.requires.within c.args.known.now
    c.requires.known c.index-as_slice-index.result c.as_slice-2.result.now
    (c.see_letters.new.self, (c.in_ok-told.told).news) entry_is c.as_slice-2.ensures c.in_ok-told.ensures.news

pub returns-clause-answered : goal.returns-clause-answered
returns-clause-answered c = λ entry is_entry.
    let entry_is : c.index-as_slice-index.result ≡ entry =
    c.index-as_slice-index.is
    ∙ ap (λ (entries : List Entry). get_or entries c.args.index c.index-as_slice-index.result)
    (c.as_slice.ensures ∙ ap (λ (trace : Trace). trace.entries) c.trace.ensures)
    ∙ get_or_from_slice_get c.args.trace.now.entries c.args.index entry c.index-as_slice-index.result is_entry in
    c.in_ok-told.ensures.rounds
    ∙ ap rounds_told (c.as_slice-2.ensures)
    ∙ ap (λ (it : Entry). rounds_told it.letters) entry_is
    ∙ entry_told c.args.trace.now c.requires.run c.args.index c.requires.within entry is_entry

pub see_letters-requires : goal.see_letters-requires
see_letters-requires c =
    let entries = c.args.trace.now.entries in
    let entry = c.index-as_slice-index.result in
    let is : entry ≡ get_or entries c.args.index entry =
    c.index-as_slice-index.is
    ∙ ap (λ (items : List Entry). get_or items c.args.index entry)
    (c.as_slice.ensures ∙ ap (λ (trace : Trace). trace.entries) c.trace.ensures) in
    c.frames_at.ensures entry (slice_get_read entries (length entries) c.args.index entry refl c.requires.within is)
    ∙ ap (λ (letters : List Letter). map frame_sent letters) (sym c.as_slice-2.ensures)
