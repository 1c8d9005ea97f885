-- The frames of an entry's letters stand from where its letters begin.
use Rattle.std.proofs.Common.{◌≡◌, ℕ, ◌-◌, List, length, take, drop, get_or, sym, ap, ◌∙◌, arith}
use Rattle.std.specs.Prelude.{Option, Some, map, slice_get}
use Rattle.std.specs.Option.{option_copied}
use Rattle.std.proofs.lemmas.List.{length-map}
use Rattle.std.proofs.lemmas.Option.{same_Some, slice_get_within}
use Rattle.qu_frames.specs.declared.frame.Frame.{Frame}
use Rattle.qu_trace.specs.declared.trace.Entry.{Entry}
use Rattle.qu_trace.specs.declared.trace.Trace.{Trace}
use Rattle.qu_trace.specs.Letters.{letters_of}
use Rattle.qu_trace.specs.Decoded.{frame_sent}
use Rattle.qu_trace.specs.Starts.{starts_from}
use Rattle.qu_trace.proofs.StartLaws.{length-starts}
use Rattle.qu_trace.proofs.DecodedLaws.{StandAt, stand_at}
use Rattle.qu_trace.proofs.decoded.DecodedTrace.frames_at.Goals as goal

pub start_at-start-requires : goal.start_at-start-requires
start_at-start-requires c =
    let entries = c.self.inside.trace.now.entries in
    let found : slice_get entries c.args.index ≡ Some c.in-Some.entry.now =
    sym c.get.ensures ∙ ap option_copied c.in-Some.is in
    omega (
      arith,
      slice_get_within entries c.args.index c.in-Some.entry.now found,
      length-starts 0 entries,
      ap length (c.as_slice.ensures.value ∙ c.self.invariant.are_starts.places),
    )

pub part-requires : goal.part-requires
part-requires c =
    let entries = c.self.inside.trace.now.entries in
    let found : slice_get entries c.args.index ≡ Some c.in-Some.entry.now =
    sym c.get.ensures ∙ ap option_copied c.in-Some.is in
    let frames : length c.as_slice-in-Some.result.now ≡ length (letters_of entries) =
    ap length (c.as_slice-in-Some.ensures.value ∙ c.self.invariant.are_frames)
    ∙ length-map (letters_of entries) frame_sent in
    let start : c.start_at-start.result ≡ get_or (starts_from 0 entries) c.args.index 0 =
    c.start_at-start.ensures ∙ ap (λ (starts : List ℕ). get_or starts c.args.index 0)
    (c.as_slice.ensures.value ∙ c.self.invariant.are_starts.places) in
    let here : StandAt 0 (get_or (starts_from 0 entries) c.args.index 0) entries c.in-Some.entry.now =
    stand_at 0 c.args.index entries c.in-Some.entry.now found (omega (arith, frames, c.as_slice-in-Some.ensures.len)) in
    omega (arith, here.most, start, frames, c.len.ensures)

pub returns-in-Some : goal.returns-in-Some
returns-in-Some c = λ entry is.
    let entries = c.self.inside.trace.now.entries in
    let found : slice_get entries c.args.index ≡ Some c.in-Some.entry.now =
    sym c.get.ensures ∙ ap option_copied c.in-Some.is in
    let frames : c.as_slice-in-Some.result.now ≡ map frame_sent (letters_of entries) =
    c.as_slice-in-Some.ensures.value ∙ c.self.invariant.are_frames in
    let count : length c.as_slice-in-Some.result.now ≡ length (letters_of entries) =
    ap length frames ∙ length-map (letters_of entries) frame_sent in
    let start : c.start_at-start.result ≡ get_or (starts_from 0 entries) c.args.index 0 - 0 =
    c.start_at-start.ensures ∙ ap (λ (starts : List ℕ). get_or starts c.args.index 0)
    (c.as_slice.ensures.value ∙ c.self.invariant.are_starts.places) ∙ omega arith in
    let here : StandAt 0 (get_or (starts_from 0 entries) c.args.index 0) entries c.in-Some.entry.now =
    stand_at 0 c.args.index entries c.in-Some.entry.now found (omega (arith, count, c.as_slice-in-Some.ensures.len)) in
    let same : c.in-Some.entry.now ≡ entry =
    same_Some c.in-Some.entry.now entry
    (sym found ∙ ap (λ (trace : Trace). slice_get trace.entries c.args.index) c.self.view_is ∙ is) in
    c.part.ensures
    ∙ ap (λ (it : List (Option Frame)). take c.len.result (drop c.start_at-start.result it)) frames
    ∙ ap (λ (it : ℕ). take it (drop c.start_at-start.result (map frame_sent (letters_of entries)))) c.len.ensures
    ∙ ap (λ (it : ℕ). take (length c.in-Some.entry.now.letters) (drop it (map frame_sent (letters_of entries)))) start
    ∙ here.part
    ∙ ap (λ (it : Entry). map frame_sent it.letters) same
