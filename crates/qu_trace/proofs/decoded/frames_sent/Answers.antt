-- The letters of an entry stand behind those of the earlier ones.
use Rattle.std.proofs.Common.{List, ◌++◌, take, sym, ap, ◌∙◌}
use Rattle.std.specs.Prelude.{Option, map}
use Rattle.std.proofs.lemmas.List.{map-append}
use Rattle.qu_frames.specs.declared.frame.Frame.{Frame}
use Rattle.qu_trace.specs.Letters.{letters_of}
use Rattle.qu_trace.specs.Decoded.{frame_sent}
use Rattle.qu_trace.proofs.LetterLaws.{letters-taken}
use Rattle.qu_trace.proofs.decoded.frames_sent.Goals as goal

pub loop-entry-init : goal.loop-entry-init
unfolding letters_of
loop-entry-init c = c.new-frames.ensures.items

pub loop-entry-preserved : goal.loop-entry-preserved
loop-entry-preserved c =
    let before = letters_of (take c.loop-entry.entry-index c.args.entries.now) in
    c.in_ok-append.ensures.items
    ∙ ap (λ (it : List (Option Frame)). it ++ c.in_ok-found.found.items) c.loop-entry.invariant
    ∙ ap (λ (it : List (Option Frame)). map frame_sent before ++ it)
    (c.in_ok-found.ensures ∙ ap (map frame_sent) c.as_slice.ensures)
    ∙ sym (map-append frame_sent before c.entry-item.result.letters)
    ∙ ap (map frame_sent) (sym (letters-taken c.args.entries.now c.loop-entry.entry-index c.entry-item.result
    c.loop-entry-test.true c.entry-item.is))
