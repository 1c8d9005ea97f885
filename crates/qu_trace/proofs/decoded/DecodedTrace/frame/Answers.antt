-- The frame at the place of the letter.
use Rattle.std.proofs.Common.{List, ap, ◌∙◌, arith}
use Rattle.std.specs.Prelude.{Option, slice_get}
use Rattle.std.specs.Option.{option_flatten}
use Rattle.qu_frames.specs.declared.frame.Frame.{Frame}
use Rattle.qu_trace.specs.declared.trace.Trace.{Trace}
use Rattle.qu_trace.specs.Decoded.{frame_numbered}
use Rattle.qu_trace.proofs.DecodedLaws.{frame_with}
use Rattle.qu_trace.proofs.decoded.DecodedTrace.frame.Goals as goal

pub returns : goal.returns
returns c =
    c.frame_in.ensures
    ∙ ap (λ (frames : List (Option Frame)). option_flatten (slice_get frames c.in_ok-place.place))
    (c.as_slice.ensures.value ∙ c.self.invariant.are_frames)
    ∙ frame_with c.self.inside.trace.now.entries c.args.number c.in_ok-place.place (omega arith)
    ∙ ap (λ (trace : Trace). frame_numbered trace.entries c.args.number) c.self.view_is
