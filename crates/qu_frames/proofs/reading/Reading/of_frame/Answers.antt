-- What is made of the parts of a request's text is read.
use Rattle.std.proofs.Common.{◌≡◌, Ok, sym, ap, subst, ◌∙◌}
use Rattle.qu_base.specs.Format.{AreBytes}
use Rattle.qu_frames.specs.declared.frame.Frame.TheVariants.{Request}
use Rattle.qu_frames.specs.Decoding.{decoded}
use Rattle.qu_frames.proofs.Readings.{request_is_read}
use Rattle.qu_frames.proofs.reading.Reading.of_frame.Goals as goal

pub invariant_of-result : goal.invariant_of-result
invariant_of-result c =
    let request = c.in-Request in
    let body = c.in_ok-copy-in-Request-2 in
    let given : decoded c.args.text.now
    ≡ Ok (Request request.client request.number request.round request.sets body.field-0 request.mac) =
    c.requires ∙ ap Ok request.is
    ∙ (λ i. Ok (Request request.client request.number request.round request.sets (sym body.ensures i) request.mac)) in
    request_is_read c.args.text.now c.in_ok-from_clones-in-Request.field-0 c.text_digest.result request.client
    request.number request.round request.sets c.in_ok-of-in-Request.field-0 body.field-0 request.mac
    (subst AreBytes c.new.ensures.rest c.are_bytes.ensures) given
    (c.in_ok-from_clones-in-Request.ensures ∙ c.before_mac.ensures) c.text_digest.ensures
    (c.in_ok-of-in-Request.ensures ∙ c.in_ok-copy-in-Request.ensures)
