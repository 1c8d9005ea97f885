-- The text of the same request is decoded to that request with the text's own HMAC.
use Rattle.std.proofs.Common.{rules, ◌≡◌, Ok, sym, ap, subst, ◌∙◌}
use Rattle.qu_base.specs.Format.{AreBytes}
use Rattle.qu_frames.specs.declared.frame.Frame.{Frame}
use Rattle.qu_frames.specs.declared.frame.Frame.TheVariants.{Request}
use Rattle.qu_frames.specs.Decoding.{decoded}
use Rattle.qu_frames.specs.Signing.{before_mac}
use Rattle.qu_frames.proofs.Readings as readings
use Rattle.qu_frames.proofs.reading.said_again.Goals as goal

pub own_mac-requires : goal.own_mac-requires
own_mac-requires c =
    let same : before_mac c.args.text.now ≡ before_mac c.args.first.now = search rules in
    readings.said_long c.args.first.now c.args.frame.now (subst AreBytes c.new.ensures.rest c.are_bytes.ensures)
    c.requires c.args.text.now same

pub returns-in_ok-copy-in-Request-2-clause-value : goal.returns-in_ok-copy-in-Request-2-clause-value
returns-in_ok-copy-in-Request-2-clause-value c =
    let request = c.in-Request in
    let frame : Frame =
    Request request.client request.number request.round request.sets request.body request.mac in
    let given : decoded c.args.first.now ≡ Ok frame = c.requires ∙ ap Ok request.is in
    let same : before_mac c.args.text.now ≡ before_mac c.args.first.now = search rules in
    readings.said_again c.args.first.now frame (subst AreBytes c.new.ensures.rest c.are_bytes.ensures) given
    c.args.text.now same
    ∙ (λ i. Ok (Request request.client request.number request.round (sym c.in_ok-copy-in-Request.ensures i)
    (sym c.in_ok-copy-in-Request-2.ensures i) (sym c.own_mac.ensures i)))
