-- A faulty party takes nothing, and a correct one what the text brings it.
use Rattle.std.proofs.Common.{◌≡◌, true, false, Option, sym, ap, ◌∙◌}
use Rattle.std.proofs.lemmas.Result.{IfOk-weaker}
use Rattle.qu_seal.specs.Keys.{Ring}
use Rattle.qu_frames.specs.declared.frame.Frame.{Frame}
use Rattle.qu_frames.specs.Signing.{brought}
use Rattle.qu_trace.specs.declared.trace.Setup.{Setup}
use Rattle.qu_trace.specs.Faulty.{is_faulty}
use Rattle.qu_listed.specs.Receivers.{keys_of, frame_taken}
use Rattle.qu_listing.proofs.ReceiverFacts.{faulty_takes, correct_takes}
use Rattle.qu_listing.proofs.receivers.Receivers.take.Goals as goal

pub returns-then-is_faulty : goal.returns-then-is_faulty
returns-then-is_faulty c =
    let faulty : is_faulty c.args.self.now c.args.to ≡ true =
    sym (ap (λ (setup : Setup). is_faulty setup c.args.to) c.self.view_is) ∙ sym c.is_faulty.ensures
    ∙ c.if-is_faulty.true in
    sym (faulty_takes c.args.self.now c.args.to c.args.text.now faulty)

pub returns : goal.returns
returns c =
    let correct : is_faulty c.args.self.now c.args.to ≡ false =
    sym (ap (λ (setup : Setup). is_faulty setup c.args.to) c.self.view_is) ∙ sym c.is_faulty.ensures
    ∙ c.if-is_faulty.false in
    let keys : c.self.inside.keys ≡ keys_of c.args.self.now = c.self.invariant ∙ ap keys_of c.self.view_is in
    let same : brought c.self.inside.keys c.args.to c.args.text.now
    ≡ frame_taken c.args.self.now c.args.to c.args.text.now =
    ap (λ (ring : Ring). brought ring c.args.to c.args.text.now) keys
    ∙ sym (correct_takes c.args.self.now c.args.to c.args.text.now correct) in
    IfOk-weaker c.receive.result
    (λ (frame : Option Frame). frame ≡ brought c.self.inside.keys c.args.to c.args.text.now)
    (λ (frame : Option Frame). frame ≡ frame_taken c.args.self.now c.args.to c.args.text.now)
    (λ frame is. is ∙ same) c.receive.ensures
