-- A faulty party ignores every text, and a correct one a frame whose HMAC is wrong for it.
use Rattle.std.proofs.Common.{◌≡◌, true, false, sym, ap, ◌∙◌}
use Rattle.std.specs.Prelude.{not}
use Rattle.qu_seal.specs.Keys.{Ring}
use Rattle.qu_frames.specs.Signing.{is_signed}
use Rattle.qu_trace.specs.declared.trace.Setup.{Setup}
use Rattle.qu_trace.specs.Faulty.{is_faulty}
use Rattle.qu_listed.specs.Receivers.{keys_of}
use Rattle.qu_listing.proofs.ReceiverFacts.{faulty_ignores, correct_ignores}
use Rattle.qu_listing.proofs.receivers.Receivers.ignores.Goals as goal

pub returns-then-is_faulty : goal.returns-then-is_faulty
returns-then-is_faulty c =
    let faulty : is_faulty c.args.self.now c.args.to ≡ true =
    sym (ap (λ (setup : Setup). is_faulty setup c.args.to) c.self.view_is) ∙ sym c.is_faulty.ensures
    ∙ c.if-is_faulty.true in
    c.if-is_faulty.true ∙ sym (faulty_ignores c.args.self.now c.args.to c.args.text.now faulty)

pub returns-else-is_faulty : goal.returns-else-is_faulty
returns-else-is_faulty c =
    let correct : is_faulty c.args.self.now c.args.to ≡ false =
    sym (ap (λ (setup : Setup). is_faulty setup c.args.to) c.self.view_is) ∙ sym c.is_faulty.ensures
    ∙ c.if-is_faulty.false in
    let keys : c.self.inside.keys ≡ keys_of c.args.self.now = c.self.invariant ∙ ap keys_of c.self.view_is in
    let signed : c.is_signed.result ≡ is_signed (keys_of c.args.self.now) c.args.to c.args.text.now c.args.frame.now =
    c.is_signed.ensures
    ∙ ap (λ (ring : Ring). is_signed ring c.args.to c.args.text.now c.args.frame.now) keys in
    ap not signed
    ∙ sym (correct_ignores c.args.self.now c.args.to c.args.text.now c.args.frame.now correct c.requires)
