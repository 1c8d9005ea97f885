use Rattle.std.proofs.Common.{List, ℕ, sym, ap, subst, ◌∙◌}
use Rattle.std.specs.Prelude.{IfSome}
use Rattle.std.specs.Option.{option_copied}
use Rattle.qu_frames.specs.declared.frame.Letter.{Letter}
use Rattle.qu_trace.specs.declared.trace.Trace.{Trace}
use Rattle.qu_world.specs.State.{ring_of}
use Rattle.qu_points.specs.Signed.{IsSignedBy, client_in}
use Rattle.qu_points.proofs.Handled.OwnLetters.{client_signed}
use Rattle.qu_points.proofs.acts.handled_act.Goals as goal

-- a letter of a client is signed for its receiver
pub act_to-requires-clause-sent : goal.act_to-requires-clause-sent
act_to-requires-clause-sent c =
    let letter : Letter = c.in-Some.letter.now in
    let signed : IfSome (client_in letter.from)
    (λ from. IsSignedBy (ring_of c.args.trace.now.setup) from letter.to letter.text) =
    client_signed c.args.trace.now c.requires.run _ letter (sym c.letter.ensures ∙ ap option_copied c.in-Some.is) in
    subst (λ (run : Trace). IfSome c.client_of.result
    (λ from. IsSignedBy (ring_of run.setup) from letter.to c.as_slice.result.now)) (sym c.trace.ensures)
    (subst (λ (text : List ℕ). IfSome c.client_of.result
    (λ from. IsSignedBy (ring_of c.args.trace.now.setup) from letter.to text)) (sym c.as_slice.ensures)
    (subst (λ found. IfSome found
    (λ from. IsSignedBy (ring_of c.args.trace.now.setup) from letter.to letter.text)) (sym c.client_of.ensures) signed))
