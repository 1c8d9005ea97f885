use Rattle.std.proofs.Common.{◌≡◌, ◌+◌, get_or, drop, ap, ◌∙◌}
use Rattle.qu_trace.specs.Earliest.{earlier_of}
use Rattle.qu_audit.specs.Digests.{look, clash, first_clash}
use Rattle.qu_audit.proofs.Clashes.{first_clash_more}
use Rattle.qu_audit.proofs.digests.Digests.first_clash.Goals as goal

pub loop-text-preserved : goal.loop-text-preserved
loop-text-preserved c =
    let seen = look c.args.self.now in
    let all = c.args.texts.now in
    let index = c.loop-text.text-index in
    let clashes : c.clash.result ≡ clash seen (get_or all index c.text-item.result) =
    c.clash.ensures ∙ ap (clash seen) c.text-item.is in
    ap (λ first. earlier_of first (first_clash seen (drop (index + 1) all)))
    (c.earlier-first.ensures ∙ ap (earlier_of c.loop-text.first) clashes) ∙
    first_clash_more seen all index c.text-item.result c.loop-text.first c.loop-text-test.true ∙
    c.loop-text.invariant
