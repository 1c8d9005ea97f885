use Rattle.std.proofs.Common.{rules, tests, ◌∙◌}
use Rattle.std.proofs.lemmas.Iterator.Adapters.{YieldsList-from_rev_slice}
use Rattle.std.proofs.lemmas.Iterator.Search.{any_from_yields_List}
use Rattle.qu_audit.specs.Forging.{is_sent_at}
use Rattle.qu_audit.proofs.Lists.{any_reversed}
use Rattle.qu_audit.proofs.forging.was_sent.Goals as goal

pub returns : goal.returns
returns c =
    any_from_yields_List (is_sent_at c.args.from c.args.to c.args.text.now) _ _ _ c.any.ensures.ran
    (YieldsList-from_rev_slice c.args.entries.now (cc)) (λ x b q k. search (rules, tests)) ∙
    any_reversed (is_sent_at c.args.from c.args.to c.args.text.now) c.args.entries.now
