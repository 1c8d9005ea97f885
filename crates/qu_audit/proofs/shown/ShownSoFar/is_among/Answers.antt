use Rattle.std.proofs.Common.{rules, tests, ◌∙◌}
use Rattle.std.proofs.lemmas.Iterator.Adapters.{YieldsList-from_rev_slice}
use Rattle.std.proofs.lemmas.Iterator.Search.{any_from_yields_List}
use Rattle.qu_audit.specs.Forging.{is_showing}
use Rattle.qu_audit.proofs.Lists.{any_reversed}
use Rattle.qu_audit.proofs.shown.ShownSoFar.is_among.Goals as goal

pub returns : goal.returns
returns c =
    any_from_yields_List (is_showing c.args.me c.args.sealed.now) _ _ _ c.any.ensures.ran
    (YieldsList-from_rev_slice c.args.self.now (cc)) (λ x b q k. search (rules, tests)) ∙
    any_reversed (is_showing c.args.me c.args.sealed.now) c.args.self.now
