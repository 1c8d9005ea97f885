use Rattle.std.proofs.Common.{rules, ◌∙◌}
use Rattle.qu_stamp.proofs.Order.{derived_cmp}
use Rattle.qu_stamp.proofs.stamp.compare.Goals as goal

pub returns : goal.returns
returns c =
    c.cmp.ensures ∙ derived_cmp c.args.stamp c.args.other (search rules) (search rules) (search rules) (search rules)
