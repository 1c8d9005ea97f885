use Rattle.std.proofs.Common.{◌∙◌, ap}
use Rattle.qu_history.specs.Sets.{are_sets}
use Rattle.qu_history.specs.Trimming.{trimmed}
use Rattle.qu_history.proofs.TrimmedSets.{trimmed_are_sets}
use Rattle.qu_history.proofs.sets.Sets.trim.Goals as goal

pub of-requires : goal.of-requires
of-requires c =
    ap are_sets (c.in_ok-objects.ensures ∙ ap (trimmed c.args.bounds.now) c.as_slice.ensures)
    ∙ trimmed_are_sets c.args.bounds.now c.objects.result.now c.objects.ensures.rising
