use Rattle.std.proofs.Common.{◌∙◌, ap}
use Rattle.qu_history.specs.Sets.{are_sets}
use Rattle.qu_history.specs.Culling.{culled}
use Rattle.qu_history.proofs.CulledSets.{culled_are_sets}
use Rattle.qu_history.proofs.sets.Sets.cull_by.Goals as goal

pub of-requires : goal.of-requires
of-requires c =
    ap are_sets (c.in_ok-objects.ensures.stays ∙ ap (culled c.args.keys.now c.args.me) c.as_slice.ensures)
    ∙ culled_are_sets c.args.keys.now c.args.me c.objects.result.now c.objects.ensures.rising
