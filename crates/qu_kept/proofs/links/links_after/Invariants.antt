use Rattle.std.proofs.Common.{◌≡◌, drop}
use Rattle.qu_kept.specs.Performing.{links_to_others, with_links}
use Rattle.qu_kept.proofs.links.links_after.Given as goal

abbrev pub invariant-loop-other : goal.invariant-loop-other
invariant-loop-other g l =
    with_links (links_to_others l.object l.stamp (drop l.other-index l.parts)) l.new
    ≡ with_links (links_to_others l.object l.stamp l.parts) l.links
