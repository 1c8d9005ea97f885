use Rattle.std.proofs.Common.{◌≡◌, drop}
use Rattle.qu_trace.specs.Earliest.{earlier_of}
use Rattle.qu_audit.specs.Digests.{look, first_clash}
use Rattle.qu_audit.proofs.digests.Digests.first_clash.Given as goal

abbrev pub invariant-loop-text : goal.invariant-loop-text
invariant-loop-text l =
    earlier_of l.first (first_clash (look l.self) (drop l.text-index l.texts)) ≡ first_clash (look l.self) l.texts
