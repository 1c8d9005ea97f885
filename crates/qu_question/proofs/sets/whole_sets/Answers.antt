use Rattle.std.proofs.Common.{refl, sym, subst}
use Rattle.std.specs.Option.{IsNone}
use Rattle.std.proofs.lemmas.Bool.{both_ways}
use Rattle.qu_question.proofs.Gathered.{are_sets_made}
use Rattle.qu_question.proofs.sets.whole_sets.Goals as goal

pub unreachable-requires : goal.unreachable-requires
unreachable-requires c =
    both_ways _ (c.in_ok-sets.ensures.refused.0 (subst IsNone (sym c.in-None.is) refl))
    (are_sets_made c.args.bounds c.args.kept.now _ _ c.loop-object.object-index c.loop-object.invariant
    c.loop-object-test.false c.requires (rw c.n-replicas.ensures.value at c.n-replicas.ensures.most))
