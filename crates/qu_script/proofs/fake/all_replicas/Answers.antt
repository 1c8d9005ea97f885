-- One replica more.
use Rattle.std.proofs.Common.{◌∙◌, ◌++◌, ◌∷◌, [], List, ap, sym, arith}
use Rattle.std.proofs.lemmas.List.FromFn.{map-range_with_len_more}
use Rattle.qu_base.specs.declared.party.ReplicaId.{ReplicaId}
use Rattle.qu_script.specs.Fake.{numbered_replica}
use Rattle.qu_script.proofs.fake.all_replicas.Goals as goal

pub loop-number-preserved : goal.loop-number-preserved
loop-number-preserved c =
    c.in_ok-push.ensures.ok
    ∙ ap (λ (all : List ReplicaId). all ++ numbered_replica c.loop-number.number ∷ []) c.loop-number.invariant
    ∙ sym (map-range_with_len_more (λ number. numbered_replica number) 0 c.loop-number.number c.loop-number.number
    (omega arith))
