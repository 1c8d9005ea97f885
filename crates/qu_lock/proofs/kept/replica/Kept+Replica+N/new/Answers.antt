-- A replica that begins stands well, with no step.
use Rattle.std.proofs.Common.{sym, ap}
use Rattle.qu_base.specs.declared.party.Party.TheVariants as party
use Rattle.qu_base.specs.declared.party.ReplicaId.{ReplicaId}
use Rattle.qu_lock.proofs.Standing.{named_replica, replica_begins}
use Rattle.qu_lock.proofs.kept.replica.Kept+Replica+N.new.Goals as goal

pub opening-requires : goal.opening-requires
opening-requires g c = record {
  name =
      ap (λ (it : ReplicaId). party.Replica it)
      (sym (named_replica g.N.RunName.setup c.args.me c.args.replica c.requires));
  stands = replica_begins g.N.RunName.setup c.args.me c.args.replica c.requires;
}
