-- A client that begins stands well, with no step.
use Rattle.std.proofs.Common.{sym, ap}
use Rattle.qu_base.specs.declared.party.Party.TheVariants as party
use Rattle.qu_base.specs.declared.party.ClientId.{ClientId}
use Rattle.qu_lock.proofs.Standing.{named_client, client_begins}
use Rattle.qu_lock.proofs.kept.client.Kept+Client+N.new.Goals as goal

pub opening-requires : goal.opening-requires
opening-requires g c = record {
  name =
      ap (λ (it : ClientId). party.Client it)
      (sym (named_client g.N.RunName.setup c.args.me c.args.client c.requires));
  stands = client_begins g.N.RunName.setup g.N.RunName.calls c.args.me c.args.client c.requires;
}
