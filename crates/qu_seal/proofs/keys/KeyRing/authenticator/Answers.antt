use Rattle.std.proofs.Common.{ℕ}
use Rattle.qu_base.specs.declared.party.Party.TheVariants.{Replica}
use Rattle.qu_seal.specs.Keys.{seal_of}
use Rattle.qu_seal.proofs.Numbers.{numbers_more}
use Rattle.qu_seal.proofs.keys.KeyRing.authenticator.Goals as goal

pub loop-number-preserved : goal.loop-number-preserved
loop-number-preserved c =
    numbers_more (λ (number : ℕ). seal_of c.args.self.now (Replica c.args.me) (Replica (record { 0 = number }))
    c.args.text.now) c.loop-number.number
    c.loop-number.macs c.push.new.self c.seal_for.result c.loop-number.invariant c.in_ok-push.ensures.ok
    c.seal_for.ensures
