-- How a world may follow another: no replica forgets anything.
use Rattle.std.specs.Prelude.{◌≡◌}
use Rattle.std.specs.List.{AllZip}
use Rattle.qu_replica.specs.Growth.{Grows}
use Rattle.qu_world.specs.State.{WorldState}

-- each replica has what it had, and maybe more behind it
pub record GrowsTo (old new : WorldState) : Type 0 where
  pub setup : new.setup ≡ old.setup
  pub replicas : AllZip Grows old.replicas new.replicas
