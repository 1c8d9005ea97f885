-- What keeps letters from their receivers: replicas that are held, and letters that were lost.
use Rattle.std.specs.Prelude.{ℕ, Bool, false, ◌||◌, List, [], ◌∷◌, replicate, slice_get, slice_set, Option, None, Some}
use Rattle.qu_base.specs.declared.party.Party.{Party}
use Rattle.qu_base.specs.declared.party.Party.TheVariants as party
use Rattle.qu_base.specs.declared.party.ReplicaId.{ReplicaId}
use Rattle.qu_frames.specs.declared.frame.Letter.{Letter}

pub record OutageState : Type 0 where
  -- for each replica, from number 0 on, whether it is held
  pub held : List Bool
  -- flow takes no letter up to this one any more
  pub lost : ℕ

-- none of so many replicas is held, and no letter was lost
abbrev pub no_outage : ℕ → OutageState
no_outage count = record { held = replicate count false; lost = 0 }

-- the marks, where each of these replicas has this one now
unfoldable pub with_marks : Bool → List Bool → List ReplicaId → List Bool
with_marks mark held [] = held
with_marks mark held (me ∷ replicas) = with_marks mark (slice_set held me.0 mark) replicas

abbrev pub is_marked : Option Bool → Bool
is_marked None = false
is_marked (Some mark) = mark

-- whether the party is a held replica
abbrev pub is_held_replica : List Bool → Party → Bool
is_held_replica held (party.Replica me) = is_marked (slice_get held me.0)
is_held_replica held (party.Client me) = false

-- whether a held replica sent the letter, or is to get it
abbrev pub is_held_back : List Bool → Option Letter → Bool
is_held_back held None = false
is_held_back held (Some letter) = is_held_replica held letter.from || is_held_replica held letter.to
