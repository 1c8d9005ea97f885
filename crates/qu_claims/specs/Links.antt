-- What the links of a version say. A version keeps for another object the stamp that it had when it was last made
-- together with one there.
-- Definitions whose comment names no source are this project's own; Query/Update is the paper of SOSP 2005.
use Rattle.std.specs.Prelude.{◌≡◌, ℕ, false, ◌⊎◌, Option, Some}
use Rattle.qu_base.specs.declared.party.ObjectId.{ObjectId}
use Rattle.qu_stamp.specs.declared.stamp.Stamp.{Stamp}
use Rattle.qu_stamp.specs.declared.candidate.Candidate.{Candidate}
use Rattle.qu_stamp.specs.Stamp.{is_below}
use Rattle.qu_claims.specs.Setting.{Setting, Apart, IsAccepted, IsAncestor}

-- accepted candidates from this one down to one of the stamp
pub data Descends (setting : Setting) (time : ℕ) (object : ObjectId) (low : Stamp) : Candidate → Type 0 where
  here : (candidate : Candidate) → candidate.stamp ≡ low → Descends setting time object low candidate
  under : (candidate base : Candidate) → candidate.prior ≡ base.stamp → IsAccepted setting time object base
      → Descends setting time object low base → Descends setting time object low candidate

-- the links of a version of this candidate are true and kept
pub record LinksAre (setting : Setting) (time : ℕ) (object : ObjectId) (candidate : Candidate)
    (link : ObjectId → Option Stamp) : Type 0 where
  -- what a link names is this candidate or under it
  pub named : (other : ObjectId) (stamp : Stamp) → link other ≡ Some stamp
      → Descends setting time object stamp candidate
  -- no candidate of a group at or under this one is above the link to the group's other object
  pub kept : (low : Candidate) (other : ObjectId) (stamp : Stamp)
      → IsAccepted setting setting.last object low
      → (low ≡ candidate) ⊎ IsAncestor setting setting.last object low candidate
      → Apart object other → setting.member low other ≡ Some stamp
      → (own : Stamp) × (link other ≡ Some own) × (is_below own low.stamp ≡ false)
  -- what is under this candidate is not above it
  pub under : (low : Candidate) → IsAccepted setting setting.last object low
      → IsAncestor setting setting.last object low candidate
      → is_below candidate.stamp low.stamp ≡ false
