-- What a stamp names, by the digests that it holds of the sets and of the act: the histories upon which its candidate
-- was accepted, and so prior and group (Query/Update: the logical timestamp holds a digest of the object history set).
use Rattle.std.specs.Prelude.{◌≡◌, ◌⊎◌, ℕ, List, length, IsTrue}
use Rattle.qu_base.specs.declared.party.ObjectId.{ObjectId}
use Rattle.qu_stamp.specs.declared.candidate.Candidate.{Candidate}
use Rattle.qu_stamp.specs.Candidate.{opening}
use Rattle.qu_history.specs.History.{ObjectHistory}
use Rattle.qu_history.specs.Sets.{entries_of}
use Rattle.qu_trace.specs.declared.trace.Trace.{Trace}
use Rattle.qu_claims.specs.Chained.{last_world}
use Rattle.qu_claims.specs.Accepted.{is_accepted}
use Rattle.qu_claims.specs.Origins.{Origin}

-- the histories of an object that the request showed upon which the candidate was made, as its replica culled them
abbrev pub shown_to : (trace : Trace) (count : ℕ) (object : ObjectId) (candidate : Candidate)
    → Origin trace count object candidate → ObjectId → List ObjectHistory
shown_to trace count object candidate origin other = entries_of other ((origin.delivered).accepts).sets

pub record StampsNameHistories (trace : Trace) : Type 0 where
  -- what a replica accepted is the opening candidate, or a replica made it upon a request
  pub origin : (object : ObjectId) (candidate : Candidate) → IsTrue (is_accepted (last_world trace) object candidate)
      → (candidate ≡ opening) ⊎ Origin trace (length trace.entries) object candidate
  -- whichever replicas made candidates with one stamp, they kept the same histories of each object in culling
  pub histories : (object : ObjectId) (first second : Candidate)
      (one : Origin trace (length trace.entries) object first)
      (other : Origin trace (length trace.entries) object second)
      → first.stamp ≡ second.stamp → (of : ObjectId) → shown_to trace (length trace.entries) object first one of
      ≡ shown_to trace (length trace.entries) object second other of
  -- and so the candidates have one prior
  pub prior : (object : ObjectId) (first second : Candidate) → Origin trace (length trace.entries) object first
      → Origin trace (length trace.entries) object second
      → first.stamp ≡ second.stamp → first.prior ≡ second.prior
  -- and one group
  pub group : (object : ObjectId) (first second : Candidate) → Origin trace (length trace.entries) object first
      → Origin trace (length trace.entries) object second
      → first.stamp ≡ second.stamp → first.group ≡ second.group
