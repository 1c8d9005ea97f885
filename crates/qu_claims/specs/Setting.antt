-- What replicas accept over time, and what becomes of a candidate: accepted, attested, established.
-- Times and replicas are numbers; nothing here speaks of messages or of what a replica keeps.
-- Definitions whose comment names no source are this project's own; Query/Update is the paper of SOSP 2005.
use Rattle.std.specs.Prelude.{◌≡◌, ℕ, Bool, true, false, ◌&&◌, ◌+◌, ◌<◌, ◌≤◌, suc, Option}
use Rattle.qu_base.specs.declared.party.ObjectId.{ObjectId}
use Rattle.qu_stamp.specs.declared.stamp.Stamp.{Stamp}
use Rattle.qu_stamp.specs.declared.candidate.Candidate.{Candidate}
use Rattle.qu_stamp.specs.Stamp.{is_below}
use Rattle.qu_claims.specs.Count.{count}

-- what the theory speaks of
pub record Setting : Type 0 where
  -- how many replicas there are; how many of them are faulty; how many faulty ones are borne
  pub n : ℕ
  pub faults : ℕ
  pub b : ℕ
  -- how many replicas make a quorum, and how many that hold a candidate without barrier let it be repaired
  -- (Query/Update)
  pub quorum : ℕ
  pub repair : ℕ
  -- the last time
  pub last : ℕ
  -- the correct replicas
  pub good : ℕ → Bool
  -- the objects that there are
  pub known : ObjectId → Bool
  -- the candidates without barrier (Query/Update: those whose timestamp has no barrier flag)
  pub plain : Candidate → Bool
  -- those that an operation made; the other plain ones, but the opening one, are copies (Query/Update)
  pub is_act : Candidate → Bool
  -- the stamp that the candidate's group has on this object; the group is what was accepted together
  -- with it on several objects, itself included
  pub member : Candidate → ObjectId → Option Stamp
  -- by this time, on this object, this replica accepted this candidate
  pub accepted : ℕ → ObjectId → ℕ → Candidate → Bool

-- two different objects
abbrev pub Apart : ObjectId → ObjectId → Type 0
Apart object other = object.0 ≡ other.0 → ⊥

-- how many correct replicas accepted the candidate by this time
abbrev pub acceptors : Setting → ℕ → ObjectId → Candidate → ℕ
acceptors setting time object candidate =
    count setting.n (λ replica. setting.good replica && setting.accepted time object replica candidate)

-- some correct replica accepted it
abbrev pub IsAccepted : Setting → ℕ → ObjectId → Candidate → Type 0
IsAccepted setting time object candidate = 1 ≤ acceptors setting time object candidate

-- established: with b more, the correct replicas that accepted it make a quorum
abbrev pub IsEstablished : Setting → ℕ → ObjectId → Candidate → Type 0
IsEstablished setting time object candidate =
    setting.quorum ≤ acceptors setting time object candidate + setting.b

-- attested: so many correct replicas accepted it that with the faulty ones they are enough for a repair
-- (a repairable candidate of Query/Update, counted over correct replicas)
abbrev pub IsAttested : Setting → ℕ → ObjectId → Candidate → Type 0
IsAttested setting time object candidate =
    setting.repair ≤ acceptors setting time object candidate + setting.faults

-- the first candidate is reached from the second by following priors, through attested candidates without
-- barrier
pub data IsAncestor (setting : Setting) (time : ℕ) (object : ObjectId) (first : Candidate) : Candidate → Type 0 where
  direct : (second : Candidate) → second.prior ≡ first.stamp → IsAncestor setting time object first second
  through : (between second : Candidate) → second.prior ≡ between.stamp → setting.plain between ≡ true
      → IsAttested setting time object between → IsAncestor setting time object first between
      → IsAncestor setting time object first second

-- the chain at this time: of candidates without barrier, what is ever established is an ancestor of all that is
-- attested above it
abbrev pub ChainHolds : Setting → ℕ → Type 0
ChainHolds setting time = (object : ObjectId) (first second : Candidate)
    → setting.plain first ≡ true → setting.plain second ≡ true
    → IsEstablished setting setting.last object first → IsAttested setting time object second
    → is_below first.stamp second.stamp ≡ true
    → IsAncestor setting time object first second

-- a correct replica accepts the candidate at the step from this time to the next
pub record IsNew (setting : Setting) (time : ℕ) (object : ObjectId) (replica : ℕ) (candidate : Candidate)
    : Type 0 where
  pub step : time < setting.last
  pub within : replica < setting.n
  pub good : setting.good replica ≡ true
  pub after : setting.accepted (suc time) object replica candidate ≡ true
  pub before : setting.accepted time object replica candidate ≡ false
