-- What is asked of a run so that what is established forms a chain.
-- Definitions whose comment names no source are this project's own; Query/Update is the paper of SOSP 2005.
use Rattle.std.specs.Prelude.{◌≡◌, ℕ, true, false, not, ◌+◌, ◌<◌, ◌≤◌, suc, ◌⊎◌}
use Rattle.qu_base.specs.declared.party.ObjectId.{ObjectId}
use Rattle.qu_stamp.specs.declared.candidate.Candidate.{Candidate}
use Rattle.qu_stamp.specs.Stamp.{is_below}
use Rattle.qu_stamp.specs.Candidate.{opening}
use Rattle.qu_claims.specs.Count.{count}
use Rattle.qu_claims.specs.Setting.{Setting, IsEstablished, IsAttested, ChainHolds, IsNew}

-- what is asked of the numbers (Query/Update's constraints on n, b, quorums and repair, those that safety uses)
pub record Sizes (setting : Setting) : Type 0 where
  pub borne : setting.faults ≤ setting.b
  pub counted : count setting.n (λ replica. not (setting.good replica)) ≡ setting.faults
  -- a quorum and a repairing set share a correct replica
  pub meets : setting.n + setting.b < setting.quorum + setting.repair
  -- two quorums share a repairing set of correct replicas
  pub shares : setting.n + setting.b + setting.repair ≤ setting.quorum + setting.quorum
  -- the replicas make a quorum; so, by `meets`, b is below repair, and the faulty replicas alone
  -- are no repairing set
  pub within : setting.quorum ≤ setting.n

-- what is asked before all else
pub record Lasting (setting : Setting) : Type 0 where
  pub sizes : Sizes setting
  -- what is accepted stays so
  pub grows : (time : ℕ) (object : ObjectId) (replica : ℕ) (candidate : Candidate)
      → setting.accepted time object replica candidate ≡ true
      → setting.accepted (suc time) object replica candidate ≡ true

-- one stamp on an object is that of one candidate
abbrev pub StampsAreOne : Setting → Type 0
StampsAreOne setting =
    (object : ObjectId) (replica other_replica : ℕ) (candidate other : Candidate)
    → setting.good replica ≡ true → setting.good other_replica ≡ true
    → replica < setting.n → other_replica < setting.n
    → setting.accepted setting.last object replica candidate ≡ true
    → setting.accepted setting.last object other_replica other ≡ true
    → candidate.stamp ≡ other.stamp
    → candidate ≡ other

-- the candidate rests on an attested one that passes over nothing established which this replica had
-- accepted (Query/Update's rules for what a replica accepts)
pub record IsLinked (setting : Setting) (time : ℕ) (object : ObjectId) (replica : ℕ) (candidate : Candidate)
    : Type 0 where
  pub base : Candidate
  pub plain_base : setting.plain base ≡ true
  pub prior : candidate.prior ≡ base.stamp
  pub below : is_below base.stamp candidate.stamp ≡ true
  pub attested : IsAttested setting time object base
  -- an operation is performed on what is established alone
  pub settled : setting.is_act candidate ≡ true → IsEstablished setting time object base
  pub not_below : (other : Candidate) → setting.plain other ≡ true
      → IsEstablished setting setting.last object other
      → setting.accepted time object replica other ≡ true
      → is_below base.stamp other.stamp ≡ false

-- some correct replica accepts something on this object at this step
pub record Given (setting : Setting) (time : ℕ) (object : ObjectId) : Type 0 where
  pub replica : ℕ
  pub candidate : Candidate
  pub new : IsNew setting time object replica candidate

-- what is asked of a run
pub record Laws (setting : Setting) : Type 0 where
  pub lasting : Lasting setting
  -- the opening candidate has no barrier
  pub opens : setting.plain opening ≡ true
  -- at first each correct replica has accepted the opening candidate of each object
  pub begins : (object : ObjectId) (replica : ℕ) → setting.known object ≡ true
      → setting.good replica ≡ true → replica < setting.n
      → setting.accepted 0 object replica opening ≡ true
  -- and nothing else
  pub start : (object : ObjectId) (replica : ℕ) (candidate : Candidate)
      → setting.good replica ≡ true → replica < setting.n
      → setting.accepted 0 object replica candidate ≡ true
      → candidate ≡ opening
  -- a correct replica accepts candidates of objects that there are
  pub only_known : (time : ℕ) (object : ObjectId) (replica : ℕ) (candidate : Candidate)
      → setting.good replica ≡ true → replica < setting.n
      → setting.accepted time object replica candidate ≡ true
      → setting.known object ≡ true
  -- what a correct replica accepts is above all that it accepted before
  pub rising : (time : ℕ) (object : ObjectId) (replica : ℕ) (candidate earlier : Candidate)
      → IsNew setting time object replica candidate
      → setting.accepted time object replica earlier ≡ true
      → is_below earlier.stamp candidate.stamp ≡ true
  -- a correct replica accepts one candidate at a time on an object
  pub alone : (time : ℕ) (object : ObjectId) (replica : ℕ) (candidate other : Candidate)
      → IsNew setting time object replica candidate
      → IsNew setting time object replica other
      → candidate ≡ other
  -- whether something is accepted on an object at a step can be told
  pub moves : (time : ℕ) (object : ObjectId) → time < setting.last
      → Given setting time object
      ⊎ ((replica : ℕ) (candidate : Candidate) → IsNew setting time object replica candidate → ⊥)
  -- one correct replica accepts at a step
  pub one_mover : (time : ℕ) (object other_object : ObjectId) (replica other_replica : ℕ) (candidate other : Candidate)
      → IsNew setting time object replica candidate
      → IsNew setting time other_object other_replica other
      → replica ≡ other_replica
  -- a candidate without barrier that a correct replica accepts was attested, or is linked; to show this the
  -- chain up to now may be used, on every object
  pub linked : (time : ℕ) (object : ObjectId) (replica : ℕ) (candidate : Candidate)
      → ChainHolds setting time
      → setting.plain candidate ≡ true
      → IsNew setting time object replica candidate
      → IsAttested setting time object candidate ⊎ IsLinked setting time object replica candidate
