-- What the values along the order rest on, of the updates of a run: what a later rule of the protocol changes,
-- it has to show again, and nothing above it.
use Rattle.std.proofs.Common.{◌≡◌, ◌⊎◌, true, false, List, [], ◌∷◌, Some}
use Rattle.qu_base.specs.declared.party.ClientId.{ClientId}
use Rattle.std.specs.List.{AllZip}
use Rattle.qu_claims.specs.Groups.{IsOneAct}
use Rattle.qu_chain.specs.Joint.{HasMember}
use Rattle.qu_base.specs.declared.party.ObjectId.{ObjectId}
use Rattle.qu_stamp.specs.declared.candidate.Candidate.{Candidate}
use Rattle.qu_history.specs.History.{ObjectHistory}
use Rattle.qu_history.specs.Sets.{method_at}
use Rattle.qu_claims.specs.Setting.{Apart, IsAncestor}
use Rattle.qu_objects.specs.declared.act.Method.{Method}
use Rattle.qu_objects.specs.declared.kind.Value.{Value}
use Rattle.qu_objects.specs.declared.state.KeptRow.{KeptRow}
use Rattle.qu_objects.specs.declared.state.ObjState.{ObjState}
use Rattle.qu_objects.specs.Performing.{performed_values}
use Rattle.qu_kept.specs.Performing.{row_by}
use Rattle.qu_kept.specs.Rows.{row_of}
use Rattle.qu_trace.specs.declared.trace.Trace.{Trace}
use Rattle.qu_claims.specs.RunSetting.{setting}
use Rattle.qu_claims.specs.Updates.{Update, IsOf, IsEverAccepted}
use Rattle.qu_claims.specs.Values.{HasVersion}
use Rattle.qu_claims.specs.Truth.{IsWritten}

-- the candidate's version has this value
pub record HasValue (trace : Trace) (object : ObjectId) (candidate : Candidate) (value : Value) : Type 0 where
  pub version : ObjState
  pub has : HasVersion trace object candidate version
  pub value_is : version.value ≡ value

-- an update of the run for which the candidate was made
pub record MadeFor (trace : Trace) (object : ObjectId) (candidate : Candidate) : Type 0 where
  pub update : Update
  pub is_of : IsOf trace update object candidate

-- ---- what an update does to values

-- the value of one object before and after
pub record ValueStep : Type 0 where
  pub before : Value
  pub after : Value

abbrev pub befores : List ValueStep → List Value
befores [] = []
befores (step ∷ steps) = step.before ∷ befores steps

abbrev pub afters : List ValueStep → List Value
afters [] = []
afters (step ∷ steps) = step.after ∷ afters steps

-- on this object the candidate's companion, or itself, turns the value of its base into its own, and its version
-- keeps this row
pub record IsStep (trace : Trace) (object : ObjectId) (candidate : Candidate) (row : KeptRow) (other : ObjectId)
    (step : ValueStep) : Type 0 where
  pub companion : Candidate
  pub is_companion : IsOneAct (setting trace) object other candidate companion
  pub accepted : IsEverAccepted trace other companion
  pub base : Candidate
  pub prior : companion.prior ≡ base.stamp
  pub base_accepted : IsEverAccepted trace other base
  pub before : HasValue trace other base step.before
  pub version : ObjState
  pub has : HasVersion trace other companion version
  pub after_is : version.value ≡ step.after
  pub row_is : row_of row.client version.kept ≡ Some row

-- the update, performed by the candidate and its companions
pub record IsPerformed (trace : Trace) (update : Update) (object : ObjectId) (candidate : Candidate) : Type 0 where
  pub steps : List ValueStep
  pub each : AllZip (λ (part : ObjectId × Method) (step : ValueStep).
      IsStep trace object candidate (row_by update.client update.number update.parts (befores steps)) part.0 step)
      update.parts steps
  pub values : performed_values update.parts (befores steps) ≡ afters steps

-- ---- what is kept of updates

-- the first candidate is an ancestor of the second
abbrev pub IsUnder : Trace → ObjectId → Candidate → Candidate → Type 0
IsUnder trace object first second = IsAncestor (setting trace) (setting trace).last object first second

-- ---- the facts

-- no accepted candidate of an update is an ancestor of another, so that none is done upon itself
abbrev pub NoneIsRepeated : Trace → Type 0
NoneIsRepeated trace = (update : Update) (object : ObjectId) (first second : Candidate)
    → IsOf trace update object first → IsEverAccepted trace object first
    → IsOf trace update object second → IsEverAccepted trace object second
    → IsAncestor (setting trace) (setting trace).last object first second → ⊥

pub record UpdateFacts (trace : Trace) : Type 0 where
  -- an accepted candidate of an operation was made for an update
  pub made : (object : ObjectId) (candidate : Candidate) → IsEverAccepted trace object candidate
      → (setting trace).is_act candidate ≡ true → MadeFor trace object candidate
  -- it has no barrier
  pub plain : (object : ObjectId) (candidate : Candidate) → IsEverAccepted trace object candidate
      → (setting trace).is_act candidate ≡ true → (setting trace).plain candidate ≡ true
  -- a candidate that an operation may rest upon has no barrier
  pub plain_base : (object : ObjectId) (base : Candidate) (entries : List ObjectHistory)
      → method_at trace.setup.bounds entries ≡ Some base → IsEverAccepted trace object base
      → (setting trace).plain base ≡ true
  -- a group is of one update
  pub shared : (update : Update) (object other : ObjectId) (candidate companion : Candidate)
      → IsOf trace update object candidate → IsEverAccepted trace object candidate → Apart object other
      → (setting trace).member candidate other ≡ Some companion.stamp
      → IsEverAccepted trace other companion → IsOf trace update other companion
  -- what an update is made for on two objects is accepted in groups that have both
  pub spread : (update : Update) (object other : ObjectId) (candidate companion : Candidate)
      → IsOf trace update object candidate → IsEverAccepted trace object candidate
      → IsOf trace update other companion → IsEverAccepted trace other companion
      → (object ≡ other) ⊎ HasMember (setting trace) object candidate other
  -- a candidate has one version
  pub one_version : (object : ObjectId) (candidate : Candidate) (first second : ObjState)
      → HasVersion trace object candidate first → HasVersion trace object candidate second → first ≡ second
  -- a row of a version is that of an update on the way to it
  pub written : (object : ObjectId) (candidate : Candidate) (state : ObjState)
      → HasVersion trace object candidate state → IsEverAccepted trace object candidate
      → (client : ClientId) (row : KeptRow) → row_of client state.kept ≡ Some row
      → IsWritten trace object candidate client row
  -- a copy has its base's value
  pub copied : (object : ObjectId) (candidate base : Candidate) (value : Value)
      → IsEverAccepted trace object candidate → (setting trace).plain candidate ≡ true
      → (setting trace).is_act candidate ≡ false → candidate.prior ≡ base.stamp → (setting trace).plain base ≡ true
      → IsEverAccepted trace object base
      → HasValue trace object base value → HasValue trace object candidate value
  -- a candidate of an update has a version
  pub stored : (object : ObjectId) (candidate : Candidate) → IsEverAccepted trace object candidate
      → (setting trace).is_act candidate ≡ true → (version : ObjState) × HasVersion trace object candidate version
