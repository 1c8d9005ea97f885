-- The version of a candidate: the state that its update makes of the versions of its bases, or that of what it copies
-- with links of its own.
use Rattle.std.specs.Prelude.{◌≡◌, true, false, slice_get, Some}
use Rattle.qu_claims.specs.Groups.{IsOneAct}
use Rattle.qu_base.specs.declared.party.ObjectId.{ObjectId}
use Rattle.qu_stamp.specs.declared.candidate.Candidate.{Candidate}
use Rattle.qu_stamp.specs.Stamp.{is_below}
use Rattle.qu_stamp.specs.Candidate.{opening}
use Rattle.qu_objects.specs.declared.kind.KindName.{KindName}
use Rattle.qu_objects.specs.declared.kind.Value.{Value}
use Rattle.qu_objects.specs.declared.state.ObjState.{ObjState}
use Rattle.qu_objects.specs.Kind.{opening_version}
use Rattle.qu_objects.specs.Performing.{performed_values}
use Rattle.qu_kept.specs.Performing.{row_by, links_to_others, state_after, copied_state}
use Rattle.qu_kept.specs.Rows.{row_of}
use Rattle.qu_kept.specs.Standing.{IsLower}
use Rattle.qu_trace.specs.declared.trace.Trace.{Trace}
use Rattle.qu_claims.specs.RunSetting.{setting}
use Rattle.qu_claims.specs.Updates.{Update, IsOf, IsEverAccepted}
use Rattle.qu_claims.specs.Parts.{Names, values_on}

-- on this object the candidate's update is performed upon this base
pub record RestsOn (trace : Trace) (object : ObjectId) (candidate : Candidate) (other : ObjectId) (base : Candidate)
    : Type 0 where
  pub companion : Candidate
  pub is_companion : IsOneAct (setting trace) object other candidate companion
  pub accepted : IsEverAccepted trace other companion
  pub prior : companion.prior ≡ base.stamp
  pub base_accepted : IsEverAccepted trace other base

-- the version of a candidate of an object: the opening one's is fresh; that of a copy is its prior's, with links to
-- the other objects of the copy's group; another's is what its update makes of the versions of its bases, one on each
-- of its objects, none of which keeps a number of the client that is at least the update's. A barrier has none.
pub data HasVersion (trace : Trace) : ObjectId → Candidate → ObjState → Type 0 where
  of_opening : (object : ObjectId) (kind : KindName) → slice_get trace.setup.kinds object.0 ≡ Some kind
      → HasVersion trace object opening (opening_version kind)
  of_copy : (object : ObjectId) (candidate base : Candidate) (before state : ObjState)
      → is_below candidate.prior candidate.stamp ≡ true
      → (setting trace).plain candidate ≡ true → (setting trace).is_act candidate ≡ false
      → candidate.prior ≡ base.stamp → IsEverAccepted trace object base
      → HasVersion trace object base before
      → state ≡ copied_state object candidate before
      → HasVersion trace object candidate state
  of_update : (object : ObjectId) (candidate : Candidate) (update : Update) (bases : ObjectId → Candidate)
      (befores : ObjectId → ObjState) (afters : ObjectId → Value) (state : ObjState)
      → is_below candidate.prior candidate.stamp ≡ true
      → IsOf trace update object candidate
      → ((other : ObjectId) → Names update.parts other → RestsOn trace object candidate other (bases other))
      → ((other : ObjectId) → Names update.parts other → HasVersion trace other (bases other) (befores other))
      → performed_values update.parts (values_on (λ (other : ObjectId). (befores other).value) update.parts)
      ≡ values_on afters update.parts
      → state ≡ state_after
      (row_by update.client update.number update.parts
      (values_on (λ (other : ObjectId). (befores other).value) update.parts))
      (afters object) (links_to_others object candidate.stamp update.parts) (befores object)
      → ((other : ObjectId) → Names update.parts other
      → IsLower update.number (row_of update.client (befores other).kept))
      → HasVersion trace object candidate state
