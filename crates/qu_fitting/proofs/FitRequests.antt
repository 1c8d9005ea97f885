-- The fields of a request that fits its format fit theirs, and what is decided upon it fits.
use Rattle.std.proofs.Common.{◌≡◌, ℕ, ◌-◌, ◌^◌, ◌≤◌, List, length, Some, refl, subst, arith, ◌<◌}
use Rattle.std.proofs.lemmas.Option.{same_Some}
use Rattle.qu_frames.specs.declared.limits.TheConstants.{LAST_ROUND}
use Rattle.qu_base.specs.declared.limits.TheConstants.{REPLICA_IDS, LAST_CLIENT}
use Rattle.qu_base.specs.declared.party.ClientId.{ClientId}
use Rattle.qu_base.specs.declared.party.Digest.{Digest}
use Rattle.qu_base.specs.declared.party.ObjectId.{ObjectId}
use Rattle.qu_base.specs.Format.{AreBytes}
use Rattle.qu_seal.proofs.Lengths.{length-digest}
use Rattle.qu_history.specs.declared.sets.SetOf.{SetOf}
use Rattle.qu_history.specs.Formats.{sets_form}
use Rattle.qu_history.specs.Text.{sets_digest}
use Rattle.qu_history.specs.Culling.{culled}
use Rattle.qu_objects.specs.Digesting.{act_digest, MethodFits}
use Rattle.qu_objects.specs.Formats.{is_one_of, method_form, ask_form, act_form, query_form}
use Rattle.qu_frames.specs.declared.frame.Body.{Body}
use Rattle.qu_frames.specs.declared.frame.Body.TheVariants as body
use Rattle.qu_frames.specs.declared.frame.Frame.{Frame}
use Rattle.qu_frames.specs.declared.frame.Frame.TheVariants as frame
use Rattle.qu_frames.specs.Blank.{blank_mac}
use Rattle.qu_frames.specs.Formats.{objects_in_sets, body_form, request_frame, kind_form, frame_form, fetched_frame}
use Rattle.qu_frames.specs.Signing.{brought}
use Rattle.qu_frames.proofs.Signed.{brought_is_decoded}
use Rattle.qu_frames.proofs.Decoded.{decoded_is_spelled}
use Rattle.qu_rows.specs.State.{ReplicaState}
use Rattle.qu_rows.specs.Rows.{Asked, act_asked, asked_at, decision_on}
use Rattle.qu_fitting.specs.Fits.{StateFits}
use Rattle.qu_fitting.proofs.FitCulled.{culled-fits}
use Rattle.qu_fitting.proofs.FitValues.{method_numbers}
use Rattle.qu_fitting.proofs.FitDecisions.{AskedFits, DecisionFits}
use Rattle.qu_fitting.proofs.FitOperations.{act_decision-fits, ask_decision-fits}
use Rattle.qu_fitting.proofs.RisingParts.{parts_rise, each_part}
use Rattle.qu_fitting.proofs.FitMends.{mend_decision-fits}
use Rattle.qu_fitting.proofs.FitVersions.{act_sized}
use Rattle.qu_base.specs.declared.party.ReplicaId.{ReplicaId}
use Rattle.qu_stamp.specs.declared.stamp.Stamp.{Stamp}
use Rattle.qu_objects.specs.declared.state.ObjState.{ObjState}
use Rattle.qu_seal.specs.Keys.{Ring}
use Rattle.qu_base.specs.declared.party.Party.{Party}
use Rattle.qu_base.proofs.EachItem.{each_weaker}

pub blank_sized : length blank_mac ≡ 32
unfolding blank_mac
blank_sized = refl

-- the fields of a request fit
pub record RequestFits (client : ClientId) (number round : ℕ) (sets : List SetOf) (asks : Body) : Type 0 where
  pub low : 1 ≤ client.0
  pub high : client.0 ≤ LAST_CLIENT
  pub word : number ≤ 2 ^ 64 - 1
  pub from_one : 1 ≤ round
  pub few : round ≤ LAST_ROUND
  pub shown : sets_form.Fits sets
  pub asked : (body_form (objects_in_sets sets)).Fits asks

pub request-fits : (client : ClientId) (number round : ℕ) (sets : List SetOf) (asks : Body) (mac : List ℕ)
    → frame_form.Fits (frame.Request client number round sets asks mac) → RequestFits client number round sets asks
unfolding frame_form kind_form request_frame
request-fits client number round sets asks mac fits =
    let fields = (fits.1).1 in
    record {
      low = (fields.0).0;
      high = (fields.0).1;
      word = ((fields.1).0).1;
      from_one = (((fields.1).1).0).0;
      few = (((fields.1).1).0).1;
      shown = (((fields.1).1).1).0;
      asked = ((((fields.1).1).1).1).0;
    }

sets_sized : (sets : List SetOf) → length (sets_digest sets).0 ≡ 32
unfolding sets_digest
sets_sized sets = length-digest _ _

acted_sized : (client : ClientId) (number : ℕ) (asks : Body) (digest : Digest)
    → act_asked client number asks ≡ Some digest → length digest.0 ≡ 32
acted_sized client number (body.Act parts) digest is =
    subst (λ (it : Digest). length it.0 ≡ 32) (same_Some (act_digest client number parts) digest is)
    (act_sized client number parts)
acted_sized client number (body.Ask parts) digest is = absurd cc
acted_sized client number (body.Mend target) digest is = absurd cc

pub decision-fits : (state : ReplicaState) (client : ClientId) (number round : ℕ) (sets : List SetOf)
    (asks : Body) → StateFits state → RequestFits client number round sets asks
    → DecisionFits (decision_on state (asked_at state client number sets asks) asks)
unfolding body_form act_form query_form
decision-fits state client number round sets asks fits request =
    let asked : Asked = asked_at state client number sets asks in
    let asked_fits : AskedFits asked =
    record {
      low = request.low;
      high = request.high;
      number = request.word;
      sets = culled-fits state.keys state.me sets request.shown;
      act = acted_sized client number asks;
      set = sets_sized (culled state.keys state.me sets);
    } in
    decided asks asked asked_fits request.asked
  where
    decided : (asks : Body) (asked : Asked) → AskedFits asked → (body_form (objects_in_sets sets)).Fits asks
        → DecisionFits (decision_on state asked asks)
    decided (body.Act parts) asked asked_fits within =
        act_decision-fits state asked fits asked_fits parts
        (parts_rise method_form (is_one_of (objects_in_sets sets)) parts within.1)
        (each_weaker (λ part. method_form.Fits part.1) (λ part. MethodFits part.1) parts
        (λ part fit. method_numbers part.1 fit)
        (each_part method_form (is_one_of (objects_in_sets sets)) parts within.1))
    decided (body.Ask query) asked asked_fits within =
        ask_decision-fits state asked fits asked_fits query
        (parts_rise ask_form (is_one_of (objects_in_sets sets)) query within.1)
    decided (body.Mend target) asked asked_fits within =
        mend_decision-fits state asked fits asked_fits target ((within.1).0).1

-- who sent it has a number of a replica
pub sender-fits : (keys : Ring) (me : Party) (text : List ℕ) (replica : ReplicaId) (object : ObjectId)
    (stamp : Stamp) (version : ObjState) (mac : List ℕ) → AreBytes text
    → brought keys me text ≡ Some (frame.Fetched replica object stamp version mac) → replica.0 < REPLICA_IDS
unfolding frame_form kind_form fetched_frame
sender-fits keys me text replica object stamp version mac are brings =
    let sent : Frame = frame.Fetched replica object stamp version mac in
    let fits : frame_form.Fits sent =
    (decoded_is_spelled text sent are (brought_is_decoded keys me text sent brings)).0 in
    let most : replica.0 ≤ REPLICA_IDS - 1 = (((fits.1).1).0).1 in
    omega (arith, most)
