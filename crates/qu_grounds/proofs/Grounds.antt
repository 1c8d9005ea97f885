-- Where a candidate with grounds stands: above all that its replica holds, and upon a base that the replica
-- has nothing above.
use Rattle.std.proofs.Common.{◌≡◌, ◌≤◌, ℕ, Bool, true, false, ◌&&◌, List, Option, None, Some, Result, refl, sym, subst, ap, ◌∙◌, inl, inr, unwrap_or, is_some, ◌⊎◌}
use Rattle.std.specs.Prelude.{nat_le}
use Rattle.std.proofs.lemmas.Bool.{false≢true, cases_Bool, and_parts, leb-true}
use Rattle.std.proofs.lemmas.Option.{none-some, cond_some}
use Rattle.qu_base.specs.declared.party.ObjectId.{ObjectId}
use Rattle.qu_base.specs.Bounds.{quorum}
use Rattle.qu_stamp.specs.declared.stamp.Stamp.{Stamp}
use Rattle.qu_stamp.specs.declared.candidate.Candidate.{Candidate}
use Rattle.qu_stamp.specs.Stamp.{is_below, same_stamp}
use Rattle.qu_stamp.proofs.Order.{is_below-self, is_below-not_chain, equal_by_same_stamp}
use Rattle.qu_history.specs.History.{ObjectHistory, holds}
use Rattle.qu_history.specs.Sets.{entries_of, order_of, latest_of, object_candidate, if_method, method_at}
use Rattle.qu_history.proofs.Stamps.{not_below_latest}
use Rattle.qu_history.proofs.Method.{if_method_found}
use Rattle.qu_rows.specs.Rows.{Asked, fresh_stamp, asked_of, act_asked, objects_of, linking_of}
use Rattle.qu_class.specs.Repairable.{object_base}
use Rattle.qu_rows.specs.State.{ReplicaState, own_candidates, own_latest}
use Rattle.qu_plan.specs.declared.plan.CopyPlan.{CopyPlan}
use Rattle.qu_plan.specs.declared.plan.PlanFail.{PlanFail}
use Rattle.qu_plan.specs.Chosen.{chosen_on}
use Rattle.qu_claims.specs.Grounds.{IsGround, Reasons, AddsTo, IsMade, planned_on, made_on, made_upon, IsMadeFrom, IsFound, made_stamp, Performs, IsRemedy}
use Rattle.qu_rows.proofs.Allowed.{fresh_later}
use Rattle.qu_frames.specs.declared.frame.Body.{Body}
use Rattle.qu_base.specs.declared.party.ClientId.{ClientId}
use Rattle.qu_stamp.specs.Candidate.{opening}
use Rattle.qu_objects.specs.declared.act.Method.{Method}
use Rattle.qu_history.specs.declared.sets.SetOf.{SetOf}
use Rattle.qu_frames.specs.declared.frame.Body.TheVariants as body
use Rattle.qu_claims.specs.Parts.{Names}
use Rattle.qu_objects.specs.declared.state.ObjState.{ObjState}

-- ---- what a base is

-- a candidate of class METHOD has the latest stamp, and a quorum of the entries hold it
pub record IsBase (bounds : ℕ) (entries : List ObjectHistory) (base : Candidate) : Type 0 where
  pub latest : base.stamp ≡ latest_of entries
  pub of_quorum : quorum bounds ≤ order_of base entries

base_of_found : (bounds : ℕ) (entries : List ObjectHistory) (found : Option Candidate) (base : Candidate)
    → if_method bounds entries found ≡ Some base → IsBase bounds entries base
unfolding if_method
base_of_found bounds entries None base given = absurd (none-some base given)
base_of_found bounds entries (Some candidate) base given =
    let passing :
    ((same_stamp candidate.stamp (latest_of entries) && nat_le (quorum bounds) (order_of candidate entries))
    ≡ true) × (candidate ≡ base) = cond_some _ candidate base given in
    let parts : (same_stamp candidate.stamp (latest_of entries) ≡ true)
    × (nat_le (quorum bounds) (order_of candidate entries) ≡ true) = and_parts _ _ passing.0 in
    record {
      latest = ap (λ (it : Candidate). it.stamp) (sym passing.1) ∙ equal_by_same_stamp candidate.stamp
          (latest_of entries) parts.0;
      of_quorum = leb-true _ _ (ap (λ (it : Candidate). nat_le (quorum bounds) (order_of it entries))
          (sym passing.1) ∙ parts.1);
    }

pub is_base : (bounds : ℕ) (entries : List ObjectHistory) (base : Candidate)
    → method_at bounds entries ≡ Some base → IsBase bounds entries base
unfolding method_at
is_base bounds entries base given = base_of_found bounds entries (object_candidate bounds entries) base given

pub base_of_method : (bounds : ℕ) (entries : List ObjectHistory) (base : Candidate)
    → method_at bounds entries ≡ Some base → object_base bounds entries ≡ base
unfolding method_at object_base
base_of_method bounds entries base given =
    ap (λ (found : Option Candidate). unwrap_or found opening)
    (if_method_found bounds entries (object_candidate bounds entries) base given)

-- ---- where its replica has it

below_by_latest : (held latest fresh : Stamp) → is_below latest held ≡ false → is_below latest fresh ≡ true
    → is_below held fresh ≡ true
below_by_latest held latest fresh not_above later =
    elim (cases_Bool (is_below held fresh)) [
      | inl below ↦ below
      | inr not_below ↦ absurd (false≢true (sym (is_below-not_chain latest held fresh not_above not_below) ∙ later))
    ]

-- what an act would make is above all that a replica has, where it has nothing above what is shown
pub fresh_above : (state : ReplicaState) (asked : Asked) (object : ObjectId)
    → is_below (latest_of (entries_of object asked.sets)) (own_latest state object) ≡ false → (held : Candidate)
    → holds held (own_candidates state object) ≡ true → is_below held.stamp (fresh_stamp asked object) ≡ true
fresh_above state asked object current held holding =
    below_by_latest held.stamp (own_latest state object) (fresh_stamp asked object)
    (not_below_latest (own_candidates state object) held holding)
    (fresh_later (latest_of (entries_of object asked.sets)) (own_latest state object) (fresh_stamp asked object) refl
    current)

module _ {state : ReplicaState} {asked : Asked} {objects : List ObjectId} {object : ObjectId}
    {candidate base : Candidate} (grounds : IsGround state asked objects object candidate base) where
  -- the base is the latest of what is shown
  pub base_latest : base.stamp ≡ latest_of (entries_of object asked.sets)
  base_latest = (is_base state.keys.bounds (entries_of object asked.sets) base grounds.method).latest

  -- the candidate comes after its base
  pub above_base : is_below base.stamp candidate.stamp ≡ true
  above_base =
      let latest : Stamp = latest_of (entries_of object asked.sets) in
      ap (λ (stamp : Stamp). is_below stamp candidate.stamp) base_latest ∙
      ap (λ (stamp : Stamp). is_below latest stamp) grounds.stamp ∙
      fresh_later latest latest (fresh_stamp asked object) refl (is_below-self latest)

  -- and after all that the replica holds
  pub above_own : is_below (own_latest state object) candidate.stamp ≡ true
  above_own =
      ap (λ (stamp : Stamp). is_below (own_latest state object) stamp) grounds.stamp ∙
      fresh_later (latest_of (entries_of object asked.sets)) (own_latest state object) (fresh_stamp asked object)
      refl grounds.current

  -- the replica holds nothing above the base
  pub base_not_below : (held : Candidate) → holds held (own_candidates state object) ≡ true
      → is_below base.stamp held.stamp ≡ false
  base_not_below held holding =
      ap (λ (stamp : Stamp). is_below stamp held.stamp) base_latest ∙
      is_below-not_chain (latest_of (entries_of object asked.sets)) (own_latest state object) held.stamp
      grounds.current (not_below_latest (own_candidates state object) held holding)

-- ---- what a request makes a replica accept

module _ (old new : ReplicaState) (asked : Asked) (group : List (ObjectId × ℕ)) (candidates : ObjectId → Candidate)
  where
    -- it is above all that the replica has
    pub above_added : (asks : Body) → Reasons old new asked asks group candidates → (object : ObjectId)
        → AddsTo asks group object → is_below (own_latest old object) (candidates object).stamp ≡ true
    above_added (body.Act parts) reasons object names = above_own (reasons.grounds object names)
    above_added (body.Ask parts) reasons object never = absurd never
    above_added (body.Mend target) reasons object mended = reasons.above object mended

    pub added_above : (asks : Body) → Reasons old new asked asks group candidates → (object : ObjectId)
        → AddsTo asks group object → (held : Candidate) → holds held (own_candidates old object) ≡ true
        → is_below held.stamp (candidates object).stamp ≡ true
    added_above asks reasons object adds held holding =
        below_by_latest held.stamp (own_latest old object) (candidates object).stamp
        (not_below_latest (own_candidates old object) held holding) (above_added asks reasons object adds)

    -- the replica made it, with what it made on the other objects, or was shown it
    pub made_or_found : (asks : Body) → Reasons old new asked asks group candidates → (object : ObjectId)
        → AddsTo asks group object → IsMadeFrom old.keys.bounds (linking_of old) asked asks object (candidates object)
        ⊎ IsFound old.keys.bounds asked object (candidates object)
    made_or_found (body.Act parts) reasons object names =
        let grounds : IsGround old asked (objects_of parts) object (candidates object) (reasons.bases object) =
        reasons.grounds object names in
        inl (record {
          stamp = grounds.stamp
              ∙ ap (made_stamp asked object) (sym (ap (λ (it : Stamp). it.barrier) grounds.stamp));
          prior = grounds.prior
              ∙ ap (λ (it : Candidate). it.stamp)
              (sym (base_of_method old.keys.bounds (entries_of object asked.sets) (reasons.bases object)
              grounds.method));
          group = grounds.group;
        })
    made_or_found (body.Ask parts) reasons object never = absurd never
    made_or_found (body.Mend target) reasons object mended =
        by_remedy (candidates object) (reasons.versions object) (reasons.remedy object mended)
      where
        made_so : (candidate : Candidate) (barrier : Bool) → candidate.stamp.barrier ≡ barrier
            → IsMade asked (made_upon old.keys.bounds (linking_of old) asked (body.Mend target) object barrier)
            (made_on old.keys.bounds (linking_of old) asked (body.Mend target) object barrier) object candidate
            → IsMadeFrom old.keys.bounds (linking_of old) asked (body.Mend target) object candidate
        made_so candidate barrier is made =
            subst (λ (it : Bool). IsMade asked (made_upon old.keys.bounds (linking_of old) asked (body.Mend target)
            object it)
            (made_on old.keys.bounds (linking_of old) asked (body.Mend target) object it) object candidate) (sym is)
            made

        by_remedy : (candidate : Candidate) (version : Option ObjState)
            → IsRemedy old asked target object candidate version
            → IsMadeFrom old.keys.bounds (linking_of old) asked (body.Mend target) object candidate
            ⊎ IsFound old.keys.bounds asked object candidate
        by_remedy candidate version (IsRemedy.inline_barrier barrier found) = inr found
        by_remedy candidate version (IsRemedy.inline_method state plain found stored) = inr found
        by_remedy candidate version (IsRemedy.barrier barrier made) = inl (made_so candidate true barrier made)
        by_remedy candidate version (IsRemedy.copy latest plan before plain planned names made barrier is_latest full
            stored) =
            inl (made_so candidate false plain
            (subst (λ (it : Result CopyPlan PlanFail). IsMade asked
            (chosen_on old.keys.bounds asked.sets (linking_of old) object) (planned_on it) object candidate)
            (sym planned.is) made))

-- what has an act's digest was made for an act
pub record IsOfAct (old new : ReplicaState) (asked : Asked) (asks : Body) (candidates : ObjectId → Candidate)
    (object : ObjectId) : Type 0 where
  pub parts : List (ObjectId × Method)
  pub is_act : asks ≡ body.Act parts
  pub names : Names parts object
  pub performs : Performs old new asked parts candidates

pub act_added : (old new : ReplicaState) (client : ClientId) (number : ℕ) (sets : List SetOf) (asks : Body)
    (group : List (ObjectId × ℕ)) (candidates : ObjectId → Candidate) (object : ObjectId)
    → Reasons old new (asked_of client number sets asks) asks group candidates → AddsTo asks group object
    → is_some (act_asked client number asks) ≡ true
    → IsOfAct old new (asked_of client number sets asks) asks candidates object
act_added old new client number sets (body.Act parts) group candidates object reasons names some =
    record { parts = parts; is_act = refl; names = names; performs = reasons }
act_added old new client number sets (body.Ask parts) group candidates object reasons never some = absurd never
act_added old new client number sets (body.Mend target) group candidates object reasons mended none =
    absurd (false≢true none)
