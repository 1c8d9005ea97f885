-- How a replica made a candidate: for an act, as a barrier, or as a copy; and what it stored with it.
use Rattle.std.proofs.Common.{◌≡◌, ℕ, ◌+◌, Bool, true, List, [], ◌∷◌, length, None, inl, inr, refl, sym, ap, subst, ◌∙◌, ◌⊎◌, arith}
use Rattle.std.proofs.lemmas.Bool.{cases_Bool}
use Rattle.qu_base.specs.declared.party.ClientId.{ClientId}
use Rattle.qu_base.specs.declared.party.ObjectId.{ObjectId}
use Rattle.qu_stamp.specs.declared.stamp.Stamp.{Stamp}
use Rattle.qu_stamp.specs.declared.candidate.Candidate.{Candidate}
use Rattle.qu_history.specs.declared.sets.SetOf.{SetOf}
use Rattle.qu_history.specs.Sets.{entries_of, latest_of}
use Rattle.qu_objects.specs.declared.act.Method.{Method}
use Rattle.qu_objects.specs.declared.state.ObjState.{ObjState}
use Rattle.qu_frames.specs.declared.frame.Body.{Body}
use Rattle.qu_frames.specs.declared.frame.Body.TheVariants as body
use Rattle.qu_rows.specs.Rows.{Asked, asked_of, act_asked, objects_of, linking_of}
use Rattle.qu_rows.specs.State.{ReplicaState}
use Rattle.qu_trace.specs.declared.trace.Trace.{Trace}
use Rattle.qu_claims.specs.Grounds.{Accepts, AddsTo, IsMade, IsMadeFrom, Performs, Reasons, made_on, made_upon, shown_base}
use Rattle.qu_claims.specs.Handling.{Handles}
use Rattle.qu_claims.specs.Origins.{Origin}
use Rattle.qu_claims.specs.Parts.{Names}
use Rattle.qu_grounds.proofs.Grounds.{made_or_found}
use Rattle.qu_accepts.proofs.Handling.{mid_bounds}
use Rattle.qu_agreed.proofs.CopiesAgree.{IsCopyMade, StoresCopy, remedy_stores, remedy_copies}
use Rattle.qu_agreed.proofs.Made.{IsAdded, StoresFor}

-- upon these sets, for what is asked
pub data HowMade (bounds : ℕ) (state : ReplicaState) (asked : Asked) (asks : Body) (object : ObjectId)
    (candidate : Candidate) : Type 0 where
  by_act : (parts : List (ObjectId × Method)) → asks ≡ body.Act parts
      → IsMade asked (shown_base bounds asked object) (objects_of parts) object candidate
      → HowMade bounds state asked asks object candidate
  by_barrier : asked.act ≡ None → candidate.stamp.barrier ≡ true
      → IsMade asked (shown_base bounds asked object) (object ∷ []) object candidate
      → HowMade bounds state asked asks object candidate
  by_copy : asked.act ≡ None → IsCopyMade bounds state asked object candidate
      → HowMade bounds state asked asks object candidate

pub how_made : (bounds : ℕ) (state new : ReplicaState) (client : ClientId) (number : ℕ) (sets : List SetOf)
    (asks : Body) (group : List (ObjectId × ℕ)) (candidates : ObjectId → Candidate) → state.keys.bounds ≡ bounds
    → Reasons state new (asked_of client number sets asks) asks group candidates → (object : ObjectId)
    → AddsTo asks group object
    → IsMadeFrom bounds (linking_of state) (asked_of client number sets asks) asks object (candidates object)
    → HowMade bounds state (asked_of client number sets asks) asks object (candidates object)
how_made bounds state new client number sets (body.Act parts) group candidates same reasons object adds made =
    HowMade.by_act parts refl made
how_made bounds state new client number sets (body.Ask parts) group candidates same never object adds made =
    absurd never
how_made bounds state new client number sets (body.Mend target) group candidates same reasons object adds made =
    elim (cases_Bool (candidates object).stamp.barrier) [
      | inl barrier ↦
          HowMade.by_barrier refl barrier
          (subst (λ (it : Bool). IsMade asked (made_upon bounds (linking_of state) asked (body.Mend target) object it)
          (made_on bounds (linking_of state) asked (body.Mend target) object it) object (candidates object)) barrier
          made)
      | inr plain ↦
          HowMade.by_copy refl
          (subst (λ (count : ℕ). IsCopyMade count state asked object (candidates object)) same
          (remedy_copies state asked target object (candidates object) (reasons.versions object)
          (reasons.remedy object adds) plain (ap (λ (it : Stamp). it.time) made.stamp)))
    ]
  where
    asked : Asked
    asked = asked_of client number sets (body.Mend target)

-- ---- what is stored with it

-- the version that an act made
pub record StoresAct (state new : ReplicaState) (client : ClientId) (number : ℕ) (sets : List SetOf) (asks : Body)
    (candidates : ObjectId → Candidate) (object : ObjectId) (version : ObjState) : Type 0 where
  pub parts : List (ObjectId × Method)
  pub is_act : asks ≡ body.Act parts
  pub names : Names parts object
  pub performs : Performs state new (asked_of client number sets (body.Act parts)) parts candidates
  pub is : performs.versions object ≡ version

pub how_stored : (state new : ReplicaState) (client : ClientId) (number : ℕ) (sets : List SetOf) (asks : Body)
    (group : List (ObjectId × ℕ)) (candidates : ObjectId → Candidate)
    (reasons : Reasons state new (asked_of client number sets asks) asks group candidates) (object : ObjectId)
    → AddsTo asks group object → (version : ObjState)
    → StoresFor state new (asked_of client number sets asks) asks group candidates reasons object version
    → StoresAct state new client number sets asks candidates object version
    ⊎ ((act_asked client number asks ≡ None)
    × StoresCopy state (asked_of client number sets asks) object (candidates object) version)
how_stored state new client number sets (body.Act parts) group candidates reasons object adds version is =
    inl (record { parts = parts; is_act = refl; names = adds; performs = reasons; is = is })
how_stored state new client number sets (body.Ask parts) group candidates never object adds version is = absurd never
how_stored state new client number sets (body.Mend target) group candidates reasons object adds version is =
    inr (
      refl,
      remedy_stores state (asked_of client number sets (body.Mend target)) target object (candidates object)
          (reasons.versions object) (reasons.remedy object adds) version is,
    )

-- its time is after all that was shown
stored_fresh : (state new : ReplicaState) (client : ClientId) (number : ℕ) (sets : List SetOf) (asks : Body)
    (candidates : ObjectId → Candidate) (object : ObjectId) (version : ObjState)
    → StoresAct state new client number sets asks candidates object version
    ⊎ ((act_asked client number asks ≡ None)
    × StoresCopy state (asked_of client number sets asks) object (candidates object) version)
    → (candidates object).stamp.time ≡ (latest_of (entries_of object sets)).time + 1
stored_fresh state new client number sets asks candidates object version (inl act) =
    ap (λ (it : Stamp). it.time) ((act.performs).grounds object act.names).stamp
stored_fresh state new client number sets asks candidates object version (inr copy) =
    ap (λ (it : Stamp). it.time) (((copy.1).copy).made).stamp

module _ (trace : Trace) (count : ℕ) (object : ObjectId) (stamp : Stamp) (version : ObjState)
    (it : IsAdded trace count object stamp version) where
  abbrev pub handles_it : Handles trace it.at it.place it.old it.new
  handles_it = (it.delivered).handles

  abbrev pub upon_it : Accepts handles_it.mid it.new handles_it.carried
  upon_it = (it.delivered).accepts

  abbrev pub asked_it : Asked
  asked_it = asked_of upon_it.client upon_it.number upon_it.sets upon_it.asks

  pub stores_it : StoresAct handles_it.mid it.new upon_it.client upon_it.number upon_it.sets upon_it.asks
      upon_it.candidates object version
      ⊎ ((act_asked upon_it.client upon_it.number upon_it.asks ≡ None)
      × StoresCopy handles_it.mid asked_it object (upon_it.candidates object) version)
  stores_it =
      how_stored handles_it.mid it.new upon_it.client upon_it.number upon_it.sets upon_it.asks upon_it.group
      upon_it.candidates upon_it.reasons object (it.delivered).adds version it.why

  pub fresh_it : stamp.time ≡ (latest_of (entries_of object upon_it.sets)).time + 1
  fresh_it =
      ap (λ (at : Stamp). at.time) (sym it.under)
      ∙ stored_fresh handles_it.mid it.new upon_it.client upon_it.number upon_it.sets upon_it.asks upon_it.candidates
      object version stores_it

  -- the replica made it, and was not shown it
  pub made_it : IsMadeFrom trace.setup.bounds (linking_of handles_it.mid) asked_it upon_it.asks object
      (upon_it.candidates object)
  made_it =
      subst (λ (bounds : ℕ). IsMadeFrom bounds (linking_of handles_it.mid) asked_it upon_it.asks object
      (upon_it.candidates object)) (mid_bounds trace it.at it.place it.old it.new handles_it)
      (elim (made_or_found handles_it.mid it.new asked_it upon_it.group upon_it.candidates upon_it.asks
      upon_it.reasons object (it.delivered).adds) [
        | inl made ↦ made
        | inr found ↦
            absurd (no_later _ (sym (ap (λ (at : Stamp). at.time) found.latest)
            ∙ ap (λ (at : Stamp). at.time) it.under ∙ fresh_it))
      ])
    where
      no_later : (at : ℕ) → at ≡ at + 1 → ⊥
      no_later at same = omega (arith, same)

  abbrev pub origin_it : Origin trace (length trace.entries) object (upon_it.candidates object)
  origin_it = record {
    past = it.at;
    earlier = it.happened;
    place = it.place;
    old = it.old;
    new = it.new;
    delivered = it.delivered;
    is_candidate = refl;
    made = made_it;
  }
