-- How each version that correct replicas store was made: an object begins with it, or a request added it.
use Rattle.std.proofs.Common.{◌≡◌, ℕ, ◌+◌, ◌<◌, ◌≤◌, Bool, true, false, ◌&&◌, cond, List, [], ◌∷◌, ◌++◌, length, Option, None, Some, inl, inr, refl, sym, ap, ◌∙◌, arith, zero-add, suc}
use Rattle.std.specs.Prelude.{◌==◌, slice_get, if◌then◌else◌}
use Rattle.std.specs.List.{AllByRecursion}
use Rattle.std.proofs.lemmas.Bool.{cases_Bool, and_parts, eqb-true}
use Rattle.std.proofs.lemmas.Option.{none-some, same_Some}
use Rattle.qu_base.specs.declared.party.ClientId.{ClientId}
use Rattle.qu_base.specs.declared.party.ObjectId.{ObjectId}
use Rattle.qu_base.specs.declared.party.Party.TheVariants as party
use Rattle.qu_stamp.specs.declared.stamp.Stamp.{Stamp}
use Rattle.qu_stamp.specs.declared.candidate.Candidate.{Candidate}
use Rattle.qu_stamp.specs.Stamp.{opening_stamp, same_stamp}
use Rattle.qu_stamp.proofs.Order.{equal_by_same_stamp}
use Rattle.qu_history.specs.declared.sets.SetOf.{SetOf}
use Rattle.qu_objects.specs.declared.act.Method.{Method}
use Rattle.qu_objects.specs.declared.kind.KindName.{KindName}
use Rattle.qu_objects.specs.declared.state.ObjState.{ObjState}
use Rattle.qu_objects.specs.Kind.{opening_version}
use Rattle.qu_frames.specs.declared.frame.Body.{Body}
use Rattle.qu_frames.specs.declared.frame.Body.TheVariants as body
use Rattle.qu_versions.specs.declared.stored.Stored.{Stored}
use Rattle.qu_versions.specs.Versions.{version_at, opening_store}
use Rattle.qu_rows.specs.Rows.{Asked, asked_of, objects_of}
use Rattle.qu_rows.specs.State.{ReplicaState}
use Rattle.qu_fitting.specs.Holding.{stored_if}
use Rattle.qu_trace.specs.declared.trace.Trace.{Trace}
use Rattle.qu_trace.specs.Faulty.{is_faulty}
use Rattle.qu_world.specs.Run.{IsRun}
use Rattle.qu_world.specs.State.{kinds_at}
use Rattle.qu_claims.specs.Grounds.{Accepts, AddsTo, IsDelivered, MendsOn, Reasons, mended_objects, stored_mended, stored_of}
use Rattle.qu_claims.specs.Handling.{Handles}
use Rattle.qu_claims.specs.Parts.{Names}
use Rattle.qu_runs.specs.Plain.{ArePlain}
use Rattle.qu_runs.proofs.Worlds.OpeningReplicas.{opening_at}
use Rattle.qu_accepts.proofs.StoredSo.{AreSo, AllSo, IsSo, AreAdded, stored_so, upon_so}

-- for these reasons the request adds this version to the object
abbrev pub StoresFor : (old new : ReplicaState) (asked : Asked) (asks : Body) (group : List (ObjectId × ℕ))
    (candidates : ObjectId → Candidate) → Reasons old new asked asks group candidates → ObjectId → ObjState → Type 0
StoresFor old new asked (body.Act parts) group candidates performs object version =
    performs.versions object ≡ version
StoresFor old new asked (body.Ask parts) group candidates never object version = ⊥
StoresFor old new asked (body.Mend target) group candidates mends object version =
    mends.versions object ≡ Some version

module _ (trace : Trace) where
  -- an object of the setup begins with the version
  pub record IsFirst (object : ObjectId) (stamp : Stamp) (version : ObjState) : Type 0 where
    pub kind : KindName
    pub is_kind : slice_get trace.setup.kinds object.0 ≡ Some kind
    pub under : opening_stamp ≡ stamp
    pub is_version : opening_version kind ≡ version

  -- a replica stored it with what it accepted at an earlier event
  pub record IsAdded (count : ℕ) (object : ObjectId) (stamp : Stamp) (version : ObjState) : Type 0 where
    pub at : ℕ
    pub earlier : at < count
    pub happened : at < length trace.entries
    pub place : ℕ
    pub old : ReplicaState
    pub new : ReplicaState
    pub delivered : IsDelivered trace at place old new object
    pub under : ((delivered.accepts).candidates object).stamp ≡ stamp
    pub why : StoresFor (delivered.handles).mid new
        (asked_of (delivered.accepts).client (delivered.accepts).number (delivered.accepts).sets
        (delivered.accepts).asks)
        (delivered.accepts).asks (delivered.accepts).group (delivered.accepts).candidates (delivered.accepts).reasons
        object version

  pub data IsMadeBy (count : ℕ) (object : ObjectId) (stamp : Stamp) (version : ObjState) : Type 0 where
    initial : IsFirst object stamp version → IsMadeBy count object stamp version
    added : IsAdded count object stamp version → IsMadeBy count object stamp version

  pub made-later : (past count : ℕ) → past ≤ count → (object : ObjectId) (stamp : Stamp) (version : ObjState)
      → IsMadeBy past object stamp version → IsMadeBy count object stamp version
  made-later past count order object stamp version (IsMadeBy.initial it) = IsMadeBy.initial it
  made-later past count order object stamp version (IsMadeBy.added it) =
      let before : it.at < past = it.earlier in
      IsMadeBy.added (record {
        at = it.at;
        earlier = omega (arith, before, order);
        happened = it.happened;
        place = it.place;
        old = it.old;
        new = it.new;
        delivered = it.delivered;
        under = it.under;
        why = it.why;
      })

  -- ---- at the beginning

  opening_found : (first : ℕ) (kinds : List KindName) (object : ObjectId) (stamp : Stamp) (version : ObjState)
      → version_at object stamp (opening_store first kinds) ≡ Some version
      → (place : ℕ) × (kind : KindName) × (object.0 ≡ first + place) × (slice_get kinds place ≡ Some kind)
      × (opening_stamp ≡ stamp) × (opening_version kind ≡ version)
  unfolding version_at opening_store
  opening_found first [] object stamp version found = absurd (none-some version found)
  opening_found first (kind ∷ kinds) object stamp version found =
      let later : Option ObjState = version_at object stamp (opening_store (first + 1) kinds) in
      elim (cases_Bool (first == object.0 && same_stamp opening_stamp stamp)) [
        | inl here ↦
            let parts : ((first == object.0) ≡ true) × (same_stamp opening_stamp stamp ≡ true) = and_parts _ _ here in
            let equal : first ≡ object.0 = eqb-true _ _ parts.0 in (
              0,
              kind,
              omega (arith, equal),
              refl,
              equal_by_same_stamp opening_stamp stamp parts.1,
              same_Some (opening_version kind) version
                  (ap (λ (test : Bool). cond test (Some (opening_version kind)) later) (sym here) ∙ found),
            )
        | inr there ↦
            let inner = opening_found (first + 1) kinds object stamp version
            (ap (λ (test : Bool). cond test (Some (opening_version kind)) later) (sym there) ∙ found) in
            let after : object.0 ≡ (first + 1) + inner.0 = inner.2 in
            (suc inner.0, inner.1, omega (arith, after), inner.3, inner.4, inner.5)
      ]

  -- what a replica keeps are objects of the setup
  kept_kinds : (number place : ℕ) (kind : KindName) → slice_get (kinds_at trace.setup number) place ≡ Some kind
      → slice_get trace.setup.kinds place ≡ Some kind
  kept_kinds number place kind is = kept (is_faulty trace.setup (party.Replica (record { 0 = number }))) is
    where
      kept : (test : Bool) → slice_get (if test then [] else trace.setup.kinds) place ≡ Some kind
          → slice_get trace.setup.kinds place ≡ Some kind
      kept true found = absurd (none-some kind found)
      kept false found = found

  begun : AllSo trace IsMadeBy made-later 0
  begun place state is_state object stamp version found =
      let it = opening_found 0 (kinds_at trace.setup place) object stamp version
      (ap (λ (at : ReplicaState). version_at object stamp at.versions) (sym (opening_at trace place state is_state))
      ∙ found) in
      let number : object.0 ≡ it.0 = it.2 ∙ zero-add it.0 in
      IsMadeBy.initial (record {
        kind = it.1;
        is_kind = ap (slice_get trace.setup.kinds) number ∙ kept_kinds place it.0 it.1 it.3;
        under = it.4;
        is_version = it.5;
      })

  -- ---- upon a request

  module _ (count : ℕ) (below : count < length trace.entries) (place : ℕ) (old new : ReplicaState)
      (handles : Handles trace count place old new) where
    abbrev mid : ReplicaState
    mid = handles.mid

    abbrev IsNext : Stored → Type 0
    IsNext = IsSo trace IsMadeBy made-later (count + 1)

    act_adds : (candidates : ObjectId → Candidate) (versions : ObjectId → ObjState)
        → (parts : List (ObjectId × Method))
        → ((object : ObjectId) → Names parts object
        → IsMadeBy (count + 1) object (candidates object).stamp (versions object))
        → AllByRecursion IsNext (stored_of candidates versions parts)
    act_adds candidates versions [] each = tt
    act_adds candidates versions (part ∷ later) each =
        (each part.0 (inl refl), act_adds candidates versions later (λ object names. each object (inr names)))

    if_stored : (object : ObjectId) (stamp : Stamp) (found : Option ObjState) (later : List Stored)
        → ((version : ObjState) → found ≡ Some version → IsMadeBy (count + 1) object stamp version)
        → AllByRecursion IsNext later → AllByRecursion IsNext (stored_if object stamp found ++ later)
    if_stored object stamp None later each rest = rest
    if_stored object stamp (Some version) later each rest = (each version refl, rest)

    mend_adds : (candidates : ObjectId → Candidate) (versions : ObjectId → Option ObjState)
        → (group : List (ObjectId × ℕ))
        → ((object : ObjectId) → Names group object → (version : ObjState) → versions object ≡ Some version
        → IsMadeBy (count + 1) object (candidates object).stamp version)
        → AllByRecursion IsNext (stored_mended candidates versions (objects_of group))
    mend_adds candidates versions [] each = tt
    mend_adds candidates versions (member ∷ later) each =
        if_stored member.0 (candidates member.0).stamp (versions member.0)
        (stored_mended candidates versions (objects_of later)) (each member.0 (inl refl))
        (mend_adds candidates versions later (λ object names. each object (inr names)))

    group_adds : (candidates : ObjectId → Candidate) (versions : ObjectId → Option ObjState) (target : ObjectId)
        (group : List (ObjectId × ℕ))
        → ((object : ObjectId) → MendsOn target group object → (version : ObjState) → versions object ≡ Some version
        → IsMadeBy (count + 1) object (candidates object).stamp version)
        → AllByRecursion IsNext (stored_mended candidates versions (mended_objects target group))
    group_adds candidates versions target [] each =
        if_stored target (candidates target).stamp (versions target) [] (each target refl) tt
    group_adds candidates versions target (member ∷ later) each =
        mend_adds candidates versions (member ∷ later) each

    module _ (accepts : Accepts mid new handles.carried) where
      added_here : (object : ObjectId) (adds : AddsTo accepts.asks accepts.group object) (version : ObjState)
          → StoresFor mid new (asked_of accepts.client accepts.number accepts.sets accepts.asks) accepts.asks
          accepts.group accepts.candidates accepts.reasons object version
          → IsMadeBy (count + 1) object (accepts.candidates object).stamp version
      added_here object adds version why = IsMadeBy.added (record {
        at = count;
        earlier = omega arith;
        happened = below;
        place = place;
        old = old;
        new = new;
        delivered = record { handles = handles; accepts = accepts; adds = adds };
        under = refl;
        why = why;
      })

      added_by : (client : ClientId) (number : ℕ) (sets : List SetOf) (asks : Body) (group : List (ObjectId × ℕ))
          (candidates : ObjectId → Candidate)
          (reasons : Reasons mid new (asked_of client number sets asks) asks group candidates)
          → ((object : ObjectId) → AddsTo asks group object → (version : ObjState)
          → StoresFor mid new (asked_of client number sets asks) asks group candidates reasons object version
          → IsMadeBy (count + 1) object (candidates object).stamp version)
          → AreAdded trace IsMadeBy made-later (count + 1) mid new
      added_by client number sets (body.Act parts) group candidates performs each = record {
        more = stored_of candidates performs.versions parts;
        versions = performs.stored;
        each = act_adds candidates performs.versions parts
            (λ object names. each object names (performs.versions object) refl);
      }
      added_by client number sets (body.Ask parts) group candidates never each = absurd never
      added_by client number sets (body.Mend target) group candidates mends each = record {
        more = stored_mended candidates mends.versions (mended_objects target group);
        versions = mends.stored;
        each = group_adds candidates mends.versions target group each;
      }

      adds_made : AreAdded trace IsMadeBy made-later (count + 1) mid new
      adds_made =
          added_by accepts.client accepts.number accepts.sets accepts.asks accepts.group accepts.candidates
          accepts.reasons added_here

  module _ (is_run : IsRun trace) (have : ArePlain trace) where
    -- whatever a correct replica stores was made so
    pub stored_made : (count : ℕ) → count ≤ length trace.entries → AllSo trace IsMadeBy made-later count
    stored_made =
        stored_so trace IsMadeBy made-later is_run have begun
        (λ count below place old new handles accepts upon. adds_made count below place old new handles accepts)

    -- also what it has where it handles a request
    pub upon_made : (count : ℕ) → count < length trace.entries → (place : ℕ) (old new : ReplicaState)
        (handles : Handles trace count place old new) → AreSo trace IsMadeBy made-later count handles.mid
    upon_made =
        upon_so trace IsMadeBy made-later is_run have begun
        (λ count below place old new handles accepts upon. adds_made count below place old new handles accepts)
