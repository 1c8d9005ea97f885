-- The versions with which a run begins: the opening one of each object.
use Rattle.std.proofs.Common.{◌≡◌, ℕ, zero, suc, ◌+◌, Bool, true, false, ◌&&◌, cond, List, [], ◌∷◌, Some, inl, inr, refl, sym, ap, subst, ◌∙◌, arith, Option, zero-add}
use Rattle.std.specs.Prelude.{◌==◌, slice_get}
use Rattle.std.proofs.lemmas.Bool.{false≢true, cases_Bool, or_cases, or_left, and_from, and_parts, eq-eqb, eqb-true}
use Rattle.std.proofs.lemmas.Option.{none-some, same_Some}
use Rattle.qu_base.specs.declared.party.ObjectId.{ObjectId}
use Rattle.qu_base.specs.declared.party.ReplicaId.{ReplicaId}
use Rattle.qu_stamp.specs.declared.candidate.Candidate.{Candidate}
use Rattle.qu_stamp.specs.Stamp.{opening_stamp, same_stamp}
use Rattle.qu_stamp.specs.Candidate.{opening, same}
use Rattle.qu_stamp.proofs.Order.{same_stamp-self, same-self, equal_by_same, equal_by_same_stamp}
use Rattle.qu_history.specs.History.{holds}
use Rattle.qu_objects.specs.declared.kind.KindName.{KindName}
use Rattle.qu_objects.specs.declared.state.ObjState.{ObjState}
use Rattle.qu_rows.specs.State.{ReplicaState, own_candidates}
use Rattle.qu_mends.specs.Table.{candidates_in}
use Rattle.qu_fitting.specs.Holding.{opening_histories, replica_at_start}
use Rattle.qu_objects.specs.Kind.{opening_version}
use Rattle.qu_versions.specs.Versions.{version_at, opening_store}
use Rattle.qu_trace.specs.declared.trace.Trace.{Trace}
use Rattle.qu_base.specs.declared.party.Party.TheVariants as party
use Rattle.std.specs.Prelude.{if◌then◌else◌}
use Rattle.qu_trace.specs.declared.trace.Setup.{Setup}
use Rattle.qu_trace.specs.Faulty.{is_faulty}
use Rattle.qu_world.specs.State.{kinds_at, ring_of}
use Rattle.qu_claims.specs.Values.{HasVersion}
use Rattle.qu_claims.specs.RunSetting.{setting}
use Rattle.qu_claims.specs.Truth.{IsVersionOf}
use Rattle.qu_claims.specs.Times.{world_after}
use Rattle.qu_stamp.specs.declared.stamp.Stamp.{Stamp}
use Rattle.qu_values.proofs.Versions.EverAccepted.{held_accepted}

-- the replica finds a version under the stamp
abbrev pub Finds : ObjectId → Stamp → ReplicaState → Type 0
Finds object stamp state = (version : ObjState) × (version_at object stamp state.versions ≡ Some version)

-- and so for each candidate without barrier that it holds
abbrev pub FindsHeld : ReplicaState → Type 0
FindsHeld state = (object : ObjectId) (candidate : Candidate) → candidate.stamp.barrier ≡ false
    → holds candidate (own_candidates state object) ≡ true → Finds object candidate.stamp state

-- ---- at the beginning

-- an object begins with the opening candidate and its version
record IsBegun (first : ℕ) (kinds : List KindName) (object : ObjectId) (place : ℕ)
    (candidate : Candidate) : Type 0 where
  kind : KindName
  alone : opening ≡ candidate
  fresh : version_at object opening_stamp (opening_store first kinds) ≡ Some (opening_version kind)

later_begun : (first : ℕ) (kind : KindName) (kinds : List KindName) (object : ObjectId) (place : ℕ)
    (candidate : Candidate) → object.0 ≡ first + suc place → IsBegun (first + 1) kinds object place candidate → IsBegun
    first (kind ∷ kinds) object (suc place) candidate
unfolding version_at opening_store
later_begun first kind kinds object place candidate at later =
    let test : Bool = first == object.0 && same_stamp opening_stamp opening_stamp in
    elim (cases_Bool test) [
      | inl here ↦
          let parts : ((first == object.0) ≡ true) × (same_stamp opening_stamp opening_stamp ≡ true) =
          and_parts _ _ here in
          let equal : first ≡ object.0 = eqb-true _ _ parts.0 in
          absurd (omega arith)
      | inr there ↦ record {
        kind = later.kind;
        alone = later.alone;
        fresh = ap (λ (b : Bool). cond b (Some (opening_version kind))
            (version_at object opening_stamp (opening_store (first + 1) kinds))) there ∙ later.fresh;
      }
    ]

only_opening : (candidate : Candidate) → holds candidate (opening ∷ []) ≡ true → opening ≡ candidate
only_opening candidate held =
    elim (or_cases (same opening candidate) false held) [
      | inl is ↦ equal_by_same opening candidate is
      | inr never ↦ absurd (false≢true never)
    ]

begun_from : (me : ReplicaId) (first : ℕ) (kinds : List KindName) (object : ObjectId) (place : ℕ)
    (candidate : Candidate) → object.0 ≡ first + place → holds candidate
    (candidates_in (slice_get (opening_histories me first kinds) place)) ≡ true → IsBegun first kinds object place
    candidate
unfolding opening_histories version_at opening_store
begun_from me first [] object place candidate at held = absurd (false≢true held)
begun_from me first (kind ∷ kinds) object zero candidate at held =
    let equal : first ≡ object.0 = omega arith in
    record {
      kind = kind;
      alone = only_opening candidate held;
      fresh = ap (λ (b : Bool). cond b (Some (opening_version kind))
          (version_at object opening_stamp (opening_store (first + 1) kinds)))
          (and_from _ _ (eq-eqb first object.0 equal) (same_stamp-self opening_stamp));
    }
begun_from me first (kind ∷ kinds) object (suc place) candidate at held =
    later_begun first kind kinds object place candidate at (begun_from me (first + 1) kinds object place candidate
    (omega arith) held)

-- what a replica keeps are objects of the setup
kept_kinds : (setup : Setup) (number place : ℕ) (kind : KindName) → slice_get (kinds_at setup number) place ≡ Some kind
    → slice_get setup.kinds place ≡ Some kind
kept_kinds setup number place kind is =
    kept (is_faulty setup (party.Replica (record { 0 = number }))) is
  where
    kept : (test : Bool) → slice_get (if test then [] else setup.kinds) place ≡ Some kind
        → slice_get setup.kinds place ≡ Some kind
    kept true found = absurd (none-some kind found)
    kept false found = found

-- ---- what is found at the beginning

record IsOpeningVersion (me : ReplicaId) (first : ℕ) (kinds : List KindName) (object : ObjectId) (stamp : Stamp)
    (version : ObjState) : Type 0 where
  place : ℕ
  at : object.0 ≡ first + place
  kind : KindName
  is_kind : slice_get kinds place ≡ Some kind
  alone : candidates_in (slice_get (opening_histories me first kinds) place) ≡ opening ∷ []
  under : opening_stamp ≡ stamp
  is_version : opening_version kind ≡ version

opening_from : (me : ReplicaId) (first : ℕ) (kinds : List KindName) (object : ObjectId) (stamp : Stamp)
    (version : ObjState) → version_at object stamp (opening_store first kinds) ≡ Some version
    → IsOpeningVersion me first kinds object stamp version
unfolding version_at opening_store opening_histories
opening_from me first [] object stamp version found = absurd (none-some version found)
opening_from me first (kind ∷ kinds) object stamp version found =
    let later : Option ObjState = version_at object stamp (opening_store (first + 1) kinds) in
    elim (cases_Bool (first == object.0 && same_stamp opening_stamp stamp)) [
      | inl here ↦
          let parts : ((first == object.0) ≡ true) × (same_stamp opening_stamp stamp ≡ true) = and_parts _ _ here in
          let equal : first ≡ object.0 = eqb-true _ _ parts.0 in
          record {
            place = 0;
            at = omega arith;
            kind = kind;
            is_kind = refl;
            alone = refl;
            under = equal_by_same_stamp opening_stamp stamp parts.1;
            is_version = same_Some (opening_version kind) version
                (ap (λ (test : Bool). cond test (Some (opening_version kind)) later) (sym here) ∙ found);
          }
      | inr there ↦
          let inner : IsOpeningVersion me (first + 1) kinds object stamp version =
          opening_from me (first + 1) kinds object stamp version
          (ap (λ (test : Bool). cond test (Some (opening_version kind)) later) (sym there) ∙ found) in
          let after : object.0 ≡ (first + 1) + inner.place = inner.at in
          record {
            place = suc inner.place;
            at = omega arith;
            kind = inner.kind;
            is_kind = inner.is_kind;
            alone = inner.alone;
            under = inner.under;
            is_version = inner.is_version;
          }
    ]

opening_plain : (trace : Trace) → (setting trace).plain opening ≡ true
unfolding setting
opening_plain trace = refl

module _ (trace : Trace) (me : ReplicaId) where
  abbrev pub at_start : ReplicaState
  at_start = replica_at_start me (ring_of trace.setup) (kinds_at trace.setup me.0)

  pub begun_finds : FindsHeld at_start
  begun_finds object candidate plain held =
      let begun : IsBegun 0 (kinds_at trace.setup me.0) object object.0 candidate =
      begun_from me 0 (kinds_at trace.setup me.0) object object.0 candidate (omega arith) held in
      subst (λ (it : Candidate). Finds object it.stamp at_start) begun.alone (opening_version begun.kind, begun.fresh)

  module _ (is_state : slice_get (world_after trace 0).replicas me.0 ≡ Some at_start) where
    pub begun_of_stamp : (object : ObjectId) (stamp : Stamp) (version : ObjState)
        → version_at object stamp at_start.versions ≡ Some version → IsVersionOf trace 0 object stamp version
    begun_of_stamp object stamp version found =
        let kinds : List KindName = kinds_at trace.setup me.0 in
        let it : IsOpeningVersion me 0 kinds object stamp version = opening_from me 0 kinds object stamp version found
        in
        let place : object.0 ≡ it.place = it.at ∙ zero-add it.place in
        let held : holds opening (own_candidates at_start object) ≡ true =
        ap (λ (at : ℕ). holds opening (candidates_in (slice_get (opening_histories me 0 kinds) at))) place
        ∙ ap (holds opening) it.alone ∙ or_left (same opening opening) false (same-self opening) in
        subst (IsVersionOf trace 0 object stamp) it.is_version
        (record {
          candidate = opening;
          under = it.under;
          plain = opening_plain trace;
          accepted = held_accepted trace 0 me.0 at_start is_state object opening held;
          has = HasVersion.of_opening object it.kind
              (kept_kinds trace.setup me.0 object.0 it.kind (ap (slice_get kinds) place ∙ it.is_kind));
        })
