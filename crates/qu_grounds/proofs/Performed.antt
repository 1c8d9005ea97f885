-- The versions of accepted candidates are the parts of the act performed upon the versions of their bases.
use Rattle.std.proofs.Common.{◌≡◌, ◌==◌, ◌⊎◌, ℕ, Bool, true, false, ◌&&◌, cond, List, [], ◌∷◌, ◌++◌, None, Some, inl, inr, refl, sym, ap, subst, ◌∙◌, Option}
use Rattle.std.proofs.lemmas.Bool.{false≢true, cases_Bool, and_from, and_parts, eq-eqb, eqb-true}
use Rattle.std.proofs.lemmas.Option.{none-some}
use Rattle.qu_base.specs.declared.party.ObjectId.{ObjectId}
use Rattle.qu_stamp.specs.declared.stamp.Stamp.{Stamp}
use Rattle.qu_stamp.specs.declared.candidate.Candidate.{Candidate}
use Rattle.qu_stamp.specs.Stamp.{same_stamp}
use Rattle.qu_stamp.proofs.Order.{same_stamp-self, equal_by_same_stamp}
use Rattle.qu_objects.specs.declared.act.Method.{Method}
use Rattle.qu_objects.specs.declared.state.ObjState.{ObjState}
use Rattle.qu_versions.specs.declared.stored.Stored.{Stored}
use Rattle.qu_rows.specs.State.{ReplicaState}
use Rattle.qu_fitting.specs.Holding.{stored_if}
use Rattle.qu_versions.specs.Versions.{is_stored, version_at}
use Rattle.qu_claims.specs.Parts.{Names}
use Rattle.qu_claims.specs.Grounds.{stored_of, Performs, MendsOn, mended_objects, stored_mended}
use Rattle.qu_rows.specs.Rows.{Asked}
use Rattle.qu_grounds.proofs.Parts.{Lists, mended_listed}

-- what is found with more versions was found before, or is among these
pub stored_cases : (object : ObjectId) (stamp : Stamp) (versions more : List Stored) (version : ObjState)
    → version_at object stamp (versions ++ more) ≡ Some version
    → (version_at object stamp versions ≡ Some version) ⊎ (version_at object stamp more ≡ Some version)
unfolding version_at
stored_cases object stamp [] more version found = inr found
stored_cases object stamp (held ∷ later) more version found =
    elim (is_stored object stamp held)
    as (λ (test : Bool). cond test (Some held.state) (version_at object stamp (later ++ more)) ≡ Some version
    → (cond test (Some held.state) (version_at object stamp later) ≡ Some version)
    ⊎ (version_at object stamp more ≡ Some version)) [
      | true ↦ λ here. inl here
      | false ↦ λ there. stored_cases object stamp later more version there
    ] found

-- where none was held under its stamp before, a version is found among these
version_at-later : (object : ObjectId) (stamp : Stamp) (versions more : List Stored)
    → version_at object stamp versions ≡ None
    → version_at object stamp (versions ++ more) ≡ version_at object stamp more
unfolding version_at
version_at-later object stamp [] more none = refl
version_at-later object stamp (held ∷ later) more none =
    elim (is_stored object stamp held)
    as (λ (test : Bool). cond test (Some held.state) (version_at object stamp later) ≡ None
    → cond test (Some held.state) (version_at object stamp (later ++ more)) ≡ version_at object stamp more) [
      | true ↦ λ here. absurd (none-some held.state (sym here))
      | false ↦ λ there. version_at-later object stamp later more there
    ] none

module _ (candidates : ObjectId → Candidate) (versions : ObjectId → ObjState) where
  abbrev stored : List (ObjectId × Method) → List Stored
  stored parts = stored_of candidates versions parts

  same_object : (part : ObjectId × Method) (object : ObjectId) (stamp : Stamp)
      → is_stored object stamp (record {
        object = part.0;
        stamp = (candidates part.0).stamp;
        state = versions part.0;
      }) ≡ true → (part.0 ≡ object) × ((candidates part.0).stamp ≡ stamp)
  same_object part object stamp found =
      let tests : (((part.0).0 == object.0) ≡ true) × (same_stamp (candidates part.0).stamp stamp ≡ true) =
      and_parts _ _ found in
      let numbered : ℕ → ObjectId = λ it. record { 0 = it } in
      (ap numbered (eqb-true _ _ tests.0), equal_by_same_stamp (candidates part.0).stamp stamp tests.1)

  head_stored : (part : ObjectId × Method) (later : List (ObjectId × Method))
      → version_at part.0 (candidates part.0).stamp (stored (part ∷ later)) ≡ Some (versions part.0)
  unfolding version_at
  head_stored part later =
      ap (λ (test : Bool). cond test (Some (versions part.0))
      (version_at part.0 (candidates part.0).stamp (stored later)))
      (and_from _ _ (eq-eqb (part.0).0 (part.0).0 refl) (same_stamp-self (candidates part.0).stamp))

  -- the version of each candidate of the parts is found
  pub named_stored : (parts : List (ObjectId × Method)) (object : ObjectId) → Names parts object
      → version_at object (candidates object).stamp (stored parts) ≡ Some (versions object)
  unfolding version_at
  named_stored [] object names = absurd names
  named_stored (part ∷ later) object (inl same) =
      subst (λ (it : ObjectId). version_at it (candidates it).stamp (stored (part ∷ later)) ≡ Some (versions it)) same
      (head_stored part later)
  named_stored (part ∷ later) object (inr names) =
      let stamp : Stamp = (candidates object).stamp in
      let head : Stored = record { object = part.0; stamp = (candidates part.0).stamp; state = versions part.0 } in
      elim (cases_Bool (is_stored object stamp head)) [
        | inl here ↦
            subst (λ (it : ObjectId). version_at it (candidates it).stamp (stored (part ∷ later)) ≡ Some (versions it))
            (same_object part object stamp here).0 (head_stored part later)
        | inr there ↦
            ap (λ (test : Bool). cond test (Some (versions part.0)) (version_at object stamp (stored later))) there
            ∙ named_stored later object names
      ]

-- the version of what an act makes, where the replica held none under its stamp
pub version_of_performed : (old new : ReplicaState) (asked : Asked) (parts : List (ObjectId × Method))
    (candidates : ObjectId → Candidate) (performs : Performs old new asked parts candidates) (object : ObjectId)
    → Names parts object → version_at object (candidates object).stamp old.versions ≡ None
    → version_at object (candidates object).stamp new.versions ≡ Some (performs.versions object)
version_of_performed old new asked parts candidates performs object names none =
    ap (version_at object (candidates object).stamp) performs.stored
    ∙ version_at-later object (candidates object).stamp old.versions _ none
    ∙ named_stored candidates performs.versions parts object names

-- of those that are mended
module _ (candidates : ObjectId → Candidate) (versions : ObjectId → Option ObjState) where
  -- the version of each is found
  head_found : (mended : ObjectId) (found : Option ObjState) (rest : List Stored) (version : ObjState)
      → found ≡ Some version
      → version_at mended (candidates mended).stamp (stored_if mended (candidates mended).stamp found ++ rest)
      ≡ Some version
  unfolding version_at
  head_found mended found rest version is =
      let stamp : Stamp = (candidates mended).stamp in
      ap (λ (it : Option ObjState). version_at mended stamp (stored_if mended stamp it ++ rest)) is
      ∙ ap (λ (test : Bool). cond test (Some version) (version_at mended stamp rest))
      (and_from _ _ (eq-eqb mended.0 mended.0 refl) (same_stamp-self stamp))

  head_passed : (mended object : ObjectId) (under stamp : Stamp) (found : Option ObjState) (rest : List Stored)
      → (mended.0 == object.0) ≡ false
      → version_at object stamp (stored_if mended under found ++ rest) ≡ version_at object stamp rest
  unfolding version_at
  head_passed mended object under stamp None rest other = refl
  head_passed mended object under stamp (Some state) rest other =
      ap (λ (test : Bool). cond (test && same_stamp under stamp) (Some state) (version_at object stamp rest)) other

  mended_stored : (objects : List ObjectId) (object : ObjectId) (version : ObjState) → Lists objects object
      → versions object ≡ Some version
      → version_at object (candidates object).stamp (stored_mended candidates versions objects) ≡ Some version
  mended_stored [] object version never has = absurd never
  mended_stored (mended ∷ later) object version listed has =
      elim (cases_Bool (mended.0 == object.0)) [
        | inl here ↦
            let same : mended ≡ object = ap (λ (it : ℕ). record { 0 = it }) (eqb-true mended.0 object.0 here) in
            subst (λ (it : ObjectId). version_at it (candidates it).stamp
            (stored_mended candidates versions (mended ∷ later)) ≡ Some version) same
            (head_found mended (versions mended) (stored_mended candidates versions later) version
            (ap versions same ∙ has))
        | inr other ↦
            head_passed mended object (candidates mended).stamp (candidates object).stamp (versions mended)
            (stored_mended candidates versions later) other
            ∙ mended_stored later object version (later_listed other listed) has
      ]
    where
      later_listed : (mended.0 == object.0) ≡ false → Lists (mended ∷ later) object → Lists later object
      later_listed other (inl same) =
          absurd (false≢true (sym other ∙ eq-eqb _ _ (ap (λ (it : ObjectId). it.0) same)))
      later_listed other (inr there) = there

-- the version of what is added to mend objects, where the replica held none under its stamp
pub version_of_mended : (old new : ReplicaState) (candidates : ObjectId → Candidate)
    (versions : ObjectId → Option ObjState) (target : ObjectId) (group : List (ObjectId × ℕ)) (object : ObjectId)
    (version : ObjState)
    → new.versions ≡ old.versions ++ stored_mended candidates versions (mended_objects target group)
    → MendsOn target group object → versions object ≡ Some version
    → version_at object (candidates object).stamp old.versions ≡ None
    → version_at object (candidates object).stamp new.versions ≡ Some version
version_of_mended old new candidates versions target group object version stored mends has none =
    ap (version_at object (candidates object).stamp) stored
    ∙ version_at-later object (candidates object).stamp old.versions _ none
    ∙ mended_stored candidates versions (mended_objects target group) object version
    (mended_listed target group object mends) has
