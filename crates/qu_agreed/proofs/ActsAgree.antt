-- Two replicas that perform an act upon the same histories store the same versions, where what both have of the
-- versions upon which it is performed is the same.
use Rattle.std.proofs.Common.{◌≡◌, ℕ, List, sym, ap, subst, ◌∙◌}
use Rattle.std.proofs.lemmas.Option.{same_Some}
use Rattle.qu_base.specs.declared.party.ClientId.{ClientId}
use Rattle.qu_base.specs.declared.party.ObjectId.{ObjectId}
use Rattle.qu_stamp.specs.declared.candidate.Candidate.{Candidate}
use Rattle.qu_history.specs.declared.sets.SetOf.{SetOf}
use Rattle.qu_history.specs.Sets.{entries_of, method_at}
use Rattle.qu_objects.specs.declared.act.Method.{Method}
use Rattle.qu_objects.specs.declared.state.ObjState.{ObjState}
use Rattle.qu_objects.specs.Performing.{performed_values}
use Rattle.qu_kept.specs.Performing.{row_by, links_to_others, state_after}
use Rattle.qu_versions.specs.Versions.{version_at}
use Rattle.qu_frames.specs.declared.frame.Body.TheVariants as body
use Rattle.qu_rows.specs.Rows.{asked_of}
use Rattle.qu_rows.specs.State.{ReplicaState}
use Rattle.qu_claims.specs.Grounds.{Performs}
use Rattle.qu_claims.specs.Parts.{Names, values_on}
use Rattle.qu_claims.proofs.PartValues.{same_values, values_same}
use Rattle.qu_agreed.proofs.CopiesAgree.{DoBothHold}

module _ (one two : ReplicaState) (agreed : DoBothHold one two) (bounds : ℕ) (here : one.keys.bounds ≡ bounds)
    (there : two.keys.bounds ≡ bounds) (sets others : List SetOf)
    (alike : (object : ObjectId) → entries_of object sets ≡ entries_of object others)
    (new besides : ReplicaState) (firsts seconds : ObjectId → Candidate) where
  -- upon the histories of one
  abbrev PerformsHere : ClientId → ℕ → List (ObjectId × Method) → Type 0
  PerformsHere client number parts =
      Performs one new (asked_of client number sets (body.Act parts)) parts firsts

  abbrev PerformsThere : ClientId → ℕ → List (ObjectId × Method) → Type 0
  PerformsThere client number parts =
      Performs two besides (asked_of client number others (body.Act parts)) parts seconds

  module _ (client : ClientId) (number : ℕ) (parts : List (ObjectId × Method))
      (it : PerformsHere client number parts) (also : PerformsThere client number parts) where
    bases_same : (object : ObjectId) → Names parts object → it.bases object ≡ also.bases object
    bases_same object names =
        same_Some (it.bases object) (also.bases object)
        (sym (it.grounds object names).method
        ∙ ap (λ (count : ℕ). method_at count (entries_of object sets)) here
        ∙ ap (method_at bounds) (alike object)
        ∙ ap (λ (count : ℕ). method_at count (entries_of object others)) (sym there)
        ∙ (also.grounds object names).method)

    abbrev before : ObjectId → ObjState
    before = it.performed.befores

    abbrev beside : ObjectId → ObjState
    beside = also.performed.befores

    befores_same : (object : ObjectId) → Names parts object → before object ≡ beside object
    befores_same object names =
        agreed object (it.bases object).stamp (before object) (beside object) (it.performed.of_bases object names)
        (ap (λ (base : Candidate). version_at object base.stamp two.versions) (bases_same object names)
        ∙ also.performed.of_bases object names)

    values_before : values_on (λ (object : ObjectId). (before object).value) parts
        ≡ values_on (λ (object : ObjectId). (beside object).value) parts
    values_before =
        same_values (λ object. (before object).value) (λ object. (beside object).value) parts
        (λ object names. ap (λ (state : ObjState). state.value) (befores_same object names))

    values_after : values_on (λ (object : ObjectId). (it.versions object).value) parts
        ≡ values_on (λ (object : ObjectId). (also.versions object).value) parts
    values_after =
        sym it.performed.values ∙ ap (performed_values parts) values_before ∙ also.performed.values

    versions_same : (object : ObjectId) → Names parts object → (firsts object).stamp ≡ (seconds object).stamp
        → it.versions object ≡ also.versions object
    versions_same object names stamps =
        let value : (it.versions object).value ≡ (also.versions object).value =
        values_same (λ object. (it.versions object).value) (λ object. (also.versions object).value) parts
        values_after object names in
        let state : before object ≡ beside object = befores_same object names in
        it.performed.afters object names
        ∙ (λ i. state_after (row_by client number parts (values_before i)) (value i)
        (links_to_others object (stamps i) parts) (state i))
        ∙ sym (also.performed.afters object names)

  abbrev AreSame : (client : ClientId) (number : ℕ) (parts : List (ObjectId × Method))
      → PerformsHere client number parts → (object : ObjectId) → (who : ClientId) (turn : ℕ)
      → List (ObjectId × Method) → Type 0
  AreSame client number parts it object who turn asked =
      (also : PerformsThere who turn asked) → it.versions object ≡ also.versions object

  -- whoever asked for it, and whichever parts it has: they are one
  pub same_performed : (client who : ClientId) (number turn : ℕ) (parts besides : List (ObjectId × Method))
      (it : PerformsHere client number parts) (also : PerformsThere who turn besides) → client ≡ who → number ≡ turn
      → parts ≡ besides → (object : ObjectId) → Names parts object
      → (firsts object).stamp ≡ (seconds object).stamp → it.versions object ≡ also.versions object
  same_performed client who number turn parts besides it also clients numbers acts object names stamps =
      subst (λ (asker : ClientId). AreSame client number parts it object asker turn besides) clients
      (subst (λ (number_of : ℕ). AreSame client number parts it object client number_of besides) numbers
      (subst (λ (asked : List (ObjectId × Method)). AreSame client number parts it object client number asked) acts
      (λ other. versions_same client number parts it other object names stamps))) also
