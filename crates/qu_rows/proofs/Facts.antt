-- The facts of a replica tell of their keys what its versions tell, and decide how an object is mended.
use Rattle.std.proofs.Common.{◌≡◌, ◌&&◌, ◌||◌, ℕ, Bool, true, false, cond, List, [], ◌∷◌, Option, None, Some, Result, find, refl, sym, ap, ◌∙◌}
use Rattle.std.specs.Prelude.{◌==◌, option_map, option_and_then}
use Rattle.std.specs.List.{AllByRecursion, list_any, cons_option}
use Rattle.std.proofs.lemmas.Bool.{false≢true, and_parts, and_from, eqb-true, eq-eqb, or_left, or_right}
use Rattle.qu_base.specs.declared.party.ObjectId.{ObjectId}
use Rattle.qu_stamp.specs.declared.stamp.Stamp.{Stamp}
use Rattle.qu_stamp.specs.Stamp.{same_stamp}
use Rattle.qu_stamp.proofs.Order.{equal_by_same_stamp, same_stamp-self}
use Rattle.qu_history.specs.declared.sets.SetOf.{SetOf}
use Rattle.qu_objects.specs.declared.state.ObjState.{ObjState}
use Rattle.qu_versions.specs.Versions.{version_at}
use Rattle.qu_plan.specs.declared.fact.Fact.{Fact}
use Rattle.qu_class.specs.declared.class.Class.{Class}
use Rattle.qu_class.specs.declared.class.Class.TheVariants.{Method, InlineMethod, Copy, InlineBarrier, Barrier, Needs}
use Rattle.qu_plan.specs.declared.plan.CopyPlan.{CopyPlan}
use Rattle.qu_plan.specs.declared.plan.PlanFail.{PlanFail}
use Rattle.qu_class.specs.Class.{is_copy, class_in}
use Rattle.qu_plan.specs.Copying.{plan_of}
use Rattle.qu_plan.specs.Evidence.{evidence_of, AreAlike}
use Rattle.qu_plan.specs.Linking.{is_fact_of, link_in, link_by, linking}
use Rattle.qu_plan.proofs.PlanEvidence.{evidence_enough}
use Rattle.qu_mends.specs.Remedy.{course_by, course_of}
use Rattle.qu_rows.specs.State.{ReplicaState}
use Rattle.qu_rows.specs.Rows.{Asked, linking_of, fact_at, facts_of, evidence_for}

abbrev is_key : ObjectId → Stamp → ObjectId × Stamp → Bool
is_key object stamp key = (key.0).0 == object.0 && same_stamp key.1 stamp

key_is : (object : ObjectId) (stamp : Stamp) (key : ObjectId × Stamp) → is_key object stamp key ≡ true
    → key ≡ (object, stamp)
key_is object stamp key is =
    let both = and_parts ((key.0).0 == object.0) (same_stamp key.1 stamp) is in
    let number : (key.0).0 ≡ object.0 = eqb-true (key.0).0 object.0 both.0 in
    let same : key.1 ≡ stamp = equal_by_same_stamp key.1 stamp both.1 in
    λ i. (record { 0 = number i }, same i)

key_self : (key : ObjectId × Stamp) → is_key key.0 key.1 key ≡ true
key_self key =
    and_from ((key.0).0 == (key.0).0) (same_stamp key.1 key.1) (eq-eqb (key.0).0 (key.0).0 refl) (same_stamp-self key.1)

abbrev fact_as : ObjectId × Stamp → Option ObjState → Option Fact
fact_as key found =
    option_map (λ (version : ObjState). record { object = key.0; stamp = key.1; links = version.links }) found

abbrev link_as : ObjectId → Option ObjState → Option Stamp
link_as other found = option_and_then (λ (version : ObjState). link_in version.links other) found

module _ (state : ReplicaState) where
  -- what a fact tells is what the version tells
  told : (object : ObjectId) (stamp : Stamp) (other : ObjectId) (found : Option ObjState)
      → version_at object stamp state.versions ≡ found
      → link_by (fact_as (object, stamp) found) other ≡ linking_of state object stamp other
  unfolding link_by
  told object stamp other None is = sym (ap (link_as other) is)
  told object stamp other (Some version) is = sym (ap (link_as other) is)

  module _ (object : ObjectId) (stamp : Stamp) where
    abbrev found_in : List (ObjectId × Stamp) → Option Fact
    found_in keys = find (is_fact_of object stamp) (facts_of state keys)

    abbrev own_fact : Option Fact
    own_fact = fact_at state (object, stamp)

    own_is : (key : ObjectId × Stamp) (found : Option ObjState) → version_at key.0 key.1 state.versions ≡ found
        → is_key object stamp key ≡ true → own_fact ≡ fact_as key found
    own_is key found is here = ap (fact_at state) (sym (key_is object stamp key here)) ∙ ap (fact_as key) is

    -- one key more: it is this one, or has another fact, or none
    more : (key : ObjectId × Stamp) (later : List (ObjectId × Stamp)) (rest : Bool) (found : Option ObjState)
        (test : Bool) → version_at key.0 key.1 state.versions ≡ found → is_key object stamp key ≡ test
        → found_in later ≡ cond rest own_fact None
        → find (is_fact_of object stamp) (cons_option (fact_as key found) (facts_of state later))
        ≡ cond (test || rest) own_fact None
    more key later true None true is here so = so
    more key later false None true is here so = so ∙ sym (own_is key None is here)
    more key later rest None false is apart so = so
    more key later rest (Some version) true is here so =
        ap (λ (it : Bool). cond it (fact_as key (Some version)) (found_in later)) here
        ∙ sym (own_is key (Some version) is here)
    more key later rest (Some version) false is apart so =
        ap (λ (it : Bool). cond it (fact_as key (Some version)) (found_in later)) apart ∙ so

    facts_found : (keys : List (ObjectId × Stamp))
        → found_in keys ≡ cond (list_any (is_key object stamp) keys) own_fact None
    facts_found [] = refl
    facts_found (key ∷ later) =
        more key later (list_any (is_key object stamp) later) (version_at key.0 key.1 state.versions)
        (is_key object stamp key) refl refl (facts_found later)

    key_told : (keys : List (ObjectId × Stamp)) → list_any (is_key object stamp) keys ≡ true → (other : ObjectId)
        → linking (facts_of state keys) object stamp other ≡ linking_of state object stamp other
    unfolding linking
    key_told keys listed other =
        ap (λ (it : Option Fact). link_by it other)
        (facts_found keys ∙ ap (λ (test : Bool). cond test own_fact None) listed)
        ∙ told object stamp other (version_at object stamp state.versions) refl

  all_told : (keys some : List (ObjectId × Stamp))
      → AllByRecursion (λ key. list_any (is_key key.0 key.1) keys ≡ true) some
      → AreAlike (linking (facts_of state keys)) (linking_of state) some
  all_told keys [] listed = tt
  all_told keys (key ∷ later) listed =
      ((λ other. key_told key.0 key.1 keys listed.0 other), all_told keys later listed.1)

  all_listed : (keys some : List (ObjectId × Stamp))
      → ((key : ObjectId × Stamp) → list_any (is_key key.0 key.1) some ≡ true
      → list_any (is_key key.0 key.1) keys ≡ true)
      → AllByRecursion (λ key. list_any (is_key key.0 key.1) keys ≡ true) some
  all_listed keys [] within = tt
  all_listed keys (key ∷ later) within = (
    within key (or_left (is_key key.0 key.1 key) (list_any (is_key key.0 key.1) later) (key_self key)),
    all_listed keys later (λ one listed. within one
        (or_right (is_key one.0 one.1 key) (list_any (is_key one.0 one.1) later) listed)),
  )

  pub facts_alike : (keys : List (ObjectId × Stamp))
      → AreAlike (linking (facts_of state keys)) (linking_of state) keys
  facts_alike keys = all_told keys keys (all_listed keys keys (λ key listed. listed))

-- what is not copied has no plan
pub uncopied_same : (bounds : ℕ) (sets : List SetOf) (target : ObjectId) (plan other : Result CopyPlan PlanFail)
    (class : Class) → is_copy class ≡ false
    → course_by bounds sets target plan class ≡ course_by bounds sets target other class
unfolding course_by
uncopied_same bounds sets target plan other (Method candidate) apart = refl
uncopied_same bounds sets target plan other (InlineMethod candidate) apart = refl
uncopied_same bounds sets target plan other Copy apart = absurd (false≢true (sym apart))
uncopied_same bounds sets target plan other (InlineBarrier candidate) apart = refl
uncopied_same bounds sets target plan other (Barrier prior) apart = refl
uncopied_same bounds sets target plan other (Needs member) apart = refl

-- what they tell decides how the target is mended: if it is copied, they are those of the plan's evidence
pub facts_decide : (state : ReplicaState) (asked : Asked) (target : ObjectId)
    → course_of state.keys.bounds asked.sets (linking (facts_of state (evidence_for state asked target))) target
    ≡ course_of state.keys.bounds asked.sets (linking_of state) target
unfolding course_of
facts_decide state asked target = by (is_copy class) refl
  where
    class : Class
    class = class_in state.keys.bounds asked.sets target

    keys : List (ObjectId × Stamp)
    keys = evidence_of state.keys.bounds asked.sets target

    by : (test : Bool) → is_copy class ≡ test
        → course_by state.keys.bounds asked.sets target
        (plan_of state.keys.bounds asked.sets (linking (facts_of state (cond test keys []))) target) class
        ≡ course_by state.keys.bounds asked.sets target
        (plan_of state.keys.bounds asked.sets (linking_of state) target) class
    by true copied =
        ap (λ (plan : Result CopyPlan PlanFail). course_by state.keys.bounds asked.sets target plan class)
        (evidence_enough state.keys.bounds asked.sets (linking (facts_of state keys)) (linking_of state) target
        (facts_alike state keys))
    by false apart =
        uncopied_same state.keys.bounds asked.sets target
        (plan_of state.keys.bounds asked.sets (linking (facts_of state [])) target)
        (plan_of state.keys.bounds asked.sets (linking_of state) target) class apart
