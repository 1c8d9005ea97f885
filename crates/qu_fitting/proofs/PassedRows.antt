-- What is known of each object once no row fits.
use Rattle.std.proofs.Common.{◌≡◌, ◌<◌, Bool, true, false, ◌||◌, cond, List, [], ◌∷◌, Option, None, Some, refl, sym}
use Rattle.std.specs.Prelude.{is_none, nat_le, unwrap_or}
use Rattle.std.specs.List.{AllByRecursion, list_any}
use Rattle.std.proofs.lemmas.Bool.{false≢true, leb-false}
use Rattle.std.proofs.lemmas.Option.{none-some}
use Rattle.qu_base.specs.declared.party.ObjectId.{ObjectId}
use Rattle.qu_stamp.specs.declared.limits.TheConstants.{LAST_TIME}
use Rattle.qu_stamp.specs.declared.candidate.Candidate.{Candidate}
use Rattle.qu_stamp.specs.Stamp.{is_below}
use Rattle.qu_stamp.specs.Candidate.{opening}
use Rattle.qu_history.specs.Sets.{latest_of}
use Rattle.qu_objects.specs.declared.kind.KindName.TheVariants.{Counter}
use Rattle.qu_objects.specs.declared.state.ObjState.{ObjState}
use Rattle.qu_objects.specs.Kind.{opening_version}
use Rattle.qu_verdicts.specs.declared.verdict.Refusal.TheVariants.{NotCurrent, NotMethod, TimeSpent}
use Rattle.qu_mends.specs.declared.seen.Seen.{Seen}
use Rattle.qu_rows.specs.declared.decision.Decision.{Decision}
use Rattle.qu_rows.specs.State.{ReplicaState, own_latest}
use Rattle.qu_rows.specs.Rows.{Asked, shown_of, seen_of, seen_each, method_base, version_seen, base_version, class_told, row_current, row_method, row_version, row_time}
use Rattle.qu_rows.proofs.Allowed.{none_refused}

given_some : {A : Type 0} (found : Option A) (without : A) → is_none found ≡ false
    → found ≡ Some (unwrap_or found without)
given_some None without some = absurd (false≢true (sym some))
given_some (Some it) without some = refl

none_of : {X : Type 0} (test : X → Bool) (items : List X) → list_any test items ≡ false
    → AllByRecursion (λ item. test item ≡ false) items
none_of test [] none = tt
none_of test (item ∷ later) none = by (test item) refl none (none_of test later)
  where
    by : (here : Bool) → test item ≡ here → (here || list_any test later) ≡ false
        → (list_any test later ≡ false → AllByRecursion (λ it. test it ≡ false) later)
        → (test item ≡ false) × AllByRecursion (λ it. test it ≡ false) later
    by true is none so_far = absurd (false≢true (sym none))
    by false is none so_far = (is, so_far none)

waits_not : (lacks : Bool) (waits : Decision) → cond lacks (Some waits) None ≡ None → lacks ≡ false
waits_not true waits none = absurd (none-some waits (sym none))
waits_not false waits none = refl

module _ (state : ReplicaState) (asked : Asked) where
  -- what is known of what was seen of each is known of each
  pub of_seen : (P : Seen → Type 0) (Q : ObjectId → Type 0) (objects : List ObjectId)
      → ((object : ObjectId) → P (seen_of state asked object) → Q object)
      → AllByRecursion P (seen_each state asked objects) → AllByRecursion Q objects
  of_seen P Q [] gives all = tt
  of_seen P Q (object ∷ later) gives all = (gives object all.0, of_seen P Q later gives all.1)

  -- the candidate upon which an operation on the object rests, and its version
  abbrev pub base_of : ObjectId → Candidate
  base_of object = unwrap_or (method_base state asked object) opening

  abbrev pub before_of : ObjectId → ObjState
  before_of object = unwrap_or (base_version state asked object) (opening_version Counter)

  pub passed_method : (objects : List ObjectId) → row_method (seen_each state asked objects) ≡ None
      → AllByRecursion (λ object. method_base state asked object ≡ Some (base_of object)) objects
  unfolding row_method
  passed_method objects none =
      of_seen (λ (one : Seen). is_none one.method ≡ false)
      (λ object. method_base state asked object ≡ Some (base_of object)) objects
      (λ object some. given_some (method_base state asked object) opening some)
      (none_refused _ (λ (it : Seen). NotMethod it.object (class_told it)) (seen_each state asked objects) none)

  pub passed_version : (objects : List ObjectId) → row_version state (seen_each state asked objects) ≡ None
      → AllByRecursion (λ object. base_version state asked object ≡ Some (before_of object)) objects
  unfolding row_version
  passed_version objects none =
      of_seen (λ (one : Seen). is_none (version_seen state one) ≡ false)
      (λ object. base_version state asked object ≡ Some (before_of object)) objects
      (λ object some. given_some (base_version state asked object) (opening_version Counter) some)
      (none_of (λ (one : Seen). is_none (version_seen state one)) (seen_each state asked objects) (waits_not _ _ none))

  pub passed_current : (objects : List ObjectId) → row_current state (seen_each state asked objects) ≡ None
      → AllByRecursion (λ object. is_below (latest_of (shown_of asked object)) (own_latest state object) ≡ false)
      objects
  unfolding row_current
  passed_current objects none =
      of_seen (λ (one : Seen). is_below one.latest (own_latest state one.object) ≡ false)
      (λ object. is_below (latest_of (shown_of asked object)) (own_latest state object) ≡ false) objects
      (λ object below. below)
      (none_refused _ (λ (it : Seen). NotCurrent it.object (own_latest state it.object)) (seen_each state asked objects)
      none)

  pub passed_time : (objects : List ObjectId) → row_time (seen_each state asked objects) ≡ None
      → AllByRecursion (λ object. (latest_of (shown_of asked object)).time < LAST_TIME) objects
  unfolding row_time
  passed_time objects none =
      of_seen (λ (one : Seen). nat_le LAST_TIME one.latest.time ≡ false)
      (λ object. (latest_of (shown_of asked object)).time < LAST_TIME) objects
      (λ object not_spent. leb-false _ _ not_spent)
      (none_refused _ (λ (it : Seen). TimeSpent it.object) (seen_each state asked objects) none)
