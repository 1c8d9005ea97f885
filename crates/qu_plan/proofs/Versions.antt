-- The version of class METHOD that is kept of an object is that of its histories; an object that is not in the sets has
-- none.
use Rattle.std.proofs.Common.{◌≡◌, ◌⊎◌, ◌||◌, ℕ, Bool, true, false, cond, List, [], ◌∷◌, find, map, Option, Some, None, refl, sym, ap, ◌∙◌, inl, inr}
use Rattle.std.specs.Prelude.{◌==◌, unwrap_or}
use Rattle.std.proofs.lemmas.Bool.{false≢true, eqb-true}
use Rattle.std.proofs.lemmas.Option.{none-some}
use Rattle.qu_base.specs.declared.party.ObjectId.{ObjectId}
use Rattle.qu_base.proofs.Numbered.{object_is}
use Rattle.qu_history.specs.declared.sets.SetOf.{SetOf}
use Rattle.qu_history.specs.Sets.{histories, entries_of, candidates_of, object_candidate, if_method, method_at, greatest}
use Rattle.qu_plan.specs.Knowledge.{Version, versions_of}
use Rattle.qu_class.specs.Class.{is_in_sets}

-- an object with histories is in the sets
pub shown_in : (members : List SetOf) (object : ObjectId)
    → (is_in_sets members object ≡ true) ⊎ (entries_of object members ≡ [])
unfolding entries_of
shown_in [] object = inr refl
shown_in (set ∷ later) object =
    by ((set.object).0 == object.0) refl (shown_in later object)
  where
    by : (test : Bool) → ((set.object).0 == object.0) ≡ test
        → (is_in_sets later object ≡ true) ⊎ (entries_of object later ≡ [])
        → ((test || is_in_sets later object) ≡ true)
        ⊎ (cond test (histories set.entries) (entries_of object later) ≡ [])
    by true is rest = inl refl
    by false is rest = rest

pub no_method : (bounds : ℕ) → method_at bounds [] ≡ None
unfolding method_at object_candidate if_method candidates_of greatest
no_method bounds = refl

module _ (bounds : ℕ) (sets : List SetOf) (object : ObjectId) where
  abbrev of_set : SetOf → Version
  of_set set = (set.object, method_at bounds (entries_of set.object sets))

  abbrev version_in : List SetOf → Option Version
  version_in members = find (λ (version : Version). (version.0).0 == object.0) (map of_set members)

  in_members : (members : List SetOf) → (version_in members ≡ Some (object, method_at bounds (entries_of object sets)))
      ⊎ (version_in members ≡ None) × (is_in_sets members object ≡ false)
  in_members [] = inr (refl, refl)
  in_members (set ∷ later) = by ((set.object).0 == object.0) refl (in_members later)
    where
      by : (test : Bool) → ((set.object).0 == object.0) ≡ test
          → (version_in later ≡ Some (object, method_at bounds (entries_of object sets)))
          ⊎ (version_in later ≡ None) × (is_in_sets later object ≡ false)
          → (cond test (Some (of_set set)) (version_in later)
          ≡ Some (object, method_at bounds (entries_of object sets)))
          ⊎ (cond test (Some (of_set set)) (version_in later) ≡ None) × ((test || is_in_sets later object) ≡ false)
      by true is rest =
          inl (ap (λ (it : ObjectId). Some (it, method_at bounds (entries_of it sets)))
          (object_is set.object object (eqb-true (set.object).0 object.0 is)))
      by false is rest = rest

-- the one that is found
pub version_there : (bounds : ℕ) (sets : List SetOf) (object : ObjectId) (versions : List Version) (found : Version)
    → versions ≡ versions_of bounds sets
    → find (λ (version : Version). (version.0).0 == object.0) versions ≡ Some found
    → found.1 ≡ method_at bounds (entries_of object sets)
unfolding versions_of
version_there bounds sets object versions found are there =
    let here : version_in bounds sets object sets ≡ Some found =
    sym (ap (find (λ (version : Version). (version.0).0 == object.0)) are) ∙ there in
    elim (in_members bounds sets object sets) [
      | inl is ↦ by_found (object, method_at bounds (entries_of object sets)) found (sym is ∙ here)
      | inr none ↦ absurd (none-some found (sym none.0 ∙ here))
    ]
  where
    by_found : (one other : Version) → Some one ≡ Some other → other.1 ≡ one.1
    by_found one other same = ap (λ (it : Option Version). (unwrap_or it one).1) (sym same)

-- and where none is
pub version_nowhere : (bounds : ℕ) (sets : List SetOf) (object : ObjectId) (versions : List Version)
    → versions ≡ versions_of bounds sets
    → find (λ (version : Version). (version.0).0 == object.0) versions ≡ None
    → method_at bounds (entries_of object sets) ≡ None
unfolding versions_of
version_nowhere bounds sets object versions are none =
    let here : version_in bounds sets object sets ≡ None =
    sym (ap (find (λ (version : Version). (version.0).0 == object.0)) are) ∙ none in
    let kept : Version = (object, method_at bounds (entries_of object sets)) in
    elim (in_members bounds sets object sets) [
      | inl is ↦ absurd (none-some kept (sym here ∙ is))
      | inr absent ↦ elim (shown_in sets object) [
        | inl shown ↦ absurd (false≢true (sym absent.1 ∙ shown))
        | inr empty ↦ ap (method_at bounds) empty ∙ no_method bounds
      ]
    ]
