-- What is found under a key: in the opening versions, and after one more version was put in.
use Rattle.std.proofs.Common.{◌≡◌, ℕ, zero, suc, ◌+◌, ◌<◌, ◌==◌, Bool, true, false, cond, if◌then◌else◌, List, [], ◌∷◌, ◌++◌, Option, None, Some, is_some, refl, ap, ◌∙◌, arith}
use Rattle.std.specs.Prelude.{find, option_map, slice_get}
use Rattle.std.specs.Option.{option_or}
use Rattle.std.proofs.lemmas.Bool.Decides.{nat_tests}
use Rattle.qu_base.specs.declared.party.ObjectId.{ObjectId}
use Rattle.qu_stamp.specs.declared.stamp.Stamp.{Stamp}
use Rattle.qu_stamp.specs.Stamp.{opening_stamp, same_stamp}
use Rattle.qu_stamp.proofs.Order.{same_stamp-self}
use Rattle.qu_objects.specs.declared.kind.KindName.{KindName}
use Rattle.qu_objects.specs.declared.state.ObjState.{ObjState}
use Rattle.qu_versions.specs.declared.stored.Stored.{Stored}
use Rattle.qu_objects.specs.Kind.{opening_version}
use Rattle.qu_versions.specs.Versions.{is_same_key, is_stored, version_at, with_version, KeepsVersions, opening_store, opening_at}

-- ---- the version under a key is that of the first such entry

pub version_at-find : (object : ObjectId) (stamp : Stamp) (versions : List Stored)
    → version_at object stamp versions ≡ option_map (λ (held : Stored). held.state)
    (find (is_stored object stamp) versions)
unfolding version_at
version_at-find object stamp [] = refl
version_at-find object stamp (held ∷ later) =
    elim (is_stored object stamp held)
    as (λ (test : Bool). cond test (Some held.state) (version_at object stamp later) ≡ option_map
    (λ (it : Stored). it.state) (cond test (Some held) (find (is_stored object stamp) later))) [
      | true ↦ refl
      | false ↦ version_at-find object stamp later
    ]

pub ruleset finds = (version_at-find)

-- ---- versions behind others

pub version_at-append : (object : ObjectId) (stamp : Stamp) (versions more : List Stored)
    → version_at object stamp (versions ++ more) ≡ option_or (version_at object stamp versions)
    (version_at object stamp more)
unfolding version_at
version_at-append object stamp [] more = refl
version_at-append object stamp (held ∷ later) more =
    elim (is_stored object stamp held)
    as (λ (test : Bool). cond test (Some held.state) (version_at object stamp (later ++ more)) ≡ option_or
    (cond test (Some held.state) (version_at object stamp later)) (version_at object stamp more)) [
      | true ↦ refl
      | false ↦ version_at-append object stamp later more
    ]

pub ruleset finds_more = (version_at-append)

pub append_held : (object : ObjectId) (stamp : Stamp) (versions more new : List Stored) → new ≡ versions ++ more
    → version_at object stamp new ≡ option_or (version_at object stamp versions) (version_at object stamp more)
append_held object stamp versions more new is =
    ap (version_at object stamp) is ∙ version_at-append object stamp versions more

pub append_grows : (versions more new : List Stored) → new ≡ versions ++ more → KeepsVersions versions new
append_grows versions more new is object stamp state found =
    append_held object stamp versions more new is ∙ (rw found refl)

-- ---- one version more

-- behind all others
version_at-push : (object : ObjectId) (stamp : Stamp) (versions : List Stored) (more : Stored)
    → version_at object stamp (versions ++ more ∷ []) ≡ option_or (version_at object stamp versions)
    (if is_stored object stamp more then Some more.state else None)
unfolding version_at
version_at-push object stamp versions more = version_at-append object stamp versions (more ∷ [])

same_key-self : (object : ObjectId) (stamp : Stamp) → is_same_key object stamp object stamp ≡ true
same_key-self object stamp = grind (arith, nat_tests, same_stamp-self stamp)

-- what is found under a key, where the version that was put in has this key or another one
put_found : (found : Option ObjState) (object : ObjectId) (stamp : Stamp) (versions : List Stored) (state : ObjState)
    (other : ObjectId) (at : Stamp) → version_at object stamp versions ≡ found
    → version_at other at (with_version object stamp state versions) ≡ (if is_some found
    then version_at other at versions
    else option_or (version_at other at versions) (if is_same_key object stamp other at then Some state else None))
put_found (Some held) object stamp versions state other at is = rw is refl
put_found None object stamp versions state other at is =
    rw is (version_at-push other at versions (record { object = object; stamp = stamp; state = state }))

or_none : (found : Option ObjState) → option_or found None ≡ found
or_none (Some state) = refl
or_none None = refl

put_held_as : (found : Option ObjState) (object : ObjectId) (stamp : Stamp) (versions : List Stored) (state : ObjState)
    → version_at object stamp versions ≡ found
    → version_at object stamp (with_version object stamp state versions) ≡ option_or found (Some state)
put_held_as (Some held) object stamp versions state is =
    put_found (Some held) object stamp versions state object stamp is ∙ is
put_held_as None object stamp versions state is =
    put_found None object stamp versions state object stamp is ∙ (rw (is, same_key-self object stamp) refl)

pub put_held : (object : ObjectId) (stamp : Stamp) (versions new : List Stored) (state : ObjState)
    → new ≡ with_version object stamp state versions
    → version_at object stamp new ≡ option_or (version_at object stamp versions) (Some state)
put_held object stamp versions new state is =
    ap (version_at object stamp) is ∙ put_held_as (version_at object stamp versions) object stamp versions state refl

put_other_as : (found : Option ObjState) (object : ObjectId) (stamp : Stamp) (versions : List Stored) (state : ObjState)
    (other : ObjectId) (at : Stamp) → version_at object stamp versions ≡ found
    → is_same_key object stamp other at ≡ false
    → version_at other at (with_version object stamp state versions) ≡ version_at other at versions
put_other_as (Some held) object stamp versions state other at is differs =
    put_found (Some held) object stamp versions state other at is
put_other_as None object stamp versions state other at is differs =
    put_found None object stamp versions state other at is ∙ (rw differs (or_none (version_at other at versions)))

pub put_other : (object : ObjectId) (stamp : Stamp) (versions new : List Stored) (state : ObjState) (other : ObjectId)
    (at : Stamp) → is_same_key object stamp other at ≡ false → new ≡ with_version object stamp state versions
    → version_at other at new ≡ version_at other at versions
put_other object stamp versions new state other at differs is =
    ap (version_at other at) is
    ∙ put_other_as (version_at object stamp versions) object stamp versions state other at refl differs

put_grows_as : (found : Option ObjState) (object : ObjectId) (stamp : Stamp) (versions : List Stored) (state : ObjState)
    → version_at object stamp versions ≡ found → KeepsVersions versions (with_version object stamp state versions)
put_grows_as (Some held) object stamp versions state is other at given found =
    put_found (Some held) object stamp versions state other at is ∙ found
put_grows_as None object stamp versions state is other at given found =
    put_found None object stamp versions state other at is ∙ (rw found refl)

pub put_grows : (object : ObjectId) (stamp : Stamp) (versions new : List Stored) (state : ObjState)
    → new ≡ with_version object stamp state versions → KeepsVersions versions new
put_grows object stamp versions new state is other at given found =
    ap (version_at other at) is
    ∙ put_grows_as (version_at object stamp versions) object stamp versions state refl other at given found

-- ---- the opening versions

-- no object below the first one
none_below : (object : ObjectId) (stamp : Stamp) (first : ℕ) (kinds : List KindName) → object.0 < first
    → version_at object stamp (opening_store first kinds) ≡ None
unfolding version_at opening_store
none_below object stamp first [] below = refl
none_below object stamp first (kind ∷ kinds) below =
    let differs : (first == object.0) ≡ false = grind (arith, nat_tests) in
    rw differs (none_below object stamp (first + 1) kinds (omega arith))

-- an object that was passed, or that comes at once
opened_from : (object : ObjectId) (stamp : Stamp) (first place : ℕ) (kinds : List KindName)
    → object.0 ≡ first + place
    → version_at object stamp (opening_store first kinds) ≡
    (if same_stamp opening_stamp stamp then option_map opening_version (slice_get kinds place) else None)
unfolding version_at opening_store
opened_from object stamp first place [] is =
    elim (same_stamp opening_stamp stamp)
    as (λ (test : Bool). None ≡ (if test then option_map opening_version None else None)) [
      | true ↦ refl
      | false ↦ refl
    ]
opened_from object stamp first zero (kind ∷ kinds) is =
    let same : (first == object.0) ≡ true = grind (arith, nat_tests) in
    let later : Option ObjState = version_at object stamp (opening_store (first + 1) kinds) in
    rw same (elim (same_stamp opening_stamp stamp)
    as (λ (test : Bool). cond test (Some (opening_version kind)) later
    ≡ (if test then Some (opening_version kind) else None)) [
      | true ↦ refl
      | false ↦ none_below object stamp (first + 1) kinds (omega arith)
    ])
opened_from object stamp first (suc place) (kind ∷ kinds) is =
    let differs : (first == object.0) ≡ false = grind (arith, nat_tests) in
    rw differs (opened_from object stamp (first + 1) place kinds (omega arith))

pub opened : (object : ObjectId) (stamp : Stamp) (kinds : List KindName)
    → version_at object stamp (opening_store 0 kinds) ≡ opening_at kinds object stamp
opened object stamp kinds = opened_from object stamp 0 object.0 kinds (omega arith)
