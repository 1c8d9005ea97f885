-- The versions of objects under their stamps: a map from (object, stamp) that only grows.
use Rattle.std.specs.Prelude.{◌≡◌, ℕ, ◌+◌, ◌==◌, Bool, ◌&&◌, if◌then◌else◌, List, [], ◌∷◌, ◌++◌, slice_get, Option, None, Some, is_some, option_map}
use Rattle.qu_base.specs.declared.party.ObjectId.{ObjectId}
use Rattle.qu_stamp.specs.declared.stamp.Stamp.{Stamp}
use Rattle.qu_stamp.specs.Stamp.{opening_stamp, same_stamp}
use Rattle.qu_objects.specs.declared.kind.KindName.{KindName}
use Rattle.qu_objects.specs.declared.state.ObjState.{ObjState}
use Rattle.qu_objects.specs.Kind.{opening_version}
use Rattle.qu_versions.specs.declared.stored.Stored.{Stored}

-- the same object under the same stamp
abbrev pub is_same_key : ObjectId → Stamp → ObjectId → Stamp → Bool
is_same_key object stamp other at = object.0 == other.0 && same_stamp stamp at

-- whether it is the version of the object under this stamp
abbrev pub is_stored : ObjectId → Stamp → Stored → Bool
is_stored object stamp held = is_same_key held.object held.stamp object stamp

-- the version of an object under this stamp
unfoldable pub version_at : ObjectId → Stamp → List Stored → Option ObjState
version_at object stamp [] = None
version_at object stamp (held ∷ later) =
    if is_stored object stamp held then Some held.state else version_at object stamp later

abbrev pub has_version : ObjectId → Stamp → List Stored → Bool
has_version object stamp versions = is_some (version_at object stamp versions)

-- with a version of the object under this stamp, where none is held
abbrev pub with_version : ObjectId → Stamp → ObjState → List Stored → List Stored
with_version object stamp state versions =
    if has_version object stamp versions then versions
    else versions ++ record { object = object; stamp = stamp; state = state } ∷ []

-- what was held is held
abbrev pub KeepsVersions : List Stored → List Stored → Type 0
KeepsVersions old new = (object : ObjectId) (stamp : Stamp) (state : ObjState)
    → version_at object stamp old ≡ Some state → version_at object stamp new ≡ Some state

-- ---- how objects begin

-- the objects from this number on
unfoldable pub opening_store : ℕ → List KindName → List Stored
opening_store number [] = []
opening_store number (kind ∷ kinds) =
    record { object = record { 0 = number }; stamp = opening_stamp; state = opening_version kind } ∷ opening_store
    (number + 1) kinds

-- the version of the object, where it has a kind and the stamp is the opening one
abbrev pub opening_at : List KindName → ObjectId → Stamp → Option ObjState
opening_at kinds object stamp =
    if same_stamp opening_stamp stamp then option_map opening_version (slice_get kinds object.0) else None
