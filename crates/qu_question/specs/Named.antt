-- The objects that are named in an operation: those that it is on, and those that were added since a class or the
-- replicas needed them (Query/Update: the objects of a client's sets).
use Rattle.std.specs.Prelude.{Bool, ◌&&◌, nat_lt, nat_le, if◌then◌else◌, List, [], ◌∷◌, ◌++◌, filter, length, map}
use Rattle.qu_base.specs.declared.limits.TheConstants.{OBJECT_IDS}
use Rattle.qu_base.specs.declared.party.ObjectId.{ObjectId}
use Rattle.qu_history.specs.declared.limits.TheConstants.{OBJECTS_LIMIT}
use Rattle.qu_objects.specs.declared.op.Op.{Op}
use Rattle.qu_objects.specs.declared.op.Op.TheVariants as op
use Rattle.qu_objects.specs.Parts.{are_objects_from}

-- the objects that an operation is on
abbrev pub operation_objects : Op → List ObjectId
operation_objects (op.Act parts) = map (λ part. part.0) parts
operation_objects (op.Query parts) = map (λ part. part.0) parts

-- one object or more, and at most as many as one set may have
unfoldable pub are_objects : List ObjectId → Bool
are_objects objects =
    nat_lt 0 (length objects) && nat_le (length objects) OBJECTS_LIMIT && are_objects_from 0 objects

-- an object among others that rise
unfoldable pub among : ObjectId → List ObjectId → List ObjectId
among object others =
    (filter (λ other. nat_lt other.0 object.0) others ++ object ∷ [])
    ++ filter (λ other. nat_lt object.0 other.0) others

-- an object is named too, while fewer are named than one set may have
unfoldable pub with_named : ObjectId → List ObjectId → List ObjectId
with_named object named =
    if nat_lt object.0 OBJECT_IDS && nat_lt (length named) OBJECTS_LIMIT then among object named else named
