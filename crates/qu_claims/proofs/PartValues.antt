-- The values of parts are the same where the values are the same on each object that the parts name, and the other
-- way round.
use Rattle.std.proofs.Common.{◌≡◌, List, [], ◌∷◌, inl, inr, refl, ap, subst}
use Rattle.qu_base.specs.declared.party.ObjectId.{ObjectId}
use Rattle.qu_objects.specs.declared.act.Method.{Method}
use Rattle.qu_objects.specs.declared.kind.Value.{Value}
use Rattle.qu_claims.specs.Parts.{Names, values_on}

abbrev first_of : Value → List Value → Value
first_of other [] = other
first_of other (value ∷ later) = value

abbrev later_of : List Value → List Value
later_of [] = []
later_of (value ∷ later) = later

pub same_values : (first second : ObjectId → Value) (parts : List (ObjectId × Method))
    → ((object : ObjectId) → Names parts object → first object ≡ second object)
    → values_on first parts ≡ values_on second parts
same_values first second [] same = refl
same_values first second (part ∷ later) same =
    let head : first part.0 ≡ second part.0 = same part.0 (inl refl) in
    let rest : values_on first later ≡ values_on second later =
    same_values first second later (λ object names. same object (inr names)) in
    λ i. head i ∷ rest i

pub values_same : (first second : ObjectId → Value) (parts : List (ObjectId × Method))
    → values_on first parts ≡ values_on second parts → (object : ObjectId) → Names parts object
    → first object ≡ second object
values_same first second [] same object never = absurd never
values_same first second (part ∷ later) same object (inl is) =
    subst (λ (it : ObjectId). first it ≡ second it) is
    (ap (first_of (first part.0)) same)
values_same first second (part ∷ later) same object (inr there) =
    values_same first second later (ap later_of same) object there
