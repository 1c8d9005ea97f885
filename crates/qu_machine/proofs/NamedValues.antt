-- The values of the objects that an operation names, part by part.
use Rattle.std.proofs.Common.{◌≡◌, ◌∙◌, ℕ, ◌+◌, ◌<◌, ◌≤◌, List, [], ◌∷◌, length, drop, refl, ap, slice_index_or, inl, inr}
use Rattle.std.specs.Prelude.{Some, slice_get, ◌⊎◌}
use Rattle.std.proofs.lemmas.List.{drop_more, drop_all}
use Rattle.std.proofs.lemmas.Option.{slice_get_read}
use Rattle.qu_base.specs.declared.party.ObjectId.{ObjectId}
use Rattle.qu_objects.specs.declared.kind.Value.{Value}
use Rattle.qu_machine.specs.Machine.{values_at, with_values}

pub values_at_more : {X : Type 0} (values : List Value) (parts : List (ObjectId × X)) (at index : ℕ)
    (part : ObjectId × X) (value : Value) → at < length parts → part ≡ slice_index_or parts at part
    → index ≡ (part.0).0 → index < length values → value ≡ slice_index_or values index value
    → values_at values (drop at parts) ≡ value ∷ values_at values (drop (at + 1) parts)
values_at_more values parts at index part value within is named stands found =
    let there : slice_get values index ≡ Some value =
    slice_get_read values (length values) index value refl stands found in
    rw (drop_more parts at part, ← is, ← named, there) refl

with_none : {X : Type 0} (values : List Value) (parts : List (ObjectId × X)) → with_values values parts [] ≡ values
with_none values [] = refl
with_none values (part ∷ parts) = refl

-- where the parts or the values are at an end
pub with_values_end : {X : Type 0} (values : List Value) (parts : List (ObjectId × X)) (made : List Value) (at : ℕ)
    → (length parts ≤ at) ⊎ (length made ≤ at) → with_values values (drop at parts) (drop at made) ≡ values
with_values_end values parts made at (inl all) =
    ap (λ rest. with_values values rest (drop at made)) (drop_all at parts all)
with_values_end values parts made at (inr all) =
    ap (with_values values (drop at parts)) (drop_all at made all) ∙ with_none values (drop at parts)
