-- The first objects of a store, and one more.
use Rattle.std.proofs.Common.{◌≡◌, ℕ, zero, suc, ◌+◌, ◌<◌, List, [], ◌∷◌, ◌++◌, length, take, get_or, refl, ap, arith, zero-add, add-zero, add-one}
use Rattle.qu_stamp.specs.Stamp.{opening_stamp}
use Rattle.qu_objects.specs.declared.kind.KindName.{KindName}
use Rattle.qu_versions.specs.declared.stored.Stored.{Stored}
use Rattle.qu_objects.specs.Kind.{opening_version}
use Rattle.qu_versions.specs.Versions.{opening_store}

versions_from : (first place : ℕ) (kinds : List KindName) (default : KindName) → place < length kinds
    → opening_store first (take (suc place) kinds) ≡ opening_store first
    (take place kinds) ++ record {
      object = record { 0 = first + place };
      stamp = opening_stamp;
      state = opening_version (get_or kinds place default);
    } ∷ []
unfolding opening_store
versions_from first place [] default within = absurd (omega arith)
versions_from first zero (kind ∷ kinds) default within = rw add-zero refl
versions_from first (suc place) (kind ∷ kinds) default within =
    let count : first + suc place ≡ (first + 1) + place = omega arith in
    let inner : place < length kinds = omega arith in
    rw count (ap (λ (later : List Stored). record {
      object = record { 0 = first };
      stamp = opening_stamp;
      state = opening_version kind;
    } ∷ later)
    (versions_from (first + 1) place kinds default inner))

pub versions_step : (place : ℕ) (kinds : List KindName) (default : KindName) → place < length kinds
    → opening_store 0 (take (place + 1) kinds) ≡ opening_store 0
    (take place kinds) ++ record {
      object = record { 0 = place };
      stamp = opening_stamp;
      state = opening_version (get_or kinds place default);
    } ∷ []
versions_step place kinds default within = rw add-one (rw zero-add at (versions_from 0 place kinds default within))

pub no_versions : opening_store 0 [] ≡ []
unfolding opening_store
no_versions = refl

pub ruleset opening_laws = (versions_step, no_versions)
