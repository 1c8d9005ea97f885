-- The first objects of a replica, and one more.
use Rattle.std.proofs.Common.{◌≡◌, ℕ, zero, suc, ◌+◌, ◌<◌, List, [], ◌∷◌, ◌++◌, length, take, refl, ap, arith, zero-add, add-zero, add-one}
use Rattle.qu_base.specs.declared.party.ReplicaId.{ReplicaId}
use Rattle.qu_stamp.specs.Candidate.{opening}
use Rattle.qu_history.specs.History.{ObjectHistory}
use Rattle.qu_objects.specs.declared.kind.KindName.{KindName}
use Rattle.qu_fitting.specs.Holding.{opening_histories}

histories_from : (me : ReplicaId) (first place : ℕ) (kinds : List KindName) → place < length kinds
    → opening_histories me first (take (suc place) kinds) ≡ opening_histories me first
    (take place kinds) ++ record { object = record { 0 = first + place }; replica = me; candidates = opening ∷ [] } ∷ []
unfolding opening_histories
histories_from me first place [] within = absurd (omega arith)
histories_from me first zero (kind ∷ kinds) within = rw add-zero refl
histories_from me first (suc place) (kind ∷ kinds) within =
    let count : first + suc place ≡ (first + 1) + place = omega arith in
    let inner : place < length kinds = omega arith in
    rw count (ap (λ (later : List ObjectHistory). record {
      object = record { 0 = first };
      replica = me;
      candidates = opening ∷ [];
    } ∷ later) (histories_from me (first + 1) place kinds inner))

pub histories_step : (me : ReplicaId) (place : ℕ) (kinds : List KindName) → place < length kinds
    → opening_histories me 0 (take (place + 1) kinds) ≡ opening_histories me 0
    (take place kinds) ++ record { object = record { 0 = place }; replica = me; candidates = opening ∷ [] } ∷ []
histories_step me place kinds within = rw add-one (rw zero-add at (histories_from me 0 place kinds within))

pub no_histories : (me : ReplicaId) → opening_histories me 0 [] ≡ []
unfolding opening_histories
no_histories me = refl
