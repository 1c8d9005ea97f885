-- The histories shown of the first sets, and of one more; and the same sealed.
use Rattle.std.proofs.Common.{◌≡◌, ℕ, zero, suc, ◌+◌, ◌<◌, List, [], ◌∷◌, ◌++◌, length, map, take, get_or, Option, None, Some, refl, sym, ap, ◌∙◌, arith, add-one}
use Rattle.std.specs.List.{cons_option}
use Rattle.std.proofs.lemmas.List.{map-append}
use Rattle.std.specs.Prelude.{slice_get}
use Rattle.qu_history.specs.declared.sets.SetOf.{SetOf}
use Rattle.qu_history.specs.History.{ObjectHistory}
use Rattle.qu_history.specs.Sealing.{sealed_by}
use Rattle.qu_seal.specs.Keys.{Ring}
use Rattle.qu_rows.specs.State.{ReplicaState}
use Rattle.qu_replica.specs.Step.{shown}

abbrev after : Option ObjectHistory → List ObjectHistory → List ObjectHistory
after None histories = histories
after (Some history) histories = histories ++ history ∷ []

added : (found : Option ObjectHistory) → cons_option found [] ≡ after found []
added None = refl
added (Some history) = refl

before : (first last : Option ObjectHistory) (histories : List ObjectHistory)
    → cons_option first (after last histories) ≡ after last (cons_option first histories)
before None last histories = refl
before (Some history) None histories = refl
before (Some history) (Some other) histories = refl

shown_suc : (state : ReplicaState) (sets : List SetOf) (index : ℕ) (set : SetOf) → index < length sets
    → set ≡ get_or sets index set → shown state (take (suc index) sets) ≡ after
    (slice_get state.histories (set.object).0) (shown state (take index sets))
unfolding shown
shown_suc state [] index set within here = absurd (omega arith)
shown_suc state (first ∷ sets) zero set within here =
    rw here (added (slice_get state.histories (first.object).0))
shown_suc state (first ∷ sets) (suc index) set within here =
    let inner : index < length sets = omega arith in
    ap (λ (later : List ObjectHistory). cons_option (slice_get state.histories (first.object).0) later)
    (shown_suc state sets index set inner here) ∙
    before (slice_get state.histories (first.object).0) (slice_get state.histories (set.object).0)
    (shown state (take index sets))

shown_some : (state : ReplicaState) (sets : List SetOf) (index : ℕ) (set : SetOf) (history : ObjectHistory)
    → index < length sets → set ≡ get_or sets index set → Some history ≡ slice_get state.histories (set.object).0
    → shown state (take (index + 1) sets) ≡ shown state (take index sets) ++ history ∷ []
shown_some state sets index set history within here found =
    rw add-one (shown_suc state sets index set within here
    ∙ ap (λ (it : Option ObjectHistory). after it (shown state (take index sets))) (sym found))

shown_none : (state : ReplicaState) (sets : List SetOf) (index : ℕ) (set : SetOf) → index < length sets
    → set ≡ get_or sets index set → None ≡ slice_get state.histories (set.object).0
    → shown state (take (index + 1) sets) ≡ shown state (take index sets)
shown_none state sets index set within here found =
    rw add-one (shown_suc state sets index set within here
    ∙ ap (λ (it : Option ObjectHistory). after it (shown state (take index sets))) (sym found))

-- the sealed histories

pub sealed_some : (keys : Ring) (state : ReplicaState) (sets : List SetOf) (index : ℕ) (set : SetOf)
    (history : ObjectHistory) → index < length sets → set ≡ get_or sets index set
    → Some history ≡ slice_get state.histories (set.object).0
    → map (sealed_by keys) (shown state (take (index + 1) sets)) ≡ map (sealed_by keys)
    (shown state (take index sets)) ++ sealed_by keys history ∷ []
sealed_some keys state sets index set history within here found =
    ap (map (sealed_by keys)) (shown_some state sets index set history within here found)
    ∙ map-append (sealed_by keys) (shown state (take index sets)) (history ∷ [])

pub sealed_none : (keys : Ring) (state : ReplicaState) (sets : List SetOf) (index : ℕ) (set : SetOf)
    → index < length sets → set ≡ get_or sets index set → None ≡ slice_get state.histories (set.object).0
    → map (sealed_by keys) (shown state (take (index + 1) sets)) ≡ map (sealed_by keys) (shown state (take index sets))
sealed_none keys state sets index set within here found =
    ap (map (sealed_by keys)) (shown_none state sets index set within here found)

pub sealed_first : (keys : Ring) (state : ReplicaState) → map (sealed_by keys) (shown state []) ≡ []
unfolding shown
sealed_first keys state = refl
