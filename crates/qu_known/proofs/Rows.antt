-- What is known at the beginning, and one object or replica more for the loops over them.
use Rattle.std.proofs.Common.{◌≡◌, ℕ, zero, suc, ◌+◌, ◌<◌, List, [], ◌∷◌, ◌++◌, length, get_or, map, take, refl, ap, sym, subst, ◌∙◌, arith, append_assoc, add-one, add-zero, zero-add}
use Rattle.std.specs.Prelude.{slice_get}
use Rattle.std.proofs.lemmas.List.{append-nil, length-map}
use Rattle.qu_base.specs.declared.party.ReplicaId.{ReplicaId}
use Rattle.qu_base.specs.Bounds.{replicas}
use Rattle.qu_seal.specs.Keys.{Ring}
use Rattle.qu_stamp.specs.Candidate.{opening}
use Rattle.qu_objects.specs.declared.kind.KindName.{KindName}
use Rattle.qu_mends.specs.Table.{candidates_in}
use Rattle.qu_fitting.specs.Holding.{opening_histories}
use Rattle.qu_fitting.proofs.FitState.{opening_number}
use Rattle.qu_trace.specs.declared.trace.Trace.{Trace}
use Rattle.qu_world.specs.State.{WorldState, kinds_at, opening_replicas, ring_of}
use Rattle.qu_claims.specs.Times.{world_after}
use Rattle.qu_runs.proofs.Worlds.WorldGrowth.{world_after-none}
use Rattle.qu_known.specs.declared.tracked.Tracked.{Tracked}
use Rattle.qu_known.specs.Tracked.{undecided}
use Rattle.qu_known.specs.Known.{ShownRow, known_on, opening_row, opening_rows, row_tracked, AreKnown}

-- ---- the beginning

opening_row-push : (kinds : List KindName) (index : ℕ) → index < length kinds
    → opening_row (take (suc index) kinds) ≡ opening_row (take index kinds) ++ (opening ∷ []) ∷ []
opening_row-push [] index below = absurd (omega arith)
opening_row-push (kind ∷ later) zero below = refl
opening_row-push (kind ∷ later) (suc index) below =
    ap (λ (row : ShownRow). (opening ∷ []) ∷ row) (opening_row-push later index (omega arith))

pub opening_row_more : (kinds : List KindName) (index : ℕ) → index < length kinds
    → opening_row (take (index + 1) kinds) ≡ opening_row (take index kinds) ++ (opening ∷ []) ∷ []
opening_row_more kinds index below =
    ap (λ (count : ℕ). opening_row (take count kinds)) (add-one index) ∙ opening_row-push kinds index below

opening_rows-push : (first count : ℕ) (kinds : ℕ → List KindName) → opening_rows first (suc count) kinds
    ≡ opening_rows first count kinds ++ opening_row (kinds (first + count)) ∷ []
unfolding opening_rows
opening_rows-push first zero kinds = ap (λ (number : ℕ). opening_row (kinds number) ∷ []) (sym (add-zero first))
opening_rows-push first (suc count) kinds =
    let place : (first + 1) + count ≡ first + suc count = omega arith in
    ap (λ (later : List ShownRow). opening_row (kinds first) ∷ later)
    (opening_rows-push (first + 1) count kinds
    ∙ ap (λ (number : ℕ). opening_rows (first + 1) count kinds ++ opening_row (kinds number) ∷ []) place)

pub opening_rows_more : (number : ℕ) (kinds : ℕ → List KindName) → opening_rows 0 (number + 1) kinds
    ≡ opening_rows 0 number kinds ++ opening_row (kinds number) ∷ []
opening_rows_more number kinds =
    ap (λ (count : ℕ). opening_rows 0 count kinds) (add-one number) ∙ opening_rows-push 0 number kinds
    ∙ ap (λ (place : ℕ). opening_rows 0 number kinds ++ opening_row (kinds place) ∷ []) (zero-add number)

pub opening_rows_none : (kinds : ℕ → List KindName) → opening_rows 0 0 kinds ≡ []
unfolding opening_rows
opening_rows_none kinds = refl

opening_known : (me : ReplicaId) (first : ℕ) (kinds : List KindName) (place : ℕ)
    → get_or (opening_row kinds) place [] ≡ candidates_in (slice_get (opening_histories me first kinds) place)
unfolding opening_histories
opening_known me first [] place = refl
opening_known me first (kind ∷ kinds) zero = refl
opening_known me first (kind ∷ kinds) (suc place) = opening_known me (first + 1) kinds place

opening_are_known : (first count : ℕ) (keys : Ring) (kinds : ℕ → List KindName)
    → AreKnown (opening_replicas first count keys kinds) (opening_rows first count kinds)
unfolding opening_replicas opening_rows
opening_are_known first zero keys kinds = tt
opening_are_known first (suc count) keys kinds =
    let number : length (opening_histories (record { 0 = first }) 0 (kinds first)) ≡ length (kinds first) =
    opening_number (record { 0 = first }) 0 (kinds first) in
    let size : length (opening_row (kinds first)) ≡ length (kinds first) = length-map (kinds first) _ in (
      record {
        number = omega arith;
        all = λ object. opening_known (record { 0 = first }) 0 (kinds first) object.0;
      },
      opening_are_known (first + 1) count keys kinds,
    )

-- what is known before the first event of a run
pub known_opening : (trace : Trace) → AreKnown (world_after trace 0).replicas
    (opening_rows 0 (replicas trace.setup.bounds) (kinds_at trace.setup))
known_opening trace =
    subst (λ (world : WorldState). AreKnown world.replicas
    (opening_rows 0 (replicas trace.setup.bounds) (kinds_at trace.setup))) (sym (world_after-none trace))
    (opening_are_known 0 (replicas trace.setup.bounds) (ring_of trace.setup) (kinds_at trace.setup))

-- ---- what is tracked of a row

abbrev tracked_on : ShownRow → ℕ → List Tracked
tracked_on row object = map (undecided (record { 0 = object })) (known_on (record { 0 = object }) row)

row_tracked-push : (row : ShownRow) (first count : ℕ) → row_tracked row first (suc count)
    ≡ row_tracked row first count ++ tracked_on row (first + count)
unfolding row_tracked
row_tracked-push row first zero = append-nil _ ∙ ap (tracked_on row) (sym (add-zero first))
row_tracked-push row first (suc count) =
    let place : (first + 1) + count ≡ first + suc count = omega arith in
    ap (λ (later : List Tracked). tracked_on row first ++ later)
    (row_tracked-push row (first + 1) count
    ∙ ap (λ (object : ℕ). row_tracked row (first + 1) count ++ tracked_on row object) place) ∙
    sym (append_assoc (tracked_on row first) (row_tracked row (first + 1) count) (tracked_on row (first + suc count)))

pub row_tracked_more : (before : List Tracked) (row : ShownRow) (object : ℕ)
    → before ++ row_tracked row 0 (object + 1) ≡ (before ++ row_tracked row 0 object)
    ++ map (undecided (record { 0 = object })) (known_on (record { 0 = object }) row)
row_tracked_more before row object =
    ap (λ (later : List Tracked). before ++ later)
    (ap (row_tracked row 0) (add-one object) ∙ row_tracked-push row 0 object
    ∙ ap (λ (place : ℕ). row_tracked row 0 object ++ tracked_on row place) (zero-add object)) ∙
    sym (append_assoc before (row_tracked row 0 object) (tracked_on row object))

pub row_tracked_none : (before : List Tracked) (row : ShownRow) → before ++ row_tracked row 0 0 ≡ before
unfolding row_tracked
row_tracked_none before row = append-nil before
