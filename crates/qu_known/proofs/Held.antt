-- What is tracked of what is known: all that replicas accepted.
use Rattle.std.proofs.Common.{◌≡◌, ℕ, zero, suc, ◌+◌, ◌<◌, ◌≤◌, Bool, true, false, ◌&&◌, ◌||◌, List, [], ◌∷◌, ◌++◌, length, get_or, map, refl, sym, ap, ◌∙◌, arith, inl, inr}
use Rattle.std.specs.Prelude.{◌==◌, nat_le, nat_lt, slice_get}
use Rattle.std.specs.List.{list_any}
use Rattle.std.proofs.lemmas.Bool.{cases_Bool, cases_lt, eqb-true, and_right}
use Rattle.std.proofs.lemmas.Bool.Decides.{nat_tests}
use Rattle.std.proofs.lemmas.List.Folds.{list_any-append}
use Rattle.qu_base.specs.declared.party.ObjectId.{ObjectId}
use Rattle.qu_stamp.specs.declared.candidate.Candidate.{Candidate}
use Rattle.qu_stamp.specs.Candidate.{same}
use Rattle.qu_history.specs.History.{ObjectHistory, holds}
use Rattle.qu_rows.specs.State.{ReplicaState}
use Rattle.qu_mends.specs.Table.{candidates_in}
use Rattle.qu_claims.specs.Accepted.{accepts}
use Rattle.qu_runs.proofs.Worlds.Objects.{EachHas}
use Rattle.qu_known.specs.declared.tracked.Tracked.{Tracked}
use Rattle.qu_known.specs.Known.{ShownRow, known_on, knows, row_tracked, rows_tracked, IsKnown, AreKnown}
use Rattle.qu_known.specs.Tracked.{is_tracked_as, is_tracked, undecided}

-- ---- tests

and_or : (e a b : Bool) → ((e && a) || (e && b)) ≡ (e && (a || b))
and_or true a b = refl
and_or false a b = refl

pub or_false : (e : Bool) → (e || false) ≡ e
or_false true = refl
or_false false = refl

pub or_assoc : (a b c : Bool) → ((a || b) || c) ≡ (a || (b || c))
or_assoc true b c = refl
or_assoc false b c = refl

at_place : (first place count : ℕ) (held : Bool)
    → (((first == place) && held) || ((nat_le (first + 1) place && nat_lt place ((first + 1) + count)) && held))
    ≡ ((nat_le first place && nat_lt place (first + suc count)) && held)
at_place first place count true = grind (arith, nat_tests)
at_place first place count false = grind (arith, nat_tests)

-- ---- what a replica has beyond what was seen

pub is_tracked-append : (object : ObjectId) (candidate : Candidate) (first second : List Tracked)
    → is_tracked object candidate
    (first ++ second) ≡ (is_tracked object candidate first || is_tracked object candidate second)
unfolding is_tracked
is_tracked-append object candidate first second = list_any-append (is_tracked_as object candidate) first second

pub is_tracked-undecided : (object other : ObjectId) (candidate : Candidate) (candidates : List Candidate)
    → is_tracked object candidate (map (undecided other) candidates) ≡ ((other.0 == object.0) && holds candidate
    candidates)
unfolding is_tracked
is_tracked-undecided object other candidate [] = sym (and_right (other.0 == object.0) false refl)
is_tracked-undecided object other candidate (first ∷ later) =
    ap (λ (test : Bool). is_tracked_as object candidate (undecided other first) || test)
    (is_tracked-undecided object other candidate later) ∙
    and_or (other.0 == object.0) (same first candidate) (holds candidate later)

here_tracked : (row : ShownRow) (place : ℕ) (object : ObjectId) (candidate : Candidate)
    → is_tracked object candidate (map (undecided (record { 0 = place })) (known_on (record { 0 = place }) row))
    ≡ ((place == object.0) && knows object candidate row)
here_tracked row place object candidate =
    is_tracked-undecided object (record { 0 = place }) candidate (known_on (record { 0 = place }) row) ∙
    elim (cases_Bool (place == object.0)) [
      | inl equal ↦ ap (λ (at : ℕ). (place == object.0) && holds candidate (get_or row at []))
          (eqb-true place object.0 equal)
      | inr other ↦ rw other refl
    ]

row_tracked-held : (row : ShownRow) (first count : ℕ) (object : ObjectId) (candidate : Candidate)
    → is_tracked object candidate (row_tracked row first count)
    ≡ ((nat_le first object.0 && nat_lt object.0 (first + count)) && knows object candidate row)
unfolding row_tracked is_tracked
row_tracked-held row first zero object candidate = nowhere first object.0 (knows object candidate row)
  where
    nowhere : (first place : ℕ) (held : Bool) → false ≡ ((nat_le first place && nat_lt place (first + 0)) && held)
    nowhere first place held = grind (arith, nat_tests)
row_tracked-held row first (suc count) object candidate =
    is_tracked-append object candidate
    (map (undecided (record { 0 = first })) (known_on (record { 0 = first }) row))
    (row_tracked row (first + 1) count) ∙
    ap (λ (test : Bool). test || is_tracked object candidate (row_tracked row (first + 1) count))
    (here_tracked row first object candidate) ∙
    ap (λ (test : Bool). ((first == object.0) && knows object candidate row) || test)
    (row_tracked-held row (first + 1) count object candidate) ∙
    at_place first object.0 count (knows object candidate row)

candidates_past : (histories : List ObjectHistory) (place : ℕ) → length histories ≤ place
    → candidates_in (slice_get histories place) ≡ []
candidates_past [] place past = refl
candidates_past (history ∷ later) zero past = absurd (omega arith)
candidates_past (history ∷ later) (suc place) past = candidates_past later place (omega arith)

-- all that a replica accepted is tracked of what is known of it
row_accepted : (objects : ℕ) (replica : ReplicaState) (row : ShownRow) (object : ObjectId) (candidate : Candidate)
    → length replica.histories ≤ objects → IsKnown replica row
    → is_tracked object candidate (row_tracked row 0 objects) ≡ accepts object candidate replica
row_accepted objects replica row object candidate few known =
    let same : knows object candidate row ≡ accepts object candidate replica =
    ap (holds candidate) (known.all object) in
    row_tracked-held row 0 objects object candidate ∙
    ap (λ (test : Bool). (nat_le 0 object.0 && nat_lt object.0 (0 + objects)) && test) same ∙
    elim (cases_lt object.0 objects) [
      | inl inside ↦ within object.0 objects (accepts object candidate replica) inside
      | inr past ↦
          let none : accepts object candidate replica ≡ false =
          ap (holds candidate) (candidates_past replica.histories object.0 (omega arith)) in
          ap (λ (test : Bool). (nat_le 0 object.0 && nat_lt object.0 (0 + objects)) && test) none
          ∙ and_right _ false refl ∙ sym none
    ]
  where
    within : (place objects : ℕ) (held : Bool) → place < objects
        → ((nat_le 0 place && nat_lt place (0 + objects)) && held) ≡ held
    within place objects held inside = grind (arith, nat_tests)

pub rows_accepted : (objects : ℕ) (replicas : List ReplicaState) (rows : List ShownRow) (object : ObjectId)
    (candidate : Candidate) → EachHas objects replicas → AreKnown replicas rows
    → is_tracked object candidate (rows_tracked objects rows) ≡ list_any (accepts object candidate) replicas
unfolding is_tracked
rows_accepted objects [] [] object candidate few known = refl
rows_accepted objects [] (row ∷ rows) object candidate few known = absurd known
rows_accepted objects (replica ∷ replicas) [] object candidate few known = absurd known
rows_accepted objects (replica ∷ replicas) (row ∷ rows) object candidate few known =
    is_tracked-append object candidate (row_tracked row 0 objects) (rows_tracked objects rows) ∙
    ap (λ (test : Bool). test || is_tracked object candidate (rows_tracked objects rows))
    (row_accepted objects replica row object candidate few.0 known.0) ∙
    ap (λ (test : Bool). accepts object candidate replica || test)
    (rows_accepted objects replicas rows object candidate few.1 known.1)
