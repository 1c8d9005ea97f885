-- What the standing of an act says of the numbers that are kept.
use Rattle.std.proofs.Common.{◌≡◌, ℕ, ◌<◌, ◌≤◌, ◌==◌, Bool, true, false, List, [], ◌∷◌, length, drop, length-drop, refl, arith}
use Rattle.std.specs.Prelude.{◌↔◌, nat_le, min, map, if◌then◌else◌, Option, None, Some, IsTrue}
use Rattle.std.proofs.lemmas.Bool.Decides.{nat_tests}
use Rattle.qu_base.specs.declared.party.ClientId.{ClientId}
use Rattle.qu_base.specs.declared.party.Digest.{Digest}
use Rattle.qu_base.specs.declared.party.ObjectId.{ObjectId}
use Rattle.qu_stamp.specs.Stamp.{same_digest}
use Rattle.qu_stamp.proofs.Order.{same_act-self}
use Rattle.qu_objects.specs.declared.act.Method.{Method}
use Rattle.qu_objects.specs.declared.state.KeptRow.{KeptRow}
use Rattle.qu_objects.specs.declared.state.ObjState.{ObjState}
use Rattle.qu_objects.specs.Parts.{are_parts}
use Rattle.qu_objects.proofs.PartLaws.{parts_are}
use Rattle.qu_kept.specs.declared.repeats.Standing.{Standing}
use Rattle.qu_kept.specs.declared.repeats.Standing.TheVariants.{Fresh, Already, Spent}
use Rattle.qu_kept.specs.Rows.{client_of, row_of, with_row}
use Rattle.qu_kept.specs.Standing.{is_of_act, told_by_first, spent_or, first_spent, standing_of, is_repeated, is_already, IsLower, AreLower}
use Rattle.qu_kept.proofs.KeyedLaws.{own_item}

-- ---- what the first object that spends an act says

none_of : (client : ClientId) (number : ℕ) (parts : List (ObjectId × Method)) (states : List ObjState)
    → min (length parts) (length states) ≡ 0 → first_spent client number parts states ≡ Fresh
none_of client number [] states none = refl
none_of client number (part ∷ parts) [] none = refl
none_of client number (part ∷ parts) (state ∷ states) none = absurd (omega arith)

-- once a walk over both lists at once has ended
pub none_left : (client : ClientId) (number count : ℕ) (parts : List (ObjectId × Method)) (states : List ObjState)
    → count ≡ min (length parts) (length states)
    → first_spent client number (drop count parts) (drop count states) ≡ Fresh
none_left client number count parts states ended =
    none_of client number (drop count parts) (drop count states)
    (omega (arith, length-drop count parts, length-drop count states))

fresh_or : (number : ℕ) (object : ObjectId) (later : Standing) (Later : Type 0) (found : Option KeptRow)
    → (later ≡ Fresh) ↔ Later → (spent_or number object later found ≡ Fresh) ↔ (IsLower number found × Later)
fresh_or number object later Later None so_far = (λ fresh. (tt, so_far.0 fresh), λ all. so_far.1 all.1)
fresh_or number object later Later (Some row) so_far = by_test (nat_le number row.number) refl
  where
    by_test : (passed : Bool) → nat_le number row.number ≡ passed
        → ((if passed then Spent object row.number else later) ≡ Fresh) ↔ ((row.number < number) × Later)
    by_test true at = (λ fresh. absurd cc, λ all. absurd (grind (arith, nat_tests, all.0)))
    by_test false at = (λ fresh. (grind (arith, nat_tests), so_far.0 fresh), λ all. so_far.1 all.1)

fresh_spent : (client : ClientId) (number : ℕ) (parts : List (ObjectId × Method)) (states : List ObjState)
    → length states ≡ length parts
    → (first_spent client number parts states ≡ Fresh) ↔ AreLower client number states
fresh_spent client number [] [] fit = (λ fresh. tt, λ all. refl)
fresh_spent client number [] (state ∷ states) fit = absurd (omega arith)
fresh_spent client number (part ∷ parts) [] fit = absurd (omega arith)
fresh_spent client number (part ∷ parts) (state ∷ states) fit =
    fresh_or number part.0 (first_spent client number parts states) (AreLower client number states)
    (row_of client state.kept) (fresh_spent client number parts states (omega arith))

not_already : (number : ℕ) (object : ObjectId) (later : Standing) (found : Option KeptRow)
    → is_already later ≡ false → is_already (spent_or number object later found) ≡ false
not_already number object later None so_far = so_far
not_already number object later (Some row) so_far =
    elim (nat_le number row.number)
    as (λ (passed : Bool). is_already (if passed then Spent object row.number else later) ≡ false) [
      | true ↦ refl
      | false ↦ so_far
    ]

spent_only : (client : ClientId) (number : ℕ) (parts : List (ObjectId × Method)) (states : List ObjState)
    → is_already (first_spent client number parts states) ≡ false
spent_only client number [] states = refl
spent_only client number (part ∷ parts) [] = refl
spent_only client number (part ∷ parts) (state ∷ states) =
    not_already number part.0 (first_spent client number parts states) (row_of client state.kept)
    (spent_only client number parts states)

spent_by : (number : ℕ) (object named : ObjectId) (kept : ℕ) (later : Standing) (found : Option KeptRow)
    → (later ≡ Spent named kept → number ≤ kept) → spent_or number object later found ≡ Spent named kept
    → number ≤ kept
spent_by number object named kept later None so_far spent = so_far spent
spent_by number object named kept later (Some row) so_far spent = by_test (nat_le number row.number) refl spent
  where
    by_test : (passed : Bool) → nat_le number row.number ≡ passed
        → (if passed then Spent object row.number else later) ≡ Spent named kept → number ≤ kept
    by_test true at spent =
        let is : row.number ≡ kept = cc in
        grind (arith, nat_tests)
    by_test false at spent = so_far spent

first_named : (client : ClientId) (number : ℕ) (parts : List (ObjectId × Method)) (states : List ObjState)
    (named : ObjectId) (kept : ℕ) → first_spent client number parts states ≡ Spent named kept → number ≤ kept
first_named client number [] states named kept spent = absurd cc
first_named client number (part ∷ parts) [] named kept spent = absurd cc
first_named client number (part ∷ parts) (state ∷ states) named kept spent =
    spent_by number part.0 named kept (first_spent client number parts states) (row_of client state.kept)
    (λ later. first_named client number parts states named kept later) spent

-- ---- what the row of the first object says, where the act is repeated

some_parts : (parts : List (ObjectId × Method)) → IsTrue (are_parts parts) → 0 < length parts
some_parts parts in_order =
    let some : 1 ≤ length parts = (parts_are parts in_order).some in omega (arith, some)

record IsTold (client : ClientId) (number : ℕ) (states : List ObjState) : Type 0 where
  already : is_already (told_by_first client states) ≡ true
  not_lower : AreLower client number states → ⊥

told : (client : ClientId) (number : ℕ) (act : Digest) (states : List ObjState) → 0 < length states
    → is_repeated client number act states ≡ true → IsTold client number states
told client number act [] some repeated = absurd (omega arith)
told client number act (state ∷ states) some repeated = by_row (row_of client state.kept) refl
  where
    by_row : (found : Option KeptRow) → row_of client state.kept ≡ found → IsTold client number (state ∷ states)
    by_row None is = absurd cc
    by_row (Some row) is = record {
      already = rw is refl;
      not_lower = λ lower.
          let below : IsLower number (Some row) = rw is at lower.0 in
          grind (arith, nat_tests);
    }

-- ---- what the standing says

module _ (client : ClientId) (number : ℕ) (act : Digest) (parts : List (ObjectId × Method)) (states : List ObjState)
    (in_order : IsTrue (are_parts parts)) (fit : length states ≡ length parts) where
  told_where : is_repeated client number act states ≡ true → IsTold client number states
  told_where repeated = told client number act states (omega (arith, some_parts parts in_order)) repeated

  abbrev stands : Bool → Standing
  stands repeated = if repeated then told_by_first client states else first_spent client number parts states

  pub fresh_where : (standing_of client number act parts states ≡ Fresh) ↔ AreLower client number states
  fresh_where = by_test (is_repeated client number act states) refl
    where
      by_test : (repeated : Bool) → is_repeated client number act states ≡ repeated
          → (stands repeated ≡ Fresh) ↔ AreLower client number states
      by_test true is =
          let told = told_where is in
          let already : is_already (told_by_first client states) ≡ true = told.already in
          (λ fresh. absurd cc, λ lower. absurd (told.not_lower lower))
      by_test false is = fresh_spent client number parts states fit

  pub already_where : is_already (standing_of client number act parts states) ≡ is_repeated client number act states
  already_where = by_test (is_repeated client number act states) refl
    where
      by_test : (repeated : Bool) → is_repeated client number act states ≡ repeated
          → is_already (stands repeated) ≡ repeated
      by_test true is = (told_where is).already
      by_test false is = spent_only client number parts states

  pub spent_where : (named : ObjectId) (kept : ℕ) → standing_of client number act parts states ≡ Spent named kept
      → number ≤ kept
  spent_where named kept = by_test (is_repeated client number act states) refl
    where
      by_test : (repeated : Bool) → is_repeated client number act states ≡ repeated → stands repeated ≡ Spent named kept
          → number ≤ kept
      by_test true is spent =
          let already : is_already (told_by_first client states) ≡ true = (told_where is).already in
          absurd cc
      by_test false is spent = first_named client number parts states named kept spent

-- ---- once its row is written into each version

-- a row is that of its act
of_act_self : (row : KeptRow) → is_of_act row.number row.act (Some row) ≡ true
of_act_self row =
    let number : (row.number == row.number) ≡ true = grind (arith, nat_tests) in
    let act : same_digest row.act row.act ≡ true = same_act-self (Some row.act) in
    rw (number, act) refl

all_repeated : (row : KeptRow) (states new : List ObjState)
    → map (λ (state : ObjState). state.kept) new ≡ map (λ (state : ObjState). with_row row state.kept) states
    → is_repeated row.client row.number row.act new ≡ true
all_repeated row [] [] written = refl
all_repeated row [] (after ∷ new) written = absurd cc
all_repeated row (state ∷ states) [] written = absurd cc
all_repeated row (state ∷ states) (after ∷ new) written =
    let kept : after.kept ≡ with_row row state.kept = cc in
    rw (kept, own_item client_of row state.kept, of_act_self row, all_repeated row states new cc) refl

told_row : (row : KeptRow) (states new : List ObjState)
    → map (λ (state : ObjState). state.kept) new ≡ map (λ (state : ObjState). with_row row state.kept) states
    → 0 < length states → told_by_first row.client new ≡ Already row.answer
told_row row [] new written some = absurd (omega arith)
told_row row (state ∷ states) [] written some = absurd cc
told_row row (state ∷ states) (after ∷ new) written some =
    let kept : after.kept ≡ with_row row state.kept = cc in
    rw (kept, own_item client_of row state.kept) refl

pub repeated_where : (row : KeptRow) (parts : List (ObjectId × Method)) (states new : List ObjState)
    → IsTrue (are_parts parts) → length states ≡ length parts
    → map (λ (state : ObjState). state.kept) new ≡ map (λ (state : ObjState). with_row row state.kept) states
    → standing_of row.client row.number row.act parts new ≡ Already row.answer
repeated_where row parts states new in_order fit written =
    let repeated : is_repeated row.client row.number row.act new ≡ true = all_repeated row states new written in
    rw repeated (told_row row states new written (omega (arith, some_parts parts in_order)))
