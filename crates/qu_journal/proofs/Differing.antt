-- The lowest ticket at which kept and filed steps differ, where these stand in the order of tickets.
use Rattle.std.proofs.Common.{◌≡◌, ℕ, zero, suc, ◌+◌, ◌<◌, ◌≤◌, Bool, false, cond, eqb, ltb, List, [], ◌∷◌, map, length, get_or, take, drop, Option, None, Some, refl, sym, ap, subst, ◌∙◌, arith, inl, inr}
use Rattle.std.specs.Prelude.{slice_get, option_map}
use Rattle.std.specs.Bool.{Decides}
use Rattle.std.proofs.lemmas.Bool.{false≢true, cases_Bool, ne_eqb, eq-eqb, ltb-true, ltb-false}
use Rattle.std.proofs.lemmas.List.{take_all, take_more_same, get_or_default}
use Rattle.std.proofs.lemmas.Option.{none-some, same_Some, slice_get_read, slice_get-map}
use Rattle.qu_base.specs.declared.party.Party.{Party}
use Rattle.qu_post.specs.declared.filed.Filed.{Filed}
use Rattle.qu_replay.specs.declared.kept_step.KeptStep.{KeptStep}
use Rattle.qu_replay.specs.Merged.{AreByTicket, steps_of_ticket}
use Rattle.qu_journal.specs.Journal.{as_kept, as_filed, filed_of_ticket, AreFiledAt, IsUnfiled, DifferAt, pair_of}

abbrev Step : Type 0
Step = Party × KeptStep

-- ---- the first place at which two lists differ

pub unlike_there : {X : Type 0} (xs ys : List X) (at : ℕ) (x y : X) (test : Bool) → at < length xs → at < length ys
    → x ≡ get_or xs at x → y ≡ get_or ys at y → Decides test (x ≡ y) → test ≡ false
    → slice_get xs at ≡ slice_get ys at → ⊥
unlike_there xs ys at x y test within within' x_is y_is decides failed same =
    let here : slice_get xs at ≡ Some x = slice_get_read xs (length xs) at x refl within x_is in
    let there : slice_get ys at ≡ Some y = slice_get_read ys (length ys) at y refl within' y_is in
    false≢true (sym failed ∙ decides.1 (same_Some x y (sym here ∙ same ∙ there)))

-- with an item more that is the same in both
pub same_more : {X : Type 0} (xs ys : List X) (at : ℕ) (x y : X) → at < length xs → at < length ys
    → x ≡ get_or xs at x → y ≡ get_or ys at y → x ≡ y → take at xs ≡ take at ys → take (at + 1) xs ≡ take (at + 1) ys
same_more xs ys at x y within within' x_is y_is same before =
    take_more_same xs ys at x within within' before
    (sym x_is ∙ same ∙ y_is ∙ get_or_default ys at y x within')

pub same_all : {X : Type 0} (xs ys : List X) (at : ℕ) → length xs ≤ at → length ys ≤ at → take at xs ≡ take at ys
    → xs ≡ ys
same_all xs ys at all all' same = sym (take_all at xs all) ∙ same ∙ take_all at ys all'

-- ---- the steps of one ticket

none_below : (ticket low : ℕ) (xs : List Step) → AreByTicket low xs → ticket < low → steps_of_ticket ticket xs ≡ []
unfolding AreByTicket
none_below ticket low [] sorted below = refl
none_below ticket low (x ∷ xs) sorted below =
    let first : low ≤ x.1.ticket = sorted.0 in
    let other : eqb x.1.ticket ticket ≡ false = ne_eqb x.1.ticket ticket (λ same. omega (arith, first, below, same)) in
    rw other (none_below ticket x.1.ticket xs sorted.1 (omega (arith, first, below)))

-- where it stands first, and all others behind it
none_before : (ticket : ℕ) (x : Step) (xs : List Step) → AreByTicket x.1.ticket xs → ticket < x.1.ticket
    → steps_of_ticket ticket (x ∷ xs) ≡ []
none_before ticket x xs sorted below =
    let other : eqb x.1.ticket ticket ≡ false = ne_eqb x.1.ticket ticket (λ same. omega (arith, below, same)) in
    rw other (none_below ticket x.1.ticket xs sorted below)

first_of : (x : Step) (xs : List Step) → steps_of_ticket x.1.ticket (x ∷ xs) ≡ x ∷ steps_of_ticket x.1.ticket xs
first_of x xs = rw (eq-eqb x.1.ticket x.1.ticket refl) refl

-- ---- the lowest ticket at which two lists differ

record DifferBelow (one other : List Step) (pair : Option KeptStep × Option Filed) : Type 0 where
  ticket : ℕ
  place : ℕ
  below : (lower : ℕ) → lower < ticket → steps_of_ticket lower one ≡ steps_of_ticket lower other
  before : take place (steps_of_ticket ticket one) ≡ take place (steps_of_ticket ticket other)
  unlike : slice_get (steps_of_ticket ticket one) place ≡ slice_get (steps_of_ticket ticket other) place → ⊥
  kept_is : pair.0 ≡ option_map (λ (step : Step). step.1) (slice_get (steps_of_ticket ticket one) place)
  filed_is : pair.1 ≡ option_map as_filed (slice_get (steps_of_ticket ticket other) place)

kept_alone : (x : Step) (xs ys : List Step) → AreByTicket x.1.ticket xs
    → ((lower : ℕ) → lower ≤ x.1.ticket → steps_of_ticket lower ys ≡ [])
    → DifferBelow (x ∷ xs) ys (Some x.1, None)
kept_alone x xs ys sorted none =
    let here : slice_get (steps_of_ticket x.1.ticket (x ∷ xs)) 0 ≡ Some x =
    ap (λ (it : List Step). slice_get it 0) (first_of x xs) in
    let there : slice_get (steps_of_ticket x.1.ticket ys) 0 ≡ None =
    ap (λ (it : List Step). slice_get it 0) (none x.1.ticket (omega arith)) in
    record {
      ticket = x.1.ticket;
      place = 0;
      below = λ lower less.
          none_before lower x xs sorted less ∙ sym (none lower (omega (arith, less)));
      before = refl;
      unlike = λ same. none-some x (sym there ∙ sym same ∙ here);
      kept_is = ap (option_map (λ (step : Step). step.1)) (sym here);
      filed_is = ap (option_map as_filed) (sym there);
    }

filed_alone : (xs : List Step) (y : Step) (ys : List Step) → AreByTicket y.1.ticket ys
    → ((lower : ℕ) → lower ≤ y.1.ticket → steps_of_ticket lower xs ≡ [])
    → DifferBelow xs (y ∷ ys) (None, Some (as_filed y))
filed_alone xs y ys sorted none =
    let here : slice_get (steps_of_ticket y.1.ticket xs) 0 ≡ None =
    ap (λ (it : List Step). slice_get it 0) (none y.1.ticket (omega arith)) in
    let there : slice_get (steps_of_ticket y.1.ticket (y ∷ ys)) 0 ≡ Some y =
    ap (λ (it : List Step). slice_get it 0) (first_of y ys) in
    record {
      ticket = y.1.ticket;
      place = 0;
      below = λ lower less.
          none lower (omega (arith, less)) ∙ sym (none_before lower y ys sorted less);
      before = refl;
      unlike = λ same. none-some y (sym here ∙ same ∙ there);
      kept_is = ap (option_map (λ (step : Step). step.1)) (sym here);
      filed_is = ap (option_map as_filed) (sym there);
    }

both_there : (x : Step) (xs : List Step) (y : Step) (ys : List Step) → AreByTicket x.1.ticket xs
    → AreByTicket y.1.ticket ys → y.1.ticket ≡ x.1.ticket → (x ≡ y → ⊥)
    → DifferBelow (x ∷ xs) (y ∷ ys) (Some x.1, Some (as_filed y))
both_there x xs y ys sorted others ticket apart =
    let here : slice_get (steps_of_ticket x.1.ticket (x ∷ xs)) 0 ≡ Some x =
    ap (λ (it : List Step). slice_get it 0) (first_of x xs) in
    let there : slice_get (steps_of_ticket x.1.ticket (y ∷ ys)) 0 ≡ Some y =
    ap (λ (it : ℕ). slice_get (steps_of_ticket it (y ∷ ys)) 0) (sym ticket)
    ∙ ap (λ (it : List Step). slice_get it 0) (first_of y ys) in
    record {
      ticket = x.1.ticket;
      place = 0;
      below = λ lower less.
          none_before lower x xs sorted less ∙ sym (none_before lower y ys others (omega (arith, less, ticket)));
      before = refl;
      unlike = λ same. apart (same_Some x y (sym here ∙ same ∙ there));
      kept_is = ap (option_map (λ (step : Step). step.1)) (sym here);
      filed_is = ap (option_map as_filed) (sym there);
    }

differ_first : (xs ys : List Step) → AreByTicket 0 xs → AreByTicket 0 ys
    → (slice_get xs 0 ≡ slice_get ys 0 → ⊥) → DifferBelow xs ys (pair_of (slice_get xs 0) (slice_get ys 0))
unfolding AreByTicket
differ_first [] [] sorted others apart = absurd (apart refl)
differ_first [] (y ∷ ys) sorted others apart = filed_alone [] y ys others.1 (λ lower least. refl)
differ_first (x ∷ xs) [] sorted others apart = kept_alone x xs [] sorted.1 (λ lower least. refl)
differ_first (x ∷ xs) (y ∷ ys) sorted others apart =
    elim (cases_Bool (ltb x.1.ticket y.1.ticket)) [
      | inl less ↦
          let is : x.1.ticket < y.1.ticket = ltb-true x.1.ticket y.1.ticket less in
          rw less (kept_alone x xs (y ∷ ys) sorted.1
          (λ lower least. none_before lower y ys others.1 (omega (arith, is, least))))
      | inr most ↦ elim (cases_Bool (ltb y.1.ticket x.1.ticket)) [
        | inl less ↦
            let is : y.1.ticket < x.1.ticket = ltb-true y.1.ticket x.1.ticket less in
            rw (most, less) (filed_alone (x ∷ xs) y ys others.1
            (λ lower least. none_before lower x xs sorted.1 (omega (arith, is, least))))
        | inr least ↦
            let low : y.1.ticket ≤ x.1.ticket = ltb-false x.1.ticket y.1.ticket most in
            let high : x.1.ticket ≤ y.1.ticket = ltb-false y.1.ticket x.1.ticket least in
            rw (most, least) (both_there x xs y ys sorted.1 others.1 (omega (arith, low, high))
            (λ same. apart (ap Some same)))
      ]
    ]

-- with the same step before
differ_behind : (x : Step) (xs ys : List Step) (pair : Option KeptStep × Option Filed) → DifferBelow xs ys pair
    → DifferBelow (x ∷ xs) (x ∷ ys) pair
differ_behind x xs ys pair is =
    elim (cases_Bool (eqb x.1.ticket is.ticket)) [
      | inl mine ↦
          let one : steps_of_ticket is.ticket (x ∷ xs) ≡ x ∷ steps_of_ticket is.ticket xs = rw mine refl in
          let other : steps_of_ticket is.ticket (x ∷ ys) ≡ x ∷ steps_of_ticket is.ticket ys = rw mine refl in
          record {
            ticket = is.ticket;
            place = suc is.place;
            below = λ lower less. more lower (is.below lower less);
            before = ap (take (suc is.place)) one ∙ ap (λ (it : List Step). x ∷ it) is.before
                ∙ sym (ap (take (suc is.place)) other);
            unlike = λ same. is.unlike (sym (ap (λ (it : List Step). slice_get it (suc is.place)) one) ∙ same
                ∙ ap (λ (it : List Step). slice_get it (suc is.place)) other);
            kept_is = is.kept_is ∙ sym (ap (λ (it : List Step).
                option_map (λ (step : Step). step.1) (slice_get it (suc is.place))) one);
            filed_is = is.filed_is ∙ sym (ap (λ (it : List Step).
                option_map as_filed (slice_get it (suc is.place))) other);
          }
      | inr not_mine ↦
          let one : steps_of_ticket is.ticket (x ∷ xs) ≡ steps_of_ticket is.ticket xs = rw not_mine refl in
          let other : steps_of_ticket is.ticket (x ∷ ys) ≡ steps_of_ticket is.ticket ys = rw not_mine refl in
          record {
            ticket = is.ticket;
            place = is.place;
            below = λ lower less. more lower (is.below lower less);
            before = ap (take is.place) one ∙ is.before ∙ sym (ap (take is.place) other);
            unlike = λ same. is.unlike (sym (ap (λ (it : List Step). slice_get it is.place) one) ∙ same
                ∙ ap (λ (it : List Step). slice_get it is.place) other);
            kept_is = is.kept_is ∙ sym (ap (λ (it : List Step).
                option_map (λ (step : Step). step.1) (slice_get it is.place)) one);
            filed_is = is.filed_is ∙ sym (ap (λ (it : List Step).
                option_map as_filed (slice_get it is.place)) other);
          }
    ]
  where
    more : (lower : ℕ) → steps_of_ticket lower xs ≡ steps_of_ticket lower ys
        → steps_of_ticket lower (x ∷ xs) ≡ steps_of_ticket lower (x ∷ ys)
    more lower same = ap (λ (it : List Step). cond (eqb x.1.ticket lower) (x ∷ it) it) same

by_ticket_from : (low : ℕ) (xs : List Step) → AreByTicket low xs → AreByTicket 0 xs
unfolding AreByTicket
by_ticket_from low [] sorted = sorted
by_ticket_from low (x ∷ xs) sorted = (omega arith, sorted.1)

differ_at : (xs ys : List Step) (at : ℕ) → AreByTicket 0 xs → AreByTicket 0 ys → take at xs ≡ take at ys
    → (slice_get xs at ≡ slice_get ys at → ⊥) → DifferBelow xs ys (pair_of (slice_get xs at) (slice_get ys at))
unfolding AreByTicket
differ_at xs ys zero sorted others before apart = differ_first xs ys sorted others apart
differ_at [] [] (suc at) sorted others before apart = absurd (apart refl)
differ_at [] (y ∷ ys) (suc at) sorted others before apart = absurd (cc)
differ_at (x ∷ xs) [] (suc at) sorted others before apart = absurd (cc)
differ_at (x ∷ xs) (y ∷ ys) (suc at) sorted others before apart =
    let first : x ≡ y = same_Some x y (ap (λ (it : List Step). slice_get it 0) before) in
    let later : take at xs ≡ take at ys = ap (λ (it : List Step). drop 1 it) before in
    subst (λ (it : Step). DifferBelow (x ∷ xs) (it ∷ ys) (pair_of (slice_get xs at) (slice_get ys at))) first
    (differ_behind x xs ys (pair_of (slice_get xs at) (slice_get ys at))
    (differ_at xs ys at (by_ticket_from x.1.ticket xs sorted.1) (by_ticket_from y.1.ticket ys others.1) later apart))

-- ---- the same of the steps as they were kept and filed

pub filed_are : (ticket : ℕ) (journal : List Filed)
    → steps_of_ticket ticket (map as_kept journal) ≡ map as_kept (filed_of_ticket ticket journal)
filed_are ticket [] = refl
filed_are ticket (filed ∷ later) =
    elim (cases_Bool (eqb filed.ticket ticket)) [
      | inl mine ↦ rw mine (ap (λ (it : List Step). as_kept filed ∷ it) (filed_are ticket later))
      | inr other ↦ rw other (filed_are ticket later)
    ]

kept_again : (found : Option Filed) → option_map as_filed (option_map as_kept found) ≡ found
kept_again None = refl
kept_again (Some filed) = refl

abbrev pub SameTickets : List Step → List Step → Type 0
SameTickets merged steps = (ticket : ℕ) → steps_of_ticket ticket merged ≡ steps_of_ticket ticket steps

pub all_filed : (steps merged filed : List Step) (journal : List Filed) → SameTickets merged steps
    → SameTickets filed (map as_kept journal) → merged ≡ filed → (ticket : ℕ) → AreFiledAt ticket steps journal
all_filed steps merged filed journal ties filed_ties same ticket =
    sym (ties ticket) ∙ ap (steps_of_ticket ticket) same ∙ filed_ties ticket ∙ filed_are ticket journal

pub unfiled_told : (steps merged filed : List Step) (journal : List Filed) (at : ℕ) → AreByTicket 0 merged
    → AreByTicket 0 filed → SameTickets merged steps → SameTickets filed (map as_kept journal)
    → DifferAt merged filed at
    → IsUnfiled steps journal (pair_of (slice_get merged at) (slice_get filed at)).0
    (pair_of (slice_get merged at) (slice_get filed at)).1
unfiled_told steps merged filed journal at sorted filed_sorted ties filed_ties differ =
    let is = differ_at merged filed at sorted filed_sorted differ.before differ.unlike in
    let one : steps_of_ticket is.ticket merged ≡ steps_of_ticket is.ticket steps = ties is.ticket in
    let other : steps_of_ticket is.ticket filed ≡ map as_kept (filed_of_ticket is.ticket journal) =
    filed_ties is.ticket ∙ filed_are is.ticket journal in
    let there : slice_get (steps_of_ticket is.ticket filed) is.place
    ≡ option_map as_kept (slice_get (filed_of_ticket is.ticket journal) is.place) =
    ap (λ (it : List Step). slice_get it is.place) other
    ∙ slice_get-map as_kept (filed_of_ticket is.ticket journal) is.place in
    record {
      ticket = is.ticket;
      place = is.place;
      below = λ lower less.
          sym (ties lower) ∙ is.below lower less ∙ filed_ties lower ∙ filed_are lower journal;
      before = sym (ap (take is.place) one) ∙ is.before ∙ ap (take is.place) other;
      unlike = λ same. is.unlike (ap (λ (it : List Step). slice_get it is.place) one ∙ same ∙ sym there);
      kept_is = is.kept_is ∙ ap (λ (it : List Step).
          option_map (λ (step : Step). step.1) (slice_get it is.place)) one;
      filed_is = is.filed_is ∙ ap (option_map as_filed) there
          ∙ kept_again (slice_get (filed_of_ticket is.ticket journal) is.place);
    }
