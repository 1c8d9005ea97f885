-- A list by tickets in which the steps of each ticket are those of another list, in their order, is its merge.
use Rattle.std.proofs.Common.{◌≡◌, ℕ, ◌+◌, ◌<◌, ◌≤◌, Bool, false, not, ◌&&◌, cond, eqb, ltb, List, [], ◌∷◌, get_or, drop, None, refl, sym, ap, subst, ◌∙◌, arith, inl, inr}
use Rattle.std.specs.List.{filter}
use Rattle.std.specs.List.Sorted.{IsStableByKey}
use Rattle.std.specs.Ordering.{nat_cmp, is_lt}
use Rattle.std.proofs.lemmas.Bool.{cases_Bool, eq-eqb, ne_eqb, eqb-true, ltb-false, ltb-true}
use Rattle.qu_base.specs.declared.party.Party.{Party}
use Rattle.qu_base.specs.declared.party.Party.TheVariants as party
use Rattle.qu_trace.specs.Faulty.{is_same}
use Rattle.qu_replay.specs.declared.kept_step.KeptStep.{KeptStep}
use Rattle.qu_frames.specs.declared.input.Input.TheVariants.{Tick}
use Rattle.qu_replay.specs.Replays.{RisesFrom, own_steps}
use Rattle.qu_replay.specs.Merged.{AreByTicket, steps_of_ticket}

-- ---- the steps of one ticket

same_filter : {X : Type 0} (p q : X → Bool) → ((x : X) → p x ≡ q x) → (xs : List X) → filter p xs ≡ filter q xs
same_filter p q same [] = refl
same_filter {X = X} p q same (x ∷ xs) =
    ap (λ (it : Bool). cond it (x ∷ filter p xs) (filter p xs)) (same x)
    ∙ ap (λ (it : List X). cond (q x) (x ∷ it) it) (same_filter p q same xs)

below_is : (a b : ℕ) → is_lt (nat_cmp a b) ≡ ltb a b
below_is a b =
    elim (cases_Bool (ltb a b)) [
      | inl less ↦ rw less refl
      | inr most ↦ elim (cases_Bool (eqb a b)) [
        | inl same ↦ rw (most, same) refl
        | inr apart ↦ rw (most, apart) refl
      ]
    ]

-- two tickets tie where they are the same
tie_is : (a b : ℕ) → (not (is_lt (nat_cmp a b)) && not (is_lt (nat_cmp b a))) ≡ eqb b a
tie_is a b = rw (below_is a b, below_is b a) (grind arith)

-- some step with this ticket
abbrev some_step : ℕ → Party × KeptStep
some_step ticket =
    (party.Client (record { 0 = 0 }), record { ticket = ticket; input = Tick; letters = []; ended = None })

pub same_tickets : (xs ys : List (Party × KeptStep))
    → IsStableByKey (λ (x : Party × KeptStep). x.1.ticket) nat_cmp xs ys
    → (ticket : ℕ) → steps_of_ticket ticket ys ≡ steps_of_ticket ticket xs
same_tickets xs ys stable ticket =
    let is = λ (x : Party × KeptStep). tie_is ticket x.1.ticket in
    sym (same_filter _ (λ (x : Party × KeptStep). eqb x.1.ticket ticket) is ys)
    ∙ stable (some_step ticket)
    ∙ same_filter _ (λ (x : Party × KeptStep). eqb x.1.ticket ticket) is xs

-- ---- steps whose tickets do not fall

unfoldable NotFalling : ℕ → List KeptStep → Type 0
NotFalling low [] = Unit {0}
NotFalling low (step ∷ later) = (low ≤ step.ticket) × NotFalling step.ticket later

abbrev at_ticket : ℕ → List KeptStep → List KeptStep
at_ticket ticket steps = filter (λ (step : KeptStep). eqb step.ticket ticket) steps

not_falling_lower : (low less : ℕ) (steps : List KeptStep) → less ≤ low → NotFalling low steps → NotFalling less steps
unfolding NotFalling
not_falling_lower low less [] below falls = tt
not_falling_lower low less (step ∷ later) below falls = (let first = falls.0 in omega (arith, first, below), falls.1)

rising_not_falling : (low : ℕ) (steps : List KeptStep) → RisesFrom low steps → NotFalling low steps
unfolding RisesFrom NotFalling
rising_not_falling low [] rises = tt
rising_not_falling low (step ∷ later) rises = (
  rises.0,
  not_falling_lower (step.ticket + 1) step.ticket later (omega arith)
      (rising_not_falling (step.ticket + 1) later rises.2),
)

own_not_falling : (me : Party) (low : ℕ) (xs : List (Party × KeptStep)) → AreByTicket low xs
    → NotFalling low (own_steps me xs)
unfolding AreByTicket own_steps NotFalling
own_not_falling me low [] sorted = tt
own_not_falling me low (x ∷ xs) sorted =
    elim (cases_Bool (is_same x.0 me)) [
      | inl same ↦ rw same (sorted.0, own_not_falling me x.1.ticket xs sorted.1)
      | inr apart ↦ rw apart (not_falling_lower x.1.ticket low (own_steps me xs) sorted.0
          (own_not_falling me x.1.ticket xs sorted.1))
    ]

-- below the first ticket there is no step
none_below : (low ticket : ℕ) (steps : List KeptStep) → NotFalling low steps → ticket < low
    → at_ticket ticket steps ≡ []
unfolding NotFalling
none_below low ticket [] falls below = refl
none_below low ticket (step ∷ later) falls below =
    let first : low ≤ step.ticket = falls.0 in
    let other : eqb step.ticket ticket ≡ false =
    ne_eqb step.ticket ticket (λ same. omega (arith, first, below, same)) in
    rw other (none_below step.ticket ticket later falls.1 (omega (arith, first, below)))

taken : (step : KeptStep) (later : List KeptStep)
    → at_ticket step.ticket (step ∷ later) ≡ step ∷ at_ticket step.ticket later
taken step later = rw (eq-eqb step.ticket step.ticket refl) refl

passed : (ticket : ℕ) (step : KeptStep) (later : List KeptStep) → eqb step.ticket ticket ≡ false
    → at_ticket ticket (step ∷ later) ≡ at_ticket ticket later
passed ticket step later other = rw other refl

none-cons : (step : KeptStep) (later : List KeptStep) → [] ≡ step ∷ later → ⊥
none-cons step later is = cc

abbrev SameAtEach : List KeptStep → List KeptStep → Type 0
SameAtEach xs ys = (ticket : ℕ) → at_ticket ticket xs ≡ at_ticket ticket ys

-- the first of both have one ticket
not_before : (x y : KeptStep) (xs ys : List KeptStep) → NotFalling y.ticket ys → SameAtEach (x ∷ xs) (y ∷ ys)
    → y.ticket ≤ x.ticket
unfolding NotFalling
not_before x y xs ys falls same =
    elim (cases_Bool (ltb x.ticket y.ticket)) [
      | inl less ↦
          let here : y.ticket ≤ y.ticket = omega arith in
          absurd (none-cons x (at_ticket x.ticket xs)
          (sym (none_below y.ticket x.ticket (y ∷ ys) (here, falls) (ltb-true x.ticket y.ticket less))
          ∙ sym (same x.ticket) ∙ taken x xs))
      | inr most ↦ ltb-false x.ticket y.ticket most
    ]

same_back : (xs ys : List KeptStep) → SameAtEach xs ys → SameAtEach ys xs
same_back xs ys same ticket = sym (same ticket)

-- the others have the same steps of each ticket too
rest_same : (x y : KeptStep) (xs ys : List KeptStep) → x.ticket ≡ y.ticket → SameAtEach (x ∷ xs) (y ∷ ys)
    → (x ≡ y) × SameAtEach xs ys
rest_same x y xs ys tickets same =
    let both : x ∷ at_ticket x.ticket xs ≡ y ∷ at_ticket x.ticket ys =
    sym (taken x xs) ∙ same x.ticket
    ∙ ap (λ (it : Bool). cond it (y ∷ at_ticket x.ticket ys) (at_ticket x.ticket ys))
    (eq-eqb y.ticket x.ticket (sym tickets)) in
    let tails : at_ticket x.ticket xs ≡ at_ticket x.ticket ys = ap (λ (it : List KeptStep). drop 1 it) both in (
      ap (λ (it : List KeptStep). get_or it 0 x) both,
      λ ticket.
          elim (cases_Bool (eqb x.ticket ticket)) [
            | inl is ↦ subst (λ (it : ℕ). at_ticket it xs ≡ at_ticket it ys) (eqb-true x.ticket ticket is) tails
            | inr other ↦
                sym (passed ticket x xs other) ∙ same ticket
                ∙ passed ticket y ys (ap (λ (it : ℕ). eqb it ticket) (sym tickets) ∙ other)
          ],
    )

-- two lists that do not fall, with the same steps of each ticket, are equal
rising_same : (low less : ℕ) (xs ys : List KeptStep) → NotFalling low xs → NotFalling less ys → SameAtEach xs ys
    → xs ≡ ys
unfolding NotFalling
rising_same low less [] [] falls others same = refl
rising_same low less [] (y ∷ ys) falls others same =
    absurd (none-cons y (at_ticket y.ticket ys) (same y.ticket ∙ taken y ys))
rising_same low less (x ∷ xs) [] falls others same =
    absurd (none-cons x (at_ticket x.ticket xs) (sym (same x.ticket) ∙ taken x xs))
rising_same low less (x ∷ xs) (y ∷ ys) falls others same =
    let down = not_before x y xs ys others.1 same in
    let up = not_before y x ys xs falls.1 (same_back (x ∷ xs) (y ∷ ys) same) in
    let rest = rest_same x y xs ys (omega (arith, down, up)) same in
    ap (λ (it : List KeptStep). x ∷ it) (rising_same x.ticket y.ticket xs ys falls.1 others.1 rest.1)
    ∙ ap (λ (it : KeptStep). it ∷ ys) rest.0

-- ---- the steps of one actor

own_at_ticket : (me : Party) (ticket : ℕ) (xs : List (Party × KeptStep))
    → own_steps me (steps_of_ticket ticket xs) ≡ at_ticket ticket (own_steps me xs)
unfolding own_steps
own_at_ticket me ticket [] = refl
own_at_ticket me ticket (x ∷ xs) =
    elim (cases_Bool (is_same x.0 me)) [
      | inl same ↦ elim (cases_Bool (eqb x.1.ticket ticket)) [
        | inl is ↦ rw (same, is, same) (ap (λ (it : List KeptStep). x.1 ∷ it) (own_at_ticket me ticket xs))
        | inr other ↦ rw (same, other) (own_at_ticket me ticket xs)
      ]
      | inr apart ↦ elim (cases_Bool (eqb x.1.ticket ticket)) [
        | inl is ↦ rw (apart, is, apart) (own_at_ticket me ticket xs)
        | inr other ↦ rw (apart, other) (own_at_ticket me ticket xs)
      ]
    ]

-- an actor whose tickets rise has its steps in the merge as it had them
pub same_own : (xs ys : List (Party × KeptStep)) (me : Party) → AreByTicket 0 ys
    → ((ticket : ℕ) → steps_of_ticket ticket ys ≡ steps_of_ticket ticket xs) → RisesFrom 0 (own_steps me xs)
    → own_steps me ys ≡ own_steps me xs
same_own xs ys me sorted same rises =
    rising_same 0 0 (own_steps me ys) (own_steps me xs) (own_not_falling me 0 ys sorted)
    (rising_not_falling 0 (own_steps me xs) rises)
    (λ ticket. sym (own_at_ticket me ticket ys) ∙ ap (own_steps me) (same ticket) ∙ own_at_ticket me ticket xs)
