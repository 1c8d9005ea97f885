-- The first place at which a test holds.
use Rattle.std.proofs.Common.{◌≡◌, ℕ, zero, suc, ◌+◌, ◌<◌, ◌≤◌, Bool, false, not, cond, List, [], ◌∷◌, length, None, Some, refl, sym, ap, ◌∙◌, arith, inl, inr}
use Rattle.std.specs.Prelude.{position, slice_get, Contains}
use Rattle.std.specs.Bool.{Decides}
use Rattle.std.specs.List.{position_or_len}
use Rattle.std.proofs.lemmas.Bool.{false≢true, cases_Bool, cases_lt, lt-ltb, ltb-true}
use Rattle.std.proofs.lemmas.List.Quantifiers.{position-Some}
use Rattle.std.proofs.lemmas.Option.{none-some, same_Some, cond_some, slice_get_cases, get_or_from_slice_get, slice_get_read}
use Rattle.qu_machine.specs.Fault.{Nowhere, IsFirst}

-- ---- places and members

pub at_contains : {X : Type 0} (all : List X) (x : X) (held : Contains all x) → slice_get all held.0 ≡ Some x
at_contains all x held = slice_get_read all (length all) held.0 x refl held.1 (sym held.2)

pub one_at : {X : Type 0} (all : List X) (at : ℕ) (x y : X) → slice_get all at ≡ Some x
    → slice_get all at ≡ Some y → x ≡ y
one_at all at x y first second = same_Some x y (sym first ∙ second)

-- ---- the first place

later_from : {X : Type 0} (test : X → Bool) (first : X) (later : List X)
    → ((place : ℕ) (y : X) → slice_get later place ≡ Some y → test y ≡ false) → test first ≡ false
    → (at : ℕ) (x : X) → slice_get (first ∷ later) at ≡ Some x → test x ≡ false
later_from test first later rest not_here zero x there = ap test (sym (same_Some first x there)) ∙ not_here
later_from test first later rest not_here (suc at) x there = rest at x there

nowhere_from : {X : Type 0} (test : X → Bool) (all : List X) → length all ≤ position_or_len test all
    → (at : ℕ) (x : X) → slice_get all at ≡ Some x → test x ≡ false
nowhere_from test [] past at x there = absurd (none-some x there)
nowhere_from test (first ∷ later) past at x there =
    elim (cases_Bool (test first)) [
      | inl here ↦
          let zero_is : position_or_len test (first ∷ later) ≡ 0 =
          ap (λ (it : Bool). cond (not it) (1 + position_or_len test later) 0) here in
          absurd (omega arith)
      | inr not_here ↦
          let more : position_or_len test (first ∷ later) ≡ 1 + position_or_len test later =
          ap (λ (it : Bool). cond (not it) (1 + position_or_len test later) 0) not_here in
          later_from test first later (nowhere_from test later (omega arith)) not_here at x there
    ]

pub position_none : {X : Type 0} (test : X → Bool) (all : List X) → position test all ≡ None → (at : ℕ) (x : X)
    → slice_get all at ≡ Some x → test x ≡ false
position_none test all none =
    elim (cases_lt (position_or_len test all) (length all)) [
      | inl inside ↦ absurd
          (none-some (position_or_len test all)
          (sym none ∙ ap (λ (it : Bool). cond it (Some (position_or_len test all)) None) (lt-ltb _ _ inside)))
      | inr past ↦ nowhere_from test all past
    ]

-- a test upon the items decides what holds at their places, and nothing holds beyond them
pub record DecidesAt {X : Type 0} (test : X → Bool) (IsSuch : ℕ → Type 0) (all : List X) : Type 0 where
  pub decides : (at : ℕ) (x : X) → slice_get all at ≡ Some x → Decides (test x) (IsSuch at)
  pub within : (at : ℕ) → IsSuch at → (x : X) × (slice_get all at ≡ Some x)

pub first_at : {X : Type 0} (test : X → Bool) (IsSuch : ℕ → Type 0) (all : List X) (at : ℕ)
    → DecidesAt test IsSuch all → position test all ≡ Some at → IsFirst IsSuch at
first_at test IsSuch all at such found =
    elim ((slice_get_cases all at).1) [
      | inl there ↦
          let place = position-Some test all at there.0 found in (
            (such.decides at there.0 there.2).0 (ap test (sym there.3) ∙ place.1),
            λ earlier before is.
                let held = such.within earlier is in
                absurd (false≢true
                (sym (place.2 earlier before)
                ∙ ap test (get_or_from_slice_get all earlier held.0 there.0 held.1)
                ∙ (such.decides earlier held.0 held.1).1 is)),
          )
      | inr past ↦
          let tested = cond_some _ _ _ found in
          let inside : position_or_len test all < length all = ltb-true _ _ tested.0 in
          let is : position_or_len test all ≡ at = tested.1 in
          let size : length all ≤ at = past.0 in
          absurd (omega arith)
    ]

pub nowhere_at : {X : Type 0} (test : X → Bool) (IsSuch : ℕ → Type 0) (all : List X) → DecidesAt test IsSuch all
    → position test all ≡ None → Nowhere IsSuch
nowhere_at test IsSuch all such none at is =
    let held = such.within at is in
    absurd (false≢true (sym (position_none test all none at held.0 held.1) ∙ (such.decides at held.0 held.1).1 is))
