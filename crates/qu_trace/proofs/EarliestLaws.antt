-- Laws of the earlier of two events.
use Rattle.std.proofs.Common.{◌≡◌, ◌⊎◌, ℕ, ◌≤◌, min, Option, None, Some, refl, sym, ap, ◌∙◌, arith, inl, inr}
use Rattle.std.proofs.lemmas.Bool.{cases_lt}
use Rattle.std.proofs.lemmas.Option.{none-some, same_Some}
use Rattle.qu_trace.specs.Earliest.{earlier_of, IsUpTo}

pub earlier_cases : (first second : Option ℕ) (event : ℕ) → earlier_of first second ≡ Some event
    → (first ≡ Some event) ⊎ (second ≡ Some event)
earlier_cases None second event is = inr is
earlier_cases (Some a) None event is = inl is
earlier_cases (Some a) (Some b) event is =
    elim (cases_lt b a) [
      | inl later ↦
          let least : min a b ≡ b = omega arith in
          inr (ap (λ (it : ℕ). Some it) (sym least) ∙ is)
      | inr order ↦
          let least : min a b ≡ a = omega arith in
          inl (ap (λ (it : ℕ). Some it) (sym least) ∙ is)
    ]

pub earlier_assoc : (a b c : Option ℕ) → earlier_of (earlier_of a b) c ≡ earlier_of a (earlier_of b c)
earlier_assoc None b c = refl
earlier_assoc (Some a) None c = refl
earlier_assoc (Some a) (Some b) None = refl
earlier_assoc (Some a) (Some b) (Some c) =
    let same : min (min a b) c ≡ min a (min b c) = omega arith in
    ap (λ (it : ℕ). Some it) same

pub earlier_none : (a : Option ℕ) → earlier_of a None ≡ a
earlier_none None = refl
earlier_none (Some a) = refl

pub earlier_left : (first second : Option ℕ) (event : ℕ) → IsUpTo first event → IsUpTo (earlier_of first second) event
earlier_left None second event up_to = absurd (none-some up_to.0 up_to.1)
earlier_left (Some a) None event up_to = up_to
earlier_left (Some a) (Some b) event up_to =
    let same : a ≡ up_to.0 = same_Some a up_to.0 up_to.1 in
    let order : up_to.0 ≤ event = up_to.2 in
    (min a b, refl, omega arith)

pub earlier_right : (first second : Option ℕ) (event : ℕ) → IsUpTo second event → IsUpTo (earlier_of first second) event
earlier_right None second event up_to = up_to
earlier_right (Some a) None event up_to = absurd (none-some up_to.0 up_to.1)
earlier_right (Some a) (Some b) event up_to =
    let same : b ≡ up_to.0 = same_Some b up_to.0 up_to.1 in
    let order : up_to.0 ≤ event = up_to.2 in
    (min a b, refl, omega arith)
