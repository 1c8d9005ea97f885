-- What the test of equal parties decides.
use Rattle.std.proofs.Common.{◌≡◌, ℕ, true, refl, sym, ap, ◌∙◌}
use Rattle.std.specs.Bool.{Decides}
use Rattle.std.proofs.lemmas.Bool.{false≢true, eq-eqb, eqb-true}
use Rattle.qu_base.specs.declared.party.Party.{Party}
use Rattle.qu_base.specs.declared.party.Party.TheVariants as party
use Rattle.qu_trace.specs.Faulty.{is_same}

pub same_party : (a b : Party) → is_same a b ≡ true → a ≡ b
same_party (party.Replica a) (party.Replica b) same =
    ap (λ (n : ℕ). party.Replica (record { 0 = n })) (eqb-true a.0 b.0 same)
same_party (party.Replica a) (party.Client b) same = absurd (false≢true same)
same_party (party.Client a) (party.Replica b) same = absurd (false≢true same)
same_party (party.Client a) (party.Client b) same =
    ap (λ (n : ℕ). party.Client (record { 0 = n })) (eqb-true a.0 b.0 same)

pub same_self : (a : Party) → is_same a a ≡ true
same_self (party.Replica a) = eq-eqb a.0 a.0 refl
same_self (party.Client a) = eq-eqb a.0 a.0 refl

pub decides_party : (a b : Party) → Decides (is_same a b) (a ≡ b)
decides_party a b = (same_party a b, λ same. ap (λ (it : Party). is_same a it) (sym same) ∙ same_self a)
