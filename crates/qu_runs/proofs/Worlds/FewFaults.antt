-- At most b replicas of a run are faulty.
use Rattle.std.proofs.Common.{cond, ◌≡◌, ℕ, zero, suc, Bool, true, false, ◌+◌, ◌<◌, ◌≤◌, not, List, [], ◌∷◌, refl, ap, arith, inl, inr}
use Rattle.std.specs.Prelude.{count_by, ◌==◌, ◌||◌}
use Rattle.std.specs.List.{list_any}
use Rattle.std.proofs.lemmas.Bool.{cases_Bool, eqb-true}
use Rattle.std.proofs.lemmas.List.Sums.{sum_by-cons}
use Rattle.qu_base.specs.declared.party.Party.{Party}
use Rattle.qu_base.specs.declared.party.Party.TheVariants as party
use Rattle.qu_claims.specs.Count.{count}
use Rattle.qu_chain.proofs.Counting.{count-same}
use Rattle.qu_trace.specs.declared.trace.Setup.{Setup}
use Rattle.qu_trace.specs.Faulty.{is_same, is_replica, is_faulty, is_good}

-- the replica with this number
abbrev numbered_replica : ℕ → Party
numbered_replica number = party.Replica (record { 0 = number })

none_counted : (n : ℕ) → count n (λ number. false) ≡ 0
unfolding count
none_counted zero = refl
none_counted (suc n) =
    let before : count n (λ number. false) ≡ 0 = none_counted n in
    omega (arith, before)

abbrev bit : Bool → ℕ
bit test = cond test 1 0

one_bit : (first second : Bool) → cond (first || second) 1 0 ≤ cond first 1 0 + cond second 1 0
one_bit true second = omega arith
one_bit false second = omega arith

pub either_counted : (n : ℕ) (first second : ℕ → Bool)
    → count n (λ number. first number || second number) ≤ count n first + count n second
unfolding count
either_counted zero first second = omega arith
either_counted (suc n) first second =
    let before : count n (λ number. first number || second number) ≤ count n first + count n second =
    either_counted n first second in
    let here : cond (first n || second n) 1 0 ≤ cond (first n) 1 0 + cond (second n) 1 0 =
    one_bit (first n) (second n) in
    omega (arith, before, here)

not_same : (place number : ℕ) → number < place → (place == number) ≡ false
not_same place number below =
    elim (cases_Bool (place == number)) [
      | inr other ↦ other
      | inl same ↦ let equal : place ≡ number = eqb-true place number same in absurd (omega arith)
    ]

-- numbers at most this one are not it, where it is above them
above_none : (place n : ℕ) → n ≤ place → count n (λ number. place == number) ≡ 0
unfolding count
above_none place zero above = refl
above_none place (suc n) above =
    let before : count n (λ number. place == number) ≡ 0 = above_none place n (omega arith) in
    let here : (place == n) ≡ false = not_same place n (omega arith) in
    let bits : bit (place == n) ≡ bit false = ap bit here in
    omega (arith, before, bits)

one_counted : (place n : ℕ) → count n (λ number. place == number) ≤ 1
unfolding count
one_counted place zero = omega arith
one_counted place (suc n) =
    elim (cases_Bool (place == n)) [
      | inl here ↦
          let same : place ≡ n = eqb-true place n here in
          let before : count n (λ number. place == number) ≡ 0 = above_none place n (omega arith) in
          let bits : bit (place == n) ≡ bit true = ap bit here in
          omega (arith, before, bits)
      | inr other ↦
          let before : count n (λ number. place == number) ≤ 1 = one_counted place n in
          let bits : bit (place == n) ≡ bit false = ap bit other in
          omega (arith, before, bits)
    ]

-- a party is at most one replica
one_party : (n : ℕ) (liar : Party) → count n (λ number. is_same liar (numbered_replica number))
    ≤ cond (is_replica liar) 1 0
one_party n (party.Replica me) = one_counted me.0 n
one_party n (party.Client me) =
    let none : count n (λ number. false) ≡ 0 = none_counted n in
    omega (arith, none)

liars_counted : (n : ℕ) (liars : List Party)
    → count n (λ number. list_any (λ (liar : Party). is_same liar (numbered_replica number)) liars)
    ≤ count_by is_replica liars
liars_counted n [] =
    let none : count n (λ number. false) ≡ 0 = none_counted n in
    omega (arith, none)
liars_counted n (liar ∷ later) =
    let here : count n (λ number. is_same liar (numbered_replica number)) ≤ cond (is_replica liar) 1 0 =
    one_party n liar in
    let there : count n (λ number. list_any (λ (it : Party). is_same it (numbered_replica number)) later)
    ≤ count_by is_replica later = liars_counted n later in
    let either : count n (λ number. is_same liar (numbered_replica number)
    || list_any (λ (it : Party). is_same it (numbered_replica number)) later)
    ≤ count n (λ number. is_same liar (numbered_replica number))
    + count n (λ number. list_any (λ (it : Party). is_same it (numbered_replica number)) later) =
    either_counted n (λ number. is_same liar (numbered_replica number))
    (λ number. list_any (λ (it : Party). is_same it (numbered_replica number)) later) in
    let sum : count_by is_replica (liar ∷ later) ≡ cond (is_replica liar) 1 0 + count_by is_replica later =
    sum_by-cons (λ (it : Party). cond (is_replica it) 1 0) liar later in
    omega (arith, here, there, either, sum)

-- twice not
faulty_counted : (setup : Setup) (n : ℕ) → count n (λ number. not (is_good setup number))
    ≡ count n (λ number. is_faulty setup (numbered_replica number))
faulty_counted setup n =
    count-same n (λ number. not (is_good setup number)) (λ number. is_faulty setup (numbered_replica number))
    (λ number below. twice (is_faulty setup (numbered_replica number)))
  where
    twice : (test : Bool) → not (not test) ≡ test
    twice true = refl
    twice false = refl

pub few_faulty : (setup : Setup) (n : ℕ) → count_by is_replica setup.liars ≤ setup.bounds
    → count n (λ number. not (is_good setup number)) ≤ setup.bounds
few_faulty setup n few =
    let all : count n (λ number. is_faulty setup (numbered_replica number)) ≤ count_by is_replica setup.liars =
    liars_counted n setup.liars in
    let same : count n (λ number. not (is_good setup number))
    ≡ count n (λ number. is_faulty setup (numbered_replica number)) = faulty_counted setup n in
    omega (arith, all, same, few)
