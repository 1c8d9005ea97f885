-- Different numbers below a bound, counted.
use Rattle.std.proofs.Common.{◌≡◌, ◌≢◌, ℕ, zero, suc, ◌+◌, ◌<◌, ◌≤◌, Bool, true, ◌&&◌, List, [], ◌∷◌, length, get_or, sym, ap, ◌∙◌, arith, inl, inr, All, AllPairs}
use Rattle.std.specs.Prelude.{◌==◌}
use Rattle.std.specs.List.{list_any, Any}
use Rattle.std.proofs.lemmas.Bool.{and_parts, or_left, or_right, eqb-true, eq-eqb, cases_eq}
use Rattle.std.proofs.lemmas.List.{get_or_default}
use Rattle.std.proofs.lemmas.List.Elements.{All-head, All-tail}
use Rattle.std.proofs.lemmas.List.Folds.{Any-from_list_any}
use Rattle.qu_claims.specs.Count.{count}
use Rattle.qu_chain.proofs.Counting.{bit, count-both, Passing, passing}

-- the number is one of these
abbrev pub is_among : List ℕ → ℕ → Bool
is_among members index = list_any (λ (member : ℕ). member == index) members

-- a number below the bound counts
count_one : (n member : ℕ) → member < n → 1 ≤ count n (λ (index : ℕ). member == index)
unfolding count
count_one zero member below = absurd (omega arith)
count_one (suc n) member below =
    elim (cases_eq member n) [
      | inl same ↦
          let here : bit (member == n) ≡ 1 = ap bit (eq-eqb member n same) in
          omega arith
      | inr other ↦
          let before : 1 ≤ count n (λ (index : ℕ). member == index) = count_one n member (omega arith) in
          omega arith
    ]

-- the first of different members is none of the others
first_not_among : (member : ℕ) (members : List ℕ) → AllPairs (λ (a b : ℕ). a ≢ b) (member ∷ members)
    → is_among members member ≡ true → ⊥
first_not_among member members different among =
    let any : Any (λ (it : ℕ). (it == member) ≡ true) members =
    Any-from_list_any (λ (it : ℕ). it == member) members among in
    let same : get_or members any.0 member ≡ member = get_or_default members any.0 member any.1 any.2 ∙ any.3
    ∙ eqb-true any.1 member any.4 in
    different 0 (suc any.0) member (omega arith) (omega (arith, any.2)) (sym same)

-- different members below a bound are at most as many as the numbers there that are among them
pub members_count : (n : ℕ) (members : List ℕ) → AllPairs (λ (a b : ℕ). a ≢ b) members
    → All (λ (member : ℕ). member < n) members → length members ≤ count n (is_among members)
members_count n [] different within = omega arith
members_count n (member ∷ members) different within =
    let here : 1 ≤ count n (λ (index : ℕ). member == index) =
    count_one n member (All-head (λ (it : ℕ). it < n) member members within) in
    let later : length members ≤ count n (is_among members) =
    members_count n members (λ i j d order below. different (suc i) (suc j) d (omega arith) (omega arith))
    (All-tail (λ (it : ℕ). it < n) member members within) in
    let all : count n (λ (index : ℕ). member == index) + count n (is_among members) ≤ count n
    (is_among (member ∷ members)) + count n (λ (index : ℕ). member == index && is_among members index) =
    count-both n (λ (index : ℕ). member == index) (is_among members) (is_among (member ∷ members))
    (λ index it. or_left _ (is_among members index) it) (λ index it. or_right (member == index) _ it) in
    let none : count n (λ (index : ℕ). member == index && is_among members index) < 1 =
    few (count n (λ (index : ℕ). member == index && is_among members index))
    (λ some. not_both member members different
    (passing n (λ (index : ℕ). member == index && is_among members index) some)) in
    omega arith
  where
    few : (number : ℕ) → (1 ≤ number → ⊥) → number < 1
    few zero not_some = omega arith
    few (suc number) not_some = absurd (not_some (omega arith))

    not_both : (member : ℕ) (members : List ℕ) → AllPairs (λ (a b : ℕ). a ≢ b) (member ∷ members)
        → Passing n (λ (index : ℕ). member == index && is_among members index) → ⊥
    not_both member members different found =
        let parts : ((member == found.index) ≡ true) × (is_among members found.index ≡ true) =
        and_parts _ _ found.passed in
        first_not_among member members different (ap (is_among members) (eqb-true member found.index parts.0) ∙ parts.1)
