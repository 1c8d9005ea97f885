-- What is accepted, attested or an ancestor stays so, and ancestors of ancestors are ancestors.
use Rattle.std.proofs.Common.{◌≡◌, ℕ, Bool, zero, suc, ◌+◌, ◌<◌, ◌≤◌, true, not, ◌&&◌, sym, ap, ◌∙◌, arith, inl, inr}
use Rattle.std.proofs.lemmas.Bool.{and_parts, and_from, cases_eq}
use Rattle.qu_base.specs.declared.party.ObjectId.{ObjectId}
use Rattle.qu_stamp.specs.declared.candidate.Candidate.{Candidate}
use Rattle.qu_stamp.specs.Candidate.{opening}
use Rattle.qu_claims.specs.Count.{count}
use Rattle.qu_claims.specs.Setting.{Setting, acceptors, IsAccepted, IsEstablished, IsAttested, IsAncestor}
use Rattle.qu_chain.specs.Laws.{Sizes, Lasting, StampsAreOne, Laws}
use Rattle.qu_claims.specs.Decided.{IsDecided}
use Rattle.qu_chain.proofs.Counting.{count-more, count-some, count-not, Passing, passing}

-- a correct replica that accepted the candidate
pub record Acceptor (setting : Setting) (time : ℕ) (object : ObjectId) (candidate : Candidate) : Type 0 where
  pub replica : ℕ
  pub within : replica < setting.n
  pub good : setting.good replica ≡ true
  pub accepted : setting.accepted time object replica candidate ≡ true

-- whether this replica is correct and accepted the candidate
abbrev pub accepts : Setting → ℕ → ObjectId → Candidate → ℕ → Bool
accepts setting time object candidate replica =
    setting.good replica && setting.accepted time object replica candidate

module _ (setting : Setting) where
  -- a correct replica of which the test holds accepted the candidate
  pub accepts-parts : (time : ℕ) (object : ObjectId) (candidate : Candidate) (replica : ℕ)
      → accepts setting time object candidate replica ≡ true
      → (setting.good replica ≡ true) × (setting.accepted time object replica candidate ≡ true)
  accepts-parts time object candidate replica both =
      and_parts (setting.good replica) (setting.accepted time object replica candidate) both

  pub acceptor : (time : ℕ) (object : ObjectId) (candidate : Candidate)
      → IsAccepted setting time object candidate → Acceptor setting time object candidate
  acceptor time object candidate accepted =
      let found : Passing setting.n (accepts setting time object candidate) =
      passing setting.n (accepts setting time object candidate) accepted in
      let parts : (setting.good found.index ≡ true) × (setting.accepted time object found.index candidate ≡ true) =
      accepts-parts time object candidate found.index found.passed in
      record { replica = found.index; within = found.within; good = parts.0; accepted = parts.1 }

  pub accepted_by : (time : ℕ) (object : ObjectId) (candidate : Candidate)
      → Acceptor setting time object candidate → IsAccepted setting time object candidate
  accepted_by time object candidate it =
      count-some setting.n (accepts setting time object candidate) it.replica it.within
      (and_from (setting.good it.replica) (setting.accepted time object it.replica candidate) it.good it.accepted)

  pub ancestor-chain : (time : ℕ) (object : ObjectId) (first second third : Candidate)
      → setting.plain second ≡ true → IsAttested setting time object second
      → IsAncestor setting time object first second → IsAncestor setting time object second third
      → IsAncestor setting time object first third
  ancestor-chain time object first second third plain attested lower (IsAncestor.direct same prior) =
      IsAncestor.through second third prior plain attested lower
  ancestor-chain time object first second third plain attested lower
      (IsAncestor.through between same prior plain_between attested_between upper) =
      IsAncestor.through between third prior plain_between attested_between
      (ancestor-chain time object first second between plain attested lower upper)

module _ (setting : Setting) (lasting : Lasting setting) where
  pub accepted-later : (early late : ℕ) → early ≤ late → (object : ObjectId) (replica : ℕ) (candidate : Candidate)
      → setting.accepted early object replica candidate ≡ true
      → setting.accepted late object replica candidate ≡ true
  accepted-later early zero order object replica candidate held =
      let same : early ≡ zero = omega arith in
      ap (λ time. setting.accepted time object replica candidate) (sym same) ∙ held
  accepted-later early (suc late) order object replica candidate held =
      elim (cases_eq early (suc late)) [
        | inl same ↦ ap (λ time. setting.accepted time object replica candidate) (sym same) ∙ held
        | inr other ↦
            lasting.grows late object replica candidate
            (accepted-later early late (omega arith) object replica candidate held)
      ]

  pub acceptors-later : (early late : ℕ) → early ≤ late → (object : ObjectId) (candidate : Candidate)
      → acceptors setting early object candidate ≤ acceptors setting late object candidate
  acceptors-later early late order object candidate =
      count-more setting.n (accepts setting early object candidate) (accepts setting late object candidate)
      (λ replica within both.
      let parts : (setting.good replica ≡ true) × (setting.accepted early object replica candidate ≡ true) =
      accepts-parts setting early object candidate replica both in
      and_from (setting.good replica) (setting.accepted late object replica candidate) parts.0
      (accepted-later early late order object replica candidate parts.1))

  pub some-later : (early late : ℕ) → early ≤ late → (object : ObjectId) (candidate : Candidate)
      → IsAccepted setting early object candidate → IsAccepted setting late object candidate
  some-later early late order object candidate accepted =
      omega (arith, acceptors-later early late order object candidate)

  pub attested-later : (early late : ℕ) → early ≤ late → (object : ObjectId) (candidate : Candidate)
      → IsAttested setting early object candidate → IsAttested setting late object candidate
  attested-later early late order object candidate attested =
      omega (arith, acceptors-later early late order object candidate)

  pub established-later : (early late : ℕ) → early ≤ late → (object : ObjectId) (candidate : Candidate)
      → IsEstablished setting early object candidate → IsEstablished setting late object candidate
  established-later early late order object candidate established =
      omega (arith, acceptors-later early late order object candidate)

  -- what is established is attested
  pub attested_by_established : (time : ℕ) (object : ObjectId) (candidate : Candidate)
      → IsEstablished setting time object candidate → IsAttested setting time object candidate
  attested_by_established time object candidate established =
      let sizes : Sizes setting = lasting.sizes in
      omega arith

  -- what is attested is accepted
  pub accepted_by_attested : (time : ℕ) (object : ObjectId) (candidate : Candidate)
      → IsAttested setting time object candidate → IsAccepted setting time object candidate
  accepted_by_attested time object candidate attested =
      let sizes : Sizes setting = lasting.sizes in
      omega arith

  pub ancestor-later : (early late : ℕ) → early ≤ late → (object : ObjectId) (first second : Candidate)
      → IsAncestor setting early object first second → IsAncestor setting late object first second
  ancestor-later early late order object first second (IsAncestor.direct same prior) = IsAncestor.direct second prior
  ancestor-later early late order object first second
      (IsAncestor.through between same prior plain attested ancestor) =
      IsAncestor.through between second prior plain (attested-later early late order object between attested)
      (ancestor-later early late order object first between ancestor)

  pub decided-later : (early late : ℕ) → early ≤ late → (object : ObjectId) (candidate : Candidate)
      → IsDecided setting early object candidate → IsDecided setting late object candidate
  decided-later early late order object candidate (IsDecided.established same plain established) =
      IsDecided.established candidate plain (established-later early late order object candidate established)
  decided-later early late order object candidate (IsDecided.prior same child decided prior accepted) =
      IsDecided.prior candidate child (decided-later early late order object child decided) prior
      (some-later early late order object candidate accepted)

  pub accepted_by_decided : (time : ℕ) (object : ObjectId) (candidate : Candidate)
      → IsDecided setting time object candidate → IsAccepted setting time object candidate
  accepted_by_decided time object candidate (IsDecided.established same plain established) =
      accepted_by_attested time object candidate (attested_by_established time object candidate established)
  accepted_by_decided time object candidate (IsDecided.prior same child decided prior accepted) = accepted

module _ (setting : Setting) (lasting : Lasting setting) (one : StampsAreOne setting) where
  -- accepted candidates of one stamp are one
  pub one_candidate : (early late : ℕ) → early ≤ setting.last → late ≤ setting.last
      → (object : ObjectId) (candidate other : Candidate)
      → IsAccepted setting early object candidate → IsAccepted setting late object other
      → candidate.stamp ≡ other.stamp → candidate ≡ other
  one_candidate early late bound other_bound object candidate other accepted other_accepted same =
      let it : Acceptor setting early object candidate = acceptor setting early object candidate accepted in
      let its : Acceptor setting late object other = acceptor setting late object other other_accepted in
      one object it.replica its.replica candidate other it.good its.good it.within its.within
      (accepted-later setting lasting early setting.last bound object it.replica candidate it.accepted)
      (accepted-later setting lasting late setting.last other_bound object its.replica other its.accepted) same

module _ (setting : Setting) (laws : Laws setting) where
  -- the opening candidate is established from the first time on
  pub opening_established : (time : ℕ) (object : ObjectId) → setting.known object ≡ true
      → IsEstablished setting time object opening
  opening_established time object known =
      let sizes : Sizes setting = laws.lasting.sizes in
      let all : count setting.n setting.good ≤ acceptors setting 0 object opening =
      count-more setting.n setting.good (accepts setting 0 object opening) (λ replica within good.
      and_from (setting.good replica) (setting.accepted 0 object replica opening) good
      (laws.begins object replica known good within)) in
      let others : count setting.n setting.good + count setting.n (λ replica. not (setting.good replica)) ≡ setting.n =
      count-not setting.n setting.good in
      established-later setting laws.lasting 0 time (omega arith) object opening (omega arith)
