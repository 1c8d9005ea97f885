-- Where an accepted candidate without barrier comes from: its first acceptance, and what it rests on.
use Rattle.std.proofs.Common.{◌≡◌, ◌⊎◌, ℕ, suc, ◌<◌, ◌≤◌, Bool, true, false, ◌&&◌, sym, ap, ◌∙◌, subst, arith, inl, inr}
use Rattle.std.specs.Prelude.{nat_le}
use Rattle.std.proofs.lemmas.Bool.{cases_Bool, leb-true, leb-false, le-leb, false≢true}
use Rattle.qu_base.specs.declared.party.ObjectId.{ObjectId}
use Rattle.qu_stamp.specs.declared.stamp.Stamp.{Stamp}
use Rattle.qu_stamp.specs.declared.candidate.Candidate.{Candidate}
use Rattle.qu_stamp.specs.Stamp.{is_below}
use Rattle.qu_stamp.specs.Candidate.{opening}
use Rattle.qu_stamp.proofs.Order.{is_below-not_back, is_below-opening, is_below-not_chain}
use Rattle.qu_claims.specs.Setting.{Setting, acceptors, IsAccepted, IsEstablished, IsAttested, IsAncestor, IsNew}
use Rattle.qu_chain.specs.Laws.{Sizes, Laws, IsLinked}
use Rattle.qu_chain.specs.Joint.{Joint}
use Rattle.qu_chain.proofs.Counting.{Gained, count-gained}
use Rattle.qu_chain.proofs.Arrival.{Turn, turn_between}
use Rattle.qu_chain.proofs.Ancestry.{Acceptor, acceptor, accepts, accepts-parts, accepted_by_attested, opening_established, one_candidate}
use Rattle.qu_chain.proofs.Established.{chain}

-- a step of a correct replica that brings the object one acceptor more
pub record Step (setting : Setting) (time : ℕ) (object : ObjectId) (candidate : Candidate) : Type 0 where
  pub replica : ℕ
  pub new : IsNew setting time object replica candidate

-- the step at which the candidate was accepted first
pub record First (setting : Setting) (end : ℕ) (object : ObjectId) (candidate : Candidate) : Type 0 where
  pub time : ℕ
  pub within : time < end
  pub replica : ℕ
  pub new : IsNew setting time object replica candidate
  pub nobody : acceptors setting time object candidate ≡ 0

-- its first acceptance, and what it rested on then
pub record Parent (setting : Setting) (end : ℕ) (object : ObjectId) (candidate : Candidate) : Type 0 where
  pub first : First setting end object candidate
  pub link : IsLinked setting first.time object first.replica candidate

-- the same, where it rests on this base
pub record RestsOn (setting : Setting) (end : ℕ) (object : ObjectId) (base candidate : Candidate) : Type 0 where
  pub first : First setting end object candidate
  pub plain_base : setting.plain base ≡ true
  pub attested : IsAttested setting first.time object base
  pub settled : setting.is_act candidate ≡ true → IsEstablished setting first.time object base

-- the test fails of a correct replica that has not accepted it
accepts-false : (good accepted : Bool) → good ≡ true → (good && accepted) ≡ false → accepted ≡ false
accepts-false true accepted is_good fails = fails
accepts-false false accepted is_good fails = absurd (false≢true is_good)

module _ (setting : Setting) (laws : Laws setting) where
  -- where a candidate gains acceptors, some replica accepts it
  pub grown : (time : ℕ) → time < setting.last → (object : ObjectId) (candidate : Candidate)
      → acceptors setting time object candidate < acceptors setting (suc time) object candidate
      → Step setting time object candidate
  grown time bound object candidate more =
      let early : ℕ → Bool = accepts setting time object candidate in
      let late : ℕ → Bool = accepts setting (suc time) object candidate in
      let found : Gained setting.n early late = count-gained setting.n early late more in
      let by : ℕ = found.index in
      let parts : (setting.good by ≡ true) × (setting.accepted (suc time) object by candidate ≡ true) =
      accepts-parts setting (suc time) object candidate by found.after in
      record {
        replica = found.index;
        new = record {
          step = bound;
          within = found.within;
          good = parts.0;
          after = parts.1;
          before = accepts-false (setting.good found.index) (setting.accepted time object found.index candidate)
              parts.0 found.before;
        };
      }

  begun : (time : ℕ) → time ≤ setting.last → (object : ObjectId) (candidate : Candidate)
      → Turn (λ when. nat_le 1 (acceptors setting when object candidate)) 0 time
      → First setting time object candidate
  begun time bound object candidate turn =
      let within : turn.time < time = turn.within in
      let before : acceptors setting turn.time object candidate < 1 =
      leb-false 1 (acceptors setting turn.time object candidate) turn.before in
      let after : 1 ≤ acceptors setting (suc turn.time) object candidate =
      leb-true 1 (acceptors setting (suc turn.time) object candidate) turn.after in
      let step : Step setting turn.time object candidate =
      grown turn.time (omega arith) object candidate (omega arith) in
      record { time = turn.time; within = within; replica = step.replica; new = step.new; nobody = omega arith }

  -- an accepted candidate is the opening one or was accepted at a first step
  pub first_new : (time : ℕ) → time ≤ setting.last → (object : ObjectId) (candidate : Candidate)
      → IsAccepted setting time object candidate
      → (candidate ≡ opening) ⊎ First setting time object candidate
  first_new time bound object candidate accepted =
      elim (cases_Bool (nat_le 1 (acceptors setting 0 object candidate))) [
        | inl at_first ↦
            let it : Acceptor setting 0 object candidate =
            acceptor setting 0 object candidate (leb-true 1 (acceptors setting 0 object candidate) at_first) in
            inl (laws.start object it.replica candidate it.good it.within it.accepted)
        | inr not_at_first ↦
            let turn : Turn (λ when. nat_le 1 (acceptors setting when object candidate)) 0 time =
            turn_between (λ when. nat_le 1 (acceptors setting when object candidate)) 0 time (omega arith)
            not_at_first (le-leb 1 (acceptors setting time object candidate) accepted) in
            inr (begun time bound object candidate turn)
      ]

  -- what nobody accepted is not attested
  pub nobody_attests : (time : ℕ) (object : ObjectId) (candidate : Candidate)
      → acceptors setting time object candidate ≡ 0 → IsAttested setting time object candidate → ⊥
  nobody_attests time object candidate nobody attested =
      let sizes : Sizes setting = laws.lasting.sizes in
      omega arith

  -- what is accepted first is linked
  pub first_linked : (time : ℕ) (object : ObjectId) (replica : ℕ) (candidate : Candidate)
      → IsNew setting time object replica candidate
      → acceptors setting time object candidate ≡ 0 → setting.plain candidate ≡ true
      → IsLinked setting time object replica candidate
  first_linked time object replica candidate new nobody plain =
      let step : time < setting.last = new.step in
      elim (laws.linked time object replica candidate (chain setting laws time (omega arith)) plain new) [
        | inl attested ↦ absurd (nobody_attests time object candidate nobody attested)
        | inr link ↦ link
      ]

  -- an accepted candidate without barrier is the opening one or has a parent
  pub parent : (time : ℕ) → time ≤ setting.last → (object : ObjectId) (candidate : Candidate)
      → IsAccepted setting time object candidate → setting.plain candidate ≡ true
      → (candidate ≡ opening) ⊎ Parent setting time object candidate
  parent time bound object candidate accepted plain =
      elim (first_new time bound object candidate accepted) [
        | inl same ↦ inl same
        | inr first ↦
            inr (record {
              first = first;
              link = first_linked first.time object first.replica candidate first.new first.nobody plain;
            })
      ]

  -- an accepted candidate's object is known, and its opening candidate is established
  pub opening_from_first : (time : ℕ) (object : ObjectId) (candidate : Candidate)
      → IsAccepted setting time object candidate → IsEstablished setting 0 object opening
  opening_from_first time object candidate accepted =
      let it : Acceptor setting time object candidate = acceptor setting time object candidate accepted in
      opening_established setting laws 0 object
      (laws.only_known time object it.replica candidate it.good it.within it.accepted)

  -- a prior is not above what rests on it
  pub prior_not_above : (time : ℕ) → time ≤ setting.last → (object : ObjectId) (candidate : Candidate)
      → IsAccepted setting time object candidate → setting.plain candidate ≡ true
      → is_below candidate.stamp candidate.prior ≡ false
  prior_not_above time bound object candidate accepted plain =
      elim (parent time bound object candidate accepted plain) [
        | inl same ↦
            ap (λ (it : Candidate). is_below candidate.stamp it.prior) same ∙ is_below-opening candidate.stamp
        | inr it ↦
            ap (is_below candidate.stamp) it.link.prior
            ∙ is_below-not_back it.link.base.stamp candidate.stamp it.link.below
      ]

  -- nor is an ancestor
  pub ancestor-not_above : (time : ℕ) → time ≤ setting.last → (object : ObjectId) (first second : Candidate)
      → IsAccepted setting time object second → setting.plain second ≡ true
      → IsAncestor setting time object first second → is_below second.stamp first.stamp ≡ false
  ancestor-not_above time bound object first second accepted plain (IsAncestor.direct same prior) =
      ap (λ (stamp : Stamp). is_below second.stamp stamp) (sym prior)
      ∙ prior_not_above time bound object second accepted plain
  ancestor-not_above time bound object first second accepted plain
      (IsAncestor.through between same prior plain_between attested ancestor) =
      is_below-not_chain second.stamp between.stamp first.stamp
      (ap (λ (stamp : Stamp). is_below second.stamp stamp) (sym prior)
      ∙ prior_not_above time bound object second accepted plain)
      (ancestor-not_above time bound object first between
      (accepted_by_attested setting laws.lasting time object between attested) plain_between ancestor)

module _ (setting : Setting) (laws : Laws setting) (all : Joint setting) where
  -- the base of a parent is the accepted candidate that has the prior's stamp
  base_is : (time : ℕ) → time ≤ setting.last → (object : ObjectId) (base candidate : Candidate)
      → IsAccepted setting setting.last object base → candidate.prior ≡ base.stamp
      → Parent setting time object candidate → RestsOn setting time object base candidate
  base_is time bound object base candidate accepted prior it =
      let within : it.first.time < time = it.first.within in
      let same : it.link.base ≡ base =
      one_candidate setting laws.lasting all.one it.first.time setting.last (omega arith) (omega arith) object
      it.link.base base
      (accepted_by_attested setting laws.lasting it.first.time object it.link.base it.link.attested) accepted
      (sym it.link.prior ∙ prior) in
      record {
        first = it.first;
        plain_base = subst (λ (one : Candidate). setting.plain one ≡ true) same it.link.plain_base;
        attested = subst (λ (one : Candidate). IsAttested setting it.first.time object one) same it.link.attested;
        settled = λ is_act.
            subst (λ (one : Candidate). IsEstablished setting it.first.time object one) same (it.link.settled is_act);
      }

  -- a candidate without barrier that rests on an accepted one: both are the opening one, or its parent is it
  pub rests : (time : ℕ) → time ≤ setting.last → (object : ObjectId) (base candidate : Candidate)
      → IsAccepted setting time object candidate → setting.plain candidate ≡ true
      → IsAccepted setting setting.last object base → candidate.prior ≡ base.stamp
      → ((base ≡ candidate) × (candidate ≡ opening)) ⊎ RestsOn setting time object base candidate
  rests time bound object base candidate accepted plain base_accepted prior =
      elim (parent setting laws time bound object candidate accepted plain) [
        | inl same ↦
            let prior_is : candidate.prior ≡ candidate.stamp =
            ap (λ (it : Candidate). it.prior) same ∙ ap (λ (it : Candidate). it.stamp) (sym same) in
            inl (
              one_candidate setting laws.lasting all.one setting.last time (omega arith) bound object base candidate
                  base_accepted accepted
                  (sym prior ∙ prior_is),
              same,
            )
        | inr it ↦ inr (base_is time bound object base candidate base_accepted prior it)
      ]
