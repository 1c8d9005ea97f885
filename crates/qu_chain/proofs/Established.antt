-- Of candidates without barrier, what is ever established is an ancestor of all that is attested above it.
use Rattle.std.proofs.Common.{◌≡◌, ◌⊎◌, ℕ, zero, suc, ◌+◌, ◌<◌, ◌≤◌, true, false, not, sym, ap, ◌∙◌, subst, arith, inl, inr}
use Rattle.std.proofs.lemmas.Bool.{false≢true, cases_Bool, cases_eq}
use Rattle.qu_base.specs.declared.party.ObjectId.{ObjectId}
use Rattle.qu_stamp.specs.declared.candidate.Candidate.{Candidate}
use Rattle.qu_stamp.specs.Stamp.{is_below, same_stamp}
use Rattle.qu_stamp.specs.Candidate.{opening}
use Rattle.qu_stamp.proofs.Order.{is_below-self, is_below-not_back, is_below-other, is_below-opening, equal_by_same_stamp}
use Rattle.qu_claims.specs.Count.{count}
use Rattle.qu_claims.specs.Setting.{Setting, IsEstablished, IsAttested, IsAncestor, ChainHolds, IsNew}
use Rattle.qu_chain.specs.Laws.{Sizes, Laws, IsLinked}
use Rattle.qu_chain.proofs.Counting.{count-not, Shared, shared}
use Rattle.qu_chain.proofs.Arrival.{Turn, turn_between}
use Rattle.qu_chain.proofs.Ancestry.{Acceptor, acceptor, accepts, accepts-parts, accepted-later, accepted_by_attested, attested_by_established, ancestor-later}

-- a correct replica that accepted both candidates, each by its time
pub record Both (setting : Setting) (object : ObjectId) (early late : ℕ) (first second : Candidate) : Type 0 where
  pub replica : ℕ
  pub within : replica < setting.n
  pub good : setting.good replica ≡ true
  pub accepted_first : setting.accepted early object replica first ≡ true
  pub accepted_second : setting.accepted late object replica second ≡ true

-- a quorum and a repairing set share a correct replica
both_accepted : (setting : Setting) → Laws setting → (object : ObjectId) (early late : ℕ) (first second : Candidate)
    → IsEstablished setting early object first → IsAttested setting late object second
    → Both setting object early late first second
both_accepted setting laws object early late first second established attested =
    let sizes : Sizes setting = laws.lasting.sizes in
    let others : count setting.n setting.good + count setting.n (λ replica. not (setting.good replica)) ≡ setting.n =
    count-not setting.n setting.good in
    let found : Shared setting.n (accepts setting early object first) (accepts setting late object second) =
    shared setting.n (accepts setting early object first) (accepts setting late object second) setting.good
    (λ replica passed. (accepts-parts setting early object first replica passed).0)
    (λ replica passed. (accepts-parts setting late object second replica passed).0)
    (omega arith) in
    let in_first : (setting.good found.index ≡ true) × (setting.accepted early object found.index first ≡ true) =
    accepts-parts setting early object first found.index found.in_first in
    let in_second : (setting.good found.index ≡ true) × (setting.accepted late object found.index second ≡ true) =
    accepts-parts setting late object second found.index found.in_second in
    record {
      replica = found.index;
      within = found.within;
      good = in_first.0;
      accepted_first = in_first.1;
      accepted_second = in_second.1;
    }

module _ (setting : Setting) (laws : Laws setting) (object : ObjectId) (first second : Candidate)
    (below : is_below first.stamp second.stamp ≡ true) where
  -- nothing was accepted at first that has something below it
  not_at_first : (replica : ℕ) → replica < setting.n → setting.good replica ≡ true
      → setting.accepted 0 object replica second ≡ true → ⊥
  not_at_first replica within good accepted =
      let same : second ≡ opening = laws.start object replica second good within accepted in
      false≢true (sym (is_below-opening first.stamp)
      ∙ ap (λ (candidate : Candidate). is_below first.stamp candidate.stamp) (sym same) ∙ below)

  -- the lower candidate is not accepted together with the higher one
  not_together : (time replica : ℕ) → IsNew setting time object replica second
      → IsNew setting time object replica first → ⊥
  not_together time replica new_second new_first =
      let equal : first ≡ second = laws.alone time object replica first second new_first new_second in
      false≢true (sym (is_below-self second.stamp)
      ∙ ap (λ (candidate : Candidate). is_below candidate.stamp second.stamp) (sym equal) ∙ below)

  -- nor after it
  not_after : (time later replica : ℕ) → time < later → IsNew setting time object replica second
      → IsNew setting later object replica first → ⊥
  not_after time later replica order new_second new_first =
      let kept : setting.accepted later object replica second ≡ true =
      accepted-later setting laws.lasting (suc time) later (omega arith) object replica second new_second.after in
      let above : is_below second.stamp first.stamp ≡ true =
      laws.rising later object replica first second new_first kept in
      false≢true (sym (is_below-not_back first.stamp second.stamp below) ∙ above)

  -- so where the lower one is ever accepted, it was before the higher one
  accepted_before : (time replica : ℕ) → IsNew setting time object replica second
      → setting.accepted setting.last object replica first ≡ true
      → setting.accepted time object replica first ≡ true
  accepted_before time replica new_second accepted =
      elim (cases_Bool (setting.accepted time object replica first)) [
        | inl already ↦ already
        | inr not_yet ↦
            let step : time < setting.last = new_second.step in
            let turn : Turn (λ when. setting.accepted when object replica first) time setting.last =
            turn_between (λ when. setting.accepted when object replica first) time setting.last
            (omega arith) not_yet accepted in
            let from : time ≤ turn.time = turn.from in
            let new_first : IsNew setting turn.time object replica first = record {
              step = turn.within;
              within = new_second.within;
              good = new_second.good;
              after = turn.after;
              before = turn.before;
            } in
            elim (cases_eq time turn.time) [
              | inl same ↦
                  absurd (not_together time replica new_second
                  (subst (λ (when : ℕ). IsNew setting when object replica first) (sym same) new_first))
              | inr other ↦ absurd (not_after time turn.time replica (omega arith) new_second new_first)
            ]
      ]

  -- the step at which the higher one was accepted
  step_of : (time replica : ℕ) → replica < setting.n → setting.good replica ≡ true
      → setting.accepted time object replica second ≡ true
      → Turn (λ when. setting.accepted when object replica second) 0 time
  step_of time replica within good accepted =
      elim (cases_Bool (setting.accepted 0 object replica second)) [
        | inl at_first ↦ absurd (not_at_first replica within good at_first)
        | inr not_at_first ↦
            turn_between (λ when. setting.accepted when object replica second) 0 time
            (omega arith) not_at_first accepted
      ]

module _ (setting : Setting) (laws : Laws setting) (object : ObjectId) (first second : Candidate)
    (plain_first : setting.plain first ≡ true) (established : IsEstablished setting setting.last object first)
    (below : is_below first.stamp second.stamp ≡ true) where
  -- a linked candidate has the established one as an ancestor, by its base
  by_link : (time replica : ℕ) → ChainHolds setting time → setting.accepted time object replica first ≡ true
      → IsLinked setting time object replica second → IsAncestor setting time object first second
  by_link time replica past accepted link =
      let base : Candidate = link.base in
      let prior : second.prior ≡ base.stamp = link.prior in
      let not_below : is_below base.stamp first.stamp ≡ false =
      link.not_below first plain_first established accepted in
      elim (cases_Bool (same_stamp base.stamp first.stamp)) [
        | inl same ↦ IsAncestor.direct second (prior ∙ equal_by_same_stamp base.stamp first.stamp same)
        | inr other ↦
            IsAncestor.through base second prior link.plain_base link.attested
            (past object first base plain_first link.plain_base established link.attested
            (is_below-other base.stamp first.stamp not_below other))
      ]

  -- at the step at which a replica with both accepted the higher one
  by_step : (time replica : ℕ) → ChainHolds setting time → setting.plain second ≡ true
      → IsNew setting time object replica second → setting.accepted setting.last object replica first ≡ true
      → IsAncestor setting time object first second
  by_step time replica past plain_second new_second accepted =
      elim (laws.linked time object replica second past plain_second new_second) [
        | inl attested ↦ past object first second plain_first plain_second established attested below
        | inr link ↦
            by_link time replica past
            (accepted_before setting laws object first second below time replica new_second accepted) link
      ]

-- the chain one step later, from the chain up to now
chain_next : (setting : Setting) → Laws setting → (time : ℕ) → time < setting.last
    → ((earlier : ℕ) → earlier ≤ time → ChainHolds setting earlier) → ChainHolds setting (suc time)
chain_next setting laws time within past object first second plain_first plain_second established attested below =
    let both : Both setting object setting.last (suc time) first second =
    both_accepted setting laws object setting.last (suc time) first second established attested in
    let turn : Turn (λ when. setting.accepted when object both.replica second) 0 (suc time) =
    step_of setting laws object first second below (suc time) both.replica both.within both.good
    both.accepted_second in
    let step : turn.time < suc time = turn.within in
    let new_second : IsNew setting turn.time object both.replica second = record {
      step = omega arith;
      within = both.within;
      good = both.good;
      after = turn.after;
      before = turn.before;
    } in
    ancestor-later setting laws.lasting turn.time (suc time) (omega arith) object first second
    (by_step setting laws object first second plain_first established below turn.time both.replica
    (past turn.time (omega arith)) plain_second new_second both.accepted_first)

-- at first nothing is attested that has something below it
chain_first : (setting : Setting) → Laws setting → ChainHolds setting 0
chain_first setting laws object first second plain_first plain_second established attested below =
    let found : Acceptor setting 0 object second =
    acceptor setting 0 object second (accepted_by_attested setting laws.lasting 0 object second attested) in
    absurd (not_at_first setting laws object first second below found.replica found.within found.good found.accepted)

chain_up_to : (setting : Setting) → Laws setting → (time : ℕ) → time ≤ setting.last → (earlier : ℕ)
    → earlier ≤ time → ChainHolds setting earlier
chain_up_to setting laws zero within earlier order =
    let same : zero ≡ earlier = omega arith in
    subst (ChainHolds setting) same (chain_first setting laws)
chain_up_to setting laws (suc time) within earlier order =
    elim (cases_eq (suc time) earlier) [
      | inl same ↦
          subst (ChainHolds setting) same
          (chain_next setting laws time (omega arith) (chain_up_to setting laws time (omega arith)))
      | inr other ↦ chain_up_to setting laws time (omega arith) earlier (omega arith)
    ]

-- of candidates without barrier, what is ever established is an ancestor of all that is attested above it
pub chain : (setting : Setting) → Laws setting → (time : ℕ) → time ≤ setting.last → ChainHolds setting time
chain setting laws time within = chain_up_to setting laws time within time (omega arith)

-- the first candidate is below the second, and is its ancestor at the end
pub record IsLower (setting : Setting) (object : ObjectId) (first second : Candidate) : Type 0 where
  pub below : is_below first.stamp second.stamp ≡ true
  pub ancestor : IsAncestor setting setting.last object first second

module _ (setting : Setting) (laws : Laws setting) (object : ObjectId) (first second : Candidate)
    (plain_first : setting.plain first ≡ true) (plain_second : setting.plain second ≡ true)
    (established_first : IsEstablished setting setting.last object first)
    (established_second : IsEstablished setting setting.last object second) where
  -- of two established candidates the lower is an ancestor of the higher
  pub established_chain : is_below first.stamp second.stamp ≡ true
      → IsAncestor setting setting.last object first second
  established_chain below =
      chain setting laws setting.last (omega arith) object first second plain_first plain_second established_first
      (attested_by_established setting laws.lasting setting.last object second established_second) below

-- of two established candidates with different stamps one is below the other, and is its ancestor
pub established_comparable : (setting : Setting) → Laws setting → (object : ObjectId) (first second : Candidate)
    → setting.plain first ≡ true → setting.plain second ≡ true
    → IsEstablished setting setting.last object first → IsEstablished setting setting.last object second
    → same_stamp first.stamp second.stamp ≡ false
    → IsLower setting object first second ⊎ IsLower setting object second first
established_comparable setting laws object first second plain_first plain_second one other different =
    elim (cases_Bool (is_below first.stamp second.stamp)) [
      | inl below ↦
          inl (record {
            below = below;
            ancestor = established_chain setting laws object first second plain_first plain_second one other below;
          })
      | inr not_below ↦
          let below : is_below second.stamp first.stamp ≡ true =
          is_below-other first.stamp second.stamp not_below different in
          inr (record {
            below = below;
            ancestor = established_chain setting laws object second first plain_second plain_first other one below;
          })
    ]
