-- What a step newly decides lies at or under what it gives, and each object has one top at each time.
use Rattle.std.proofs.Common.{◌≡◌, ◌⊎◌, ℕ, zero, suc, ◌+◌, ◌<◌, ◌≤◌, true, false, refl, sym, ap, ◌∙◌, subst, arith, inl, inr}
use Rattle.std.specs.Prelude.{nat_le}
use Rattle.std.proofs.lemmas.Bool.{cases_Bool, false≢true, leb-true, leb-false}
use Rattle.qu_base.specs.declared.party.ObjectId.{ObjectId}
use Rattle.qu_stamp.specs.declared.candidate.Candidate.{Candidate}
use Rattle.qu_stamp.specs.Stamp.{is_below, same_stamp}
use Rattle.qu_stamp.specs.Candidate.{opening}
use Rattle.qu_stamp.proofs.Order.{is_below-self, is_below-chain, is_below-not_chain, is_below-other, equal_by_same_stamp}
use Rattle.qu_claims.specs.Setting.{Setting, acceptors, IsEstablished, IsAncestor, IsNew}
use Rattle.qu_chain.specs.Laws.{Laws, Given}
use Rattle.qu_claims.specs.Decided.{IsDecided, IsTop}
use Rattle.qu_chain.specs.Joint.{Joint}
use Rattle.qu_chain.proofs.Ancestry.{Acceptor, acceptor, accepted_by_decided, established-later, opening_established, decided-later, some-later, ancestor-chain, one_candidate}
use Rattle.qu_chain.proofs.Parents.{Step, grown, ancestor-not_above}
use Rattle.qu_chain.proofs.Deciding.{IsSound, decided_sound, decided_plain, decided_prior, decided_down, OnPath, decided_path}

-- the step establishes a candidate that this one is, or is an ancestor of
pub record UnderNew (setting : Setting) (time : ℕ) (object : ObjectId) (candidate : Candidate) : Type 0 where
  pub given : Candidate
  pub replica : ℕ
  pub new : IsNew setting time object replica given
  pub plain : setting.plain given ≡ true
  pub established : IsEstablished setting (suc time) object given
  pub reaches : (candidate ≡ given) ⊎ IsAncestor setting (suc time) object candidate given

module _ (setting : Setting) (laws : Laws setting) (all : Joint setting) where
  new_or_old : (time : ℕ) → time < setting.last → (object : ObjectId) (candidate : Candidate)
      → setting.plain candidate ≡ true → IsEstablished setting (suc time) object candidate
      → IsDecided setting time object candidate ⊎ UnderNew setting time object candidate
  new_or_old time bound object candidate plain established =
      elim (cases_Bool (nat_le setting.quorum (acceptors setting time object candidate + setting.b))) [
        | inl already ↦
            inl (IsDecided.established candidate plain
            (leb-true setting.quorum (acceptors setting time object candidate + setting.b) already))
        | inr not_yet ↦
            let few : acceptors setting time object candidate + setting.b < setting.quorum =
            leb-false setting.quorum (acceptors setting time object candidate + setting.b) not_yet in
            let step : Step setting time object candidate =
            grown setting laws time bound object candidate (omega arith) in
            inr (record {
              given = candidate;
              replica = step.replica;
              new = step.new;
              plain = plain;
              established = established;
              reaches = inl refl;
            })
      ]

  reach_base : (time : ℕ) (object : ObjectId) (candidate child given : Candidate) → child.prior ≡ candidate.stamp
      → IsSound setting (suc time) object child
      → (child ≡ given) ⊎ IsAncestor setting (suc time) object child given
      → IsAncestor setting (suc time) object candidate given
  reach_base time object candidate child given prior sound (inl same) =
      subst (IsAncestor setting (suc time) object candidate) same (IsAncestor.direct child prior)
  reach_base time object candidate child given prior sound (inr ancestor) =
      ancestor-chain setting (suc time) object candidate child given sound.plain sound.attested
      (IsAncestor.direct child prior) ancestor

  -- what is decided after a step was decided before, or lies at or under what the step establishes
  pub newly : (time : ℕ) → time < setting.last → (object : ObjectId) (candidate : Candidate)
      → IsDecided setting (suc time) object candidate
      → IsDecided setting time object candidate ⊎ UnderNew setting time object candidate
  newly time bound object candidate (IsDecided.established same plain established) =
      new_or_old time bound object candidate plain established
  newly time bound object candidate (IsDecided.prior same child decided prior accepted) =
      elim (newly time bound object child decided) [
        | inl before ↦
            inl (decided_prior setting laws all time (omega arith) object candidate child
            (some-later setting laws.lasting (suc time) setting.last (omega arith) object candidate accepted) prior
            before)
        | inr under ↦
            inr (record {
              given = under.given;
              replica = under.replica;
              new = under.new;
              plain = under.plain;
              established = under.established;
              reaches = inr (reach_base time object candidate child under.given prior
                  (decided_sound setting laws all (suc time) (omega arith) object child decided) under.reaches);
            })
      ]

  -- one candidate is given at a step on an object
  pub one_given : (time : ℕ) (object : ObjectId) (replica other_replica : ℕ) (candidate other : Candidate)
      → IsNew setting time object replica candidate → IsNew setting time object other_replica other
      → candidate ≡ other
  one_given time object replica other_replica candidate other new other_new =
      let same : replica ≡ other_replica =
      laws.one_mover time object object replica other_replica candidate other new other_new in
      laws.alone time object replica candidate other new
      (subst (λ (by : ℕ). IsNew setting time object by other) (sym same) other_new)

  -- what lies under the given candidate is not above it
  not_above_given : (time : ℕ) → time < setting.last → (object : ObjectId) (other : Candidate)
      → (under : UnderNew setting time object other) → is_below under.given.stamp other.stamp ≡ false
  not_above_given time bound object other under =
      elim under.reaches [
        | inl same ↦
            ap (λ (it : Candidate). is_below under.given.stamp it.stamp) same ∙ is_below-self under.given.stamp
        | inr ancestor ↦
            ancestor-not_above setting laws (suc time) (omega arith) object other under.given
            (accepted_by_decided setting laws.lasting (suc time) object under.given
            (IsDecided.established under.given under.plain under.established)) under.plain ancestor
      ]

  -- ---- the top after a step

  -- the old top, where what the step gives is not above it
  old_top : (time : ℕ) → time < setting.last → (object : ObjectId) (old : Candidate)
      → IsTop setting time object old
      → ((other : Candidate) → (under : UnderNew setting time object other)
      → is_below old.stamp under.given.stamp ≡ false)
      → IsTop setting (suc time) object old
  old_top time bound object old top not_over = record {
    plain_top = top.plain_top;
    established = established-later setting laws.lasting time (suc time) (omega arith) object old top.established;
    nothing_above = λ other decided.
        elim (newly time bound object other decided) [
          | inl before ↦ top.nothing_above other before
          | inr under ↦
              is_below-not_chain old.stamp under.given.stamp other.stamp (not_over other under)
              (not_above_given time bound object other under)
        ];
  }

  -- what the step gives, where it is above
  new_top : (time : ℕ) → time < setting.last → (object : ObjectId) (old given : Candidate) (replica : ℕ)
      → IsTop setting time object old → IsNew setting time object replica given
      → setting.plain given ≡ true → IsEstablished setting (suc time) object given
      → is_below old.stamp given.stamp ≡ true
      → IsTop setting (suc time) object given
  new_top time bound object old given replica top new plain established below = record {
    plain_top = plain;
    established = established;
    nothing_above = λ other decided.
        elim (newly time bound object other decided) [
          | inl before ↦ not_over_old other before
          | inr under ↦
              ap (λ (it : Candidate). is_below it.stamp other.stamp)
              (one_given time object replica under.replica given under.given new under.new)
              ∙ not_above_given time bound object other under
        ];
  }
    where
      not_over_old : (other : Candidate) → IsDecided setting time object other
          → is_below given.stamp other.stamp ≡ false
      not_over_old other before =
          elim (cases_Bool (is_below given.stamp other.stamp)) [
            | inl above ↦
                absurd (false≢true (sym (top.nothing_above other before)
                ∙ is_below-chain old.stamp given.stamp other.stamp below above))
            | inr not_above ↦ not_above
          ]

  -- the given candidate is the one of every candidate under it
  given_is : (time : ℕ) (object : ObjectId) (given other : Candidate) (replica : ℕ)
      → IsNew setting time object replica given → (under : UnderNew setting time object other) → under.given ≡ given
  given_is time object given other replica new under =
      one_given time object under.replica replica under.given given under.new new

  -- the top, where the step gives this candidate
  top_given : (time : ℕ) → time < setting.last → (object : ObjectId) (old : Candidate)
      → IsTop setting time object old → (it : Given setting time object)
      → (candidate : Candidate) × IsTop setting (suc time) object candidate
  top_given time bound object old top it =
      elim (cases_Bool (setting.plain it.candidate)) [
        | inr barrier ↦ (
          old,
          old_top time bound object old top (λ other under.
              absurd (false≢true (sym barrier ∙ subst (λ (one : Candidate). setting.plain one ≡ true)
              (given_is time object it.candidate other it.replica it.new under) under.plain))),
        )
        | inl plain ↦
            elim (cases_Bool (is_below old.stamp it.candidate.stamp)) [
              | inr not_below ↦ (
                old,
                old_top time bound object old top (λ other under.
                    ap (λ (one : Candidate). is_below old.stamp one.stamp)
                    (given_is time object it.candidate other it.replica it.new under) ∙ not_below),
              )
              | inl below ↦
                  elim (cases_Bool (nat_le setting.quorum
                  (acceptors setting (suc time) object it.candidate + setting.b))) [
                    | inl enough ↦ (
                      it.candidate,
                      new_top time bound object old it.candidate it.replica top it.new plain
                          (leb-true setting.quorum (acceptors setting (suc time) object it.candidate + setting.b)
                          enough) below,
                    )
                    | inr too_few ↦
                        let few : acceptors setting (suc time) object it.candidate + setting.b < setting.quorum =
                        leb-false setting.quorum (acceptors setting (suc time) object it.candidate + setting.b)
                        too_few in (
                          old,
                          old_top time bound object old top (λ other under.
                              absurd (not_established (acceptors setting (suc time) object it.candidate + setting.b) few
                              (subst (IsEstablished setting (suc time) object)
                              (given_is time object it.candidate other it.replica it.new under) under.established))),
                        )
                  ]
            ]
      ]
    where
      not_established : (number : ℕ) → number < setting.quorum → setting.quorum ≤ number → ⊥
      not_established number few enough = omega arith

  top_at_first : (object : ObjectId) → setting.known object ≡ true → IsTop setting 0 object opening
  top_at_first object known = record {
    plain_top = laws.opens;
    established = opening_established setting laws 0 object known;
    nothing_above = λ other decided.
        let it : Acceptor setting 0 object other =
        acceptor setting 0 object other (accepted_by_decided setting laws.lasting 0 object other decided) in
        ap (λ (one : Candidate). is_below opening.stamp one.stamp)
        (laws.start object it.replica other it.good it.within it.accepted) ∙ is_below-self opening.stamp;
  }

  -- at each time each object has a top
  pub top : (time : ℕ) → time ≤ setting.last → (object : ObjectId) → setting.known object ≡ true
      → (candidate : Candidate) × IsTop setting time object candidate
  top zero bound object known = (opening, top_at_first object known)
  top (suc time) bound object known =
      let before : (candidate : Candidate) × IsTop setting time object candidate =
      top time (omega arith) object known in
      elim (laws.moves time object (omega arith)) [
        | inl it ↦ top_given time (omega arith) object before.0 before.1 it
        | inr none ↦ (
          before.0,
          old_top time (omega arith) object before.0 before.1 (λ other under.
              absurd (none under.replica under.given under.new)),
        )
      ]

  -- the top is decided
  pub top_decided : (time : ℕ) (object : ObjectId) (candidate : Candidate)
      → IsTop setting time object candidate → IsDecided setting time object candidate
  top_decided time object candidate it = IsDecided.established candidate it.plain_top it.established

  -- decided candidates of which neither is below the other are one
  pub level : (early late : ℕ) → early ≤ setting.last → late ≤ setting.last
      → (object : ObjectId) (candidate other : Candidate)
      → IsDecided setting early object candidate → IsDecided setting late object other
      → is_below candidate.stamp other.stamp ≡ false → is_below other.stamp candidate.stamp ≡ false
      → candidate ≡ other
  level early late bound other_bound object candidate other decided other_decided not_below not_above =
      elim (cases_Bool (same_stamp candidate.stamp other.stamp)) [
        | inl same ↦
            one_candidate setting laws.lasting all.one early late bound other_bound object candidate other
            (accepted_by_decided setting laws.lasting early object candidate decided)
            (accepted_by_decided setting laws.lasting late object other other_decided)
            (equal_by_same_stamp candidate.stamp other.stamp same)
        | inr different ↦
            absurd (false≢true (sym not_above ∙ is_below-other candidate.stamp other.stamp not_below different))
      ]

  -- and one only
  pub one_top : (time : ℕ) → time ≤ setting.last → (object : ObjectId) (candidate other : Candidate)
      → IsTop setting time object candidate → IsTop setting time object other → candidate ≡ other
  one_top time bound object candidate other it its =
      level time time bound bound object candidate other (top_decided time object candidate it)
      (top_decided time object other its) (it.nothing_above other (top_decided time object other its))
      (its.nothing_above candidate (top_decided time object candidate it))

  -- what is ever decided and not above the top is decided by then
  pub under_top : (time : ℕ) → time ≤ setting.last → (object : ObjectId) (candidate other : Candidate)
      → IsTop setting time object candidate → IsDecided setting setting.last object other
      → is_below candidate.stamp other.stamp ≡ false → IsDecided setting time object other
  under_top time bound object candidate other it decided not_above =
      let late : IsDecided setting setting.last object candidate =
      decided-later setting laws.lasting time setting.last bound object candidate
      (top_decided time object candidate it) in
      elim (decided_path setting laws all object candidate other late decided) [
        | OnPath.is_same same ↦ subst (IsDecided setting time object) same (top_decided time object candidate it)
        | OnPath.is_above ancestor ↦
            decided_down setting laws all time bound object other candidate
            (accepted_by_decided setting laws.lasting setting.last object other decided) ancestor
            (top_decided time object candidate it)
        | OnPath.is_under ancestor ↦
            subst (IsDecided setting time object)
            (level time setting.last bound (omega arith) object candidate other
            (top_decided time object candidate it) decided not_above
            (ancestor-not_above setting laws setting.last (omega arith) object candidate other
            (accepted_by_decided setting laws.lasting setting.last object other decided)
            (decided_plain setting laws all setting.last (omega arith) object other decided) ancestor))
            (top_decided time object candidate it)
      ]
