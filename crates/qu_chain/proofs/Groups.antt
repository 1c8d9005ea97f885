-- What is decided on one member of a group is decided on all.
use Rattle.std.proofs.Common.{◌≡◌, ℕ, suc, ◌<◌, ◌≤◌, true, false, refl, sym, ap, ◌∙◌, subst, arith, inl, inr, Option, None, Some}
use Rattle.std.proofs.lemmas.Bool.{false≢true, cases_Bool, and_from}
use Rattle.qu_base.specs.declared.party.ObjectId.{ObjectId}
use Rattle.qu_stamp.specs.declared.stamp.Stamp.{Stamp}
use Rattle.qu_stamp.specs.declared.candidate.Candidate.{Candidate}
use Rattle.qu_claims.specs.Setting.{Setting, Apart, acceptors, IsAccepted, IsEstablished, IsNew}
use Rattle.qu_chain.specs.Laws.{Laws}
use Rattle.qu_claims.specs.Decided.{IsDecided, IsDecidedBy}
use Rattle.qu_chain.specs.Joint.{HasCompanion, IsCopied, Joint}
use Rattle.qu_claims.specs.Groups.{HasDecided}
use Rattle.qu_chain.proofs.Counting.{count-more}
use Rattle.qu_chain.proofs.Ancestry.{Acceptor, acceptor, accepted_by, accepts, accepts-parts, accepted_by_attested, attested_by_established, accepted_by_decided, established-later, decided-later, some-later, one_candidate}
use Rattle.qu_chain.proofs.Parents.{First, RestsOn, rests, nobody_attests}
use Rattle.qu_chain.proofs.Deciding.{decided_plain}

-- on which of the group's objects the candidate copies what its base's group has
pub record Copy (setting : Setting) (end : ℕ) (object : ObjectId) (base candidate : Candidate) : Type 0 where
  pub time : ℕ
  pub within : time < end
  pub joined : (other : ObjectId) (companion : Candidate) → Apart object other
      → IsAccepted setting setting.last other companion
      → setting.member candidate other ≡ Some companion.stamp
      → setting.member base other ≡ Some companion.prior
  pub covered : (other : ObjectId) (stamp : Stamp) → Apart object other
      → setting.member base other ≡ Some stamp → setting.member candidate other ≡ None
      → HasDecided setting time other stamp

-- what an accepted candidate's group has on another object
pub record Companion (setting : Setting) (time : ℕ) (object : ObjectId) (candidate : Candidate) (other : ObjectId)
    (companion : Candidate) : Type 0 where
  pub accepted : IsAccepted setting time other companion
  pub back : setting.member companion object ≡ Some candidate.stamp
  pub plain_too : setting.plain companion ≡ setting.plain candidate
  pub act_too : setting.is_act companion ≡ setting.is_act candidate

module _ (setting : Setting) (laws : Laws setting) (all : Joint setting) where
  -- a replica's companion of a candidate, where another accepted one has its stamp
  its_companion : (time : ℕ) → time ≤ setting.last → (object : ObjectId) (replica : ℕ) (candidate : Candidate)
      (other : ObjectId) (companion : Candidate) → setting.good replica ≡ true → replica < setting.n
      → setting.accepted time object replica candidate ≡ true → Apart object other
      → IsAccepted setting setting.last other companion
      → setting.member candidate other ≡ Some companion.stamp
      → HasCompanion setting time object replica candidate other companion.stamp
      × (setting.accepted time other replica companion ≡ true)
  its_companion time bound object replica candidate other companion good within accepted apart known is_member =
      let it : HasCompanion setting time object replica candidate other companion.stamp =
      all.joint time object replica candidate other companion.stamp good within accepted apart is_member in
      let same : it.companion ≡ companion =
      one_candidate setting laws.lasting all.one time setting.last bound (omega arith) other it.companion companion
      (accepted_by setting time other it.companion
      (record { replica = replica; within = within; good = good; accepted = it.accepted_too })) known it.stamp_is in
      (it, subst (λ (one : Candidate). setting.accepted time other replica one ≡ true) same it.accepted_too)

  -- the accepted candidate that a group has on another object
  pub companion_of : (time : ℕ) → time ≤ setting.last → (object : ObjectId) (candidate : Candidate)
      (other : ObjectId) (stamp : Stamp) → IsAccepted setting time object candidate → Apart object other
      → setting.member candidate other ≡ Some stamp
      → (companion : Candidate) × (companion.stamp ≡ stamp) × Companion setting time object candidate other companion
  companion_of time bound object candidate other stamp accepted apart is_member =
      let by : Acceptor setting time object candidate = acceptor setting time object candidate accepted in
      let it : HasCompanion setting time object by.replica candidate other stamp =
      all.joint time object by.replica candidate other stamp by.good by.within by.accepted apart is_member in (
        it.companion,
        it.stamp_is,
        record {
          accepted = accepted_by setting time other it.companion
              (record { replica = by.replica; within = by.within; good = by.good; accepted = it.accepted_too });
          back = it.back;
          plain_too = it.plain_too;
          act_too = it.act_too;
        },
      )

  -- the same of a candidate that is known to be accepted
  pub companion_is : (time : ℕ) → time ≤ setting.last → (object : ObjectId) (candidate : Candidate)
      (other : ObjectId) (companion : Candidate) → IsAccepted setting time object candidate → Apart object other
      → IsAccepted setting setting.last other companion
      → setting.member candidate other ≡ Some companion.stamp
      → Companion setting time object candidate other companion
  companion_is time bound object candidate other companion accepted apart known is_member =
      let it : (found : Candidate) × (found.stamp ≡ companion.stamp)
      × Companion setting time object candidate other found =
      companion_of time bound object candidate other companion.stamp accepted apart is_member in
      subst (λ (one : Candidate). Companion setting time object candidate other one)
      (one_candidate setting laws.lasting all.one time setting.last bound (omega arith) other it.0 companion
      it.2.accepted known
      it.1) it.2

  copied_of : (time : ℕ) → time ≤ setting.last → (object : ObjectId) (base candidate : Candidate)
      → IsAccepted setting setting.last object base → candidate.prior ≡ base.stamp
      → (first : First setting time object candidate)
      → IsCopied setting first.time object first.replica candidate → Copy setting time object base candidate
  copied_of time bound object base candidate accepted prior first it =
      let within : first.time < time = first.within in
      let same : it.base ≡ base =
      one_candidate setting laws.lasting all.one first.time setting.last (omega arith) (omega arith) object it.base base
      (accepted_by_attested setting laws.lasting first.time object it.base it.attested) accepted
      (sym it.prior ∙ prior) in
      record {
        time = first.time;
        within = within;
        joined = λ other companion apart known is_member.
            subst (λ (one : Candidate). setting.member one other ≡ Some companion.prior) same
            (it.joined other companion apart is_member
            (its_companion (suc first.time) (omega arith) object first.replica candidate other companion
            first.new.good first.new.within first.new.after apart known is_member).1);
        covered = λ other stamp apart is_member none.
            it.covered other stamp apart
            (subst (λ (one : Candidate). setting.member one other ≡ Some stamp) (sym same) is_member) none;
      }

  -- a candidate without barrier that is no act copies the accepted one that it rests on
  pub copies_base : (time : ℕ) → time ≤ setting.last → (object : ObjectId) (base candidate : Candidate)
      → setting.plain candidate ≡ true → setting.is_act candidate ≡ false
      → IsAccepted setting setting.last object base → candidate.prior ≡ base.stamp
      → First setting time object candidate → Copy setting time object base candidate
  copies_base time bound object base candidate plain no_act accepted prior first =
      elim (all.copies first.time object first.replica candidate plain no_act first.new) [
        | inl attested ↦ absurd (nobody_attests setting laws first.time object candidate first.nobody attested)
        | inr it ↦ copied_of time bound object base candidate accepted prior first it
      ]

  -- what a quorum accepted, it accepted with the group
  established_joint : (time : ℕ) → time ≤ setting.last → (object : ObjectId) (candidate : Candidate)
      (other : ObjectId) (stamp : Stamp) → setting.plain candidate ≡ true
      → IsEstablished setting time object candidate → Apart object other
      → setting.member candidate other ≡ Some stamp → HasDecided setting time other stamp
  established_joint time bound object candidate other stamp plain established apart is_member =
      let accepted : IsAccepted setting time object candidate =
      accepted_by_attested setting laws.lasting time object candidate
      (attested_by_established setting laws.lasting time object candidate established) in
      let it : (found : Candidate) × (found.stamp ≡ stamp) × Companion setting time object candidate other found =
      companion_of time bound object candidate other stamp accepted apart is_member in
      let known : IsAccepted setting setting.last other it.0 =
      some-later setting laws.lasting time setting.last bound other it.0 it.2.accepted in
      let as_many : acceptors setting time object candidate ≤ acceptors setting time other it.0 =
      count-more setting.n (accepts setting time object candidate) (accepts setting time other it.0)
      (λ replica within both.
      let parts : (setting.good replica ≡ true) × (setting.accepted time object replica candidate ≡ true) =
      accepts-parts setting time object candidate replica both in
      and_from (setting.good replica) (setting.accepted time other replica it.0) parts.0
      (its_companion time bound object replica candidate other it.0 parts.0 within parts.1 apart known
      (is_member ∙ ap (λ (one : Stamp). Some one) (sym it.1))).1) in
      record {
        candidate = it.0;
        stamp_is = it.1;
        decided = IsDecided.established it.0 (it.2.plain_too ∙ plain) (omega arith);
      }

  -- a base is decided on all of its group where a decided copy of it is
  copy_joint : (time : ℕ) → time ≤ setting.last → (object : ObjectId) (base candidate : Candidate)
      (other : ObjectId) (stamp : Stamp)
      → ((it : Stamp) → setting.member candidate other ≡ Some it → HasDecided setting time other it)
      → IsAccepted setting time object base → Apart object other
      → setting.member base other ≡ Some stamp → Copy setting time object base candidate
      → HasDecided setting time other stamp
  copy_joint time bound object base candidate other stamp further accepted apart is_member it =
      by_member (setting.member candidate other) refl
    where
      joined_case : (companion : Stamp) → setting.member candidate other ≡ Some companion
          → HasDecided setting time other stamp
      joined_case companion is_companion =
          let upper : HasDecided setting time other companion = further companion is_companion in
          let known : IsAccepted setting setting.last other upper.candidate =
          some-later setting laws.lasting time setting.last bound other upper.candidate
          (accepted_by_decided setting laws.lasting time other upper.candidate upper.decided) in
          let prior_is : setting.member base other ≡ Some (upper.candidate).prior =
          it.joined other upper.candidate apart known
          (is_companion ∙ ap (λ (one : Stamp). Some one) (sym upper.stamp_is)) in
          let lower : (found : Candidate) × (found.stamp ≡ stamp) × Companion setting time object base other found =
          companion_of time bound object base other stamp accepted apart is_member in
          let same : (upper.candidate).prior ≡ stamp = cc in
          record {
            candidate = lower.0;
            stamp_is = lower.1;
            decided = IsDecided.prior lower.0 upper.candidate upper.decided (same ∙ sym lower.1) lower.2.accepted;
          }

      by_member : (found : Option Stamp) → setting.member candidate other ≡ found
          → HasDecided setting time other stamp
      by_member None none =
          let low : HasDecided setting it.time other stamp = it.covered other stamp apart is_member none in
          let within : it.time < time = it.within in
          record {
            candidate = low.candidate;
            stamp_is = low.stamp_is;
            decided = decided-later setting laws.lasting it.time time (omega arith) other low.candidate low.decided;
          }
      by_member (Some companion) is_companion = joined_case companion is_companion

  prior_joint : (time : ℕ) → time ≤ setting.last → (object : ObjectId) (base candidate : Candidate)
      (other : ObjectId) (stamp : Stamp)
      → ((it : Stamp) → setting.member candidate other ≡ Some it → HasDecided setting time other it)
      → IsAccepted setting time object base → Apart object other
      → setting.member base other ≡ Some stamp → setting.plain candidate ≡ true → candidate.prior ≡ base.stamp
      → RestsOn setting time object base candidate
      → HasDecided setting time other stamp
  prior_joint time bound object base candidate other stamp further accepted apart is_member plain prior it =
      elim (cases_Bool (setting.is_act candidate)) [
        | inl is_act ↦
            let within : it.first.time < time = it.first.within in
            established_joint time bound object base other stamp it.plain_base
            (established-later setting laws.lasting it.first.time time (omega arith) object base (it.settled is_act))
            apart
            is_member
        | inr no_act ↦
            copy_joint time bound object base candidate other stamp further accepted apart is_member
            (copies_base time bound object base candidate plain no_act
            (some-later setting laws.lasting time setting.last bound object base accepted) prior it.first)
      ]

  -- where a candidate is decided, so is what its group has on each other object
  pub decided_joint : (time : ℕ) → time ≤ setting.last → (object : ObjectId) (candidate : Candidate)
      (other : ObjectId) (stamp : Stamp) → IsDecided setting time object candidate → Apart object other
      → setting.member candidate other ≡ Some stamp → HasDecided setting time other stamp
  decided_joint time bound object candidate other stamp (IsDecided.established same plain established) apart is_member =
      established_joint time bound object candidate other stamp plain established apart is_member
  decided_joint time bound object candidate other stamp (IsDecided.prior same child decided prior accepted) apart
      is_member =
      elim (rests setting laws all time bound object candidate child
      (accepted_by_decided setting laws.lasting time object child decided)
      (decided_plain setting laws all time bound object child decided)
      (some-later setting laws.lasting time setting.last bound object candidate accepted) prior) [
        | inl both ↦
            decided_joint time bound object child other stamp decided apart
            (subst (λ (one : Candidate). setting.member one other ≡ Some stamp) both.0 is_member)
        | inr it ↦
            prior_joint time bound object candidate child other stamp
            (λ companion is_companion. decided_joint time bound object child other companion decided apart is_companion)
            accepted apart is_member (decided_plain setting laws all time bound object child decided) prior it
      ]

  -- and where a companion is decided, so is the candidate
  pub decided_back : (time : ℕ) → time ≤ setting.last → (object : ObjectId) (candidate : Candidate)
      (other : ObjectId) (companion : Candidate) → IsAccepted setting setting.last object candidate
      → Apart object other → setting.member candidate other ≡ Some companion.stamp
      → IsDecided setting time other companion → IsDecided setting time object candidate
  decided_back time bound object candidate other companion accepted apart is_member decided =
      let known : IsAccepted setting setting.last other companion =
      some-later setting laws.lasting time setting.last bound other companion
      (accepted_by_decided setting laws.lasting time other companion decided) in
      let it : Companion setting setting.last object candidate other companion =
      companion_is setting.last (omega arith) object candidate other companion accepted apart known is_member in
      let found : HasDecided setting time object candidate.stamp =
      decided_joint time bound other companion object candidate.stamp decided (λ same. apart (sym same)) it.back in
      subst (IsDecided setting time object)
      (one_candidate setting laws.lasting all.one time setting.last bound (omega arith) object found.candidate candidate
      (accepted_by_decided setting laws.lasting time object found.candidate found.decided) accepted found.stamp_is)
      found.decided

  -- a step that decides a candidate decides what its group has on each other object
  pub whole_turn : (time : ℕ) (object : ObjectId) (candidate : Candidate) (other : ObjectId) (stamp : Stamp)
      → IsDecidedBy setting time object candidate → Apart object other
      → setting.member candidate other ≡ Some stamp
      → (companion : Candidate) × (companion.stamp ≡ stamp) × IsDecidedBy setting time other companion
  whole_turn time object candidate other stamp turn apart is_member =
      let within : time < setting.last = turn.within in
      let it : HasDecided setting (suc time) other stamp =
      decided_joint (suc time) (omega arith) object candidate other stamp turn.after apart is_member in
      let accepted : IsAccepted setting setting.last object candidate =
      some-later setting laws.lasting (suc time) setting.last (omega arith) object candidate
      (accepted_by_decided setting laws.lasting (suc time) object candidate turn.after) in (
        it.candidate,
        it.stamp_is,
        record {
          within = within;
          after = it.decided;
          before = λ already.
              turn.before (decided_back time (omega arith) object candidate other it.candidate accepted apart
              (is_member ∙ ap (λ (one : Stamp). Some one) (sym it.stamp_is)) already);
        },
      )

  -- what a candidate's group has on another object is accepted first at the same step
  new_companion : (object : ObjectId) (candidate : Candidate) (first : First setting setting.last object candidate)
      → IsAccepted setting setting.last object candidate → (other : ObjectId) (companion : Candidate)
      → Apart object other → IsAccepted setting setting.last other companion
      → setting.member candidate other ≡ Some companion.stamp
      → IsNew setting first.time other first.replica companion
  new_companion object candidate first known other companion apart also is_member =
      let new : IsNew setting first.time object first.replica candidate = first.new in
      let step : first.time < setting.last = new.step in
      let it : HasCompanion setting (suc first.time) object first.replica candidate other companion.stamp
      × (setting.accepted (suc first.time) other first.replica companion ≡ true) =
      its_companion (suc first.time) (omega arith) object first.replica candidate other companion new.good new.within
      new.after apart also is_member in
      let back : setting.member companion object ≡ Some candidate.stamp =
      (companion_is setting.last (omega arith) object candidate other companion known apart also is_member).back in
      record {
        step = step;
        within = new.within;
        good = new.good;
        after = it.1;
        before = elim (cases_Bool (setting.accepted first.time other first.replica companion)) [
          | inl already ↦ absurd (false≢true (sym new.before ∙
              (its_companion first.time (omega arith) other first.replica companion object candidate new.good
              new.within already (λ same. apart (sym same)) known back).1))
          | inr not_yet ↦ not_yet
        ];
      }

  -- the members of a group have one group
  pub members_agree : (object : ObjectId) (candidate : Candidate) → First setting setting.last object candidate
      → IsAccepted setting setting.last object candidate → (other third : ObjectId) (companion last : Candidate)
      → Apart object other → Apart object third → Apart other third
      → IsAccepted setting setting.last other companion → IsAccepted setting setting.last third last
      → setting.member candidate other ≡ Some companion.stamp → setting.member candidate third ≡ Some last.stamp
      → setting.member companion third ≡ Some last.stamp
  members_agree object candidate first known other third companion last from_other from_third apart also too
      is_member is_last =
      all.together first.time other third first.replica first.replica companion last apart
      (new_companion object candidate first known other companion from_other also is_member)
      (new_companion object candidate first known third last from_third too is_last)
