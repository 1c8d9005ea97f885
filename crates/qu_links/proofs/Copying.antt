-- A copy passes over nothing established, and what it leaves out is decided.
use Rattle.std.proofs.Common.{◌≡◌, ℕ, suc, ◌<◌, ◌≤◌, true, false, sym, ap, ◌∙◌, subst, arith, inl, inr, Option, None, Some}
use Rattle.std.proofs.lemmas.Bool.{false≢true, and_from}
use Rattle.qu_base.specs.declared.party.ObjectId.{ObjectId}
use Rattle.qu_stamp.specs.declared.stamp.Stamp.{Stamp}
use Rattle.qu_stamp.specs.declared.candidate.Candidate.{Candidate}
use Rattle.qu_stamp.specs.Stamp.{is_below}
use Rattle.qu_claims.specs.Setting.{Setting, Apart, acceptors, IsAccepted, IsEstablished, IsAttested, IsAncestor, ChainHolds, IsNew}
use Rattle.qu_chain.specs.Laws.{IsLinked}
use Rattle.qu_claims.specs.Decided.{IsDecided}
use Rattle.qu_claims.specs.Groups.{HasDecided}
use Rattle.qu_chain.specs.Joint.{HasCompanion, IsCopied}
use Rattle.qu_chain.proofs.Counting.{count-more}
use Rattle.qu_chain.proofs.Ancestry.{Acceptor, acceptor, accepted_by, accepts, accepts-parts, accepted-later, accepted_by_attested, attested_by_established, ancestor-later, one_candidate}
use Rattle.qu_claims.specs.Links.{LinksAre}
use Rattle.qu_chain.specs.Early.{Early}
use Rattle.qu_links.specs.Copying.{View, IsTrueView, CopyStep}
use Rattle.qu_links.specs.Listing.{IsListed}
use Rattle.qu_links.proofs.Descending.{decided_along}

-- what `joint` of qu_chain says
abbrev pub IsJoint : Setting → Type 0
IsJoint setting =
    (time : ℕ) (object : ObjectId) (replica : ℕ) (candidate : Candidate) (other : ObjectId) (stamp : Stamp)
    → setting.good replica ≡ true → replica < setting.n
    → setting.accepted time object replica candidate ≡ true
    → Apart object other → setting.member candidate other ≡ Some stamp
    → HasCompanion setting time object replica candidate other stamp

-- the companion of an established candidate, established too
pub record Beside (setting : Setting) (object : ObjectId) (candidate : Candidate) (other : ObjectId) (stamp : Stamp)
    : Type 0 where
  pub companion : Candidate
  pub stamp_is : companion.stamp ≡ stamp
  pub plain_too : setting.plain companion ≡ setting.plain candidate
  pub back : setting.member companion object ≡ Some candidate.stamp
  pub accepted : IsAccepted setting setting.last other companion
  pub established : IsEstablished setting setting.last other companion

same_some : {X : Type 0} (first second : X) → Some first ≡ Some second → first ≡ second
same_some first second same = grind (arith, same)

module _ (setting : Setting) where
  -- a link of an established version names what is decided: what `covered` of qu_chain asks
  pub covered_by : (time : ℕ) (object other : ObjectId) (version : Candidate) (link : ObjectId → Option Stamp)
      (stamp : Stamp) → setting.plain version ≡ true → IsEstablished setting time other version
      → LinksAre setting time other version link → link object ≡ Some stamp
      → HasDecided setting time other stamp
  covered_by time object other version link stamp plain established links is_link =
      decided_along setting time other stamp version (IsDecided.established version plain established)
      (links.named object stamp is_link)

module _ (setting : Setting) (early : Early setting) (joint : IsJoint setting) where
  -- what is established on one object is on each other object of its group
  pub beside : (object : ObjectId) (candidate : Candidate) (other : ObjectId) (stamp : Stamp)
      → IsEstablished setting setting.last object candidate → Apart object other
      → setting.member candidate other ≡ Some stamp → Beside setting object candidate other stamp
  beside object candidate other stamp established apart is_member =
      let by : Acceptor setting setting.last object candidate =
      acceptor setting setting.last object candidate
      (accepted_by_attested setting early.lasting setting.last object candidate
      (attested_by_established setting early.lasting setting.last object candidate established)) in
      let it : HasCompanion setting setting.last object by.replica candidate other stamp =
      joint setting.last object by.replica candidate other stamp by.good by.within by.accepted apart is_member in
      let known : IsAccepted setting setting.last other it.companion =
      accepted_by setting setting.last other it.companion
      (record { replica = by.replica; within = by.within; good = by.good; accepted = it.accepted_too }) in
      let as_many : acceptors setting setting.last object candidate
      ≤ acceptors setting setting.last other it.companion =
      count-more setting.n (accepts setting setting.last object candidate)
      (accepts setting setting.last other it.companion)
      (λ replica within both.
      let parts : (setting.good replica ≡ true) × (setting.accepted setting.last object replica candidate ≡ true) =
      accepts-parts setting setting.last object candidate replica both in
      let its : HasCompanion setting setting.last object replica candidate other stamp =
      joint setting.last object replica candidate other stamp parts.0 within parts.1 apart is_member in
      and_from (setting.good replica) (setting.accepted setting.last other replica it.companion) parts.0
      (subst (λ (one : Candidate). setting.accepted setting.last other replica one ≡ true)
      (one_candidate setting early.lasting early.one setting.last setting.last (omega arith) (omega arith) other
      its.companion it.companion
      (accepted_by setting setting.last other its.companion
      (record { replica = replica; within = within; good = parts.0; accepted = its.accepted_too })) known
      (its.stamp_is ∙ sym it.stamp_is)) its.accepted_too)) in
      record {
        companion = it.companion;
        stamp_is = it.stamp_is;
        plain_too = it.plain_too;
        back = it.back;
        accepted = known;
        established = omega arith;
      }

  -- an established candidate is not skipped by an attested version whose links are kept
  pub not_skipped : (time : ℕ) → time ≤ setting.last → ChainHolds setting time
      → (object : ObjectId) (candidate : Candidate) (other : ObjectId) (stamp : Stamp) (version : Candidate)
      (link : ObjectId → Option Stamp)
      → setting.plain candidate ≡ true → IsEstablished setting setting.last object candidate
      → Apart object other → setting.member candidate other ≡ Some stamp
      → setting.plain version ≡ true → IsAttested setting time other version
      → LinksAre setting time other version link
      → is_below stamp version.stamp ≡ true
      → ((own : Stamp) → link object ≡ Some own → is_below own stamp ≡ true)
      → ⊥
  not_skipped time bound past object candidate other stamp version link plain established apart is_member
      plain_version attested links above passed =
      let it : Beside setting object candidate other stamp =
      beside object candidate other stamp established apart is_member in
      let lower : IsAncestor setting time other it.companion version =
      past other it.companion version (it.plain_too ∙ plain) plain_version it.established attested
      (ap (λ (low : Stamp). is_below low version.stamp) it.stamp_is ∙ above) in
      let kept : (own : Stamp) × (link object ≡ Some own) × (is_below own (it.companion).stamp ≡ false) =
      links.kept it.companion object candidate.stamp it.accepted
      (inr (ancestor-later setting early.lasting time setting.last bound other it.companion version lower))
      (λ same. apart (sym same)) it.back in
      false≢true (sym kept.2 ∙ ap (is_below kept.0) it.stamp_is ∙ passed kept.0 kept.1)

  module _ (time replica : ℕ) (bound : time ≤ setting.last) (view : View) (true_view : IsTrueView setting time view)
      (step : CopyStep setting time replica view) where
    -- what is chosen is not below an established candidate that the replica had
    pub chosen_not_below : ChainHolds setting time → (object : ObjectId) → IsListed step.on object → (other : Candidate)
        → setting.plain other ≡ true → IsEstablished setting setting.last object other
        → setting.accepted time object replica other ≡ true
        → is_below (step.chosen object).stamp other.stamp ≡ false
    chosen_not_below past object on other plain established accepted =
        let repairable : view.repairable object other ≡ true =
        step.shown object on other plain established accepted in
        elim (step.greatest object on other plain repairable) [
          | inl not_below ↦ not_below
          | inr skip ↦
              absurd (not_skipped time bound past object other skip.other skip.stamp skip.version
              (view.link skip.other) plain established skip.apart skip.is_member
              (true_view.plain skip.other skip.version skip.is_method)
              (attested_by_established setting early.lasting time skip.other skip.version
              (true_view.established skip.other skip.version skip.is_method))
              (true_view.linked skip.other skip.version skip.is_method
              (step.read object on other repairable skip.other skip.stamp skip.apart skip.is_member
              skip.version skip.is_method))
              skip.above skip.passed)
        ]

    -- what `linked` of qu_chain asks of a copy, on each object that it copies
    pub copy_linked : ChainHolds setting time → (object : ObjectId) → IsListed step.on object
        → IsLinked setting time object replica (step.made object)
    copy_linked past object on =
        record {
          base = step.chosen object;
          plain_base = step.plain object on;
          prior = step.prior object on;
          below = step.below object on;
          attested = true_view.attested object (step.chosen object) (step.repairable object on);
          settled = λ is_act. absurd (false≢true (sym (step.no_act object on) ∙ is_act));
          not_below = chosen_not_below past object on;
        }

    -- the accepted candidate of the stamp of what was made is that
    is_made : (object : ObjectId) → IsListed step.on object → (companion : Candidate)
        → setting.accepted (suc time) object replica companion ≡ true → (step.made object).stamp ≡ companion.stamp
        → companion ≡ step.made object
    is_made object on companion accepted same =
        let new : IsNew setting time object replica (step.made object) = step.new object on in
        let within : time < setting.last = new.step in
        early.one object replica replica companion (step.made object) new.good new.good new.within new.within
        (accepted-later setting early.lasting (suc time) setting.last (omega arith) object replica companion accepted)
        (accepted-later setting early.lasting (suc time) setting.last (omega arith) object replica (step.made object)
        new.after)
        (sym same)

    -- what `copies` of qu_chain asks of a copy, on each object that it copies
    pub copy_copied : (object : ObjectId) → IsListed step.on object
        → IsCopied setting time object replica (step.made object)
    copy_copied object on =
        record {
          base = step.chosen object;
          prior = step.prior object on;
          attested = true_view.attested object (step.chosen object) (step.repairable object on);
          joined = λ other companion apart is_member accepted.
              let also : IsListed step.on other = step.group_only object other companion.stamp on apart is_member in
              let same : companion ≡ step.made other =
              is_made other also companion accepted
              (same_some (step.made other).stamp companion.stamp
              (sym (step.group object other on also apart) ∙ is_member)) in
              step.joined object other on also apart
              ∙ ap (λ (it : Stamp). Some it) (sym (ap (λ (it : Candidate). it.prior) same ∙ step.prior other also));
          covered = λ other stamp apart is_member none. elim (step.covered object other stamp on apart is_member) [
            | inl also ↦ absurd (none_some (step.made other).stamp (sym none ∙ step.group object other on also apart))
            | inr it ↦
                covered_by setting time step.target other it.0 (view.link other) stamp
                (true_view.plain other it.0 it.1) (true_view.established other it.0 it.1)
                (true_view.linked other it.0 it.1 it.2) it.3
          ];
        }
      where
        none_some : (stamp : Stamp) → None ≡ Some stamp → ⊥
        none_some stamp same = grind (arith, same)
