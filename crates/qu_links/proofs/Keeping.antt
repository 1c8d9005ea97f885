-- An act or a copy keeps what links say.
use Rattle.std.proofs.Common.{◌≡◌, ◌⊎◌, ℕ, ◌≤◌, false, refl, sym, ap, ◌∙◌, subst, arith, inl, inr, Option, None, Some}
use Rattle.std.proofs.lemmas.Option.{none-some}
use Rattle.qu_base.specs.declared.party.ObjectId.{ObjectId}
use Rattle.qu_stamp.specs.declared.stamp.Stamp.{Stamp}
use Rattle.qu_stamp.specs.declared.candidate.Candidate.{Candidate}
use Rattle.qu_stamp.specs.Stamp.{is_below}
use Rattle.qu_stamp.specs.Candidate.{opening}
use Rattle.qu_stamp.proofs.Order.{is_below-self, is_below-not_back, is_below-not_chain}
use Rattle.qu_claims.specs.Setting.{Setting, Apart, IsAccepted, IsAncestor}
use Rattle.qu_claims.specs.Links.{Descends, LinksAre}
use Rattle.qu_chain.specs.Early.{Early}
use Rattle.qu_links.specs.Over.{LinksOver, RestsAt}
use Rattle.qu_chain.proofs.Ancestry.{some-later, accepted_by_attested, one_candidate}
use Rattle.qu_links.proofs.Descending.{descends-later}

module _ (setting : Setting) (early : Early setting) where
  -- what is under the opening candidate is that candidate
  under_opening : (object : ObjectId) (low candidate : Candidate)
      → IsAccepted setting setting.last object opening → IsAccepted setting setting.last object low
      → candidate ≡ opening → IsAncestor setting setting.last object low candidate → low ≡ opening
  under_opening object low candidate begun accepted is_opening (IsAncestor.direct same prior) =
      one_candidate setting early.lasting early.one setting.last setting.last (omega arith) (omega arith) object low
      opening accepted begun (sym prior ∙ ap (λ (it : Candidate). it.prior) is_opening)
  under_opening object low candidate begun accepted is_opening
      (IsAncestor.through between same prior plain attested ancestor) =
      under_opening object low between begun accepted
      (one_candidate setting early.lasting early.one setting.last setting.last (omega arith) (omega arith)
      object between
      opening (accepted_by_attested setting early.lasting setting.last object between attested) begun
      (sym prior ∙ ap (λ (it : Candidate). it.prior) is_opening))
      ancestor

  no_link : (link : ObjectId → Option Stamp) → ((other : ObjectId) → link other ≡ None)
      → (other : ObjectId) (stamp : Stamp) → link other ≡ Some stamp → ⊥
  no_link link empty other stamp same = none-some stamp (sym (empty other) ∙ same)

  no_group : (low : Candidate) → low ≡ opening → (other : ObjectId) (stamp : Stamp)
      → setting.member low other ≡ Some stamp → ⊥
  no_group low same other stamp is_member =
      none-some stamp (sym (early.alone_at_first other)
      ∙ ap (λ (it : Candidate). setting.member it other) (sym same) ∙ is_member)

  -- the opening version has no links
  pub links-opening : (time : ℕ) (object : ObjectId) (link : ObjectId → Option Stamp)
      → IsAccepted setting setting.last object opening → ((other : ObjectId) → link other ≡ None)
      → LinksAre setting time object opening link
  links-opening time object link begun empty =
      record {
        named = λ other stamp is_link. absurd (no_link link empty other stamp is_link);
        kept = λ low other stamp accepted reaches apart is_member. absurd (no_group low
            (elim reaches [
              | inl same ↦ same
              | inr ancestor ↦ under_opening object low opening begun accepted refl ancestor
            ]) other stamp is_member);
        under = λ low accepted ancestor.
            ap (λ (it : Candidate). is_below opening.stamp it.stamp)
            (under_opening object low opening begun accepted refl ancestor) ∙ is_below-self opening.stamp;
      }

  -- what is under a candidate is its base, or under it
  by_base : (object : ObjectId) (low base candidate : Candidate)
      → IsAccepted setting setting.last object base → IsAccepted setting setting.last object low
      → candidate.prior ≡ base.stamp → IsAncestor setting setting.last object low candidate
      → (low ≡ base) ⊎ IsAncestor setting setting.last object low base
  by_base object low base candidate based accepted prior (IsAncestor.direct same low_prior) =
      inl (one_candidate setting early.lasting early.one setting.last setting.last (omega arith) (omega arith)
      object low
      base accepted based (sym low_prior ∙ prior))
  by_base object low base candidate based accepted prior
      (IsAncestor.through between same its_prior plain attested ancestor) =
      inr (subst (IsAncestor setting setting.last object low)
      (one_candidate setting early.lasting early.one setting.last setting.last (omega arith) (omega arith)
      object between
      base (accepted_by_attested setting early.lasting setting.last object between attested) based
      (sym its_prior ∙ prior))
      ancestor)

  module _ (time : ℕ) (bound : time ≤ setting.last) (object : ObjectId) (base candidate : Candidate)
      (rests : RestsAt setting time object base candidate)
      (before after : ObjectId → Option Stamp)
      (over : LinksOver setting object candidate before after)
      (below : LinksAre setting time object base before) where
    based : IsAccepted setting setting.last object base
    based = some-later setting early.lasting time setting.last bound object base
        (accepted_by_attested setting early.lasting time object base rests.attested)

    not_above : (low : Candidate) → (low ≡ base) ⊎ IsAncestor setting setting.last object low base
        → IsAccepted setting setting.last object low
        → is_below candidate.stamp low.stamp ≡ false
    not_above low (inl same) accepted =
        ap (λ (it : Candidate). is_below candidate.stamp it.stamp) same
        ∙ is_below-not_back base.stamp candidate.stamp rests.below
    not_above low (inr ancestor) accepted =
        is_below-not_chain candidate.stamp base.stamp low.stamp
        (is_below-not_back base.stamp candidate.stamp rests.below)
        (below.under low accepted ancestor)

    kept_under : (low : Candidate) (other : ObjectId) (stamp : Stamp)
        → IsAccepted setting setting.last object low
        → (low ≡ base) ⊎ IsAncestor setting setting.last object low base
        → Apart object other → setting.member low other ≡ Some stamp
        → (own : Stamp) × (after other ≡ Some own) × (is_below own low.stamp ≡ false)
    kept_under low other stamp accepted reaches apart is_member =
        elim (over.either other) [
          | inl own ↦ (candidate.stamp, own, not_above low reaches accepted)
          | inr same ↦
              let it : (own : Stamp) × (before other ≡ Some own) × (is_below own low.stamp ≡ false) =
              below.kept low other stamp accepted reaches apart is_member in
              (it.0, same ∙ it.1, it.2)
        ]

    kept_here : (low : Candidate) (other : ObjectId) (stamp : Stamp)
        → low ≡ candidate → Apart object other → setting.member low other ≡ Some stamp
        → (own : Stamp) × (after other ≡ Some own) × (is_below own low.stamp ≡ false)
    kept_here low other stamp same apart is_member = (
      candidate.stamp,
      over.own other stamp apart (ap (λ (it : Candidate). setting.member it other) (sym same) ∙ is_member),
      ap (λ (it : Candidate). is_below candidate.stamp it.stamp) same ∙ is_below-self candidate.stamp,
    )

    -- an act or a copy upon a base keeps what links say
    pub links-next : LinksAre setting time object candidate after
    links-next =
        record {
          named = λ other stamp is_link. elim (over.either other) [
            | inl own ↦ Descends.here candidate (some_same candidate.stamp stamp (sym own ∙ is_link))
            | inr same ↦
                Descends.under candidate base rests.prior
                (accepted_by_attested setting early.lasting time object base rests.attested)
                (below.named other stamp (sym same ∙ is_link))
          ];
          kept = λ low other stamp accepted reaches apart is_member. elim reaches [
            | inl same ↦ kept_here low other stamp same apart is_member
            | inr ancestor ↦
                kept_under low other stamp accepted
                (by_base object low base candidate based accepted rests.prior ancestor) apart is_member
          ];
          under = λ low accepted ancestor.
              not_above low (by_base object low base candidate based accepted rests.prior ancestor) accepted;
        }
      where
        some_same : (first second : Stamp) → Some first ≡ Some second → first ≡ second
        some_same first second same = grind (arith, same)

  -- and they say it later
  pub links-later : (soon late : ℕ) → soon ≤ late → (object : ObjectId) (candidate : Candidate)
      (link : ObjectId → Option Stamp) → LinksAre setting soon object candidate link
      → LinksAre setting late object candidate link
  links-later soon late order object candidate link it =
      record {
        named = λ other stamp is_link.
            descends-later setting early.lasting soon late order object stamp candidate (it.named other stamp is_link);
        kept = it.kept;
        under = it.under;
      }
