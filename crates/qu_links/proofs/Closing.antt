-- The laws of qu_chain on links and on copies, from how steps add candidates and from where stored states come.
use Rattle.std.proofs.Common.{◌≡◌, ◌⊎◌, ℕ, ◌<◌, ◌≤◌, true, false, refl, sym, ◌∙◌, subst, arith, inl, inr, Option}
use Rattle.std.proofs.lemmas.Bool.{false≢true}
use Rattle.qu_base.specs.declared.party.ObjectId.{ObjectId}
use Rattle.qu_stamp.specs.declared.stamp.Stamp.{Stamp}
use Rattle.qu_stamp.specs.declared.candidate.Candidate.{Candidate}
use Rattle.qu_claims.specs.Setting.{Setting, IsAttested, ChainHolds, IsNew}
use Rattle.qu_chain.specs.Laws.{IsLinked}
use Rattle.qu_chain.specs.Joint.{IsCopied}
use Rattle.qu_claims.specs.Links.{LinksAre}
use Rattle.qu_chain.specs.Early.{Early}
use Rattle.qu_links.specs.Making.{LinksFrom}
use Rattle.qu_links.specs.Copying.{View, IsTrueView}
use Rattle.qu_links.specs.Closing.{IsSeen, HowAdded}
use Rattle.qu_links.specs.Closing.HowAdded.{inline, by_act, by_copy}
use Rattle.qu_chain.proofs.Ancestry.{some-later, accepted_by_attested, attested_by_established}
use Rattle.qu_links.proofs.Copying.{IsJoint, copy_linked, copy_copied}
use Rattle.qu_links.proofs.Stored.{links_are}

module _ (setting : Setting) (early : Early setting) (joint : IsJoint setting)
    (State : Type 0) (link : State → ObjectId → Option Stamp)
    (stored : ℕ → ObjectId → Stamp → State → Type 0)
    (links_from : (time : ℕ) → time ≤ setting.last → (object : ObjectId) (stamp : Stamp) (state : State)
    → stored time object stamp state → LinksFrom setting State link stored time object stamp state)
    (how : (time : ℕ) (object : ObjectId) (replica : ℕ) (candidate : Candidate)
    → setting.plain candidate ≡ true → IsNew setting time object replica candidate
    → HowAdded setting State link stored time object replica candidate) where
  true_view : (time : ℕ) → time ≤ setting.last → (view : View) → IsSeen setting State link stored time view
      → IsTrueView setting time view
  true_view time bound view seen =
      record {
        plain = seen.plain;
        established = seen.established;
        attested = seen.attested;
        linked = λ object version is_method is_read.
            let it : (state : State) × stored time object version.stamp state × (view.link object ≡ link state) =
            seen.held object version is_method is_read in
            subst (LinksAre setting time object version) (sym it.2)
            (links_are setting early State link stored links_from time bound object version.stamp it.0 version it.1
            (some-later setting early.lasting time setting.last bound object version
            (accepted_by_attested setting early.lasting time object version
            (attested_by_established setting early.lasting time object version
            (seen.established object version is_method)))) refl);
      }

  linked_by : (time : ℕ) → time ≤ setting.last → (object : ObjectId) (replica : ℕ) (candidate : Candidate)
      → ChainHolds setting time → HowAdded setting State link stored time object replica candidate
      → IsAttested setting time object candidate ⊎ IsLinked setting time object replica candidate
  linked_by time bound object replica candidate past (inline attested) = inl attested
  linked_by time bound object replica candidate past (by_act is_act linked) = inr linked
  linked_by time bound object replica candidate past (by_copy view seen step is_on same) =
      inr (subst (IsLinked setting time object replica) same
      (copy_linked setting early joint time replica bound view (true_view time bound view seen) step past object is_on))

  copied_by : (time : ℕ) → time ≤ setting.last → (object : ObjectId) (replica : ℕ) (candidate : Candidate)
      → setting.is_act candidate ≡ false → HowAdded setting State link stored time object replica candidate
      → IsAttested setting time object candidate ⊎ IsCopied setting time object replica candidate
  copied_by time bound object replica candidate no_act (inline attested) = inl attested
  copied_by time bound object replica candidate no_act (by_act is_act linked) =
      absurd (false≢true (sym no_act ∙ is_act))
  copied_by time bound object replica candidate no_act (by_copy view seen step is_on same) =
      inr (subst (IsCopied setting time object replica) same
      (copy_copied setting early joint time replica bound view (true_view time bound view seen) step object is_on))

  -- `linked` of qu_chain's Laws
  pub linked : (time : ℕ) (object : ObjectId) (replica : ℕ) (candidate : Candidate)
      → ChainHolds setting time
      → setting.plain candidate ≡ true
      → IsNew setting time object replica candidate
      → IsAttested setting time object candidate ⊎ IsLinked setting time object replica candidate
  linked time object replica candidate past plain new =
      let step : time < setting.last = new.step in
      linked_by time (omega arith) object replica candidate past (how time object replica candidate plain new)

  -- `copies` of qu_chain's Joint
  pub copied : (time : ℕ) (object : ObjectId) (replica : ℕ) (candidate : Candidate)
      → setting.plain candidate ≡ true → setting.is_act candidate ≡ false
      → IsNew setting time object replica candidate
      → IsAttested setting time object candidate ⊎ IsCopied setting time object replica candidate
  copied time object replica candidate plain no_act new =
      let step : time < setting.last = new.step in
      copied_by time (omega arith) object replica candidate no_act (how time object replica candidate plain new)
