-- The links of all stored versions are true and kept.
use Rattle.std.proofs.Common.{◌≡◌, ℕ, zero, suc, ◌<◌, ◌≤◌, true, refl, sym, ◌∙◌, subst, arith, Option}
use Rattle.qu_base.specs.declared.party.ObjectId.{ObjectId}
use Rattle.qu_stamp.specs.declared.stamp.Stamp.{Stamp}
use Rattle.qu_stamp.specs.declared.candidate.Candidate.{Candidate}
use Rattle.qu_stamp.specs.Candidate.{opening}
use Rattle.qu_claims.specs.Setting.{Setting, IsAccepted}
use Rattle.qu_claims.specs.Links.{LinksAre}
use Rattle.qu_chain.specs.Early.{Early}
use Rattle.qu_links.specs.Over.{RestsAt}
use Rattle.qu_links.specs.Making.{LinksFrom}
use Rattle.qu_links.specs.Making.LinksFrom.{opened, made}
use Rattle.qu_chain.proofs.Ancestry.{one_candidate, some-later, accepted_by_attested}
use Rattle.qu_links.proofs.Keeping.{links-opening, links-next, links-later}

module _ (setting : Setting) (early : Early setting) (State : Type 0) (link : State → ObjectId → Option Stamp)
    (stored : ℕ → ObjectId → Stamp → State → Type 0)
    (links_from : (time : ℕ) → time ≤ setting.last → (object : ObjectId) (stamp : Stamp) (state : State)
    → stored time object stamp state → LinksFrom setting State link stored time object stamp state) where
  -- what is said of one time
  abbrev pub AllLinksAre : ℕ → Type 0
  AllLinksAre time =
      (object : ObjectId) (stamp : Stamp) (state : State) (candidate : Candidate)
      → stored time object stamp state
      → IsAccepted setting setting.last object candidate → candidate.stamp ≡ stamp
      → LinksAre setting time object candidate (link state)

  links_by : (time : ℕ) → time ≤ setting.last → ((at : ℕ) → at < time → AllLinksAre at)
      → (object : ObjectId) (stamp : Stamp) (state : State) (candidate : Candidate)
      → LinksFrom setting State link stored time object stamp state
      → IsAccepted setting setting.last object candidate → candidate.stamp ≡ stamp
      → LinksAre setting time object candidate (link state)
  links_by time bound past object stamp state candidate (opened begun is_opening empty) accepted same =
      subst (λ (it : Candidate). LinksAre setting time object it (link state))
      (one_candidate setting early.lasting early.one setting.last setting.last (omega arith) (omega arith)
      object opening
      candidate begun accepted (sym is_opening ∙ sym same))
      (links-opening setting early time object (link state) begun empty)
  links_by time bound past object stamp state candidate (made at within base maker before is_stamp new rests held over)
      accepted same =
      let is_maker : maker ≡ candidate =
      one_candidate setting early.lasting early.one (suc at) setting.last (omega arith) (omega arith) object maker
      candidate new accepted (is_stamp ∙ sym same) in
      let based : IsAccepted setting setting.last object base =
      based_of at (omega arith) object base maker rests in
      subst (λ (it : Candidate). LinksAre setting time object it (link state)) is_maker
      (links-later setting early at time (omega arith) object maker (link state)
      (links-next setting early at (omega arith) object base maker rests (link before) (link state) over
      (past at within object base.stamp before base held based refl)))
    where
      based_of : (at : ℕ) → at ≤ setting.last → (object : ObjectId) (base maker : Candidate)
          → RestsAt setting at object base maker → IsAccepted setting setting.last object base
      based_of at order object base maker rests =
          some-later setting early.lasting at setting.last order object base
          (accepted_by_attested setting early.lasting at object base rests.attested)

  links_up_to : (bound : ℕ) → bound ≤ setting.last → (time : ℕ) → time ≤ bound → AllLinksAre time
  links_up_to zero within time order object stamp state candidate held accepted same =
      links_by time (omega arith) (λ at less. absurd (none at time less order)) object stamp state candidate
      (links_from time (omega arith) object stamp state held) accepted same
    where
      none : (at time : ℕ) → at < time → time ≤ 0 → ⊥
      none at time less order = omega arith
  links_up_to (suc bound) within time order object stamp state candidate held accepted same =
      links_by time (omega arith) (λ at less. links_up_to bound (omega arith) at (omega arith)) object stamp state
      candidate (links_from time (omega arith) object stamp state held) accepted same

  -- the links of what is stored are true and kept
  pub links_are : (time : ℕ) → time ≤ setting.last → AllLinksAre time
  links_are time within = links_up_to time within time (omega arith)
