-- An update that is made for several candidates is decided once, and a step decides one update.
use Rattle.std.proofs.Common.{◌≡◌, ◌⊎◌, ℕ, ◌<◌, true, sym, ap, ◌∙◌, subst, arith, inl, inr, Some}
use Rattle.qu_base.specs.declared.party.ObjectId.{ObjectId}
use Rattle.qu_stamp.specs.declared.stamp.Stamp.{Stamp}
use Rattle.qu_stamp.specs.declared.candidate.Candidate.{Candidate}
use Rattle.qu_claims.specs.Setting.{Setting, Apart, IsAccepted, IsAncestor}
use Rattle.qu_chain.specs.Laws.{Laws}
use Rattle.qu_claims.specs.Decided.{IsDecided, IsDecidedBy}
use Rattle.qu_claims.specs.Groups.{HasDecided, IsOneAct}
use Rattle.qu_chain.specs.Joint.{HasMember, Joint}
use Rattle.qu_chain.proofs.Ancestry.{accepted_by_decided, decided-later}
use Rattle.qu_chain.proofs.Deciding.{OnPath, decided_path}
use Rattle.qu_chain.proofs.Groups.{decided_joint, decided_back}
use Rattle.qu_chain.proofs.Turns.{one_turn, accepted_at_last, decided_at_last}

module _ (setting : Setting) (laws : Laws setting) (all : Joint setting)
    (Update : Type 0) (Of : Update → ObjectId → Candidate → Type 0)
    -- a candidate is of one update
    (one_of : (update other : Update) (object : ObjectId) (candidate : Candidate)
    → Of update object candidate → Of other object candidate → update ≡ other)
    -- a group is of one update
    (shared : (update : Update) (object other : ObjectId) (candidate companion : Candidate)
    → Of update object candidate → IsAccepted setting setting.last object candidate → Apart object other
    → setting.member candidate other ≡ Some companion.stamp
    → IsAccepted setting setting.last other companion → Of update other companion)
    -- what an update is made for on two objects is accepted in groups that have both
    (spread : (update : Update) (object other : ObjectId) (candidate companion : Candidate)
    → Of update object candidate → IsAccepted setting setting.last object candidate
    → Of update other companion → IsAccepted setting setting.last other companion
    → (object ≡ other) ⊎ HasMember setting object candidate other)
    -- no accepted candidate of an update is an ancestor of another
    (once : (update : Update) (object : ObjectId) (first second : Candidate)
    → Of update object first → IsAccepted setting setting.last object first
    → Of update object second → IsAccepted setting setting.last object second
    → IsAncestor setting setting.last object first second → ⊥)
    -- what is made for an update is an act
    (acts : (update : Update) (object : ObjectId) (candidate : Candidate)
    → Of update object candidate → setting.is_act candidate ≡ true) where
  once_here : (update : Update) (object : ObjectId) (candidate other : Candidate)
      → Of update object candidate → Of update object other
      → IsDecided setting setting.last object candidate → IsDecided setting setting.last object other
      → candidate ≡ other
  once_here update object candidate other is_of other_of decided other_decided =
      let accepted : IsAccepted setting setting.last object candidate =
      accepted_by_decided setting laws.lasting setting.last object candidate decided in
      let other_accepted : IsAccepted setting setting.last object other =
      accepted_by_decided setting laws.lasting setting.last object other other_decided in
      elim (decided_path setting laws all object candidate other decided other_decided) [
        | OnPath.is_same same ↦ same
        | OnPath.is_under ancestor ↦
            absurd (once update object candidate other is_of accepted other_of other_accepted ancestor)
        | OnPath.is_above ancestor ↦
            absurd (once update object other candidate other_of other_accepted is_of accepted ancestor)
      ]

  -- an update is decided once: all its decided candidates are one group
  pub decided_once : (update : Update) (object other : ObjectId) (candidate companion : Candidate)
      → Of update object candidate → Of update other companion
      → IsDecided setting setting.last object candidate → IsDecided setting setting.last other companion
      → IsOneAct setting object other candidate companion
  decided_once update object other candidate companion is_of other_of decided other_decided =
      let accepted : IsAccepted setting setting.last object candidate =
      accepted_by_decided setting laws.lasting setting.last object candidate decided in
      elim (spread update object other candidate companion is_of accepted other_of
      (accepted_by_decided setting laws.lasting setting.last other companion other_decided)) [
        | inl same ↦
            inl (
              same,
              once_here update object candidate companion is_of
                  (subst (λ (it : ObjectId). Of update it companion) (sym same) other_of) decided
                  (subst (λ (it : ObjectId). IsDecided setting setting.last it companion) (sym same) other_decided),
            )
        | inr it ↦
            let stamp : Stamp = it.1.0 in
            let found : HasDecided setting setting.last other stamp =
            decided_joint setting laws all setting.last (omega arith) object candidate other stamp decided it.0
            it.1.1 in
            let is_member : setting.member candidate other ≡ Some (found.candidate).stamp =
            it.1.1 ∙ ap (λ (one : Stamp). Some one) (sym found.stamp_is) in
            let same : found.candidate ≡ companion =
            once_here update other found.candidate companion
            (shared update object other candidate found.candidate is_of accepted it.0 is_member
            (accepted_by_decided setting laws.lasting setting.last other found.candidate found.decided))
            other_of found.decided other_decided in
            inr (record {
              apart = it.0;
              is_member = is_member ∙ ap (λ (one : Candidate). Some one.stamp) same;
            })
      ]

  -- the step that decides an update's candidate is the first that decides any of it
  pub first_of : (update : Update) (time : ℕ) (object : ObjectId) (candidate : Candidate)
      → Of update object candidate → IsDecidedBy setting time object candidate
      → (other : ObjectId) (companion : Candidate) → Of update other companion
      → IsDecided setting time other companion → ⊥
  first_of update time object candidate is_of turn other companion other_of before =
      let within : time < setting.last = turn.within in
      elim (decided_once update object other candidate companion is_of other_of
      (decided_at_last setting laws all time object candidate turn)
      (decided-later setting laws.lasting time setting.last (omega arith) other companion before)) [
        | inl both ↦
            turn.before (subst (λ (it : ObjectId). IsDecided setting time it candidate) (sym both.0)
            (subst (IsDecided setting time other) (sym both.1) before))
        | inr it ↦
            turn.before (decided_back setting laws all time (omega arith) object candidate other companion
            (accepted_at_last setting laws all time object candidate turn) it.apart it.is_member before)
      ]

  -- a step decides one update
  pub one_update : (update other_update : Update) (time : ℕ) (object other : ObjectId) (candidate companion : Candidate)
      → Of update object candidate → Of other_update other companion
      → IsDecidedBy setting time object candidate → IsDecidedBy setting time other companion
      → update ≡ other_update
  one_update update other_update time object other candidate companion is_of other_of turn other_turn =
      elim (one_turn setting laws all time object other candidate companion turn other_turn
      (acts update object candidate is_of) (acts other_update other companion other_of)) [
        | inl both ↦
            one_of update other_update other companion
            (subst (Of update other) both.1
            (subst (λ (it : ObjectId). Of update it candidate) both.0 is_of)) other_of
        | inr it ↦
            one_of update other_update other companion
            (shared update object other candidate companion is_of
            (accepted_at_last setting laws all time object candidate turn) it.apart it.is_member
            (accepted_at_last setting laws all time other companion other_turn)) other_of
      ]
