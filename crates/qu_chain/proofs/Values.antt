-- Values along the tops: a step leaves the top's value as it is, or an act upon the old top makes the new one.
use Rattle.std.proofs.Common.{◌≡◌, ℕ, suc, ◌<◌, true, false, sym, ap, ◌∙◌, subst, arith, inl, inr}
use Rattle.std.proofs.lemmas.Bool.{cases_Bool, false≢true}
use Rattle.qu_base.specs.declared.party.ObjectId.{ObjectId}
use Rattle.qu_stamp.specs.declared.candidate.Candidate.{Candidate}
use Rattle.qu_stamp.specs.Stamp.{is_below}
use Rattle.qu_stamp.specs.Candidate.{same}
use Rattle.qu_stamp.proofs.Order.{same-self, equal_by_same}
use Rattle.qu_claims.specs.Setting.{Setting, IsAccepted, IsAncestor}
use Rattle.qu_chain.specs.Laws.{Laws}
use Rattle.qu_claims.specs.Decided.{IsDecided, IsTop, IsDecidedBy, UponTop}
use Rattle.qu_chain.specs.Joint.{Joint}
use Rattle.qu_chain.proofs.Ancestry.{accepted_by_decided, accepted_by_attested, decided-later, some-later}
use Rattle.qu_chain.proofs.Parents.{ancestor-not_above}
use Rattle.qu_chain.proofs.Deciding.{decided_plain, decided_prior, decided_under, OnPath, decided_path}
use Rattle.qu_chain.proofs.Tops.{top_decided, level, one_top, under_top}
use Rattle.qu_chain.proofs.Turns.{upon_top, below_act, accepted_at_last, decided_at_last}

module _ (setting : Setting) (laws : Laws setting) (all : Joint setting)
    (Value : Type 0) (HasValue : ObjectId → Candidate → Value → Type 0)
    -- a copy has its base's value
    (copied : (object : ObjectId) (candidate base : Candidate) (value : Value)
    → IsAccepted setting setting.last object candidate → setting.plain candidate ≡ true
    → setting.is_act candidate ≡ false → candidate.prior ≡ base.stamp → setting.plain base ≡ true
    → IsAccepted setting setting.last object base
    → HasValue object base value → HasValue object candidate value) where
  -- the second candidate has the first one's value
  abbrev pub Passes : ObjectId → Candidate → Candidate → Type 0
  Passes object first second = (value : Value) → HasValue object first value → HasValue object second value

  -- what a step does to the top: no act and the same value, or an act upon the old top with the new one's value
  pub data Moved (time : ℕ) (object : ObjectId) (old new : Candidate) : Type 0 where
    quiet : Passes object old new
        → ((act : Candidate) → setting.is_act act ≡ true → IsDecidedBy setting time object act → ⊥)
        → Moved time object old new
    loud : (act : Candidate) → setting.is_act act ≡ true → IsDecidedBy setting time object act
        → act.prior ≡ old.stamp → Passes object act new → Moved time object old new

  module _ (time : ℕ) (object : ObjectId) (old new : Candidate) (within : time < setting.last)
      (top : IsTop setting time object old) (next : IsTop setting (suc time) object new) where
    old_decided : IsDecided setting time object old
    old_decided = top_decided setting laws all time object old top

    new_decided : IsDecided setting (suc time) object new
    new_decided = top_decided setting laws all (suc time) object new next

    late : (candidate : Candidate) → IsDecided setting (suc time) object candidate
        → IsDecided setting setting.last object candidate
    late candidate decided =
        decided-later setting laws.lasting (suc time) setting.last (omega arith) object candidate decided

    old_accepted : IsAccepted setting setting.last object old
    old_accepted =
        some-later setting laws.lasting time setting.last (omega arith) object old
        (accepted_by_decided setting laws.lasting time object old old_decided)

    -- an act that the step decides rests on the old top
    act_prior : (act : Candidate) → IsDecidedBy setting time object act → setting.is_act act ≡ true
        → act.prior ≡ old.stamp
    act_prior act turn is_act =
        let it : UponTop setting time object act = upon_top setting laws all time object act turn is_act in
        let same_base : it.base ≡ old =
        one_top setting laws all time (omega arith) object it.base old it.top top in
        it.prior ∙ ap (λ (one : Candidate). one.stamp) same_base

    -- a candidate upon the old top that the step decides, and that is no act, is the only thing above it that is new
    no_act_beside : (copy act : Candidate) → IsDecidedBy setting time object copy → setting.is_act copy ≡ false
        → copy.prior ≡ old.stamp → setting.is_act act ≡ true → IsDecidedBy setting time object act → ⊥
    no_act_beside copy act turn no_act prior is_act act_turn =
        elim (decided_path setting laws all object act copy
        (decided_at_last setting laws all time object act act_turn)
        (decided_at_last setting laws all time object copy turn)) [
          | OnPath.is_same both ↦
              false≢true (sym no_act ∙ ap (λ (it : Candidate). setting.is_act it) (sym both) ∙ is_act)
          | OnPath.is_under ancestor ↦
              act_turn.before (decided_under setting laws all time (omega arith) object act old copy old_decided prior
              (accepted_at_last setting laws all time object act act_turn) ancestor)
          | OnPath.is_above ancestor ↦
              turn.before (below_act setting laws all time object copy act act_turn is_act
              (accepted_at_last setting laws all time object copy turn) ancestor)
        ]

    -- what is above the old top and another was not decided before the step
    is_turn : (here : Candidate) → IsDecided setting (suc time) object here
        → IsAncestor setting setting.last object old here → (old ≡ here → ⊥) → IsDecidedBy setting time object here
    is_turn here decided ancestor different = record {
      within = within;
      after = decided;
      before = λ already.
          different (level setting laws all time time (omega arith) (omega arith) object old here old_decided already
          (top.nothing_above here already)
          (ancestor-not_above setting laws setting.last (omega arith) object old here
          (accepted_by_decided setting laws.lasting setting.last object here (late here decided))
          (decided_plain setting laws all setting.last (omega arith) object here (late here decided)) ancestor));
    }

    copy_passes : (here base : Candidate) → IsDecided setting (suc time) object here → setting.is_act here ≡ false
        → here.prior ≡ base.stamp → IsDecided setting (suc time) object base → Passes object base here
    copy_passes here base decided no_act prior base_is_decided value has =
        copied object here base value
        (accepted_by_decided setting laws.lasting setting.last object here (late here decided))
        (decided_plain setting laws all setting.last (omega arith) object here (late here decided)) no_act prior
        (decided_plain setting laws all setting.last (omega arith) object base (late base base_is_decided))
        (accepted_by_decided setting laws.lasting setting.last object base (late base base_is_decided)) has

    old_after : IsDecided setting (suc time) object old
    old_after = decided-later setting laws.lasting time (suc time) (omega arith) object old old_decided

    -- the end of the way down: a copy of the old top
    upon_old : (here : Candidate) → IsDecidedBy setting time object here → setting.is_act here ≡ false
        → here.prior ≡ old.stamp → Passes object here new → Moved time object old new
    upon_old here turn no_act prior passes =
        Moved.quiet (λ value has. passes value (copy_passes here old turn.after no_act prior old_after value has))
        (λ act is_act act_turn. no_act_beside here act turn no_act prior is_act act_turn)

    not_same : (between : Candidate) → same old between ≡ false → old ≡ between → ⊥
    not_same between different equal =
        false≢true (sym different ∙ ap (same old) (sym equal) ∙ same-self old)

    -- or one step further down a row of copies
    further_down : (here between : Candidate) → IsDecidedBy setting time object here → setting.is_act here ≡ false
        → here.prior ≡ between.stamp → IsAccepted setting setting.last object between → Passes object here new
        → (IsDecided setting (suc time) object between → (old ≡ between → ⊥) → Passes object between new
        → Moved time object old new)
        → Moved time object old new
    further_down here between turn no_act prior accepted passes further =
        let decided : IsDecided setting (suc time) object between =
        decided_prior setting laws all (suc time) (omega arith) object between here accepted prior turn.after in
        elim (cases_Bool (same old between)) [
          | inl equal ↦
              upon_old here turn no_act
              (prior ∙ ap (λ (it : Candidate). it.stamp) (sym (equal_by_same old between equal))) passes
          | inr different ↦
              further decided (not_same between different)
              (λ value has. passes value (copy_passes here between turn.after no_act prior decided value has))
        ]

    -- down from the new top to an act, or to a copy of the old one
    climb : (here : Candidate) → IsDecided setting (suc time) object here → (old ≡ here → ⊥)
        → Passes object here new → IsAncestor setting setting.last object old here → Moved time object old new
    climb here decided different passes (IsAncestor.direct _ prior) =
        let turn : IsDecidedBy setting time object here =
        is_turn here decided (IsAncestor.direct here prior) different in
        elim (cases_Bool (setting.is_act here)) [
          | inl is_act ↦ Moved.loud here is_act turn (act_prior here turn is_act) passes
          | inr no_act ↦ upon_old here turn no_act prior passes
        ]
    climb here decided different passes (IsAncestor.through between _ prior plain attested ancestor) =
        let turn : IsDecidedBy setting time object here =
        is_turn here decided (IsAncestor.through between here prior plain attested ancestor) different in
        elim (cases_Bool (setting.is_act here)) [
          | inl is_act ↦ Moved.loud here is_act turn (act_prior here turn is_act) passes
          | inr no_act ↦
              further_down here between turn no_act prior
              (accepted_by_attested setting laws.lasting setting.last object between attested) passes
              (λ lower_decided lower_different lower_passes.
              climb between lower_decided lower_different lower_passes ancestor)
        ]

    -- the same top: no act was decided, since it would be above
    stays : old ≡ new → Moved time object old new
    stays equal =
        Moved.quiet (λ value has. subst (λ (it : Candidate). HasValue object it value) equal has)
        (λ act is_act turn.
        turn.before (under_top setting laws all time (omega arith) object old act top
        (decided_at_last setting laws all time object act turn)
        (ap (λ (it : Candidate). is_below it.stamp act.stamp) equal ∙ next.nothing_above act turn.after)))

    -- what a step does to the top
    pub top_moves : Moved time object old new
    top_moves =
        elim (decided_path setting laws all object old new (late old old_after) (late new new_decided)) [
          | OnPath.is_same equal ↦ stays equal
          | OnPath.is_above ancestor ↦
              stays (level setting laws all (suc time) (suc time) (omega arith) (omega arith) object old new old_after
              new_decided
              (ancestor-not_above setting laws setting.last (omega arith) object new old old_accepted
              top.plain_top ancestor)
              (next.nothing_above old old_after))
          | OnPath.is_under ancestor ↦
              elim (cases_Bool (same old new)) [
                | inl equal ↦ stays (equal_by_same old new equal)
                | inr different ↦
                    climb new new_decided (not_same new different) (λ value has. has) ancestor
              ]
        ]
