-- One step decides at most one act, with its companions, upon the tops of its objects.
use Rattle.std.proofs.Common.{◌≡◌, ◌⊎◌, ℕ, suc, ◌<◌, true, false, refl, sym, ap, ◌∙◌, subst, arith, inl, inr, Some}
use Rattle.std.proofs.lemmas.Bool.{cases_Bool, cases_eq, false≢true}
use Rattle.qu_base.specs.declared.party.ObjectId.{ObjectId}
use Rattle.qu_stamp.specs.declared.stamp.Stamp.{Stamp}
use Rattle.qu_stamp.specs.declared.candidate.Candidate.{Candidate}
use Rattle.qu_stamp.specs.Stamp.{is_below}
use Rattle.qu_stamp.specs.Candidate.{opening}
use Rattle.qu_stamp.proofs.Order.{is_below-self}
use Rattle.qu_claims.specs.Setting.{Setting, Apart, IsAccepted, IsEstablished, IsAncestor}
use Rattle.qu_chain.specs.Laws.{Laws}
use Rattle.qu_claims.specs.Decided.{IsDecided, IsDecidedBy, UponTop}
use Rattle.qu_claims.specs.Groups.{IsOneAct}
use Rattle.qu_chain.specs.Joint.{Joint}
use Rattle.qu_chain.proofs.Ancestry.{accepted_by_decided, accepted_by_attested, established-later, decided-later, some-later, ancestor-later}
use Rattle.qu_chain.proofs.Parents.{parent, rests, opening_from_first, ancestor-not_above}
use Rattle.qu_chain.proofs.Deciding.{decided_plain, decided_prior, decided_down, decided_under, OnPath, decided_path}
use Rattle.qu_chain.proofs.Tops.{UnderNew, newly}
use Rattle.qu_chain.proofs.Groups.{Companion, companion_is, Copy, copies_base, decided_back}

-- what a newly decided act rests on: established before the step
pub record ActBase (setting : Setting) (time : ℕ) (object : ObjectId) (act : Candidate) : Type 0 where
  pub base : Candidate
  pub prior : act.prior ≡ base.stamp
  pub plain : setting.plain base ≡ true
  pub established : IsEstablished setting time object base

module _ (setting : Setting) (laws : Laws setting) (all : Joint setting) where
  -- what a step decides is accepted at the end, and decided there
  pub decided_at_last : (time : ℕ) (object : ObjectId) (candidate : Candidate)
      → IsDecidedBy setting time object candidate → IsDecided setting setting.last object candidate
  decided_at_last time object candidate turn =
      let within : time < setting.last = turn.within in
      decided-later setting laws.lasting (suc time) setting.last (omega arith) object candidate turn.after

  pub accepted_at_last : (time : ℕ) (object : ObjectId) (candidate : Candidate)
      → IsDecidedBy setting time object candidate → IsAccepted setting setting.last object candidate
  accepted_at_last time object candidate turn =
      accepted_by_decided setting laws.lasting setting.last object candidate
      (decided_at_last time object candidate turn)

  pub turn_plain : (time : ℕ) (object : ObjectId) (candidate : Candidate)
      → IsDecidedBy setting time object candidate → setting.plain candidate ≡ true
  turn_plain time object candidate turn =
      decided_plain setting laws all setting.last (omega arith) object candidate
      (decided_at_last time object candidate turn)

  -- the opening candidate is decided from the first time on
  not_opening : (time : ℕ) (object : ObjectId) (candidate : Candidate)
      → IsDecidedBy setting time object candidate → candidate ≡ opening → ⊥
  not_opening time object candidate turn same =
      turn.before (subst (IsDecided setting time object) (sym same)
      (IsDecided.established opening laws.opens
      (established-later setting laws.lasting 0 time (omega arith) object opening
      (opening_from_first setting laws setting.last object candidate (accepted_at_last time object candidate turn)))))

  pub act_base : (time : ℕ) (object : ObjectId) (act : Candidate)
      → IsDecidedBy setting time object act → setting.is_act act ≡ true → ActBase setting time object act
  act_base time object act turn is_act =
      let within : time < setting.last = turn.within in
      elim (parent setting laws (suc time) (omega arith) object act
      (accepted_by_decided setting laws.lasting (suc time) object act turn.after) (turn_plain time object act turn)) [
        | inl same ↦ absurd (not_opening time object act turn same)
        | inr it ↦
            let before : it.first.time < suc time = it.first.within in
            record {
              base = it.link.base;
              prior = it.link.prior;
              plain = it.link.plain_base;
              established = established-later setting laws.lasting it.first.time time (omega arith) object it.link.base
                  (it.link.settled is_act);
            }
      ]

  base_decided : (time : ℕ) (object : ObjectId) (act : Candidate)
      → (it : ActBase setting time object act) → IsDecided setting time object it.base
  base_decided time object act it = IsDecided.established it.base it.plain it.established

  -- below an act that a step decides, nothing is new
  pub below_act : (time : ℕ) (object : ObjectId) (first act : Candidate)
      → IsDecidedBy setting time object act → setting.is_act act ≡ true
      → IsAccepted setting setting.last object first
      → IsAncestor setting setting.last object first act → IsDecided setting time object first
  below_act time object first act turn is_act accepted ancestor =
      let within : time < setting.last = turn.within in
      let it : ActBase setting time object act = act_base time object act turn is_act in
      decided_under setting laws all time (omega arith) object first it.base act (base_decided time object act it)
      it.prior accepted ancestor

  -- on one object, one act
  one_here : (time : ℕ) (object : ObjectId) (act other : Candidate)
      → IsDecidedBy setting time object act → IsDecidedBy setting time object other
      → setting.is_act act ≡ true → setting.is_act other ≡ true → act ≡ other
  one_here time object act other turn other_turn is_act other_is =
      elim (decided_path setting laws all object act other (decided_at_last time object act turn)
      (decided_at_last time object other other_turn)) [
        | OnPath.is_same same ↦ same
        | OnPath.is_under ancestor ↦
            absurd (turn.before (below_act time object act other other_turn other_is
            (accepted_at_last time object act turn) ancestor))
        | OnPath.is_above ancestor ↦
            absurd (other_turn.before (below_act time object other act turn is_act
            (accepted_at_last time object other other_turn) ancestor))
      ]

  -- ---- on two objects: down the two rows from what the step gives

  module _ (time : ℕ) (object other : ObjectId) (apart : Apart object other) (act other_act : Candidate)
      (turn : IsDecidedBy setting time object act) (other_turn : IsDecidedBy setting time other other_act)
      (is_act : setting.is_act act ≡ true) (other_is : setting.is_act other_act ≡ true) where
    -- where the first row ends, the second does
    at_end : (lower : Candidate) → setting.member act other ≡ Some lower.stamp
        → IsDecided setting (suc time) other lower
        → (other_act ≡ lower) ⊎ IsAncestor setting setting.last other other_act lower
        → setting.member act other ≡ Some other_act.stamp
    at_end lower is_member decided (inl same) = is_member ∙ ap (λ (it : Candidate). Some it.stamp) (sym same)
    at_end lower is_member decided (inr ancestor) =
        let within : time < setting.last = turn.within in
        let late : IsDecided setting setting.last other lower =
        decided-later setting laws.lasting (suc time) setting.last (omega arith) other lower decided in
        let it : Companion setting setting.last object act other lower =
        companion_is setting laws all setting.last (omega arith) object act other lower
        (accepted_at_last time object act turn) apart
        (accepted_by_decided setting laws.lasting setting.last other lower late) is_member in
        let lower_turn : IsDecidedBy setting time other lower = record {
          within = within;
          after = decided;
          before = λ already.
              turn.before (decided_back setting laws all time (omega arith) object act other lower
              (accepted_at_last time object act turn) apart is_member already);
        } in
        absurd (other_turn.before (below_act time other other_act lower lower_turn (it.act_too ∙ is_act)
        (accepted_at_last time other other_act other_turn) ancestor))

    -- the act is an ancestor of a candidate on the first row: that one is no act
    no_act : (upper : Candidate) → IsDecided setting (suc time) object upper
        → IsAncestor setting setting.last object act upper → setting.is_act upper ≡ false
    no_act upper decided ancestor =
        let within : time < setting.last = turn.within in
        elim (cases_Bool (setting.is_act upper)) [
          | inr it_is_none ↦ it_is_none
          | inl it_is ↦
              absurd (turn.before (below_act time object act upper (record {
                within = within;
                after = decided;
                before = λ already.
                    turn.before (decided_down setting laws all time (omega arith) object act upper
                    (accepted_at_last time object act turn) ancestor already);
              }) it_is (accepted_at_last time object act turn) ancestor))
        ]

    -- nor is the opening one
    no_opening : (upper : Candidate) → IsAncestor setting setting.last object act upper → upper ≡ opening → ⊥
    no_opening upper ancestor same =
        let within : time < setting.last = turn.within in
        turn.before (decided_down setting laws all time (omega arith) object act upper
        (accepted_at_last time object act turn) ancestor
        (subst (IsDecided setting time object) (sym same)
        (IsDecided.established opening laws.opens
        (established-later setting laws.lasting 0 time (omega arith) object opening
        (opening_from_first setting laws setting.last object act (accepted_at_last time object act turn))))))

    -- one parent down on the first row, the group has one parent down on the second
    member_down : (upper lower base : Candidate) → IsDecided setting (suc time) object upper
        → IsAncestor setting setting.last object act upper
        → IsAccepted setting setting.last other lower
        → setting.member upper other ≡ Some lower.stamp
        → IsAccepted setting setting.last object base → upper.prior ≡ base.stamp
        → setting.member base other ≡ Some lower.prior
    member_down upper lower base decided ancestor lower_accepted is_member accepted prior =
        let within : time < setting.last = turn.within in
        let plain : setting.plain upper ≡ true =
        decided_plain setting laws all (suc time) (omega arith) object upper decided in
        elim (rests setting laws all (suc time) (omega arith) object base upper
        (accepted_by_decided setting laws.lasting (suc time) object upper decided) plain accepted prior) [
          | inl both ↦ absurd (no_opening upper ancestor both.1)
          | inr it ↦
              let copy : Copy setting (suc time) object base upper =
              copies_base setting laws all (suc time) (omega arith) object base upper plain
              (no_act upper decided ancestor) accepted prior it.first in
              copy.joined other lower apart lower_accepted is_member
        ]

    -- what the second row has below: it is no act, so the other act is its ancestor
    next_lower : (upper lower : Candidate) → IsDecided setting (suc time) object upper
        → IsAncestor setting setting.last object act upper
        → IsDecided setting (suc time) other lower
        → setting.member upper other ≡ Some lower.stamp
        → (other_act ≡ lower) ⊎ IsAncestor setting setting.last other other_act lower
        → IsAncestor setting setting.last other other_act lower
    next_lower upper lower decided ancestor lower_decided is_member (inr below) = below
    next_lower upper lower decided ancestor lower_decided is_member (inl same) =
        let within : time < setting.last = turn.within in
        let it : Companion setting (suc time) object upper other lower =
        companion_is setting laws all (suc time) (omega arith) object upper other lower
        (accepted_by_decided setting laws.lasting (suc time) object upper decided) apart
        (some-later setting laws.lasting (suc time) setting.last (omega arith) other lower
        (accepted_by_decided setting laws.lasting (suc time) other lower lower_decided)) is_member in
        absurd (false≢true (sym (no_act upper decided ancestor) ∙ sym it.act_too
        ∙ ap (λ (one : Candidate). setting.is_act one) (sym same) ∙ other_is))

    -- the second row taken one parent down, and what is shown of it there
    step_down : (lower base : Candidate) → IsDecided setting (suc time) other lower
        → setting.member base other ≡ Some lower.prior
        → ((next : Candidate) → IsDecided setting (suc time) other next
        → setting.member base other ≡ Some next.stamp
        → (other_act ≡ next) ⊎ IsAncestor setting setting.last other other_act next
        → setting.member act other ≡ Some other_act.stamp)
        → IsAncestor setting setting.last other other_act lower
        → setting.member act other ≡ Some other_act.stamp
    step_down lower base decided is_member further (IsAncestor.direct same prior) =
        further other_act other_turn.after (is_member ∙ ap (λ (it : Stamp). Some it) prior) (inl refl)
    step_down lower base decided is_member further
        (IsAncestor.through between same prior plain attested ancestor) =
        let within : time < setting.last = turn.within in
        further between
        (decided_prior setting laws all (suc time) (omega arith) other between lower
        (accepted_by_attested setting laws.lasting setting.last other between attested) prior decided)
        (is_member ∙ ap (λ (it : Stamp). Some it) prior) (inr ancestor)

    -- both rows down to the first act
    walk : (upper lower : Candidate) → IsDecided setting (suc time) object upper
        → IsDecided setting (suc time) other lower
        → setting.member upper other ≡ Some lower.stamp
        → IsAncestor setting setting.last object act upper
        → (other_act ≡ lower) ⊎ IsAncestor setting setting.last other other_act lower
        → setting.member act other ≡ Some other_act.stamp
    walk upper lower decided lower_decided is_member (IsAncestor.direct same prior) below =
        let within : time < setting.last = turn.within in
        let ancestor : IsAncestor setting setting.last object act upper = IsAncestor.direct upper prior in
        step_down lower act lower_decided
        (member_down upper lower act decided ancestor
        (some-later setting laws.lasting (suc time) setting.last (omega arith) other lower
        (accepted_by_decided setting laws.lasting (suc time) other lower lower_decided)) is_member
        (accepted_at_last time object act turn) prior)
        (λ next next_decided next_member next_below. at_end next next_member next_decided next_below)
        (next_lower upper lower decided ancestor lower_decided is_member below)
    walk upper lower decided lower_decided is_member
        (IsAncestor.through between same prior plain attested higher) below =
        let within : time < setting.last = turn.within in
        let ancestor : IsAncestor setting setting.last object act upper =
        IsAncestor.through between upper prior plain attested higher in
        let accepted : IsAccepted setting setting.last object between =
        accepted_by_attested setting laws.lasting setting.last object between attested in
        step_down lower between lower_decided
        (member_down upper lower between decided ancestor
        (some-later setting laws.lasting (suc time) setting.last (omega arith) other lower
        (accepted_by_decided setting laws.lasting (suc time) other lower lower_decided)) is_member accepted prior)
        (λ next next_decided next_member next_below.
        walk between next
        (decided_prior setting laws all (suc time) (omega arith) object between upper accepted prior decided)
        next_decided next_member higher next_below)
        (next_lower upper lower decided ancestor lower_decided is_member below)

    -- an ancestor after the step is one at the end
    reach_last : (where_at : ObjectId) (candidate given : Candidate)
        → (candidate ≡ given) ⊎ IsAncestor setting (suc time) where_at candidate given
        → (candidate ≡ given) ⊎ IsAncestor setting setting.last where_at candidate given
    reach_last where_at candidate given (inl same) = inl same
    reach_last where_at candidate given (inr ancestor) =
        let within : time < setting.last = turn.within in
        inr (ancestor-later setting laws.lasting (suc time) setting.last (omega arith) where_at candidate given
        ancestor)

    from_top : (upper lower : Candidate) → IsDecided setting (suc time) object upper
        → IsDecided setting (suc time) other lower
        → setting.member upper other ≡ Some lower.stamp
        → (act ≡ upper) ⊎ IsAncestor setting setting.last object act upper
        → (other_act ≡ lower) ⊎ IsAncestor setting setting.last other other_act lower
        → setting.member act other ≡ Some other_act.stamp
    from_top upper lower decided lower_decided is_member (inl same) below =
        at_end lower (ap (λ (it : Candidate). setting.member it other) same ∙ is_member) lower_decided below
    from_top upper lower decided lower_decided is_member (inr ancestor) below =
        walk upper lower decided lower_decided is_member ancestor below

    by_given : UnderNew setting time object act → UnderNew setting time other other_act
        → setting.member act other ≡ Some other_act.stamp
    by_given it its =
        from_top it.given its.given
        (IsDecided.established it.given it.plain it.established)
        (IsDecided.established its.given its.plain its.established)
        (all.together time object other it.replica its.replica it.given its.given apart it.new its.new)
        (reach_last object act it.given it.reaches) (reach_last other other_act its.given its.reaches)

    one_apart : setting.member act other ≡ Some other_act.stamp
    one_apart =
        elim (newly setting laws all time turn.within object act turn.after) [
          | inl before ↦ absurd (turn.before before)
          | inr it ↦
              elim (newly setting laws all time other_turn.within other other_act other_turn.after) [
                | inl before ↦ absurd (other_turn.before before)
                | inr its ↦ by_given it its
              ]
        ]

  -- a step decides one act, or acts of one group
  pub one_turn : (time : ℕ) (object other : ObjectId) (act other_act : Candidate)
      → IsDecidedBy setting time object act → IsDecidedBy setting time other other_act
      → setting.is_act act ≡ true → setting.is_act other_act ≡ true
      → IsOneAct setting object other act other_act
  one_turn time object other act other_act turn other_turn is_act other_is =
      elim (cases_eq object.0 other.0) [
        | inl same_number ↦
            let same : object ≡ other =
            ap (λ (number : ℕ). let it : ObjectId = record { 0 = number } in it) same_number in
            inl (
              same,
              one_here time object act other_act turn
                  (subst (λ (it : ObjectId). IsDecidedBy setting time it other_act) (sym same) other_turn) is_act
                  other_is,
            )
        | inr different ↦
            inr (record {
              apart = different;
              is_member = one_apart time object other different act other_act turn other_turn is_act other_is;
            })
      ]

  -- ---- upon the top

  not_over_base : (time : ℕ) (object : ObjectId) (act candidate : Candidate)
      → IsDecidedBy setting time object act → setting.is_act act ≡ true
      → (it : ActBase setting time object act) → IsDecided setting time object candidate
      → IsAncestor setting setting.last object candidate act → is_below it.base.stamp candidate.stamp ≡ false
  not_over_base time object act candidate turn is_act it decided (IsAncestor.direct same prior) =
      ap (is_below it.base.stamp) (sym prior ∙ it.prior) ∙ is_below-self it.base.stamp
  not_over_base time object act candidate turn is_act it decided
      (IsAncestor.through between same prior plain attested ancestor) =
      let accepted : IsAccepted setting setting.last object between =
      accepted_by_attested setting laws.lasting setting.last object between attested in
      ap (λ (stamp : Stamp). is_below stamp candidate.stamp) (sym it.prior ∙ prior)
      ∙ ancestor-not_above setting laws setting.last (omega arith) object candidate between accepted plain ancestor

  -- an act is decided upon the top
  pub upon_top : (time : ℕ) (object : ObjectId) (act : Candidate)
      → IsDecidedBy setting time object act → setting.is_act act ≡ true → UponTop setting time object act
  upon_top time object act turn is_act =
      let within : time < setting.last = turn.within in
      let it : ActBase setting time object act = act_base time object act turn is_act in
      record {
        base = it.base;
        prior = it.prior;
        top = record {
          plain_top = it.plain;
          established = it.established;
          nothing_above = λ candidate decided.
              let late : IsDecided setting setting.last object candidate =
              decided-later setting laws.lasting time setting.last (omega arith) object candidate decided in
              elim (decided_path setting laws all object act candidate (decided_at_last time object act turn) late) [
                | OnPath.is_same same ↦
                    absurd (turn.before (subst (IsDecided setting time object) (sym same) decided))
                | OnPath.is_under ancestor ↦
                    absurd (turn.before (decided_down setting laws all time (omega arith) object act candidate
                    (accepted_at_last time object act turn) ancestor decided))
                | OnPath.is_above ancestor ↦
                    not_over_base time object act candidate turn is_act it decided ancestor
              ];
        };
      }
