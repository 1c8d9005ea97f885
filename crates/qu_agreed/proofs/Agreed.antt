-- Versions that correct replicas store under one stamp are one, where no two texts have one digest.
use Rattle.std.proofs.Common.{◌≡◌, ℕ, zero, suc, ◌+◌, ◌<◌, ◌≤◌, Some, inl, inr, sym, ap, subst, ◌∙◌, arith}
use Rattle.std.proofs.lemmas.Bool.{cases_lt}
use Rattle.std.proofs.lemmas.Option.{none-some, same_Some}
use Rattle.qu_base.specs.declared.party.ObjectId.{ObjectId}
use Rattle.qu_stamp.specs.declared.stamp.Stamp.{Stamp}
use Rattle.qu_stamp.specs.declared.candidate.Candidate.{Candidate}
use Rattle.qu_history.specs.Sets.{entries_of}
use Rattle.qu_objects.specs.declared.state.ObjState.{ObjState}
use Rattle.qu_objects.specs.Digesting.{act_digest}
use Rattle.qu_objects.specs.Kind.{opening_version}
use Rattle.qu_kept.specs.Performing.{copied_state}
use Rattle.qu_class.specs.Class.{is_in_sets}
use Rattle.qu_versions.specs.Versions.{version_at}
use Rattle.qu_rows.specs.Rows.{Asked, act_asked}
use Rattle.qu_rows.specs.State.{ReplicaState}
use Rattle.qu_trace.specs.declared.trace.Trace.{Trace}
use Rattle.qu_world.specs.Run.{IsRun}
use Rattle.qu_claims.specs.Digested.{NoCollision}
use Rattle.qu_runs.specs.Plain.{ArePlain}
use Rattle.qu_runs.proofs.Acts.OneAct.{acts_are_one}
use Rattle.qu_accepts.proofs.Handled.{handled}
use Rattle.qu_accepts.proofs.Handling.{mid_bounds}
use Rattle.qu_agreed.proofs.ActsAgree.{same_performed}
use Rattle.qu_agreed.proofs.Alike.{same_histories, same_objects}
use Rattle.qu_agreed.proofs.CopiesAgree.{IsCopyMade, StoresCopy, DoBothHold, same_copies}
use Rattle.qu_agreed.proofs.HowMade.{StoresAct, handles_it, asked_it, stores_it, fresh_it, origin_it}
use Rattle.qu_agreed.proofs.Made.{IsFirst, IsAdded, IsMadeBy, made-later, upon_made}

module _ (trace : Trace) (is_run : IsRun trace) (have : ArePlain trace) where
  -- whatever was made by this time under one stamp is one version
  abbrev pub DoAgreeBy : ℕ → Type 0
  DoAgreeBy count =
      (object : ObjectId) (stamp : Stamp) (version besides : ObjState)
      → IsMadeBy trace count object stamp version → IsMadeBy trace count object stamp besides → version ≡ besides

  -- so two replicas that handle requests then have the same
  pub both_hold : (count : ℕ) → DoAgreeBy count → (first : ℕ) → first ≤ count → (second : ℕ) → second ≤ count
      → (one two : ReplicaState)
      → ((object : ObjectId) (stamp : Stamp) (version : ObjState) → version_at object stamp one.versions ≡ Some version
      → IsMadeBy trace first object stamp version)
      → ((object : ObjectId) (stamp : Stamp) (version : ObjState) → version_at object stamp two.versions ≡ Some version
      → IsMadeBy trace second object stamp version)
      → DoBothHold one two
  both_hold count agree first early second before one two ones twos object stamp version besides found again =
      agree object stamp version besides
      (made-later trace first count early object stamp version (ones object stamp version found))
      (made-later trace second count before object stamp besides (twos object stamp besides again))

  -- an object begins with one version
  firsts_agree : (object : ObjectId) (stamp : Stamp) (version besides : ObjState)
      → IsFirst trace object stamp version → IsFirst trace object stamp besides → version ≡ besides
  firsts_agree object stamp version besides it also =
      sym it.is_version
      ∙ ap opening_version (same_Some it.kind also.kind (sym it.is_kind ∙ also.is_kind))
      ∙ also.is_version

  -- and what is added has a later time
  never_first : (count : ℕ) (object : ObjectId) (stamp : Stamp) (version besides : ObjState)
      → IsFirst trace object stamp version → IsAdded trace count object stamp besides → ⊥
  never_first count object stamp version besides it also =
      no_sum _ (ap (λ (at : Stamp). at.time) it.under ∙ fresh_it trace count object stamp besides also)
    where
      no_sum : (time : ℕ) → 0 ≡ time + 1 → ⊥
      no_sum time sum = omega (arith, sum)

  -- ---- two that were added

  module _ (no_collision : NoCollision trace) (count : ℕ) (object : ObjectId) (stamp : Stamp)
      (version besides : ObjState) (it : IsAdded trace count object stamp version)
      (also : IsAdded trace count object stamp besides) where
    abbrev one : ReplicaState
    one = (handles_it trace count object stamp version it).mid

    abbrev two : ReplicaState
    two = (handles_it trace count object stamp besides also).mid

    abbrev asked : Asked
    asked = asked_it trace count object stamp version it

    abbrev beside : Asked
    beside = asked_it trace count object stamp besides also

    abbrev first : Candidate
    first = ((it.delivered).accepts).candidates object

    abbrev second : Candidate
    second = ((also.delivered).accepts).candidates object

    same_stamps : first.stamp ≡ second.stamp
    same_stamps = it.under ∙ sym also.under

    alike : (of : ObjectId) → entries_of of asked.sets ≡ entries_of of beside.sets
    alike =
        same_histories trace is_run have no_collision object first second
        (origin_it trace count object stamp version it) (origin_it trace count object stamp besides also) same_stamps

    alike_in : (of : ObjectId) → is_in_sets asked.sets of ≡ is_in_sets beside.sets of
    alike_in =
        same_objects trace is_run have no_collision object first second
        (origin_it trace count object stamp version it) (origin_it trace count object stamp besides also) same_stamps

    -- the stamps hold the digest of one act, or of none
    same_act : asked.act ≡ beside.act
    same_act =
        sym (ap (λ (made : Stamp). made.act) ((origin_it trace count object stamp version it).made).stamp)
        ∙ ap (λ (made : Stamp). made.act) same_stamps
        ∙ ap (λ (made : Stamp). made.act) ((origin_it trace count object stamp besides also).made).stamp

    here : one.keys.bounds ≡ trace.setup.bounds
    here = mid_bounds trace it.at it.place it.old it.new (handles_it trace count object stamp version it)

    there : two.keys.bounds ≡ trace.setup.bounds
    there = mid_bounds trace also.at also.place also.old also.new (handles_it trace count object stamp besides also)

    acts_agree : DoBothHold one two
        → StoresAct one it.new ((it.delivered).accepts).client ((it.delivered).accepts).number
        ((it.delivered).accepts).sets ((it.delivered).accepts).asks ((it.delivered).accepts).candidates object version
        → StoresAct two also.new ((also.delivered).accepts).client ((also.delivered).accepts).number
        ((also.delivered).accepts).sets ((also.delivered).accepts).asks ((also.delivered).accepts).candidates object
        besides
        → version ≡ besides
    acts_agree hold act other =
        let digests : act_digest ((it.delivered).accepts).client ((it.delivered).accepts).number act.parts
        ≡ act_digest ((also.delivered).accepts).client ((also.delivered).accepts).number other.parts =
        same_Some _ _ (sym (ap (act_asked ((it.delivered).accepts).client ((it.delivered).accepts).number) act.is_act)
        ∙ same_act
        ∙ ap (act_asked ((also.delivered).accepts).client ((also.delivered).accepts).number) other.is_act) in
        let acts = acts_are_one trace is_run have no_collision ((it.delivered).accepts).client
        ((also.delivered).accepts).client ((it.delivered).accepts).number ((also.delivered).accepts).number act.parts
        other.parts
        (handled trace is_run it.at it.happened it.place it.old it.new object it.delivered act.parts act.is_act)
        (handled trace is_run also.at also.happened also.place also.old also.new object also.delivered other.parts
        other.is_act) digests in
        sym act.is
        ∙ same_performed one two hold trace.setup.bounds here there ((it.delivered).accepts).sets
        ((also.delivered).accepts).sets alike it.new also.new ((it.delivered).accepts).candidates
        ((also.delivered).accepts).candidates ((it.delivered).accepts).client ((also.delivered).accepts).client
        ((it.delivered).accepts).number ((also.delivered).accepts).number act.parts other.parts act.performs
        other.performs acts.0 acts.1 acts.2 object act.names same_stamps
        ∙ other.is

    copies_agree : DoBothHold one two → StoresCopy one asked object first version
        → StoresCopy two beside object second besides → version ≡ besides
    copies_agree hold copy other =
        sym copy.is
        ∙ by_bounds copy.copy other.copy
        ∙ other.is
      where
        -- the bounds of both are those of the run
        by_bounds : (made : IsCopyMade one.keys.bounds one asked object first)
            (again : IsCopyMade two.keys.bounds two beside object second)
            → copied_state object first made.before ≡ copied_state object second again.before
        by_bounds =
            subst (λ (bounds : ℕ). (made : IsCopyMade bounds one asked object first)
            (again : IsCopyMade two.keys.bounds two beside object second)
            → copied_state object first made.before ≡ copied_state object second again.before) (sym here)
            (subst (λ (bounds : ℕ). (made : IsCopyMade trace.setup.bounds one asked object first)
            (again : IsCopyMade bounds two beside object second)
            → copied_state object first made.before ≡ copied_state object second again.before) (sym there)
            (λ made again.
            same_copies one two hold trace.setup.bounds asked beside alike alike_in object first second made again
            same_stamps))

    added_agree : DoBothHold one two → version ≡ besides
    added_agree hold =
        elim (stores_it trace count object stamp version it) [
          | inl act ↦ elim (stores_it trace count object stamp besides also) [
            | inl other ↦ acts_agree hold act other
            | inr copy ↦ absurd (none-some _ (sym (copy.0) ∙ sym same_act
                ∙ ap (act_asked ((it.delivered).accepts).client ((it.delivered).accepts).number) act.is_act))
          ]
          | inr copy ↦ elim (stores_it trace count object stamp besides also) [
            | inl act ↦ absurd (none-some _ (sym (copy.0) ∙ same_act
                ∙ ap (act_asked ((also.delivered).accepts).client ((also.delivered).accepts).number) act.is_act))
            | inr other ↦ copies_agree hold copy.1 other.1
          ]
        ]

    -- what both had then is one by what was made before
    added_by : ((past : ℕ) → past < count → DoAgreeBy past) → version ≡ besides
    added_by earlier =
        let ones = upon_made trace is_run have it.at it.happened it.place it.old it.new
        (handles_it trace count object stamp version it) in
        let twos = upon_made trace is_run have also.at also.happened also.place also.old also.new
        (handles_it trace count object stamp besides also) in
        elim (cases_lt it.at also.at) [
          | inl before ↦
              added_agree (both_hold also.at (earlier also.at also.earlier) it.at (omega (arith, before)) also.at
              (omega arith) one two ones twos)
          | inr after ↦
              added_agree (both_hold it.at (earlier it.at it.earlier) it.at (omega arith) also.at
              (omega (arith, after)) one two ones twos)
        ]

  -- ---- whatever was made

  module _ (no_collision : NoCollision trace) where
    agree_by : (count : ℕ) → ((past : ℕ) → past < count → DoAgreeBy past) → DoAgreeBy count
    agree_by count earlier object stamp version besides (IsMadeBy.initial it) (IsMadeBy.initial also) =
        firsts_agree object stamp version besides it also
    agree_by count earlier object stamp version besides (IsMadeBy.initial it) (IsMadeBy.added also) =
        absurd (never_first count object stamp version besides it also)
    agree_by count earlier object stamp version besides (IsMadeBy.added it) (IsMadeBy.initial also) =
        absurd (never_first count object stamp besides version also it)
    agree_by count earlier object stamp version besides (IsMadeBy.added it) (IsMadeBy.added also) =
        added_by no_collision count object stamp version besides it also earlier

    agree_up_to : (bound count : ℕ) → count ≤ bound → DoAgreeBy count
    agree_up_to zero count within =
        agree_by count (λ past before. absurd (none past count before within))
      where
        none : (past count : ℕ) → past < count → count ≤ 0 → ⊥
        none past count before within = omega arith
    agree_up_to (suc bound) count within =
        agree_by count (λ past before. agree_up_to bound past (omega (arith, before, within)))

    pub agree : (count : ℕ) → DoAgreeBy count
    agree count = agree_up_to count count (omega arith)
