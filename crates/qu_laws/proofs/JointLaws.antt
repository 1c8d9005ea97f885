-- A run meets what is asked of its objects, of each and of all together, where no two digested texts have one digest.
use Rattle.std.proofs.Common.{◌≡◌, ap, inl, inr, length, not, subst, suc, sym, true, Some, ◌∙◌, ℕ, ◌+◌, ◌<◌, ◌≤◌, arith, refl}
use Rattle.std.specs.Prelude.{is_some}
use Rattle.std.proofs.lemmas.Bool.{cases_Bool, cases_lt, lt-ltb, ltb-true}
use Rattle.qu_stamp.proofs.Groups.{alone_has_no_member}
use Rattle.qu_claims.specs.Count.{test_at}
use Rattle.qu_claims.specs.Setting.{Apart, IsNew}
use Rattle.qu_claims.specs.Times.{world_after}
use Rattle.qu_claims.specs.Together.{AcceptsTogether, IsJoined}
use Rattle.qu_claims.specs.Truth.{LinksAreTrue}
use Rattle.qu_world.specs.State.{WorldState}
use Rattle.qu_chain.proofs.Arrival.{Turn, turn_between}
use Rattle.qu_grounds.proofs.Together.{member_at}
use Rattle.qu_accepts.proofs.Together.{are_steps, accepts_together}
use Rattle.qu_runs.specs.Plain.{ArePlain}
use Rattle.qu_stamp.specs.declared.candidate.Candidate.{Candidate}
use Rattle.qu_world.specs.Run.{IsRun}
use Rattle.qu_chain.specs.Joint.{Joint, HasCompanion}
use Rattle.qu_claims.specs.Digested.{NoCollision}
use Rattle.qu_base.specs.declared.party.ObjectId.{ObjectId}
use Rattle.qu_claims.specs.Origins.{Origin}
use Rattle.qu_stamp.specs.declared.stamp.Stamp.{Stamp}
use Rattle.qu_trace.specs.declared.trace.Trace.{Trace}
use Rattle.qu_laws.proofs.Origins.{accepted_from, world_ends}
use Rattle.qu_laws.proofs.ShownWhenAccepted.{alone, grows, rising, sizes, start, still_accepted}
use Rattle.qu_claims.specs.Accepted.{accepts, is_accepted}
use Rattle.qu_claims.specs.Chained.{last_world}
use Rattle.qu_laws.proofs.Laws.{one_place, moves}
use Rattle.std.proofs.lemmas.Option.{none-some}
use Rattle.qu_stamp.specs.Candidate.{opening}
use Rattle.qu_runs.proofs.Small.{same_candidate}
use Rattle.qu_claims.specs.RunSetting.{setting}
use Rattle.qu_runs.proofs.Worlds.Settings.{somewhere_accepted}
use Rattle.qu_laws.proofs.Named.{stamps_name}
use Rattle.qu_laws.proofs.CopySteps.{link_of}
use Rattle.qu_laws.proofs.HowAdded.{how_added}
use Rattle.qu_laws.proofs.LinksFrom.{links_from}
use Rattle.qu_agreed.proofs.Made.{IsMadeBy, stored_made, upon_made}
use Rattle.qu_links.specs.Closing.{HowAdded}
use Rattle.qu_links.proofs.Closing.{linked, copied}
use Rattle.qu_links.proofs.Stored.{links_are}
use Rattle.qu_chain.specs.Early.{Early}
use Rattle.qu_chain.specs.Laws.{Lasting, Laws, StampsAreOne}
use Rattle.qu_objects.specs.declared.state.ObjState.{ObjState}
use Rattle.qu_runs.proofs.Worlds.Objects.{accepted_known}
use Rattle.qu_runs.proofs.Worlds.OpeningReplicas.{all_begin}

module _ (trace : Trace) (is_run : IsRun trace) (have : ArePlain trace) where
  -- what a replica makes has a time above 0
  not_opening : (object : ObjectId) (candidate other : Candidate) → candidate ≡ opening
      → Origin trace (length trace.entries) object other → candidate.stamp ≡ other.stamp → ⊥
  not_opening object candidate other is came same =
      no_sum _ (ap (λ (it : Candidate). it.stamp.time) (sym is) ∙ ap (λ (it : Stamp). it.time) same
      ∙ ap (λ (it : Stamp). it.time) (came.made).stamp)
    where
      no_sum : (time : ℕ) → 0 ≡ time + 1 → ⊥
      no_sum time sum = absurd (omega (arith, sum))

  module _ (no_collision : NoCollision trace) where
    -- a stamp that a replica accepted is that of one candidate
    pub one_of_stamp : (object : ObjectId) (candidate other : Candidate)
        → is_accepted (last_world trace) object candidate ≡ true → is_accepted (last_world trace) object other ≡ true
        → candidate.stamp ≡ other.stamp → candidate ≡ other
    one_of_stamp object candidate other accepted again same =
        elim (accepted_from trace is_run have object candidate accepted) [
          | inl is ↦ elim (accepted_from trace is_run have object other again) [
            | inl other_is ↦ is ∙ sym other_is
            | inr other_came ↦ absurd (not_opening object candidate other is other_came same)
          ]
          | inr came ↦ elim (accepted_from trace is_run have object other again) [
            | inl other_is ↦ absurd (not_opening object other candidate other_is came (sym same))
            | inr other_came ↦
                same_candidate candidate other same
                ((stamps_name trace is_run have no_collision).prior object candidate other came other_came same)
                ((stamps_name trace is_run have no_collision).group object candidate other came other_came same)
          ]
        ]

    -- also where two replicas accepted it
    one_by : StampsAreOne (setting trace)
    unfolding setting
    one_by object place elsewhere candidate other good other_good within other_within accepted again same =
        one_of_stamp object candidate other
        (somewhere_accepted object candidate (last_world trace).replicas place accepted)
        (somewhere_accepted object other (last_world trace).replicas elsewhere again) same

    -- ---- the candidates of a group

    together_here : AcceptsTogether trace
    together_here = accepts_together trace (are_steps trace is_run have.typed)

    -- the event, before this one, at which a replica accepted a candidate that has a member
    accepted_at : (time : ℕ) → time ≤ length trace.entries → (object : ObjectId) (place : ℕ) (candidate : Candidate)
        (other : ObjectId) (stamp : Stamp) → (setting trace).accepted time object place candidate ≡ true
        → (setting trace).member candidate other ≡ Some stamp
        → Turn (λ (now : ℕ). (setting trace).accepted now object place candidate) 0 time
    unfolding setting
    accepted_at time within object place candidate other stamp accepted is_member =
        turn_between (λ (now : ℕ). (setting trace).accepted now object place candidate) 0 time (omega arith)
        (elim (cases_Bool ((setting trace).accepted 0 object place candidate)) [
          | inr not_yet ↦ not_yet
          | inl begins ↦ absurd (none-some stamp
              (sym (alone_has_no_member candidate other
              (ap (λ (it : Candidate). it.group) (start trace is_run have object place candidate begins))) ∙ is_member))
        ]) accepted

    -- a replica that accepted a candidate accepted each member of its group
    companion_by : (time : ℕ) → time ≤ length trace.entries → (object : ObjectId) (place : ℕ) (candidate : Candidate)
        (other : ObjectId) (stamp : Stamp) → (setting trace).good place ≡ true → place < (setting trace).n
        → (setting trace).accepted time object place candidate ≡ true → Apart object other
        → (setting trace).member candidate other ≡ Some stamp
        → HasCompanion (setting trace) time object place candidate other stamp
    unfolding setting
    companion_by time bound object place candidate other stamp good within accepted apart is_member =
        let turn : Turn (λ (now : ℕ). (setting trace).accepted now object place candidate) 0 time =
        accepted_at time bound object place candidate other stamp accepted is_member in
        let new : IsNew (setting trace) turn.time object place candidate = record {
          step = omega (arith, turn.within, bound);
          within = within;
          good = good;
          after = turn.after;
          before = turn.before;
        } in
        let joined : IsJoined trace turn.time place candidate other stamp =
        together_here.whole turn.time object place candidate other stamp new is_member in
        let same : (joined.companion).stamp ≡ record candidate.stamp {
          time = (member_at candidate other stamp is_member).time;
        } = joined.stamp_is ∙ sym (member_at candidate other stamp is_member).is in
        record {
          companion = joined.companion;
          stamp_is = joined.stamp_is;
          accepted_too = still_accepted trace is_run have (suc turn.time) time (omega (arith, turn.within)) other place
              joined.companion (joined.new).after;
          back = together_here.alone turn.time other object place joined.companion candidate joined.new new
              (λ numbers. apart (sym numbers));
          plain_too = ap (λ (it : Stamp). not it.barrier) same;
          act_too = ap (λ (it : Stamp). is_some it.act) same;
        }

    -- also at a time after the last event
    has_companion : (time : ℕ) (object : ObjectId) (place : ℕ) (candidate : Candidate)
        (other : ObjectId) (stamp : Stamp) → (setting trace).good place ≡ true → place < (setting trace).n
        → (setting trace).accepted time object place candidate ≡ true → Apart object other
        → (setting trace).member candidate other ≡ Some stamp
        → HasCompanion (setting trace) time object place candidate other stamp
    unfolding setting
    has_companion time object place candidate other stamp good within accepted apart is_member =
        elim (cases_lt time (length trace.entries)) [
          | inl before ↦
              companion_by time (omega (arith, before)) object place candidate other stamp good within accepted apart
              is_member
          | inr past ↦
              let ends : world_after trace time ≡ last_world trace = world_ends trace time past in
              let last : ℕ = length trace.entries in
              let it : HasCompanion (setting trace) last object place candidate other stamp =
              companion_by last (omega arith) object place candidate other stamp good within
              (ap (λ (world : WorldState). test_at (accepts object candidate) world.replicas place) (sym ends)
              ∙ accepted) apart is_member in
              record {
                companion = it.companion;
                stamp_is = it.stamp_is;
                accepted_too =
                    ap (λ (world : WorldState). test_at (accepts other it.companion) world.replicas place) ends
                    ∙ it.accepted_too;
                back = it.back;
                plain_too = it.plain_too;
                act_too = it.act_too;
              }
        ]

    -- ---- what is linked, and what is copied

    lasting : Lasting (setting trace)
    lasting = record { sizes = sizes trace is_run have; grows = grows trace is_run have }

    early : Early (setting trace)
    unfolding setting
    early = record {
      lasting = lasting;
      one = one_by;
      alone_at_first = λ other. alone_has_no_member opening other refl;
    }

    -- what a replica had where it handled a request was made before
    how : (time : ℕ) (object : ObjectId) (replica : ℕ) (candidate : Candidate)
        → (setting trace).plain candidate ≡ true → IsNew (setting trace) time object replica candidate
        → HowAdded (setting trace) ObjState link_of (IsMadeBy trace) time object replica candidate
    how = how_added trace is_run have (IsMadeBy trace) (upon_made trace is_run have)

    pub laws : Laws (setting trace)
    unfolding setting
    laws = record {
      lasting = lasting;
      opens = refl;
      begins = λ object place known good within. all_begin trace object place (ltb-true _ _ known) good within;
      start = λ object place candidate good within accepted. start trace is_run have object place candidate accepted;
      only_known = λ time object place candidate good within accepted.
          lt-ltb _ _ (accepted_known trace time place object candidate accepted);
      rising = rising trace is_run have;
      alone = alone trace is_run have;
      moves = moves trace is_run have;
      one_mover = one_place trace is_run have;
      linked = linked (setting trace) early has_companion ObjState link_of (IsMadeBy trace)
          (links_from trace is_run have) how;
    }

    pub joint_laws : Joint (setting trace)
    unfolding setting
    joint_laws = record {
      one = one_by;
      joint = has_companion;
      together = λ time object other place elsewhere candidate companion apart new again.
          together_here.alone time object other place candidate companion new
          (subst (λ (it : ℕ). IsNew (setting trace) time other it companion)
          (sym (one_place trace is_run have time object other place elsewhere candidate companion new again)) again)
          apart;
      copies = copied (setting trace) early has_companion ObjState link_of (IsMadeBy trace)
          (links_from trace is_run have) how;
    }

    -- the links of versions that correct replicas store are true and kept
    pub links_true : LinksAreTrue trace
    unfolding setting
    links_true time within place state is_state object stamp version found candidate accepted same =
        links_are (setting trace) early ObjState link_of (IsMadeBy trace) (links_from trace is_run have) time within
        object stamp version candidate
        (stored_made trace is_run have time within place state is_state object stamp version found) accepted same
