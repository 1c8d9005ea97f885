-- Where the links of a version come from: an act or a copy puts in the stamp of what it makes for the other objects of
-- its group, and keeps the others of the version upon which it was made.
use Rattle.std.proofs.Common.{◌≡◌, ℕ, suc, ◌+◌, ◌<◌, ◌≤◌, not, ◌&&◌, length, Some, inl, inr, refl, sym, ap, subst, ◌∙◌, arith, add-one}
use Rattle.std.specs.Prelude.{slice_get}
use Rattle.std.proofs.lemmas.Bool.{and_from}
use Rattle.std.proofs.lemmas.Option.{slice_get_within}
use Rattle.qu_base.specs.Bounds.{quorum, repair, replicas}
use Rattle.qu_base.specs.declared.party.ObjectId.{ObjectId}
use Rattle.qu_stamp.specs.declared.stamp.Stamp.{Stamp}
use Rattle.qu_stamp.specs.declared.candidate.Candidate.{Candidate}
use Rattle.qu_stamp.specs.Candidate.{opening}
use Rattle.qu_stamp.specs.Group.{listed_time}
use Rattle.qu_objects.specs.declared.state.ObjState.{ObjState}
use Rattle.qu_frames.specs.declared.frame.Body.TheVariants as body
use Rattle.qu_versions.specs.Versions.{version_at}
use Rattle.qu_plan.specs.Chosen.{chosen_on}
use Rattle.qu_rows.specs.Rows.{Asked, asked_of, linking_of}
use Rattle.qu_rows.specs.State.{ReplicaState}
use Rattle.qu_trace.specs.declared.trace.Trace.{Trace}
use Rattle.qu_trace.specs.Faulty.{is_good}
use Rattle.qu_world.specs.Run.{IsRun}
use Rattle.qu_claims.specs.Count.{count}
use Rattle.qu_claims.specs.RunSetting.{setting}
use Rattle.qu_claims.specs.Setting.{IsAccepted, IsNew, acceptors}
use Rattle.qu_claims.specs.Times.{world_after}
use Rattle.qu_chain.proofs.Ancestry.{accepted_by}
use Rattle.qu_chain.proofs.Counting.{count-more, count-not}
use Rattle.qu_chain.specs.Laws.{IsLinked, Sizes}
use Rattle.qu_runs.specs.Plain.{ArePlain}
use Rattle.qu_runs.proofs.Worlds.OpeningReplicas.{all_begin}
use Rattle.qu_grounds.proofs.Together.{member_at, IsMemberAt, fresh_listed, listed_named}
use Rattle.qu_accepts.proofs.Accepting.{Acceptance}
use Rattle.qu_links.specs.Making.{LinksFrom}
use Rattle.qu_links.specs.Making.LinksFrom.{opened, made}
use Rattle.qu_links.specs.Over.{LinksOver, RestsAt}
use Rattle.qu_links.proofs.Listed.{listed-over}
use Rattle.qu_agreed.proofs.CopiesAgree.{IsCopyMade, StoresCopy, copy_enough}
use Rattle.qu_laws.proofs.CopySteps.{link_of, act_linked, copy_rests}
use Rattle.qu_agreed.proofs.HowMade.{StoresAct, handles_it, upon_it, asked_it, stores_it}
use Rattle.qu_laws.proofs.Laws.{new_accepted}
use Rattle.qu_agreed.proofs.Made.{IsFirst, IsAdded, IsMadeBy, upon_made}
use Rattle.qu_laws.proofs.ShownWhenAccepted.{sizes, still_accepted}

module _ (trace : Trace) (is_run : IsRun trace) (have : ArePlain trace) where
  abbrev Stores : ℕ → ObjectId → Stamp → ObjState → Type 0
  Stores = IsMadeBy trace

  abbrev HasLinks : ℕ → ObjectId → Stamp → ObjState → Type 0
  HasLinks = LinksFrom (setting trace) ObjState link_of Stores

  -- ---- at the beginning

  -- a correct replica begins with the opening candidate of each object of the setup
  opening_accepted : (object : ObjectId) → object.0 < length trace.setup.kinds
      → IsAccepted (setting trace) (setting trace).last object opening
  unfolding setting
  opening_accepted object known =
      let n : ℕ = replicas trace.setup.bounds in
      let numbers : Sizes (setting trace) = sizes trace is_run have in
      let all : count n (λ replica. is_good trace.setup replica)
      ≤ acceptors (setting trace) (setting trace).last object opening =
      count-more n (λ replica. is_good trace.setup replica)
      (λ replica. is_good trace.setup replica
      && (setting trace).accepted (setting trace).last object replica opening)
      (λ replica within good.
      and_from (is_good trace.setup replica) ((setting trace).accepted (setting trace).last object replica opening) good
      (still_accepted trace is_run have 0 (length trace.entries) (omega arith) object replica opening
      (all_begin trace object replica known good within))) in
      let whole : count n (λ replica. is_good trace.setup replica)
      + count n (λ replica. not (is_good trace.setup replica)) ≡ n =
      count-not n (λ replica. is_good trace.setup replica) in
      let few : (setting trace).faults ≤ trace.setup.bounds = numbers.borne in
      let meets : n + trace.setup.bounds < quorum trace.setup.bounds + repair trace.setup.bounds = numbers.meets in
      let shares : n + trace.setup.bounds + repair trace.setup.bounds
      ≤ quorum trace.setup.bounds + quorum trace.setup.bounds = numbers.shares in
      let within : quorum trace.setup.bounds ≤ n = numbers.within in
      omega (arith, all, whole, few, meets, shares, within)

  first_links : (time : ℕ) (object : ObjectId) (stamp : Stamp) (version : ObjState)
      → IsFirst trace object stamp version → HasLinks time object stamp version
  first_links time object stamp version it =
      opened (opening_accepted object (slice_get_within trace.setup.kinds object.0 it.kind it.is_kind))
      (sym it.under) (λ other. ap (λ (state : ObjState). link_of state other) (sym it.is_version))

  -- ---- upon a request

  module _ (time : ℕ) (object : ObjectId) (stamp : Stamp) (version : ObjState)
      (it : IsAdded trace time object stamp version) where
    abbrev mid : ReplicaState
    mid = (handles_it trace time object stamp version it).mid

    abbrev asked : Asked
    asked = asked_it trace time object stamp version it

    abbrev candidate : Candidate
    candidate = (upon_it trace time object stamp version it).candidates object

    is_new : IsNew (setting trace) it.at object it.place candidate
    is_new = new_accepted trace is_run have it.at it.happened it.place it.old it.new object it.delivered

    is_accepted_then : IsAccepted (setting trace) (suc it.at) object candidate
    is_accepted_then =
        accepted_by (setting trace) (suc it.at) object candidate (record {
          replica = it.place;
          within = is_new.within;
          good = is_new.good;
          accepted = is_new.after;
        })

    abbrev acceptance_it : Acceptance trace it.at object it.place candidate
    acceptance_it = record {
      old = it.old;
      new = it.new;
      is_new = ap (λ (count : ℕ). slice_get (world_after trace count).replicas it.place) (sym (add-one it.at))
          ∙ (handles_it trace time object stamp version it).is_new;
      delivered = it.delivered;
      candidate_is = refl;
    }

    -- upon a version that the replica had under the stamp of its prior
    links_upon : (base : Candidate) (before : ObjState) → RestsAt (setting trace) it.at object base candidate
        → version_at object candidate.prior mid.versions ≡ Some before
        → LinksOver (setting trace) object candidate (link_of before) (link_of version)
        → HasLinks time object stamp version
    links_upon base before rests found over =
        made it.at it.earlier base candidate before it.under is_accepted_then rests
        (upon_made trace is_run have it.at it.happened it.place it.old it.new
        (handles_it trace time object stamp version it) object base.stamp before
        (ap (λ (at : Stamp). version_at object at mid.versions) (sym rests.prior) ∙ found))
        over

    act_links : StoresAct mid it.new (upon_it trace time object stamp version it).client
        (upon_it trace time object stamp version it).number (upon_it trace time object stamp version it).sets
        (upon_it trace time object stamp version it).asks (upon_it trace time object stamp version it).candidates
        object version → HasLinks time object stamp version
    unfolding setting
    act_links act =
        let linked : IsLinked (setting trace) it.at object it.place candidate =
        act_linked trace is_run have it.at it.happened object it.place candidate acceptance_it
        (asked_of (upon_it trace time object stamp version it).client
        (upon_it trace time object stamp version it).number (upon_it trace time object stamp version it).sets
        (body.Act act.parts)) act.parts refl act.performs act.names in
        let before : ObjState = ((act.performs).performed).befores object in
        let grounds = (act.performs).grounds object act.names in
        links_upon linked.base before
        (record { prior = linked.prior; below = linked.below; attested = linked.attested })
        (ap (λ (at : Stamp). version_at object at mid.versions) grounds.prior
        ∙ ((act.performs).performed).of_bases object act.names)
        (subst (λ (state : ObjState). LinksOver (setting trace) object candidate (link_of before) (link_of state))
        (sym (((act.performs).performed).afters object act.names) ∙ act.is)
        (listed-over (setting trace) object candidate act.parts before.links
        (λ other own is_member.
        let at : IsMemberAt candidate other own = member_at candidate other own is_member in
        (fresh_listed (asked_of (upon_it trace time object stamp version it).client
        (upon_it trace time object stamp version it).number (upon_it trace time object stamp version it).sets
        (body.Act act.parts)) act.parts other at.time
        (ap (listed_time other) (sym grounds.group) ∙ at.listed)).0)))

    copy_links : StoresCopy mid asked object candidate version → HasLinks time object stamp version
    unfolding setting
    copy_links copy =
        let made_so : IsCopyMade mid.keys.bounds mid asked object candidate = copy.copy in
        links_upon (chosen_on mid.keys.bounds asked.sets (linking_of mid) object) made_so.before
        (copy_rests trace is_run have it.at it.happened object it.place candidate acceptance_it asked made_so.target
        made_so.plan refl
        (record { copy = made_so.copy; known = made_so.known; is = made_so.is }) made_so.names made_so.made
        (copy_enough mid.keys.bounds mid asked object candidate made_so))
        made_so.found
        (subst (λ (state : ObjState). LinksOver (setting trace) object candidate (link_of made_so.before)
        (link_of state)) copy.is
        (listed-over (setting trace) object candidate candidate.group (made_so.before).links
        (λ other own is_member.
        let at : IsMemberAt candidate other own = member_at candidate other own is_member in
        listed_named candidate.group other at.time at.listed)))

    added_links : HasLinks time object stamp version
    added_links =
        elim (stores_it trace time object stamp version it) [
          | inl act ↦ act_links act
          | inr copy ↦ copy_links copy.1
        ]

  pub links_from : (time : ℕ) → time ≤ (setting trace).last → (object : ObjectId) (stamp : Stamp) (version : ObjState)
      → IsMadeBy trace time object stamp version
      → LinksFrom (setting trace) ObjState link_of (IsMadeBy trace) time object stamp version
  links_from time within object stamp version (IsMadeBy.initial it) = first_links time object stamp version it
  links_from time within object stamp version (IsMadeBy.added it) = added_links time object stamp version it
