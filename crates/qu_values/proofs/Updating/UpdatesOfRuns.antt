-- The updates of a run are as the values along the order ask: a group is of one update, and none is done upon itself.
use Rattle.std.proofs.Common.{List, ◌≡◌, refl, ◌⊎◌, true, false, not, length, Some, sym, ap, subst, ◌∙◌, arith, inl, inr, ℕ, ◌≤◌, ◌<◌}
use Rattle.std.specs.Prelude.{is_some, Option}
use Rattle.std.proofs.lemmas.Bool.{cases_eq}
use Rattle.qu_objects.specs.declared.act.Method.{Method}
use Rattle.qu_base.specs.declared.party.Digest.{Digest}
use Rattle.qu_base.specs.declared.party.ObjectId.{ObjectId}
use Rattle.qu_stamp.specs.declared.candidate.Candidate.{Candidate}
use Rattle.qu_stamp.specs.declared.stamp.Stamp.{Stamp}
use Rattle.qu_stamp.specs.Stamp.{is_below}
use Rattle.qu_stamp.specs.Candidate.{opening}
use Rattle.qu_claims.specs.Setting.{Apart}
use Rattle.qu_chain.specs.Laws.{Laws}
use Rattle.qu_chain.specs.Joint.{Joint, HasMember}
use Rattle.qu_chain.proofs.Counting.{Found, found_at}
use Rattle.qu_objects.specs.declared.kind.Value.{Value}
use Rattle.qu_objects.specs.declared.state.ObjState.{ObjState}
use Rattle.qu_frames.specs.declared.frame.Body.TheVariants as body
use Rattle.qu_trace.specs.declared.trace.Trace.{Trace}
use Rattle.qu_world.specs.Run.{IsRun}
use Rattle.qu_claims.specs.Accepted.{accepts, is_accepted}
use Rattle.qu_claims.specs.Handled.{IsHandled, IsMadeFor}
use Rattle.qu_runs.specs.Plain.{ArePlain}
use Rattle.qu_claims.specs.RunSetting.{setting}
use Rattle.qu_claims.specs.Chained.{last_world}
use Rattle.qu_claims.specs.Grounds.{Accepts, AddsTo, Performs}
use Rattle.qu_claims.specs.Parts.{Names}
use Rattle.qu_rows.specs.Rows.{asked_of}
use Rattle.qu_claims.specs.Origins.{Origin}
use Rattle.qu_rows.specs.State.{ReplicaState}
use Rattle.qu_runs.proofs.Worlds.Settings.{AcceptedAt, accepted_somewhere, is_accepted_by}
use Rattle.qu_grounds.proofs.Grounds.{IsOfAct, act_added}
use Rattle.qu_claims.specs.Updates.{Update, IsOf, IsEverAccepted, NumbersRise}
use Rattle.qu_claims.specs.Values.{HasVersion}
use Rattle.qu_accepts.proofs.Handled.{handled, made_for}
use Rattle.qu_runs.proofs.Acts.OneAct.{ActsAreOne, one_made_for}
use Rattle.qu_laws.proofs.Origins.{accepted_from}
use Rattle.qu_values.proofs.Updating.RisingNumbers.{numbers_rise as rising, none_repeated, rows_are_true}
use Rattle.qu_values.proofs.Versions.StoredValues.{version_held}
use Rattle.qu_values.proofs.Versions.SteppedVersions.{plain_of_method}
use Rattle.qu_values.proofs.Updating.Updates.{acts, opening_no_act, same_accepted}
use Rattle.qu_values.proofs.Updating.UpdateFacts.{HasValue, MadeFor, UpdateFacts, NoneIsRepeated}
use Rattle.qu_values.proofs.Versions.Values.{one_version}
use Rattle.qu_kept.specs.Performing.{copied_state}
use Rattle.qu_grounds.proofs.Together.{added_together, member_added, IsMemberAt, member_at}
use Rattle.qu_chain.proofs.Parents.{parent}
use Rattle.qu_frames.specs.declared.frame.Body.{Body}

module _ (trace : Trace) where
  in_world : (object : ObjectId) (candidate : Candidate) → IsEverAccepted trace object candidate
      → is_accepted (last_world trace) object candidate ≡ true
  unfolding setting
  in_world object candidate accepted = is_accepted_by trace (length trace.entries) object candidate accepted

module _ (trace : Trace) (is_run : IsRun trace) (have : ArePlain trace) where
  -- ---- where an accepted candidate came from

  came_from : (object : ObjectId) (candidate : Candidate) → IsEverAccepted trace object candidate
      → (candidate ≡ opening) ⊎ Origin trace (length trace.entries) object candidate
  came_from object candidate accepted =
      accepted_from trace is_run have object candidate (in_world trace object candidate accepted)

  act_origin : (object : ObjectId) (candidate : Candidate) → IsEverAccepted trace object candidate
      → (setting trace).is_act candidate ≡ true → Origin trace (length trace.entries) object candidate
  act_origin object candidate accepted is_act =
      elim (came_from object candidate accepted) [
        | inl begins ↦ absurd (opening_no_act trace candidate begins is_act)
        | inr came ↦ came
      ]

  module _ (count : ℕ) (bound : count ≤ length trace.entries) (object : ObjectId) (candidate : Candidate)
      (came : Origin trace count object candidate) where
    abbrev mid : ReplicaState
    mid = ((came.delivered).handles).mid

    abbrev one : Accepts mid came.new ((came.delivered).handles).carried
    one = (came.delivered).accepts

    -- the request asked for an act, where the candidate is an operation's
    pub act_of_origin : (setting trace).is_act candidate ≡ true
        → IsOfAct mid came.new (asked_of one.client one.number one.sets one.asks) one.asks one.candidates object
    unfolding setting
    act_of_origin is_act =
        act_added mid came.new one.client one.number one.sets one.asks one.group one.candidates object one.reasons
        (came.delivered).adds
        (ap (λ (act : Option Digest). is_some act) (sym (ap (λ (it : Stamp). it.act) (came.made).stamp)) ∙ is_act)

    module _ (is_act : (setting trace).is_act candidate ≡ true) where
      abbrev pub of_act : IsOfAct mid came.new (asked_of one.client one.number one.sets one.asks) one.asks
          one.candidates object
      of_act = act_of_origin is_act

      performs_so : Performs mid came.new (asked_of one.client one.number one.sets (body.Act of_act.parts))
          of_act.parts one.candidates
      performs_so =
          subst (λ (asks : Body). Performs mid came.new (asked_of one.client one.number one.sets asks) of_act.parts
          one.candidates) of_act.is_act of_act.performs

      was_handled : IsHandled trace one.client one.number of_act.parts
      was_handled =
          let earlier : came.past < count = came.earlier in
          handled trace is_run came.past (omega arith) came.place came.old came.new object came.delivered of_act.parts
          of_act.is_act

      pub made_so : IsMadeFor trace candidate one.client one.number of_act.parts
      made_so =
          made_for trace mid came.new one.client one.number one.sets of_act.parts one.candidates object
          performs_so of_act.names candidate came.is_candidate was_handled

      made_by : MadeFor trace object candidate
      made_by = record {
        update = record { client = one.client; number = one.number; parts = of_act.parts };
        is_of = record { made = made_so; names = of_act.names };
      }

      -- it has no barrier
      act_plain : (setting trace).plain candidate ≡ true
      unfolding setting
      act_plain =
          ap (λ (it : Candidate). not it.stamp.barrier) (sym came.is_candidate)
          ∙ ap (λ (it : Stamp). not it.barrier) (performs_so.grounds object of_act.names).stamp

  pub plain_acts : (object : ObjectId) (candidate : Candidate) → IsEverAccepted trace object candidate
      → (setting trace).is_act candidate ≡ true → (setting trace).plain candidate ≡ true
  plain_acts object candidate accepted is_act =
      act_plain (length trace.entries) (omega arith) object candidate (act_origin object candidate accepted is_act)
      is_act

  module _ (one_act : ActsAreOne trace) (laws : Laws (setting trace)) (joint : Joint (setting trace)) where
    -- what was made for an update, together with its other parts
    module _ (update : Update) (object : ObjectId) (candidate : Candidate) (is_of : IsOf trace update object candidate)
        (accepted : IsEverAccepted trace object candidate) where
      abbrev came_so : Origin trace (length trace.entries) object candidate
      came_so = act_origin object candidate accepted (acts trace update object candidate is_of)

      abbrev upon : Accepts ((came_so.delivered).handles).mid came_so.new ((came_so.delivered).handles).carried
      upon = (came_so.delivered).accepts

      abbrev act_asked : IsOfAct ((came_so.delivered).handles).mid came_so.new
          (asked_of upon.client upon.number upon.sets upon.asks) upon.asks upon.candidates object
      act_asked =
          of_act (length trace.entries) (omega arith) object candidate came_so
          (acts trace update object candidate is_of)

      -- it was made for the parts of the update
      asks_are : upon.asks ≡ body.Act update.parts
      asks_are =
          act_asked.is_act ∙ ap (λ (parts : List (ObjectId × Method)). body.Act parts)
          (one_made_for trace one_act candidate upon.client update.client upon.number update.number act_asked.parts
          update.parts
          (made_so (length trace.entries) (omega arith) object candidate came_so
          (acts trace update object candidate is_of)) is_of.made).2

      -- so its members are on these
      member_named : (other : ObjectId) (stamp : Stamp) → (setting trace).member candidate other ≡ Some stamp
          → Names update.parts other
      unfolding setting
      member_named other stamp is_member =
          subst (λ (asks : Body). AddsTo asks upon.group other) asks_are
          (member_added ((came_so.delivered).handles).mid came_so.new
          (asked_of upon.client upon.number upon.sets upon.asks) upon.group upon.candidates upon.asks upon.reasons
          object (came_so.delivered).adds other stamp
          (ap (λ (it : Candidate). (setting trace).member it other) came_so.is_candidate ∙ is_member)).0

      -- and on each of these is one
      named_member : (other : ObjectId) → Names update.parts other → Apart object other
          → HasMember (setting trace) object candidate other
      unfolding setting
      named_member other names apart = (
        apart,
        (
          (upon.candidates other).stamp,
          ap (λ (it : Candidate). (setting trace).member it other) (sym came_so.is_candidate)
              ∙ added_together ((came_so.delivered).handles).mid came_so.new
              (asked_of upon.client upon.number upon.sets upon.asks) upon.group upon.candidates upon.asks upon.reasons
              object other (came_so.delivered).adds
              (subst (λ (asks : Body). AddsTo asks upon.group other) (sym asks_are) names) apart,
        ),
      )

    -- a group is of one update
    shared : (update : Update) (object other : ObjectId) (candidate companion : Candidate)
        → IsOf trace update object candidate → IsEverAccepted trace object candidate → Apart object other
        → (setting trace).member candidate other ≡ Some companion.stamp
        → IsEverAccepted trace other companion → IsOf trace update other companion
    unfolding setting
    shared update object other candidate companion is_of accepted apart is_member also =
        let it : IsMemberAt candidate other companion.stamp =
        member_at candidate other companion.stamp is_member in
        record {
          made = record {
            handled = (is_of.made).handled;
            of_client = ap (λ (stamp : Stamp). stamp.client) (sym it.is) ∙ (is_of.made).of_client;
            of_act = ap (λ (stamp : Stamp). stamp.act) (sym it.is) ∙ (is_of.made).of_act;
          };
          names = member_named update object candidate is_of accepted other companion.stamp is_member;
        }

    -- what an update is made for on two objects has a group with both
    spread : (update : Update) (object other : ObjectId) (candidate companion : Candidate)
        → IsOf trace update object candidate → IsEverAccepted trace object candidate
        → IsOf trace update other companion → IsEverAccepted trace other companion
        → (object ≡ other) ⊎ HasMember (setting trace) object candidate other
    spread update object other candidate companion one accepted two besides =
        elim (cases_eq object.0 other.0) [
          | inl same ↦ inl (ap (λ (number : ℕ). record { 0 = number }) same)
          | inr apart ↦ inr (named_member update object candidate one accepted other two.names apart)
        ]

    -- a copy has the value of its base
    copied : (object : ObjectId) (candidate base : Candidate) (value : Value)
        → IsEverAccepted trace object candidate → (setting trace).plain candidate ≡ true
        → (setting trace).is_act candidate ≡ false → candidate.prior ≡ base.stamp
        → IsEverAccepted trace object base → HasValue trace object base value → HasValue trace object candidate value
    copied object candidate base value accepted plain not_act prior base_accepted has =
        elim (parent (setting trace) laws (setting trace).last (omega arith) object candidate accepted plain) [
          | inl begins ↦
              subst (λ (it : Candidate). HasValue trace object it value)
              (same_accepted trace laws joint object base candidate base_accepted accepted
              (sym prior ∙ ap (λ (it : Candidate). it.prior) begins ∙ ap (λ (it : Candidate). it.stamp) (sym begins)))
              has
          | inr upon ↦ record {
            version = copied_state object candidate has.version;
            has = HasVersion.of_copy object candidate base has.version (copied_state object candidate has.version)
                (ap (λ (it : Stamp). is_below it candidate.stamp) (upon.link).prior ∙ (upon.link).below) plain not_act
                prior base_accepted has.has refl;
            value_is = has.value_is;
          }
        ]

    -- every accepted candidate without barrier has a version
    stored : (object : ObjectId) (candidate : Candidate) → IsEverAccepted trace object candidate
        → (setting trace).plain candidate ≡ true → (version : ObjState) × HasVersion trace object candidate version
    stored object candidate accepted plain =
        let found : AcceptedAt object candidate (last_world trace).replicas =
        accepted_somewhere object candidate (last_world trace).replicas (in_world trace object candidate accepted) in
        let state : Found (accepts object candidate) (last_world trace).replicas found.place =
        found_at (accepts object candidate) (last_world trace).replicas found.place found.accepted in
        let held = version_held trace laws joint is_run have (length trace.entries) (omega arith)
        found.place state.item state.is_at object candidate plain state.passed in
        (held.0, held.2)

    pub update_facts : UpdateFacts trace
    update_facts = record {
      made = λ object candidate accepted is_act.
          made_by (length trace.entries) (omega arith) object candidate (act_origin object candidate accepted is_act)
          is_act;
      plain = plain_acts;
      plain_base = λ object base entries is accepted. plain_of_method trace trace.setup.bounds entries base is;
      shared = shared;
      spread = spread;
      one_version = one_version trace laws joint one_act;
      written = rows_are_true trace laws joint one_act plain_acts;
      copied = λ object candidate base value accepted plain not_act prior plain_base base_accepted has.
          copied object candidate base value accepted plain not_act prior base_accepted has;
      stored = λ object candidate accepted is_act.
          stored object candidate accepted (plain_acts object candidate accepted is_act);
    }

    pub numbers_rise : NumbersRise trace
    numbers_rise =
        rising trace laws joint one_act (λ object candidate accepted is_act.
        stored object candidate accepted (plain_acts object candidate accepted is_act))

    -- so no update is repeated
    pub none_is_repeated : NoneIsRepeated trace
    none_is_repeated = none_repeated trace numbers_rise
