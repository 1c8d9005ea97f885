-- What a replica makes of the request of an act that is quick: the act is done, and each of them tells one verdict.
use Rattle.std.proofs.Common.{◌≡◌, ℕ, ◌+◌, ◌<◌, ◌≤◌, true, not, List, length, Option, None, Some, refl, sym, ap, subst, ◌∙◌, arith}
use Rattle.std.specs.Prelude.{slice_get, unwrap_or, Contains, IsSome}
use Rattle.std.proofs.lemmas.Bool.{false≢true}
use Rattle.std.proofs.lemmas.Option.{get_or_from_slice_get, slice_get_within, same_Some}
use Rattle.qu_base.specs.Bounds.{replicas, quorum}
use Rattle.qu_base.specs.declared.party.ClientId.{ClientId}
use Rattle.qu_base.specs.declared.party.ObjectId.{ObjectId}
use Rattle.qu_base.specs.declared.party.Party.TheVariants as party
use Rattle.qu_stamp.specs.Candidate.{opening}
use Rattle.qu_stamp.specs.declared.candidate.Candidate.{Candidate}
use Rattle.qu_stamp.specs.declared.limits.TheConstants.{LAST_TIME}
use Rattle.qu_stamp.specs.declared.stamp.Stamp.{Stamp}
use Rattle.qu_history.specs.declared.sets.SetOf.{SetOf}
use Rattle.qu_history.specs.Culling.{culled}
use Rattle.qu_history.specs.Formats.{sets_form}
use Rattle.qu_history.specs.Sealing.{are_right}
use Rattle.qu_history.specs.Sets.{entries_of, method_at}
use Rattle.qu_history.proofs.RightSeals.{culled_whole}
use Rattle.qu_objects.specs.declared.act.Method.{Method}
use Rattle.qu_objects.specs.declared.answer.Answer.{Answer}
use Rattle.qu_objects.specs.declared.op.Op.TheVariants as op
use Rattle.qu_objects.specs.declared.kind.KindName.TheVariants.{Counter}
use Rattle.qu_objects.specs.declared.kind.Value.{Value}
use Rattle.qu_objects.specs.Kind.{opening_version}
use Rattle.qu_objects.specs.declared.state.ObjState.{ObjState}
use Rattle.qu_objects.specs.Performing.{performed_answer}
use Rattle.qu_kept.specs.Rows.{row_of}
use Rattle.qu_kept.specs.Standing.{IsLower}
use Rattle.qu_frames.specs.declared.frame.Body.TheVariants as body
use Rattle.qu_frames.specs.declared.frame.Frame.{Frame}
use Rattle.qu_frames.specs.declared.frame.Frame.TheVariants as frame
use Rattle.qu_frames.specs.declared.frame.Letter.{Letter}
use Rattle.qu_verdicts.specs.declared.verdict.Verdict.{Verdict}
use Rattle.qu_verdicts.specs.declared.verdict.Verdict.TheVariants as verdict
use Rattle.qu_frames.specs.Formats.{frame_form}
use Rattle.qu_fitting.proofs.FitRequests.{request-fits}
use Rattle.qu_machine.specs.declared.record.OpRecord.{OpRecord}
use Rattle.qu_rows.specs.State.{ReplicaState}
use Rattle.qu_versions.specs.Versions.{version_at}
use Rattle.qu_client.specs.declared.state.ClientState.{ClientState}
use Rattle.qu_client.specs.Steps.{client_step}
use Rattle.qu_trace.specs.declared.trace.Entry.{Entry}
use Rattle.qu_trace.specs.declared.trace.Setup.{Setup}
use Rattle.qu_trace.specs.declared.trace.Trace.{Trace}
use Rattle.qu_trace.specs.Faulty.{is_faulty, is_good}
use Rattle.qu_trace.specs.Operation.{operations_of}
use Rattle.qu_world.specs.State.{numbered}
use Rattle.qu_world.specs.Run.{IsRun}
use Rattle.qu_claims.specs.Accepted.{accepts}
use Rattle.qu_claims.specs.Carried.{handed, Brings}
use Rattle.qu_claims.specs.Parts.{Names, values_on}
use Rattle.qu_claims.specs.RunSetting.{setting}
use Rattle.qu_claims.specs.Times.{world_after}
use Rattle.qu_claims.specs.Updates.{IsEverAccepted}
use Rattle.qu_claims.specs.Values.{HasVersion}
use Rattle.qu_chain.specs.Joint.{Joint}
use Rattle.qu_chain.specs.Laws.{Laws}
use Rattle.qu_chain.proofs.Ancestry.{Acceptor, acceptor, accepted-later}
use Rattle.qu_chain.proofs.Counting.{test_at-here}
use Rattle.qu_runs.specs.Plain.{ArePlain}
use Rattle.qu_runs.proofs.Digests.Plain.{setup_after}
use Rattle.qu_runs.proofs.Events.Handing.{handed_correct}
use Rattle.qu_runs.proofs.Fits.Carrying.{brings_decoded}
use Rattle.qu_runs.proofs.Fits.Fitting.{handed_fits}
use Rattle.qu_runs.proofs.Small.{only_one}
use Rattle.qu_runs.proofs.Worlds.Objects.{held_within}
use Rattle.qu_runs.proofs.Worlds.OpeningReplicas.{all_replicas, bounds_are}
use Rattle.qu_values.proofs.Requests.ClientFacts.{IsAskedBy, ClientFacts}
use Rattle.qu_runs.proofs.Acts.OneAct.{ActsAreOne}
use Rattle.qu_values.proofs.Updating.UpdateFacts.{UpdateFacts}
use Rattle.qu_quick.specs.Done.{done_stamps, done_verdict, MayPerformOn, IsReady, IsDoneAt}
use Rattle.qu_quick.proofs.FirstRound.{first_set, of_sets, enough_on}
use Rattle.qu_claims.specs.Quick.{first_sets, IsReadyOn, RoundTurn, IsQuickTurn}
use Rattle.qu_claims.proofs.PartValues.{same_values}
use Rattle.qu_quick.proofs.DoneLetters.{done_at, reply_heard}
use Rattle.qu_quick.proofs.FreshNumbers.{base_ever, found_version, found_lower}
use Rattle.qu_quick.proofs.Hearing.{IsHeard}
use Rattle.qu_quick.proofs.Invoked.{sets, sets_are, bounds_here, of_method, own_method, asked_then}

-- a correct replica has each object of which anything is ever accepted
object_known : (trace : Trace) → Laws (setting trace) → (object : ObjectId) (candidate : Candidate)
    → IsEverAccepted trace object candidate → (time place : ℕ) (state : ReplicaState)
    → slice_get (world_after trace time).replicas place ≡ Some state → is_good trace.setup place ≡ true
    → object.0 < length state.histories
unfolding setting
object_known trace laws object candidate ever time place state is_state good =
    let first : Acceptor (setting trace) (setting trace).last object candidate =
    acceptor (setting trace) (setting trace).last object candidate ever in
    let known : (setting trace).known object ≡ true =
    laws.only_known (setting trace).last object first.replica candidate first.good first.within first.accepted in
    let below : place < length (world_after trace time).replicas =
    slice_get_within (world_after trace time).replicas place state is_state in
    let all : length (world_after trace time).replicas ≡ replicas trace.setup.bounds = all_replicas trace time in
    let begins : (setting trace).accepted 0 object place opening ≡ true =
    laws.begins object place known good (omega (arith, below, all)) in
    let still : (setting trace).accepted time object place opening ≡ true =
    accepted-later (setting trace) laws.lasting 0 time (omega arith) object place opening begins in
    held_within opening state.histories object.0 (slice_get state.histories object.0) refl
    (sym (test_at-here (accepts object opening) (world_after trace time).replicas place state is_state) ∙ still)

-- what is found, where something is
found_is : (found : Option ObjState) → IsSome found → found ≡ Some (unwrap_or found (opening_version Counter))
found_is None some = absurd (false≢true some)
found_is (Some it) some = refl

module _ (trace : Trace) (is_run : IsRun trace) (have : ArePlain trace) (clients : ClientFacts trace)
    (one_act : ActsAreOne trace) (laws : Laws (setting trace)) (joint : Joint (setting trace))
    (facts : UpdateFacts trace) (operation : OpRecord) (among : Contains (operations_of trace) operation) (begin : ℕ)
    (begins : operation.invoked ≡ begin + 1) (state : ClientState)
    (is_state : numbered (world_after trace begin).clients (operation.client).0 ≡ Some state)
    (parts : List (ObjectId × Method)) (is_act : operation.op ≡ op.Act parts) (bases : ObjectId → Candidate)
    (current : (object : ObjectId) → Names parts object
    → method_at trace.setup.bounds (entries_of object (first_sets state operation.op)) ≡ Some (bases object))
    (in_time : (object : ObjectId) → Names parts object → (bases object).stamp.time < LAST_TIME) where
  abbrev client : ClientId
  client = operation.client

  abbrev pub shown_sets : List SetOf
  shown_sets = sets trace is_run have operation among begin begins state is_state parts is_act bases current

  sets_so : first_sets state operation.op ≡ shown_sets
  sets_so = sets_are trace is_run have operation among begin begins state is_state parts is_act bases current

  is_method : (object : ObjectId) → Names parts object
      → method_at trace.setup.bounds (entries_of object shown_sets) ≡ Some (bases object)
  is_method = of_method trace is_run have operation among begin begins state is_state parts is_act bases current

  module _ (turn : RoundTurn)
      (quick : IsQuickTurn trace begin operation parts (first_sets state operation.op) bases turn) where
    abbrev at : ℕ
    at = turn.handles

    abbrev entry : Entry
    entry = (quick.reaches).entry

    abbrev old : ReplicaState
    old = quick.state

    abbrev text : List ℕ
    text = (quick.request).text

    below : at < length trace.entries
    below = slice_get_within trace.entries at entry (quick.reaches).is_entry

    abbrev asking : Frame
    asking = frame.Request client operation.number 1 shown_sets (body.Act parts) quick.mac

    pub brings : Brings old text asking
    brings =
        subst (λ (sets : List SetOf). Brings old text
        (frame.Request client operation.number 1 sets (body.Act parts) quick.mac)) sets_so quick.brings

    right : are_right old.keys old.me shown_sets ≡ true
    right = ap (are_right old.keys old.me) (sym sets_so) ∙ quick.right

    sets_fit : sets_form.Fits shown_sets
    sets_fit =
        let fits : frame_form.Fits asking =
        handed_fits trace is_run have.typed at entry below (party.Replica (record { 0 = turn.replica })) text
        (ap (λ (it : Entry). handed (world_after trace at) it.event)
        (get_or_from_slice_get trace.entries at entry entry (quick.reaches).is_entry) ∙ (quick.reaches).hands) asking
        (brings_decoded old text asking brings) in
        (request-fits client operation.number 1 shown_sets (body.Act parts) quick.mac fits).shown

    bounds_so : old.keys.bounds ≡ trace.setup.bounds
    bounds_so = bounds_are trace at turn.replica old quick.is_state

    abbrev asked : (number : ℕ)
        × IsAskedBy trace operation.invoked number quick.request client operation.number 1 shown_sets (body.Act parts)
    asked =
        asked_then trace is_run have operation among begin begins state is_state parts is_act bases current
        quick.request quick.sent old quick.mac brings

    good : is_good trace.setup turn.replica ≡ true
    good =
        ap not (ap (λ (it : Setup). is_faulty it (party.Replica (record { 0 = turn.replica })))
        (sym (setup_after trace at))
        ∙ handed_correct (world_after trace at) entry.event (party.Replica (record { 0 = turn.replica })) text
        (quick.reaches).hands)

    pub its_versions : ObjectId → ObjState
    its_versions object =
        unwrap_or (version_at object (bases object).stamp old.versions) (opening_version Counter)

    -- ---- on an object

    module _ (object : ObjectId) (names : Names parts object) where
      abbrev base : Candidate
      base = bases object

      shows : method_at trace.setup.bounds (entries_of object (culled old.keys old.me shown_sets)) ≡ Some base
      shows =
          ap (λ (sets : List SetOf). method_at trace.setup.bounds (entries_of object sets))
          (culled_whole old.keys old.me shown_sets right) ∙ is_method object names

      ever : IsEverAccepted trace object base
      ever =
          base_ever trace is_run have clients one_act laws joint facts operation among asked.0 quick.request 1
          operation.number shown_sets (body.Act parts) asked.1 sets_fit old.keys bounds_so old.me object base shows

      is_ready : IsReadyOn old object base
      is_ready = quick.ready object names

      stored : version_at object base.stamp old.versions ≡ Some (its_versions object)
      unfolding its_versions
      stored = found_is (version_at object base.stamp old.versions) is_ready.stored

      -- the version that is found is the base's
      pub its_version-is : HasVersion trace object base (its_versions object)
      its_version-is =
          found_version trace is_run have clients one_act laws joint facts operation among asked.0 quick.request 1
          operation.number shown_sets (body.Act parts) asked.1 sets_fit old.keys bounds_so old.me object base shows
          at (omega (arith, below)) turn.replica old quick.is_state (its_versions object) stored

      lower : IsLower operation.number (row_of client (its_versions object).kept)
      lower =
          found_lower trace is_run have clients one_act laws joint facts operation among asked.0 quick.request 1
          operation.number shown_sets (body.Act parts) asked.1 sets_fit old.keys bounds_so old.me object base shows
          at (omega (arith, below)) turn.replica old quick.is_state (its_versions object) stored

      known_there : object.0 < length old.histories
      known_there = object_known trace laws object base ever at turn.replica old quick.is_state good

      full_there : quorum old.keys.bounds ≤ length (first_set state parts object).entries
      full_there =
          subst (λ (bounds : ℕ). quorum bounds ≤ length (first_set state parts object).entries)
          (bounds_here trace is_run have operation among begin begins state is_state parts is_act bases current
          ∙ sym bounds_so)
          (enough_on state parts bases
          (own_method trace is_run have operation among begin begins state is_state parts is_act bases current) object
          names)

      may_perform : MayPerformOn old client operation.number shown_sets object base (its_versions object)
      may_perform = record {
        method = ap (λ (bounds : ℕ). method_at bounds (entries_of object shown_sets)) bounds_so
            ∙ is_method object names;
        current = is_ready.current;
        stored = stored;
        room = is_ready.room;
        in_time = in_time object names;
        lower = lower;
      }

    ready : IsReady old client operation.number shown_sets parts bases its_versions
    ready = record {
      right = right;
      known = of_sets state parts (λ (set : SetOf). (set.object).0 < length old.histories) known_there;
      enough = of_sets state parts (λ (set : SetOf). quorum old.keys.bounds ≤ length set.entries) full_there;
      each = may_perform;
    }

    -- and the act is done
    pub is_done : IsDoneAt trace at turn.replica client operation.number 1
        (done_verdict client operation.number shown_sets parts its_versions)
    is_done =
        done_at trace is_run have at below entry (quick.reaches).is_entry turn.replica old quick.is_state text
        (quick.reaches).hands client operation.number 1 shown_sets parts quick.mac brings bases its_versions ready

  -- whoever does so tells the verdict upon the versions of the bases, which the client takes
  module _ (versions : ObjectId → ObjState)
      (has : (object : ObjectId) → Names parts object → HasVersion trace object (bases object) (versions object)) where
    abbrev pub told_stamps : List (ObjectId × Stamp)
    told_stamps = done_stamps client operation.number shown_sets parts

    abbrev pub told_answer : Answer
    told_answer = performed_answer parts (values_on (λ (object : ObjectId). (versions object).value) parts)

    module _ (turn : RoundTurn)
        (quick : IsQuickTurn trace begin operation parts (first_sets state operation.op) bases turn) where
      abbrev tells : Verdict
      tells = done_verdict client operation.number shown_sets parts versions

      done : IsDoneAt trace turn.handles turn.replica client operation.number 1 tells
      done =
          subst (λ (values : List Value). IsDoneAt trace turn.handles turn.replica client operation.number 1
          (verdict.Done told_stamps (performed_answer parts values)))
          (same_values (λ (object : ObjectId). (its_versions turn quick object).value)
          (λ (object : ObjectId). (versions object).value) parts
          (λ object names. ap (λ (it : ObjState). it.value)
          (facts.one_version object (bases object) (its_versions turn quick object) (versions object)
          (its_version-is turn quick object names) (has object names))))
          (is_done turn quick)

      same_letter : done.letter ≡ quick.reply
      same_letter =
          only_one done.letter quick.reply
          (subst (λ (letters : List Letter). Contains letters quick.reply)
          (ap (λ (it : Entry). it.letters)
          (same_Some (quick.replies).entry done.entry (sym (quick.replies).is_entry ∙ done.is_entry)) ∙ done.letters)
          (quick.replies).sent)

      pub turn_heard : IsHeard trace is_run have client operation.number parts told_stamps told_answer turn
      turn_heard =
          let within : turn.heard < length trace.entries =
          slice_get_within trace.entries turn.heard (quick.told).entry (quick.told).is_entry in
          record {
            entry = (quick.told).entry;
            is_entry = (quick.told).is_entry;
            text = (quick.reply).text;
            hands = (quick.told).hands;
            shown = done.shown;
            mac = done.mac;
            takes = λ then is_then.
                ap (λ (it : Letter). client_step then it.text) (sym same_letter)
                ∙ reply_heard trace turn.handles turn.replica client operation.number 1 tells done turn.heard
                (omega (arith, within)) then is_then;
          }
