-- A client that keeps only histories that were held, as their replicas sealed them, sends only those; so does a
-- replica that shows its own.
use Rattle.std.proofs.Common.{◌≡◌, ℕ, ◌+◌, ◌≤◌, List, [], ◌∷◌, map, Option, None, Some, Ok, refl, sym, ap, subst, ◌∙◌, arith}
use Rattle.std.specs.Prelude.{slice_get, IfSome}
use Rattle.std.specs.List.{AllByRecursion, cons_option}
use Rattle.std.proofs.lemmas.Bool.{cond_both}
use Rattle.std.proofs.lemmas.Option.{none-some}
use Rattle.qu_base.specs.declared.party.ClientId.{ClientId}
use Rattle.qu_base.specs.declared.party.ObjectId.{ObjectId}
use Rattle.qu_base.specs.declared.party.Party.TheVariants as party
use Rattle.qu_base.specs.Bounds.{replicas}
use Rattle.qu_history.specs.declared.sets.SetOf.{SetOf}
use Rattle.qu_history.specs.declared.sealed.Sealed.{Sealed}
use Rattle.qu_history.specs.History.{ObjectHistory}
use Rattle.qu_objects.specs.declared.op.Op.{Op}
use Rattle.qu_frames.specs.declared.frame.Frame.{Frame}
use Rattle.qu_frames.specs.declared.frame.Frame.TheVariants as frame
use Rattle.qu_frames.specs.declared.frame.Letter.{Letter}
use Rattle.qu_verdicts.specs.declared.verdict.Verdict.{Verdict}
use Rattle.qu_history.specs.Sealing.{sealed_by}
use Rattle.qu_frames.specs.Formats.{frame_form}
use Rattle.qu_frames.specs.Decoding.{decoded}
use Rattle.qu_mends.specs.declared.accepted.Accepted.{Accepted}
use Rattle.qu_rows.specs.declared.decision.Decision.{Decision}
use Rattle.qu_rows.specs.declared.decision.Decision.TheVariants.{Answers}
use Rattle.qu_rows.specs.State.{ReplicaState}
use Rattle.qu_waiting.specs.Waiting.{TakenRequest}
use Rattle.qu_fitting.specs.Holding.{accept_all}
use Rattle.qu_rows.specs.Rows.{asked_at, decision_on}
use Rattle.qu_replica.specs.Step.{shown, answer_frame, reply, carried_out, learned, handled, if_handled, replica_step}
use Rattle.qu_replica.specs.Step as replica
use Rattle.qu_question.specs.declared.kept.Kept.{Kept}
use Rattle.qu_question.specs.declared.kept.Mark.TheVariants.{Unshown}
use Rattle.qu_client.specs.declared.work.Work.{Work}
use Rattle.qu_client.specs.declared.state.ClientState.{ClientState}
use Rattle.qu_client.specs.State.{Stepped}
use Rattle.qu_client.specs.State.{client_at_start}
use Rattle.qu_question.specs.Kept.{is_older, same_source, keep, keep_all}
use Rattle.qu_client.specs.declared.whom.Whom.{Whom}
use Rattle.qu_client.specs.declared.whom.Whom.TheVariants.{Others}
use Rattle.qu_question.specs.Kept.{unmarked}
use Rattle.qu_question.specs.Named.{operation_objects}
use Rattle.qu_client.specs.Whom.{whom_asked, first_object}
use Rattle.qu_client.specs.Rounds.{request_of, asking_all, begins, requests}
use Rattle.qu_question.specs.Marking.{marked_shown}
use Rattle.qu_question.proofs.Trimmed.{each_of_sets}
use Rattle.qu_client.proofs.Sent.{each_letter}
use Rattle.qu_client.specs.Steps.{client_step, client_invoke, client_tick, next_number}
use Rattle.qu_question.proofs.Marks.{each_remarked, unmarked-remarked, shown_in-remarked}
use Rattle.qu_client.proofs.Cases.{IsRound, OfEach, IsOfHistories, step_cases, tick_cases, invoke_cases}
use Rattle.qu_claims.specs.Carried.{Carries}
use Rattle.qu_shown.specs.Views.{EachEntry}
use Rattle.qu_runs.proofs.Fits.Carrying.{AsksFit, AnswersFit, signed_carries}
use Rattle.qu_runs.proofs.Fits.StepLetters.{on_frame_each}
use Rattle.qu_frames.specs.Formats.{frame_kind}
use Rattle.qu_frames.specs.Signing.{brought, signed}
use Rattle.qu_seal.specs.Keys.{Ring}
use Rattle.qu_frames.proofs.Signed.{brought_is_decoded}
use Rattle.qu_base.specs.declared.party.Party.{Party}
use Rattle.qu_base.proofs.EachItem.{each_weaker}

-- each history in the frame was held
abbrev pub IsTrueFrame : (Sealed → Type 0) → Frame → Type 0
IsTrueFrame Held (frame.Request client number round sets body mac) = EachEntry Held sets
IsTrueFrame Held (frame.Reply replica client number round verdict culled shown mac) = AllByRecursion Held shown
IsTrueFrame Held _ = Unit {0}

-- each history that a reply shows was held
abbrev pub ShowsHeld : (Sealed → Type 0) → Frame → Type 0
ShowsHeld Held (frame.Reply replica client number round verdict culled shown mac) = AllByRecursion Held shown
ShowsHeld Held _ = Unit {0}

pub shows_held : (Held : Sealed → Type 0) (sent : Frame) → IsTrueFrame Held sent → ShowsHeld Held sent
shows_held Held (frame.Reply replica client number round verdict culled shown mac) true_frame = true_frame
shows_held Held _ true_frame = tt

abbrev pub IsTrueLetter : (Sealed → Type 0) → Letter → Type 0
IsTrueLetter Held letter = (sent : Frame) → Carries letter sent → IsTrueFrame Held sent

-- each history of the sets of the operation under way was held
abbrev pub HasTrueSets : (Sealed → Type 0) → Option Work → Type 0
HasTrueSets Held found = IfSome found (λ work. EachEntry Held work.sets)

-- each history that the client keeps or shows was held
pub record IsTrueClient (Held : Sealed → Type 0) (state : ClientState) : Type 0 where
  pub kept : AllByRecursion (λ (it : Kept). Held it.sealed) state.kept
  pub work : HasTrueSets Held state.work

pub record IsTrueStep (Held : Sealed → Type 0) (stepped : Stepped) : Type 0 where
  pub state : IsTrueClient Held stepped.state
  pub letters : AllByRecursion (IsTrueLetter Held) stepped.letters

-- ---- what was held stays so

module _ (Old New : Sealed → Type 0) (more : (sealed : Sealed) → Old sealed → New sealed) where
  sets-more : (sets : List SetOf) → EachEntry Old sets → EachEntry New sets
  sets-more sets each =
      each_weaker (λ (set : SetOf). AllByRecursion Old set.entries) (λ (set : SetOf). AllByRecursion New set.entries)
      sets (λ set. each_weaker Old New set.entries more) each

  work-more : (found : Option Work) → HasTrueSets Old found → HasTrueSets New found
  work-more None each = tt
  work-more (Some work) each = sets-more work.sets each

  frame-more : (sent : Frame) → IsTrueFrame Old sent → IsTrueFrame New sent
  frame-more (frame.Request client number round sets body mac) true_frame = sets-more sets true_frame
  frame-more (frame.Reply replica client number round verdict culled shown mac) true_frame =
      each_weaker Old New shown more true_frame
  frame-more _ true_frame = tt

  pub letters-more : (letters : List Letter) → AllByRecursion (IsTrueLetter Old) letters
      → AllByRecursion (IsTrueLetter New) letters
  letters-more letters each =
      each_weaker (IsTrueLetter Old) (IsTrueLetter New) letters
      (λ letter is_true sent carries. frame-more sent (is_true sent carries)) each

  client-more : (state : ClientState) → IsTrueClient Old state → IsTrueClient New state
  client-more state client = record {
    kept = each_weaker (λ (it : Kept). Old it.sealed) (λ (it : Kept). New it.sealed)
        state.kept (λ it. more it.sealed) client.kept;
    work = work-more state.work client.work;
  }

  pub clients-more : (states : List ClientState) → AllByRecursion (IsTrueClient Old) states
      → AllByRecursion (IsTrueClient New) states
  clients-more states each = each_weaker (IsTrueClient Old) (IsTrueClient New) states client-more each

-- ---- the steps of a client

module _ (Held : Sealed → Type 0) where
  abbrev IsHeld : Kept → Type 0
  IsHeld it = Held it.sealed

  keep-held : (new : Kept) (kept : List Kept) → Held new.sealed → AllByRecursion IsHeld kept
      → AllByRecursion IsHeld (keep new kept)
  unfolding keep
  keep-held new [] here each = (here, tt)
  keep-held new (held ∷ later) here each =
      cond_both (same_source (new.sealed).history (held.sealed).history) _ _ (AllByRecursion IsHeld)
      (λ _. cond_both (is_older new.number new.round held.number held.round) _ _ (AllByRecursion IsHeld)
      (λ _. each) (λ _. (here, each.1)))
      (λ _. (each.0, keep-held new later here each.1))

  keep_all-held : (number round : ℕ) (shown : List Sealed) (kept : List Kept)
      → AllByRecursion Held shown → AllByRecursion IsHeld kept
      → AllByRecursion IsHeld (keep_all number round shown kept)
  unfolding keep_all
  keep_all-held number round [] kept held each = each
  keep_all-held number round (sealed ∷ later) kept held each =
      let new : Kept = record { sealed = sealed; number = number; round = round; mark = Unshown } in
      keep_all-held number round later (keep new kept) held.1 (keep-held new kept held.0 each)

  -- ---- what the client sends

  requests-true : (keys : Ring) (me : ClientId) (work : Work) (whom : Whom) → frame_form.Fits (request_of me work)
      → EachEntry Held work.sets → AllByRecursion (IsTrueLetter Held) (requests keys me work whom)
  requests-true keys me work whom fits held =
      let asks : Frame = request_of me work in
      each_letter keys me work whom (IsTrueLetter Held) (replicas keys.bounds) 0
      (λ replica below asked sent carries.
      let to : Party = party.Replica (record { 0 = replica }) in
      subst (IsTrueFrame Held)
      (sym (signed_carries (record { from = party.Client me; to = to; text = signed keys to asks }) keys to
      asks sent fits refl carries)) held)

  under_way : (found : Option Work) (work : Work) → found ≡ Some work → HasTrueSets Held found
      → EachEntry Held work.sets
  under_way found work is held = subst (HasTrueSets Held) is held

  -- whatever a client does
  abbrev IsTrueIf : Stepped → Type 0
  IsTrueIf stepped = AsksFit stepped.state → IsTrueStep Held stepped

  -- a round begins upon what is kept
  begins-true : (state : ClientState) (kept : List Kept) (op : Op) (number round : ℕ) (before : List ObjectId)
      (work : Work) → AllByRecursion IsHeld kept → IsRound state.keys.bounds kept op number round before work
      → IsTrueIf (begins (record state { kept = kept }) work)
  begins-true state kept op number round before work held is fits =
      let sets : EachEntry Held work.sets =
      subst (EachEntry Held) (sym is.sets_are)
      (each_of_sets Held state.keys.bounds round kept work.named held) in
      record {
        state = record {
          kept = each_remarked Held kept (marked_shown work.sets kept) (shown_in-remarked work.sets kept) held;
          work = sets;
        };
        letters = requests-true state.keys state.me work (whom_asked work)
            (fits work refl) sets;
      }

  each-true : (state : ClientState) → IsTrueClient Held state → OfEach state (AllByRecursion IsHeld) IsTrueIf
  each-true state client = record {
    quiet = record {
      same = λ fits. record { state = client; letters = tt };
      keeps = λ kept held fits. record { state = record { kept = held; work = client.work }; letters = tt };
      counts = λ kept work replica number round verdict culled held is counting fits. record {
        state = record { kept = held; work = under_way state.work work is client.work };
        letters = tt;
      };
      ends = λ kept work end held is fits. record { state = record { kept = held; work = tt }; letters = tt };
      rests = λ kept work named held is _ more fits. record {
        state = record { kept = held; work = under_way state.work work is client.work };
        letters = tt;
      };
      ticks = λ work ticks is fits. record {
        state = record { kept = client.kept; work = under_way state.work work is client.work };
        letters = tt;
      };
    };
    begins = λ kept work held next.
        begins-true state kept next.last.op next.last.number (next.last.round + 1) next.last.named work held next.round;
    asks_others = λ work is preferred fits.
        let sets : EachEntry Held work.sets = under_way state.work work is client.work in
        record {
          state = record { kept = client.kept; work = sets };
          letters = requests-true state.keys state.me (asking_all work)
              (Others (first_object work.op)) (fits (asking_all work) refl) sets;
        };
  }

  histories-true : IsOfHistories (AllByRecursion IsHeld)
  histories-true kept marked same held = each_remarked Held kept marked same held

  pub client_step-true : (state : ClientState) (text : List ℕ)
      → ((sent : Frame) → decoded text ≡ Ok sent → ShowsHeld Held sent) → IsTrueClient Held state
      → IsTrueIf (client_step state text)
  client_step-true state text true_frame client =
      step_cases state (AllByRecursion IsHeld) IsTrueIf histories-true (each-true state client) text
      (λ replica number_of number round verdict culled shown mac is.
      keep_all-held number round shown state.kept
      (true_frame _ (brought_is_decoded state.keys (party.Client state.me) text _ is)) client.kept)

  pub client_tick-true : (state : ClientState) → IsTrueClient Held state → IsTrueIf (client_tick state)
  client_tick-true state client =
      tick_cases state (AllByRecursion IsHeld) IsTrueIf histories-true (each-true state client) client.kept

  pub client_invoke-true : (state : ClientState) (op : Op) → IsTrueClient Held state
      → IsTrueIf (client_invoke state op)
  client_invoke-true state op client =
      invoke_cases state op IsTrueIf
      (λ work first.
      begins-true state (unmarked state.kept) op (next_number state.last_request) 1 (operation_objects op) work
      (each_remarked Held state.kept (unmarked state.kept) (unmarked-remarked state.kept) client.kept) first)

  pub opening-true : (me : ClientId) (keys : Ring) → IsTrueClient Held (client_at_start me keys keys.seed)
  opening-true me keys = record { kept = tt; work = tt }

-- ---- the steps of a replica

module _ (Has : ObjectHistory → Type 0) where
  found-held : (found : Option ObjectHistory) (later : List ObjectHistory)
      → ((history : ObjectHistory) → found ≡ Some history → Has history) → AllByRecursion Has later
      → AllByRecursion Has (cons_option found later)
  found-held None later here each = each
  found-held (Some history) later here each = (here history refl, each)

  shown-held : (state : ReplicaState) (sets : List SetOf)
      → ((place : ℕ) (history : ObjectHistory) → slice_get state.histories place ≡ Some history → Has history)
      → AllByRecursion Has (shown state sets)
  unfolding shown
  shown-held state [] has = tt
  shown-held state (set ∷ later) has =
      found-held (slice_get state.histories (set.object).0) (shown state later) (has (set.object).0)
      (shown-held state later has)

-- a step that answers a request accepts what it decides
if_answered : (state : ReplicaState) (found : Option TakenRequest) (request : TakenRequest) → found ≡ Some request
    → (verdict : Verdict) (accepted : List Accepted)
    → decision_on state (asked_at state request.client request.number request.sets request.body) request.body
    ≡ Answers verdict accepted
    → (if_handled state found).0 ≡ accept_all state accepted
if_answered state found request is verdict accepted decides =
    ap (λ (it : Option TakenRequest). (if_handled state it).0) is
    ∙ ap (λ (decision : Decision). (carried_out state request decision).0) decides

frame_answered : (state : ReplicaState) (received : Frame) (request : TakenRequest)
    → handled state received ≡ Some request → (verdict : Verdict) (accepted : List Accepted)
    → decision_on (learned state received)
    (asked_at (learned state received) request.client request.number request.sets request.body) request.body
    ≡ Answers verdict accepted
    → (replica.replica_on_frame state received).0 ≡ accept_all (learned state received) accepted
frame_answered state (frame.Request client number round sets body mac) =
    if_answered state (handled state (frame.Request client number round sets body mac))
frame_answered state (frame.Fetched replica object stamp version mac) =
    let taken : Frame = frame.Fetched replica object stamp version mac in
    if_answered (learned state taken) (handled state taken)
frame_answered state _ = λ request handles verdict accepted decides. absurd (none-some request handles)

module _ (Held : Sealed → Type 0) where
  sealed-held : (keys : Ring) (each : List ObjectHistory)
      → AllByRecursion (λ (history : ObjectHistory). Held (sealed_by keys history)) each
      → AllByRecursion Held (map (sealed_by keys) each)
  sealed-held keys [] held = tt
  sealed-held keys (history ∷ later) held = (held.0, sealed-held keys later held.1)

  -- the histories of a replica, as it seals them, were held
  abbrev HasHeld : ReplicaState → Type 0
  HasHeld state =
      (place : ℕ) (history : ObjectHistory) → slice_get state.histories place ≡ Some history
      → Held (sealed_by state.keys history)

  reply-true : (state : ReplicaState) (client : ClientId) (number round : ℕ) (sets : List SetOf) (verdict : Verdict)
      → frame_form.Fits (answer_frame state client number round sets verdict) → HasHeld state
      → IsTrueLetter Held (reply state client number round sets verdict)
  reply-true state client number round sets verdict fits has = λ sent carries.
      subst (IsTrueFrame Held)
      (sym (signed_carries (reply state client number round sets verdict) state.keys (party.Client client)
      (answer_frame state client number round sets verdict) sent fits refl carries))
      (sealed-held state.keys (shown state sets)
      (shown-held (λ (history : ObjectHistory). Held (sealed_by state.keys history)) state sets has))

  -- a fetch and a version show no history
  true_other : (sent : Frame) → 3 ≤ frame_kind sent → IsTrueFrame Held sent
  true_other (frame.Request client number round sets body mac) kind = absurd (omega (arith, kind))
  true_other (frame.Reply replica client number round verdict culled shown mac) kind = absurd (omega (arith, kind))
  true_other _ kind = tt

  -- a replica answers with histories that it has after its step
  replica_frame-true : (state : ReplicaState) (received : Frame) → AnswersFit state received
      → HasHeld (replica.replica_on_frame state received).0
      → AllByRecursion (IsTrueLetter Held) (replica.replica_on_frame state received).1
  replica_frame-true state received fits has =
      on_frame_each (IsTrueLetter Held) (λ letter other sent carries. true_other sent (other sent carries))
      state received
      (λ request handles verdict accepted decides.
      reply-true (accept_all (learned state received) accepted) request.client request.number request.round
      request.sets verdict (fits request handles verdict accepted decides)
      (subst HasHeld (frame_answered state received request handles verdict accepted decides) has))

  replica_brought-true : (state : ReplicaState) (found : Option Frame)
      → ((sent : Frame) → found ≡ Some sent → AnswersFit state sent)
      → HasHeld (replica.replica_on_received state found).0
      → AllByRecursion (IsTrueLetter Held) (replica.replica_on_received state found).1
  replica_brought-true state (Some taken) fits has = replica_frame-true state taken (fits taken refl) has
  replica_brought-true state None fits has = tt

  pub replica_step-true : (state : ReplicaState) (text : List ℕ)
      → ((sent : Frame) → decoded text ≡ Ok sent → AnswersFit state sent)
      → ((place : ℕ) (history : ObjectHistory) → slice_get (replica_step state text).0.histories place ≡ Some
      history → Held (sealed_by (replica_step state text).0.keys history))
      → AllByRecursion (IsTrueLetter Held) (replica_step state text).1
  replica_step-true state text fits =
      replica_brought-true state (brought state.keys (party.Replica state.me) text)
      (λ sent brings. fits sent (brought_is_decoded state.keys (party.Replica state.me) text sent brings))
