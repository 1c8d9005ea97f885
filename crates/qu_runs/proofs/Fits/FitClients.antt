-- What a client keeps fits its format, as long as what it is sent fits; so what it asks for does.
use Rattle.std.proofs.Common.{◌≡◌, ℕ, zero, suc, ◌+◌, ◌<◌, ◌≤◌, ◌^◌, List, [], ◌∷◌, Option, None, Some, IfSome, Ok, refl, sym, ap, subst, ◌∙◌, arith}
use Rattle.std.specs.Prelude.{slice_get}
use Rattle.std.specs.List.{AllByRecursion}
use Rattle.std.proofs.lemmas.Bool.{cond_both}
use Rattle.std.proofs.lemmas.Option.{none-some, same_Some}
use Rattle.qu_base.specs.declared.limits.TheConstants.{LAST_CLIENT, REPLICA_IDS}
use Rattle.qu_base.specs.declared.party.ClientId.{ClientId}
use Rattle.qu_base.specs.declared.party.ObjectId.{ObjectId}
use Rattle.qu_base.specs.declared.party.ReplicaId.{ReplicaId}
use Rattle.qu_base.specs.Format.{FitsFrom}
use Rattle.qu_base.specs.Bounds.{replicas}
use Rattle.qu_history.specs.declared.sealed.Sealed.{Sealed}
use Rattle.qu_history.specs.Formats.{history_form, sealed_form, sealed_from, object_after, shown_form}
use Rattle.qu_objects.specs.declared.op.Op.{Op}
use Rattle.qu_frames.specs.declared.frame.Frame.{Frame}
use Rattle.qu_frames.specs.declared.frame.Frame.TheVariants as frame
use Rattle.qu_verdicts.specs.declared.verdict.Verdict.{Verdict}
use Rattle.qu_frames.specs.Formats.{reply_frame, kind_form, frame_form}
use Rattle.qu_frames.specs.Decoding.{decoded}
use Rattle.qu_frames.specs.declared.frame.Body.{Body}
use Rattle.qu_client.specs.declared.whom.Whom.TheVariants.{Others}
use Rattle.qu_client.specs.declared.whom.Whom.{Whom}
use Rattle.qu_question.specs.declared.kept.Kept.{Kept}
use Rattle.qu_question.specs.declared.kept.Mark.TheVariants.{Unshown}
use Rattle.qu_client.specs.declared.state.ClientState.{ClientState}
use Rattle.qu_client.specs.State.{Stepped}
use Rattle.qu_client.specs.declared.work.Work.{Work}
use Rattle.qu_client.specs.State.{client_at_start}
use Rattle.qu_question.specs.Kept.{is_older, same_source, keep, keep_all, unmarked}
use Rattle.qu_client.specs.Work.{with_verdict}
use Rattle.qu_client.specs.Steps.{client_step, client_invoke, next_number, client_tick}
use Rattle.qu_client.specs.Sound.{NumbersWithin, IsSoundWork, IsSound}
use Rattle.qu_client.specs.Whom.{whom_asked, first_object}
use Rattle.qu_client.specs.Rounds.{request_of, requests, asking_all}
use Rattle.qu_question.specs.Marking.{marked_shown}
use Rattle.qu_client.proofs.Sent.{each_letter}
use Rattle.qu_client.proofs.Cases.{step_cases, invoke_cases, IsRound, OfEach, IsOfHistories, tick_cases}
use Rattle.qu_history.specs.declared.sets.SetOf.{SetOf}
use Rattle.qu_fitting.specs.Fits.{LetterFits}
use Rattle.qu_world.specs.State.{opening_clients, numbered}
use Rattle.qu_client.proofs.Laws.{client_step-me, client_step-bounds, client_invoke-me, client_invoke-bounds, NumbersWithin-opening, NumbersWithin-step, NumbersWithin-invoke, IsSound-step, IsSound-invoke, work_within, sound_work, client_tick-me, client_tick-bounds, NumbersWithin-tick, IsSound-tick}
use Rattle.qu_runs.specs.Plain.{HasOpParts}
use Rattle.qu_runs.proofs.Fits.Carrying.{AsksFit}
use Rattle.qu_runs.proofs.Fits.FitRequests.{KeptFits, request_fits, FitAsked, round_fits, AreNamedFor, more_named, own_named}
use Rattle.qu_world.proofs.RunLaws.{within_more}
use Rattle.qu_frames.specs.Signing.{signature, with_mac}
use Rattle.qu_seal.specs.Keys.{Ring}
use Rattle.qu_frames.proofs.Signed.{brought_is_decoded, signed_is_spelled}
use Rattle.qu_base.specs.declared.party.Party.TheVariants as party
use Rattle.qu_question.specs.Named.{operation_objects}
use Rattle.qu_question.proofs.Naming.{AreMore, same_named}
use Rattle.qu_question.proofs.Marks.{each_remarked, unmarked-remarked, shown_in-remarked}

-- ---- what a reply shows

shown_is_sealed : (replica : ReplicaId) (least : ℕ) (sealed : Sealed) → (sealed_from replica least).Fits sealed
    → sealed_form.Fits sealed
unfolding sealed_from sealed_form history_form
shown_is_sealed replica least sealed fits = ((fits.0.0.0, (fits.0.1.0.0, fits.0.1.1)), fits.1)

each_sealed : (replica : ReplicaId) (least : ℕ) (shown : List Sealed) → FitsFrom (sealed_from replica) object_after
    least shown → AllByRecursion sealed_form.Fits shown
each_sealed replica least [] fits = tt
each_sealed replica least (sealed ∷ later) fits =
    (shown_is_sealed replica least sealed fits.0, each_sealed replica (object_after sealed) later fits.1)

shown_fits : (replica : ReplicaId) (shown : List Sealed) → (shown_form replica).Fits shown
    → AllByRecursion sealed_form.Fits shown
unfolding shown_form
shown_fits replica shown fits = each_sealed replica 0 shown fits.1.1

reply_shown : (replica : ReplicaId) (client : ClientId) (number round : ℕ) (verdict : Verdict)
    (culled : List (ObjectId × ReplicaId)) (shown : List Sealed) (mac : List ℕ)
    → frame_form.Fits (frame.Reply replica client number round verdict culled shown mac)
    → AllByRecursion sealed_form.Fits shown
unfolding frame_form kind_form reply_frame
reply_shown replica client number round verdict culled shown mac fits = shown_fits replica shown fits.1.1.1.1.1.1.1.1.0

-- ---- what is kept

keep_fits : (new : Kept) (kept : List Kept) → sealed_form.Fits new.sealed → KeptFits kept → KeptFits (keep new kept)
unfolding keep
keep_fits new [] fits all = (fits, tt)
keep_fits new (held ∷ later) fits all =
    cond_both (same_source (new.sealed).history (held.sealed).history) _ _ KeptFits
    (λ _. cond_both (is_older new.number new.round held.number held.round) _ _ KeptFits (λ _. all) (λ _. (fits, all.1)))
    (λ _. (all.0, keep_fits new later fits all.1))

keep_all_fits : (number round : ℕ) (shown : List Sealed) (kept : List Kept)
    → AllByRecursion sealed_form.Fits shown → KeptFits kept → KeptFits (keep_all number round shown kept)
unfolding keep_all
keep_all_fits number round [] kept fits all = all
keep_all_fits number round (sealed ∷ later) kept fits all =
    let new : Kept = record { sealed = sealed; number = number; round = round; mark = Unshown } in
    keep_all_fits number round later (keep new kept) fits.1 (keep_fits new kept fits.0 all)

-- ---- a client's state

-- the operation under way has a number and parts, objects are named for it, and what its round asks fits
pub record IsBegun (work : Work) : Type 0 where
  pub from_one : 1 ≤ work.number
  pub parts : HasOpParts work.op
  pub named : AreNamedFor work.op work.named
  pub asked : FitAsked work.sets work.body

abbrev pub HasBegun : Option Work → Type 0
HasBegun work = IfSome work IsBegun

pub record HoldsFit (state : ClientState) : Type 0 where
  pub kept : KeptFits state.kept
  pub work : HasBegun state.work

begun : (found : Option Work) (work : Work) → found ≡ Some work → HasBegun found → IsBegun work
begun found work is has = subst HasBegun is has

-- the same work with more that is named, other replies or in another phase
same_asked : (old new : Work) → new.op ≡ old.op → new.number ≡ old.number → AreMore old.named new.named
    → new.sets ≡ old.sets → new.body ≡ old.body → IsBegun old → IsBegun new
same_asked old new op_is number_is more sets_are body_is is = record {
  from_one = subst (λ (it : ℕ). 1 ≤ it) (sym number_is) is.from_one;
  parts = subst HasOpParts (sym op_is) is.parts;
  named =
      subst (λ (it : Op). AreNamedFor it new.named) (sym op_is) (more_named old.op old.named new.named more is.named);
  asked = subst (λ (it : List SetOf). FitAsked it new.body) (sym sets_are)
      (subst (λ (it : Body). FitAsked old.sets it) (sym body_is) is.asked);
}

-- a round of an operation with parts, upon what fits
round_begun : (bounds : ℕ) (kept : List Kept) (what : Op) (number round : ℕ) (before : List ObjectId) (work : Work)
    → IsRound bounds kept what number round before work → 1 ≤ number → HasOpParts what → AreNamedFor what before
    → KeptFits kept → replicas bounds ≤ REPLICA_IDS → IsBegun work
round_begun bounds kept what number round before work is low parts named fits few =
    let more : AreNamedFor what work.named = more_named what before work.named is.names named in
    record {
      from_one = subst (λ (it : ℕ). 1 ≤ it) (sym is.number_is) low;
      parts = subst HasOpParts (sym is.op_is) parts;
      named = subst (λ (it : Op). AreNamedFor it work.named) (sym is.op_is) more;
      asked = round_fits bounds kept what number round before work is fits few parts more;
    }

module _ (state : ClientState) (few : replicas state.keys.bounds ≤ REPLICA_IDS) (holds : HoldsFit state) where
  with_work : (kept : List Kept) (work last : Work) → KeptFits kept → state.work ≡ Some last → work.op ≡ last.op
      → work.number ≡ last.number → work.named ≡ last.named → work.sets ≡ last.sets → work.body ≡ last.body
      → HoldsFit (record state { kept = kept; work = Some work })
  with_work kept work last fits is op_is number_is named_are sets_are body_is = record {
    kept = fits;
    work = same_asked last work op_is number_is (subst (AreMore last.named) (sym named_are) (same_named last.named))
        sets_are body_is (begun state.work last is holds.work);
  }

  each_fit : OfEach state KeptFits (λ stepped. HoldsFit stepped.state)
  each_fit = record {
    quiet = record {
      same = holds;
      keeps = λ kept fits. record { kept = fits; work = holds.work };
      counts = λ kept work replica number round verdict culled fits is counting.
          with_work kept (with_verdict work replica verdict culled) work fits is refl refl refl refl refl;
      ends = λ kept work end fits is. record { kept = fits; work = tt };
      rests = λ kept work named fits is named_more more. record {
        kept = fits;
        work = same_asked work _ refl refl named_more refl refl (begun state.work work is holds.work);
      };
      ticks = λ work ticks is. with_work state.kept _ work holds.kept is refl refl refl refl refl;
    };
    begins = λ kept work fits next.
        let last : IsBegun next.last = begun state.work next.last next.is holds.work in
        record {
          kept = each_remarked sealed_form.Fits kept (marked_shown work.sets kept) (shown_in-remarked work.sets kept)
              fits;
          work = round_begun state.keys.bounds kept next.last.op next.last.number (next.last.round + 1) next.last.named
              work next.round last.from_one last.parts last.named fits few;
        };
    asks_others = λ work is preferred. with_work state.kept _ work holds.kept is refl refl refl refl refl;
  }

  histories_fit : IsOfHistories KeptFits
  histories_fit kept marked same fits = each_remarked sealed_form.Fits kept marked same fits

  step-fit : (text : List ℕ) → ((sent : Frame) → decoded text ≡ Ok sent → frame_form.Fits sent)
      → HoldsFit (client_step state text).state
  step-fit text fits =
      step_cases state KeptFits (λ stepped. HoldsFit stepped.state) histories_fit each_fit text
      (λ replica client number round verdict culled shown mac is.
      keep_all_fits number round shown state.kept
      (reply_shown replica client number round verdict culled shown mac
      (fits _ (brought_is_decoded state.keys (party.Client state.me) text _ is))) holds.kept)

  tick-fit : HoldsFit (client_tick state).state
  tick-fit = tick_cases state KeptFits (λ stepped. HoldsFit stepped.state) histories_fit each_fit holds.kept

next_from_one : (last : Option (ℕ × ℕ)) → 1 ≤ next_number last
next_from_one None = omega arith
next_from_one (Some last) = omega arith

invoke-fit : (state : ClientState) (what : Op) → replicas state.keys.bounds ≤ REPLICA_IDS → HasOpParts what
    → HoldsFit state → HoldsFit (client_invoke state what).state
invoke-fit state what few parts holds =
    let kept : List Kept = unmarked state.kept in
    let fits : KeptFits kept =
    each_remarked sealed_form.Fits state.kept kept (unmarked-remarked state.kept) holds.kept in
    invoke_cases state what (λ stepped. HoldsFit stepped.state)
    (λ work first. record {
      kept = each_remarked sealed_form.Fits kept (marked_shown work.sets kept) (shown_in-remarked work.sets kept) fits;
      work = round_begun state.keys.bounds kept what (next_number state.last_request) 1 (operation_objects what) work
          first (next_from_one state.last_request) parts (own_named what parts) fits few;
    })

-- the client with this number, in a run of so many events
pub record FitClient (bounds most number : ℕ) (state : ClientState) : Type 0 where
  pub low : 1 ≤ number
  pub high : number ≤ LAST_CLIENT
  pub named : (state.me).0 ≡ number
  pub bounds_are : state.keys.bounds ≡ bounds
  pub sound : IsSound state
  pub within : NumbersWithin most state
  pub holds : HoldsFit state

pub opening_fit : (keys : Ring) (number : ℕ) (me : ClientId) → 1 ≤ number → number ≤ LAST_CLIENT
    → me.0 ≡ number → FitClient keys.bounds 0 number (client_at_start me keys keys.seed)
opening_fit keys number me low high is = record {
  low = low;
  high = high;
  named = is;
  bounds_are = refl;
  sound = tt;
  within = NumbersWithin-opening me keys keys.seed;
  holds = record { kept = tt; work = tt };
}

pub fit_more : (bounds most number : ℕ) (state : ClientState) → FitClient bounds most number state
    → FitClient bounds (most + 1) number state
fit_more bounds most number state fit = record {
  low = fit.low;
  high = fit.high;
  named = fit.named;
  bounds_are = fit.bounds_are;
  sound = fit.sound;
  within = within_more most state fit.within;
  holds = fit.holds;
}

-- so many replicas there are at its keys
sizes : (bounds most number : ℕ) (state : ClientState) → replicas bounds ≤ REPLICA_IDS
    → FitClient bounds most number state → replicas state.keys.bounds ≤ REPLICA_IDS
sizes bounds most number state size fit = subst (λ (it : ℕ). replicas it ≤ REPLICA_IDS) (sym fit.bounds_are) size

pub step_fit : (bounds most number : ℕ) (state : ClientState) (text : List ℕ) → replicas bounds ≤ REPLICA_IDS
    → ((sent : Frame) → decoded text ≡ Ok sent → frame_form.Fits sent) → FitClient bounds most number state
    → FitClient bounds most number (client_step state text).state
step_fit bounds most number state text size fits fit = record {
  low = fit.low;
  high = fit.high;
  named = ap (λ (it : ClientId). it.0) (client_step-me state text) ∙ fit.named;
  bounds_are = client_step-bounds state text ∙ fit.bounds_are;
  sound = IsSound-step state text fit.sound;
  within = NumbersWithin-step most state text fit.within;
  holds = step-fit state (sizes bounds most number state size fit) fit.holds text fits;
}

pub tick_fit : (bounds most number : ℕ) (state : ClientState) → replicas bounds ≤ REPLICA_IDS
    → FitClient bounds most number state → FitClient bounds most number (client_tick state).state
tick_fit bounds most number state size fit = record {
  low = fit.low;
  high = fit.high;
  named = ap (λ (it : ClientId). it.0) (client_tick-me state) ∙ fit.named;
  bounds_are = client_tick-bounds state ∙ fit.bounds_are;
  sound = IsSound-tick state fit.sound;
  within = NumbersWithin-tick most state fit.within;
  holds = tick-fit state (sizes bounds most number state size fit) fit.holds;
}

pub invoke_fit : (bounds most number : ℕ) (state : ClientState) (what : Op) → replicas bounds ≤ REPLICA_IDS
    → HasOpParts what → FitClient bounds most number state
    → FitClient bounds (most + 1) number (client_invoke state what).state
invoke_fit bounds most number state what size parts fit = record {
  low = fit.low;
  high = fit.high;
  named = ap (λ (it : ClientId). it.0) (client_invoke-me state what) ∙ fit.named;
  bounds_are = client_invoke-bounds state what ∙ fit.bounds_are;
  sound = IsSound-invoke state what;
  within = NumbersWithin-invoke most state what fit.within;
  holds = invoke-fit state what (sizes bounds most number state size fit) parts fit.holds;
}

-- ---- what it asks for

pub asks_fit : (bounds most number : ℕ) (state : ClientState) → most < 2 ^ 64
    → FitClient bounds most number state → AsksFit state
asks_fit bounds most number state few fit work is =
    let first : 1 ≤ number = fit.low in
    let last : number ≤ LAST_CLIENT = fit.high in
    let named : (state.me).0 ≡ number = fit.named in
    let sound : IsSoundWork state.last_request work = sound_work state work fit.sound is in
    let begins : IsBegun work = begun state.work work is (fit.holds).work in
    let up_to : work.number ≤ most = work_within most state work fit.within is in
    request_fits state.me work
    (record {
      client = (omega arith, omega arith);
      number = (begins.from_one, omega arith);
      round = (sound.first, sound.last);
    })
    begins.asked

-- ---- its letters

requests_fit : (keys : Ring) (me : ClientId) (work : Work) (whom : Whom) → frame_form.Fits (request_of me work)
    → AllByRecursion LetterFits (requests keys me work whom)
requests_fit keys me work whom fits =
    let asks : Frame = request_of me work in
    each_letter keys me work whom LetterFits (replicas keys.bounds) 0
    (λ to below asked.
    let made = signed_is_spelled keys (party.Replica (record { 0 = to })) asks fits in
    record {
      sent = with_mac asks (signature keys (party.Replica (record { 0 = to })) asks);
      fits = made.0;
      text = made.1;
    })

-- whatever a client does, its letters fit where what it asks afterwards does
abbrev LettersFit : Stepped → Type 0
LettersFit stepped = AsksFit stepped.state → AllByRecursion LetterFits stepped.letters

each_letters : (state : ClientState) → OfEach state (λ kept. Unit {0}) LettersFit
each_letters state = record {
  quiet = record {
    same = λ fits. tt;
    keeps = λ kept _ fits. tt;
    counts = λ kept work replica number round verdict culled _ is counting fits. tt;
    ends = λ kept work end _ is fits. tt;
    rests = λ kept work named _ is _ more fits. tt;
    ticks = λ work ticks is fits. tt;
  };
  begins = λ kept work _ next fits.
      requests_fit state.keys state.me work (whom_asked work) (fits work refl);
  asks_others = λ work is preferred fits.
      requests_fit state.keys state.me (asking_all work)
      (Others (first_object work.op)) (fits (asking_all work) refl);
}

pub step_letters : (state : ClientState) (text : List ℕ) → LettersFit (client_step state text)
step_letters state text =
    step_cases state (λ kept. Unit {0}) LettersFit (λ kept marked same _. tt) (each_letters state) text
    (λ replica client number round verdict culled shown mac is. tt)

pub tick_letters : (state : ClientState) → LettersFit (client_tick state)
tick_letters state =
    tick_cases state (λ kept. Unit {0}) LettersFit (λ kept marked same _. tt) (each_letters state) tt

pub invoke_letters : (state : ClientState) (what : Op) → LettersFit (client_invoke state what)
invoke_letters state what =
    invoke_cases state what LettersFit
    (λ work first fits.
    requests_fit state.keys state.me work (whom_asked work) (fits work refl))

-- ---- all clients at the beginning

opening_from : (keys : Ring) (first count place number : ℕ) (state : ClientState) → number ≡ first + place
    → 1 ≤ first → first + count ≤ 65 → slice_get (opening_clients first count keys) place ≡ Some state
    → FitClient keys.bounds 0 number state
unfolding opening_clients
opening_from keys first zero place number state at low high found = absurd (none-some state found)
opening_from keys first (suc count) zero number state at low high found =
    subst (FitClient keys.bounds 0 number)
    (same_Some (client_at_start (record { 0 = first }) keys keys.seed) state found)
    (opening_fit keys number (record { 0 = first }) (omega arith) (omega arith) (omega arith))
opening_from keys first (suc count) (suc place) number state at low high found =
    opening_from keys (first + 1) count place number state (omega arith) (omega arith) (omega arith) found

pub opening_clients-fit : (keys : Ring) (count number : ℕ) (state : ClientState) → count ≤ LAST_CLIENT
    → numbered (opening_clients 1 count keys) number ≡ Some state → FitClient keys.bounds 0 number state
opening_clients-fit keys count zero state few found = absurd (none-some state found)
opening_clients-fit keys count (suc place) state few found =
    opening_from keys 1 count place (suc place) state (omega arith) (omega arith) (omega arith) found
