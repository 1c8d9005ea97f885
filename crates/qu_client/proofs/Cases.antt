-- What a step, an invocation and a tick of a client may be: what holds of each of these holds of it.
use Rattle.std.proofs.Common.{◌≡◌, ◌⊎◌, ℕ, ◌+◌, ◌-◌, ◌<◌, ◌≤◌, Bool, true, false, cond, leb, List, [], Option, None, Some, IfSome, refl, sym, subst, inl, inr}
use Rattle.std.specs.Prelude.{not}
use Rattle.std.proofs.lemmas.Bool.{cond_both, leb-false, leb-true, ltb-true, and_parts}
use Rattle.qu_base.specs.declared.party.ClientId.{ClientId}
use Rattle.qu_base.specs.declared.party.ObjectId.{ObjectId}
use Rattle.qu_base.specs.declared.party.Party.TheVariants as party
use Rattle.qu_base.specs.declared.party.ReplicaId.{ReplicaId}
use Rattle.qu_base.specs.Bounds.{quorum}
use Rattle.qu_history.specs.declared.sealed.Sealed.{Sealed}
use Rattle.qu_history.specs.declared.sets.SetOf.{SetOf}
use Rattle.qu_objects.specs.declared.answer.Answer.{Answer}
use Rattle.qu_objects.specs.declared.op.Op.{Op}
use Rattle.qu_objects.specs.declared.op.Op.TheVariants as op
use Rattle.qu_objects.specs.declared.op.Outcome.{Outcome}
use Rattle.qu_objects.specs.declared.op.Outcome.TheVariants as outcome
use Rattle.qu_frames.specs.declared.frame.Body.{Body}
use Rattle.qu_frames.specs.declared.frame.Body.TheVariants as body
use Rattle.qu_frames.specs.declared.frame.Frame.{Frame}
use Rattle.qu_frames.specs.declared.frame.Frame.TheVariants as frame
use Rattle.qu_frames.specs.declared.limits.TheConstants.{LAST_ROUND}
use Rattle.qu_verdicts.specs.declared.verdict.Verdict.{Verdict}
use Rattle.qu_frames.specs.Body.{body_of}
use Rattle.qu_frames.specs.Signing.{brought}
use Rattle.qu_question.specs.declared.kept.Kept.{Kept}
use Rattle.qu_client.specs.declared.whom.Whom.{Whom}
use Rattle.qu_client.specs.declared.whom.Whom.TheVariants.{Others}
use Rattle.qu_client.specs.declared.work.Counted.{Counted}
use Rattle.qu_client.specs.declared.work.Phase.{Phase}
use Rattle.qu_client.specs.declared.work.Phase.TheVariants.{Asking, Resting}
use Rattle.qu_client.specs.declared.work.Work.{Work}
use Rattle.qu_client.specs.State.{ClientState, Stepped}
use Rattle.qu_question.specs.Kept.{keep_all, unmarked}
use Rattle.qu_client.specs.Leaving.{after_replies}
use Rattle.qu_client.specs.Needed.{named_after}
use Rattle.qu_question.specs.Named.{operation_objects}
use Rattle.qu_question.specs.declared.question.Question.{Question}
use Rattle.qu_question.specs.Question.{sets_of, are_full, are_current, target_of, named_for, question_of}
use Rattle.qu_client.specs.Whom.{first_object, whom_asked}
use Rattle.qu_client.specs.Work.{work_asking}
use Rattle.qu_client.specs.Rounds.{requests, begins, begin_round, asking_all, asks_others}
use Rattle.qu_question.specs.Marking.{marked_shown}
use Rattle.qu_client.specs.Verdicts.{fitting, identical_verdicts, is_agreed}
use Rattle.qu_client.specs.Work.{counts, with_verdict}
use Rattle.qu_client.specs.Steps.{stays, ends, next_round, is_rest_due, rests, ends_round, agreed, counted_in, client_on_frame, client_on_received, client_step, ticked_in, ticked, client_tick, next_number, client_invoke}
use Rattle.qu_client.specs.Sound.{IsSoundWork, IsSound, IsFor}
use Rattle.qu_question.proofs.Marks.{IsRemarked, shown_in-remarked}
use Rattle.qu_question.proofs.Naming.{AreMore, and_more}
use Rattle.qu_question.proofs.Building.{named_for-more}
use Rattle.qu_client.proofs.Ended.{after_replies-remarked, named_after-more}

cond_by : {A : Type 0} (P : A → Type 0) (b : Bool) (x y : A) → P x → P y → P (cond b x y)
cond_by P b x y first second = cond_both b x y P (λ _. first) (λ _. second)

-- ---- a round that begins

-- a round of an operation, as it begins upon what is kept, where these objects were named before
pub record IsRound (bounds : ℕ) (kept : List Kept) (op : Op) (number round : ℕ) (before : List ObjectId) (work : Work)
    : Type 0 where
  pub op_is : work.op ≡ op
  pub number_is : work.number ≡ number
  pub round_is : work.round ≡ round
  pub names : AreMore before work.named
  pub sets_are : work.sets ≡ sets_of bounds round kept work.named
  pub asks : IsFor op work.body
  pub mends : (target : ObjectId) → work.body ≡ body.Mend target → target ≡ target_of bounds work.sets work.named
  pub fresh : work.replies ≡ []

not_mend : (op : Op) (target : ObjectId) (other : ObjectId) → body_of op ≡ body.Mend target → target ≡ other
not_mend (op.Act parts) target other is = cc
not_mend (op.Query parts) target other is = cc

same_target : (one target : ObjectId) → body.Mend one ≡ body.Mend target → target ≡ one
same_target one target is = cc

module _ (bounds : ℕ) (kept : List Kept) (op : Op) (number round : ℕ) (before : List ObjectId) where
  abbrev all_named : List ObjectId
  all_named = named_for bounds round kept before

  abbrev sets : List SetOf
  sets = sets_of bounds round kept all_named

  abbrev IsRoundOf : Question → Type 0
  IsRoundOf question = IsRound bounds kept op number round before (work_asking op number round question)

  round_of : (asked : Body) (all : Bool) → IsFor op asked
      → ((target : ObjectId) → asked ≡ body.Mend target → target ≡ target_of bounds sets all_named)
      → IsRoundOf (record { named = all_named; sets = sets; body = asked; all = all })
  round_of asked all asks mends = record {
    op_is = refl;
    number_is = refl;
    round_is = refl;
    names = named_for-more bounds round kept before;
    sets_are = refl;
    asks = asks;
    mends = mends;
    fresh = refl;
  }

  pub is_round : IsRoundOf (question_of bounds op round kept before)
  is_round =
      let target : ObjectId = target_of bounds sets all_named in
      cond_by IsRoundOf (not (are_full bounds sets)) _ _
      (round_of (body_of op) true (inl refl) (λ other is. not_mend op other target is))
      (cond_by IsRoundOf (are_current bounds sets (operation_objects op)) _ _
      (round_of (body_of op) false (inl refl) (λ other is. not_mend op other target is))
      (round_of (body.Mend target) true (inr tt) (λ other is. same_target target other is)))

pub begin_cases : (state : ClientState) (op : Op) (number round : ℕ) (named : List ObjectId) (P : Stepped → Type 0)
    → ((work : Work) → IsRound state.keys.bounds state.kept op number round named work → P (begins state work))
    → P (begin_round state op number round named)
begin_cases state op number round named P each =
    each _ (is_round state.keys.bounds state.kept op number round named)

-- where fewer were named before that
round_from : (bounds : ℕ) (kept : List Kept) (op : Op) (number round : ℕ) (before named : List ObjectId) (work : Work)
    → AreMore before named → IsRound bounds kept op number round named work
    → IsRound bounds kept op number round before work
round_from bounds kept op number round before named work more is = record {
  op_is = is.op_is;
  number_is = is.number_is;
  round_is = is.round_is;
  names = and_more more is.names;
  sets_are = is.sets_are;
  asks = is.asks;
  mends = is.mends;
  fresh = is.fresh;
}

pub next_cases : (state : ClientState) (work : Work) (P : Stepped → Type 0)
    → (LAST_ROUND ≤ work.round → P (ends state outcome.GaveUp))
    → ((begun : Work) → work.round < LAST_ROUND
    → IsRound state.keys.bounds state.kept work.op work.number (work.round + 1) work.named begun
    → P (begins state begun))
    → P (next_round state work)
next_cases state work P stops each =
    cond_both (leb LAST_ROUND work.round) _ _ P (λ spent. stops (leb-true _ _ spent))
    (λ more.
    begin_cases state work.op work.number (work.round + 1) work.named P (λ begun. each begun (leb-false _ _ more)))

-- ---- a round that ends

-- other marks and more that is named, and then a rest, the next round or the end
pub ended_cases : (state : ClientState) (work : Work) (P : Stepped → Type 0)
    → ((kept : List Kept) → IsRemarked state.kept kept → LAST_ROUND ≤ work.round
    → P (ends (record state { kept = kept }) outcome.GaveUp))
    → ((kept : List Kept) (named : List ObjectId) → IsRemarked state.kept kept → AreMore work.named named
    → work.round < LAST_ROUND → P (rests (record state { kept = kept }) (record work { named = named })))
    → ((kept : List Kept) (begun : Work) → IsRemarked state.kept kept → work.round < LAST_ROUND
    → IsRound state.keys.bounds kept work.op work.number (work.round + 1) work.named begun
    → P (begins (record state { kept = kept }) begun))
    → P (ends_round state work)
ended_cases state work P stops waits each =
    let left : List Kept = after_replies state.keys.bounds work.replies state.kept in
    let same : IsRemarked state.kept left = after_replies-remarked state.keys.bounds work.replies state.kept in
    let named : List ObjectId = named_after state.keys.bounds work.replies work.named in
    let more : AreMore work.named named = named_after-more state.keys.bounds work.replies work.named in
    cond_both (is_rest_due work.round work.replies) _ _ P
    (λ due. waits left named same more (ltb-true _ _ (and_parts _ _ due).0))
    (λ _.
    next_cases (record state { kept = left }) (record work { named = named }) P (stops left same)
    (λ begun before round.
    each left begun same before
    (round_from state.keys.bounds left work.op work.number (work.round + 1) work.named named begun more round)))

-- ---- a verdict

-- it does not count, or it counts: more are awaited, or a quorum agrees with it, or the round ends
module _ (state : ClientState) (replica : ReplicaId) (number round : ℕ) (verdict : Verdict)
    (culled : List (ObjectId × ReplicaId)) (P : Stepped → Type 0)
    (same : P (stays state))
    (waits : (work : Work) → state.work ≡ Some work → counts work replica number round ≡ true
    → P (stays (record state { work = Some (with_verdict work replica verdict culled) })))
    (agrees : (work : Work) (answer : Answer) → state.work ≡ Some work → counts work replica number round ≡ true
    → fitting work.body verdict ≡ Some answer → quorum state.keys.bounds ≤ identical_verdicts verdict
    (with_verdict work replica verdict culled).replies → P (ends state (outcome.Done answer)))
    (over : (work : Work) → state.work ≡ Some work → counts work replica number round ≡ true
    → P (ends_round state (with_verdict work replica verdict culled))) where
  agreed_by : (work : Work) (found : Option Answer) → state.work ≡ Some work
      → counts work replica number round ≡ true → fitting work.body verdict ≡ found
      → quorum state.keys.bounds ≤ identical_verdicts verdict (with_verdict work replica verdict culled).replies
      → P (agreed state (with_verdict work replica verdict culled) found)
  agreed_by work None is counting fits enough = over work is counting
  agreed_by work (Some answer) is counting fits enough = agrees work answer is counting fits enough

  counted_by : (found : Option Work) → state.work ≡ found
      → P (counted_in state found replica number round verdict culled)
  counted_by None is = same
  counted_by (Some work) is =
      cond_both (counts work replica number round) _ _ P
      (λ counting.
      cond_both (is_agreed state.keys.bounds work.body (with_verdict work replica verdict culled).replies verdict) _ _ P
      (λ agreeing. agreed_by work (fitting work.body verdict) is counting refl
      (leb-true _ _ (and_parts _ _ agreeing).1))
      (λ _. cond_by P _ _ _ (over work is counting) (waits work is counting)))
      (λ _. same)

  pub counted_cases : P (counted_in state state.work replica number round verdict culled)
  counted_cases = counted_by state.work refl

-- ---- whatever a client does

-- the next round of the operation under way
pub record IsNext (state : ClientState) (kept : List Kept) (work : Work) : Type 0 where
  pub last : Work
  pub is : state.work ≡ Some last
  pub more : last.round < LAST_ROUND
  pub round : IsRound state.keys.bounds kept last.op last.number (last.round + 1) last.named work

-- the first round of the next operation
abbrev pub IsFirst : ClientState → List Kept → Op → Work → Type 0
IsFirst state kept op work =
    IsRound state.keys.bounds kept op (next_number state.last_request) 1 (operation_objects op) work

-- what has to be shown of a step or a tick that sends nothing, where this holds of what is kept: nothing happens;
-- histories are kept; a verdict counts; the operation ends; it rests, or its rest grows shorter
pub record OfQuiet (state : ClientState) (Q : List Kept → Type 0) (P : Stepped → Type 0) : Type 0 where
  pub same : P (stays state)
  pub keeps : (kept : List Kept) → Q kept → P (stays (record state { kept = kept }))
  pub counts : (kept : List Kept) (work : Work) (replica : ReplicaId) (number round : ℕ) (verdict : Verdict)
      (culled : List (ObjectId × ReplicaId)) → Q kept → state.work ≡ Some work
      → counts work replica number round ≡ true
      → P (stays (record state { kept = kept; work = Some (with_verdict work replica verdict culled) }))
  pub ends : (kept : List Kept) (work : Work) (end : Outcome) → Q kept → state.work ≡ Some work
      → P (ends (record state { kept = kept }) end)
  pub rests : (kept : List Kept) (work : Work) (named : List ObjectId) → Q kept → state.work ≡ Some work
      → AreMore work.named named → work.round < LAST_ROUND
      → P (rests (record state { kept = kept }) (record work { named = named }))
  pub ticks : (work : Work) (ticks : ℕ) → state.work ≡ Some work
      → P (stays (record state { work = Some (record work { phase = Resting ticks }) }))

-- and of one that sends: a round begins, or the others are asked too
pub record OfEach (state : ClientState) (Q : List Kept → Type 0) (P : Stepped → Type 0) : Type 0 where
  pub quiet : OfQuiet state Q P
  pub begins : (kept : List Kept) (work : Work) → Q kept → IsNext state kept work
      → P (begins (record state { kept = kept }) work)
  pub asks_others : (work : Work) → state.work ≡ Some work → work.phase ≡ Asking false → P (asks_others state work)

-- other marks change nothing of it
abbrev pub IsOfHistories : (List Kept → Type 0) → Type 0
IsOfHistories Q = (kept marked : List Kept) → IsRemarked kept marked → Q kept → Q marked

module _ (state : ClientState) (Q : List Kept → Type 0) (P : Stepped → Type 0) (histories : IsOfHistories Q)
    (each : OfEach state Q P) where
  ended_by : (kept : List Kept) (work : Work) (replies : List Counted) → Q kept → state.work ≡ Some work
      → P (ends_round (record state { kept = kept }) (record work { replies = replies }))
  ended_by kept work replies held is =
      ended_cases (record state { kept = kept }) (record work { replies = replies }) P
      (λ left same spent. each.quiet.ends left work outcome.GaveUp (histories kept left same held) is)
      (λ left named same named_more more.
      each.quiet.rests left work named (histories kept left same held) is named_more more)
      (λ left begun same more round. each.begins left begun (histories kept left same held) (record {
        last = work;
        is = is;
        more = more;
        round = round;
      }))

  -- the histories of each reply that comes may be kept
  abbrev pub MayKeep : Option Frame → Type 0
  MayKeep found =
      (replica : ReplicaId) (client : ClientId) (number round : ℕ) (verdict : Verdict)
      (culled : List (ObjectId × ReplicaId)) (shown : List Sealed) (mac : List ℕ)
      → found ≡ Some (frame.Reply replica client number round verdict culled shown mac)
      → Q (keep_all number round shown state.kept)

  frame_cases : (received : Frame) → MayKeep (Some received) → P (client_on_frame state received)
  frame_cases (frame.Reply replica client number round verdict culled shown mac) may_keep =
      let kept : List Kept = keep_all number round shown state.kept in
      let held : Q kept = may_keep replica client number round verdict culled shown mac refl in
      cond_by P _ _ _
      (counted_cases (record state { kept = kept }) replica number round verdict culled P (each.quiet.keeps kept held)
      (λ work is counting. each.quiet.counts kept work replica number round verdict culled held is counting)
      (λ work answer is _ _ _. each.quiet.ends kept work (outcome.Done answer) held is)
      (λ work is counting. ended_by kept work (with_verdict work replica verdict culled).replies held is))
      each.quiet.same
  frame_cases _ may_keep = each.quiet.same

  received_cases : (found : Option Frame) → MayKeep found → P (client_on_received state found)
  received_cases None may_keep = each.quiet.same
  received_cases (Some received) may_keep = frame_cases received may_keep

  -- what a text makes of a state
  pub step_cases : (text : List ℕ) → MayKeep (brought state.keys (party.Client state.me) text)
      → P (client_step state text)
  step_cases text may_keep = received_cases (brought state.keys (party.Client state.me) text) may_keep

  next_by : (work : Work) → Q state.kept → state.work ≡ Some work → P (next_round state work)
  next_by work held is =
      next_cases state work P (λ spent. each.quiet.ends state.kept work outcome.GaveUp held is)
      (λ begun more round. each.begins state.kept begun held (record {
        last = work;
        is = is;
        more = more;
        round = round;
      }))

  ticked_in_cases : (work : Work) (phase : Phase) → Q state.kept → state.work ≡ Some work → work.phase ≡ phase
      → P (ticked_in state work phase)
  ticked_in_cases work (Asking true) held is stands = ended_by state.kept work work.replies held is
  ticked_in_cases work (Asking false) held is stands = each.asks_others work is stands
  ticked_in_cases work (Resting ticks) held is stands =
      cond_by P _ _ _ (next_by work held is) (each.quiet.ticks work (ticks - 1) is)

  ticked_cases : (found : Option Work) → Q state.kept → state.work ≡ found → P (ticked state found)
  ticked_cases None held is = each.quiet.same
  ticked_cases (Some work) held is = ticked_in_cases work work.phase held is refl

  -- what a tick makes of it
  pub tick_cases : Q state.kept → P (client_tick state)
  tick_cases held = ticked_cases state.work held refl

-- what an invocation makes of it: a round begins
pub invoke_cases : (state : ClientState) (op : Op) (P : Stepped → Type 0)
    → ((work : Work) → IsFirst state (unmarked state.kept) op work
    → P (begins (record state { kept = unmarked state.kept }) work))
    → P (client_invoke state op)
invoke_cases state op P each =
    begin_cases (record state { kept = unmarked state.kept }) op (next_number state.last_request) 1
    (operation_objects op) P each

-- ---- letters

-- a round's request is sent to these replicas; the state after it has the round's work
abbrev pub sending : ClientState → List Kept → Work → Whom → Stepped
sending state kept work whom = record {
  state = record state {
    kept = kept;
    last_request = Some (work.number, work.round);
    work = Some work;
  };
  letters = requests state.keys state.me work whom;
  ended = None;
}

-- a round begins, upon what was kept before it
pub record IsNew (state : ClientState) (Q : List Kept → Type 0) (work : Work) : Type 0 where
  pub kept : List Kept
  pub held : Q kept
  pub next : IsNext state kept work

-- the request of the round under way is sent again, to the others
pub record IsAgain (state : ClientState) (work : Work) : Type 0 where
  pub last : Work
  pub is : state.work ≡ Some last
  pub preferred : last.phase ≡ Asking false
  pub same : work ≡ asking_all last

-- what has to be shown of one that sends, where both are looked at alike: the letters carry the request of the work
-- after the step
abbrev pub OfSending : ClientState → (List Kept → Type 0) → (Stepped → Type 0) → Type 0
OfSending state Q P =
    (kept : List Kept) (work : Work) (whom : Whom) → Q kept → IsNew state Q work ⊎ IsAgain state work
    → P (sending state kept work whom)

again : (state : ClientState) (last : Work) (P : Stepped → Type 0)
    → state.last_request ≡ Some (last.number, last.round)
    → P (sending state state.kept (asking_all last) (Others (first_object last.op))) → P (asks_others state last)
again state last P asked sent =
    subst (λ (it : Option (ℕ × ℕ)). P (record {
      state = record state { last_request = it; work = Some (asking_all last) };
      letters = requests state.keys state.me (asking_all last) (Others (first_object last.op));
      ended = None;
    })) (sym asked) sent

-- the last request of a sound client was that of the operation under way
pub asked_last : (state : ClientState) (work : Work) → IsSound state → state.work ≡ Some work
    → state.last_request ≡ Some (work.number, work.round)
asked_last state work sound is =
    let P : Option Work → Type 0 = λ found. IfSome found (IsSoundWork state.last_request) in
    let held : IsSoundWork state.last_request work = subst P is sound in
    held.asked

pub of_sending : (state : ClientState) (Q : List Kept → Type 0) (P : Stepped → Type 0) → IsOfHistories Q
    → Q state.kept → IsSound state → OfQuiet state Q P → OfSending state Q P → OfEach state Q P
of_sending state Q P histories kept_so sound quiet sends = record {
  quiet = quiet;
  begins = λ kept work held next.
      sends (marked_shown work.sets kept) work (whom_asked work)
      (histories kept (marked_shown work.sets kept) (shown_in-remarked work.sets kept) held)
      (inl (record { kept = kept; held = held; next = next }));
  asks_others = λ work is preferred.
      again state work P (asked_last state work sound is)
      (sends state.kept (asking_all work) (Others (first_object work.op)) kept_so (inr (record {
        last = work;
        is = is;
        preferred = preferred;
        same = refl;
      })));
}
