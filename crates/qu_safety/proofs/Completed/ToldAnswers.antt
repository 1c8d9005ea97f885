-- The answers that a completed round had, and what the replicas that sent them told.
use Rattle.std.proofs.Common.{◌≡◌, ℕ, zero, suc, ◌<◌, ◌≤◌, Bool, true, false, List, length, Option, None, Some, refl, sym, ap, subst, ◌∙◌, arith, inl, inr, slice_get, Contains}
use Rattle.std.specs.List.{Any}
use Rattle.std.proofs.lemmas.Bool.{false≢true, cases_Bool, and_from, eq-eqb}
use Rattle.std.proofs.lemmas.List.Folds.{Any-from_list_any, list_any-from_Any}
use Rattle.std.proofs.lemmas.Option.{none-some, same_Some, slice_get_within}
use Rattle.qu_base.specs.declared.party.ClientId.{ClientId}
use Rattle.qu_base.specs.declared.party.ObjectId.{ObjectId}
use Rattle.qu_base.specs.declared.party.ReplicaId.{ReplicaId}
use Rattle.qu_stamp.specs.declared.stamp.Stamp.{Stamp}
use Rattle.qu_objects.specs.declared.answer.Answer.{Answer}
use Rattle.qu_objects.specs.declared.query.Ask.{Ask}
use Rattle.qu_frames.specs.declared.frame.Body.TheVariants as body
use Rattle.qu_frames.specs.declared.frame.Letter.{Letter}
use Rattle.qu_verdicts.specs.declared.verdict.Verdict.{Verdict}
use Rattle.qu_verdicts.specs.declared.verdict.Verdict.TheVariants as verdict
use Rattle.qu_verdicts.specs.Verdict.{same_verdict}
use Rattle.qu_client.specs.Verdicts.{fitting}
use Rattle.qu_trace.specs.declared.trace.Entry.{Entry}
use Rattle.qu_trace.specs.declared.trace.Trace.{Trace}
use Rattle.qu_world.specs.Run.{IsRun}
use Rattle.qu_claims.specs.Completions.{Replied, RepliedAt}
use Rattle.qu_claims.specs.Answers.{is_answer, answers, sends_answer, answers_at}
use Rattle.qu_replies.specs.Replies.{culled_in, IsReplyTo, TellsQuery}
use Rattle.qu_runs.specs.Plain.{ArePlain}
use Rattle.qu_replies.proofs.RepliesInRuns.{IsAskOf, ask_of_told, told_in_run}
use Rattle.qu_replies.proofs.Replying.{reply_sent}
use Rattle.qu_rounds.proofs.Verdicts.{equal_told}
use Rattle.qu_safety.proofs.Points.EventRequests.{IsReplyIn, reply_in}
use Rattle.qu_claims.specs.Carried.{Tells}
use Rattle.qu_history.specs.declared.sealed.Sealed.{Sealed}

-- ---- the first number that passes a test

pub record FirstTrue (test : ℕ → Bool) (most : ℕ) : Type 0 where
  pub first : ℕ
  pub within : first ≤ most
  pub passed : test first ≡ true
  pub not_before : (earlier : ℕ) → earlier < first → test earlier ≡ false

none_earlier : (test : ℕ → Bool) (first : ℕ) → test 0 ≡ false →
    ((earlier : ℕ) → earlier < first → test (suc earlier) ≡ false) → (earlier : ℕ) → earlier < suc first → test earlier
    ≡ false
none_earlier test first none later zero below = none
none_earlier test first none later (suc earlier) below = later earlier (omega arith)

first_later : (test : ℕ → Bool) (most : ℕ) → test 0 ≡ false → FirstTrue (λ (n : ℕ). test (suc n)) most → FirstTrue test
    (suc most)
first_later test most none found =
    let within : found.first ≤ most = found.within in
    record {
      first = suc found.first;
      within = omega arith;
      passed = found.passed;
      not_before = none_earlier test found.first none found.not_before;
    }

pub first_true : (test : ℕ → Bool) (most : ℕ) → test most ≡ true → FirstTrue test most
first_true test zero passed = record {
  first = 0;
  within = omega arith;
  passed = passed;
  not_before = λ earlier below.
      absurd (omega arith);
}
first_true test (suc most) passed =
    elim (cases_Bool (test 0)) [
      | inl here ↦ record {
        first = 0;
        within = omega arith;
        passed = here;
        not_before = λ earlier below. absurd
            (omega arith);
      }
      | inr none ↦ first_later test most none (first_true (λ (n : ℕ). test (suc n)) most passed)
    ]

-- ---- the letters that answer a round

-- a reply answers its round
reply_answers : (client : ClientId) (number round : ℕ) (letter : Letter) (replica : ReplicaId) (told : Verdict)
    (shown : List Sealed) → Tells letter replica client number round told shown → answers client number round letter ≡
    true
reply_answers client number round letter replica told shown is =
    ap (is_answer client number round) is.carries ∙
    and_from _ _ (eq-eqb client.0 client.0 refl) (and_from _ _ (eq-eqb number number refl) (eq-eqb round round refl))

-- some replica answered the round at the event of this entry
pub record IsAnsweredAt (trace : Trace) (client : ClientId) (number round at : ℕ) : Type 0 where
  pub below : at < length trace.entries
  pub replica : ℕ
  pub told : Verdict
  pub reply : IsReplyTo trace at replica client number round told

answered_with : (trace : Trace) → IsRun trace → ArePlain trace → (client : ClientId) (number round at : ℕ)
    (found : Option Entry) → slice_get trace.entries at ≡ found → sends_answer client number round found ≡ true →
    IsAnsweredAt trace client number round at
answered_with trace is_run have client number round at None is passed = absurd (false≢true passed)
answered_with trace is_run have client number round at (Some entry) is passed =
    let any : Any (λ (letter : Letter). answers client number round letter ≡ true) entry.letters =
    Any-from_list_any (answers client number round) entry.letters passed in
    let letter : Letter = any.1 in
    let answer : IsReplyIn client number round letter = reply_in client number round letter any.4 in
    let below : at < length trace.entries = slice_get_within trace.entries at entry is in
    record {
      below = below;
      replica = (answer.replica).0;
      told = answer.verdict;
      reply = reply_sent trace is_run have at below entry is letter (any.0, any.2, any.3) answer.replica client number
          round answer.verdict answer.shown answer.is_reply;
    }

pub answered_at : (trace : Trace) → IsRun trace → ArePlain trace → (client : ClientId) (number round at : ℕ)
    → answers_at trace client number round (suc at) ≡ true → IsAnsweredAt trace client number round at
answered_at trace is_run have client number round at passed =
    answered_with trace is_run have client number round at (slice_get trace.entries at) refl passed

-- nothing is answered at the beginning
pub answered_after : (trace : Trace) (client : ClientId) (number round event : ℕ)
    → answers_at trace client number round event ≡ true → (time : ℕ) × (event ≡ suc time)
answered_after trace client number round zero passed = absurd (false≢true passed)
answered_after trace client number round (suc time) passed = (time, refl)

-- ---- the replicas that told the answer

-- the verdict that fits a query tells its answer
pub record IsTold (given : Verdict) (answer : Answer) : Type 0 where
  pub stamps : List (ObjectId × Stamp)
  pub is_told : given ≡ verdict.Told stamps answer

pub told_by_fit : (query : List (ObjectId × Ask)) (given : Verdict) (answer : Answer) → fitting (body.Ask query) given
    ≡ Some answer → IsTold given answer
told_by_fit query (verdict.Done stamps other) answer fits = absurd (none-some answer fits)
told_by_fit query (verdict.Told stamps other) answer fits = record
    { stamps = stamps; is_told = ap (verdict.Told stamps) (same_Some other answer fits) }
told_by_fit query (verdict.Already other) answer fits = absurd (none-some answer fits)
told_by_fit query (verdict.Mended object stamp) answer fits = absurd (none-some answer fits)
told_by_fit query (verdict.Refused refusal) answer fits = absurd (none-some answer fits)

-- the replica told this answer to a query, before an event, from bases with nothing above them
pub record ToldBefore (trace : Trace) (client : ClientId) (number round before : ℕ) (stamps : List (ObjectId × Stamp))
    (answer : Answer) (replica : ℕ) : Type 0 where
  pub at : ℕ
  pub earlier : at < before
  pub below : at < length trace.entries
  pub said : RepliedAt trace at client number round (verdict.Told stamps answer) replica
  pub answered : answers_at trace client number round (suc at) ≡ true
  pub reply : IsReplyTo trace at replica client number round (verdict.Told stamps answer)
  pub query : List (ObjectId × Ask)
  pub is_ask : reply.body ≡ body.Ask query
  pub tells : TellsQuery (reply.handles).mid (culled_in (reply.handles).mid reply.sets) query stamps answer

pub tells_by_reply : (trace : Trace) → IsRun trace → ArePlain trace → (client : ClientId) (number round before : ℕ)
    (given : Verdict) (answer : Answer) (told : IsTold given answer) (replica : ℕ) → Replied trace before client number
    round given replica → ToldBefore trace client number round before told.stamps answer replica
tells_by_reply trace is_run have client number round before given answer told replica replied =
    let at : ℕ = replied.at in
    let it = replied.replied in
    let letter : Letter = it.letter in
    let below : at < length trace.entries = slice_get_within trace.entries at it.entry it.is_entry in
    let is_told : it.told ≡ verdict.Told told.stamps answer =
    equal_told it.told told.stamps answer (ap (λ (other : Verdict). same_verdict it.told other) (sym told.is_told) ∙
    it.same) in
    let me : ReplicaId = record { 0 = replica } in
    let said : IsReplyTo trace at replica client number round it.told =
    reply_sent trace is_run have at below it.entry it.is_entry letter it.sent me client number round it.told it.shown
    it.is_reply in
    let reply : IsReplyTo trace at replica client number round (verdict.Told told.stamps answer) =
    subst (IsReplyTo trace at replica client number round) is_told said in
    let query : IsAskOf reply.body =
    ask_of_told trace is_run have at below replica client number round told.stamps answer reply in
    let sent : Contains (it.entry).letters letter = it.sent in
    record {
      at = at;
      earlier = replied.earlier;
      below = below;
      said = subst (λ (other : Verdict). RepliedAt trace at client number round other replica) told.is_told it;
      answered =
          ap (sends_answer client number round) it.is_entry ∙
          list_any-from_Any (answers client number round) (it.entry).letters
          (sent.0, letter, sent.1, sent.2, reply_answers client number round letter me it.told it.shown it.is_reply);
      reply = reply;
      query = query.query;
      is_ask = query.is_ask;
      tells = told_in_run trace is_run have at below replica client number round told.stamps answer reply;
    }
