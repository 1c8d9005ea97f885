-- Where updates and queries took effect.
use Rattle.std.proofs.Common.{◌≡◌, ℕ, zero, suc, ◌+◌, ◌<◌, ◌≤◌, Bool, true, false, cond, List, [], ◌∷◌, length, get_or, Option, None, Some, refl, sym, ap, subst, ◌∙◌, arith, inl, inr, add-one}
use Rattle.std.specs.Prelude.{position, slice_get, option_map, ◌==◌, ◌&&◌, Result, Ok, Err, IfOk}
use Rattle.std.specs.Option.{MatchOption, option_eq}
use Rattle.std.proofs.lemmas.Bool.{false≢true, cases_Bool, cases_lt, cases_order, and_parts, and_from, eq-eqb}
use Rattle.std.proofs.lemmas.List.Quantifiers.{position-Some}
use Rattle.std.proofs.lemmas.Option.{none-some, same_Some}
use Rattle.qu_base.specs.declared.party.ClientId.{ClientId}
use Rattle.qu_base.specs.declared.party.ObjectId.{ObjectId}
use Rattle.qu_stamp.specs.declared.candidate.Candidate.{Candidate}
use Rattle.qu_objects.specs.declared.act.Method.{Method}
use Rattle.qu_objects.specs.declared.query.Ask.{Ask}
use Rattle.qu_objects.specs.declared.op.Op.{Op}
use Rattle.qu_objects.specs.declared.op.Op.TheVariants as op
use Rattle.qu_objects.specs.declared.op.Outcome.{Outcome}
use Rattle.qu_objects.specs.declared.op.Outcome.TheVariants as outcome
use Rattle.qu_machine.specs.declared.record.OpRecord.{OpRecord}
use Rattle.qu_trace.specs.declared.trace.Entry.{Entry}
use Rattle.qu_trace.specs.Earliest.{IsUpTo}
use Rattle.qu_trace.specs.declared.trace.Trace.{Trace}
use Rattle.qu_world.specs.State.{numbered}
use Rattle.qu_base.specs.declared.party.Digest.{Digest}
use Rattle.qu_base.proofs.Numbered.{tested_client}
use Rattle.qu_objects.specs.Digesting.{act_digest}
use Rattle.qu_stamp.specs.Stamp.{same_digest}
use Rattle.qu_stamp.proofs.Order.{same_act-self, equal_by_same_act}
use Rattle.std.specs.List.{list_any}
use Rattle.qu_claims.specs.Handled.{IsHandled}
use Rattle.qu_claims.specs.Accepted.{is_accepted}
use Rattle.qu_claims.specs.Effects.{is_on, TookEffect}
use Rattle.qu_claims.specs.Times.{world_after}
use Rattle.qu_claims.specs.Answers.{delivered_round, sends_answer, answers_at}
use Rattle.qu_runs.proofs.Worlds.WorldGrowth.{has_more, world_after-grows, is_accepted-more}
use Rattle.qu_claims.specs.RunSetting.{setting}
use Rattle.qu_claims.specs.Decided.{IsDecided}
use Rattle.qu_known.specs.declared.tracked.Tracked.{Tracked}
use Rattle.qu_points.proofs.Handled.HandledActs.{handled_among, among_handled}
use Rattle.qu_marks.specs.Tracker.{TellsFirst, TellsOf, Tracks}
use Rattle.qu_claims.specs.Order.{DecidesAt, AnswersFirst, completed_effect, query_effect}
use Rattle.qu_points.specs.Points.{NamedAct, act_mark, handled_acts, is_named_act, answers_in, effect_of}
use Rattle.qu_marks.proofs.DecidedWorlds.{decided_is_accepted}
use Rattle.qu_marks.proofs.Settling.{IsTrackedAt, stands_in}
use Rattle.qu_marks.proofs.Places.{position_none}
use Rattle.qu_marks.specs.FirstMark.{is_of_update, first_mark}
use Rattle.qu_marks.proofs.Firsts.{HasMark, first_mark_found, first_mark_least}

-- ---- updates

tells_up_to : (trace : Trace) (end : ℕ) (object : ObjectId) (candidate : Candidate) (mark : Option ℕ)
    → TellsFirst trace end object candidate mark → (event : ℕ) → event < end
    → IsDecided (setting trace) event object candidate → IsUpTo mark event
tells_up_to trace end object candidate None tells event before decided = absurd (tells event before decided)
tells_up_to trace end object candidate (Some first) tells event before decided =
    elim (cases_lt event first) [
      | inl earlier ↦ absurd (tells.2 event earlier decided)
      | inr order ↦ (first, refl, order)
    ]

act_is_same : (found : Option Digest) (act : Digest) → found ≡ Some act → option_eq same_digest found (Some act) ≡ true
act_is_same found act is = ap (λ (it : Option Digest). option_eq same_digest it (Some act)) is
    ∙ same_act-self (Some act)

module _ (trace : Trace) (tracked : List Tracked) (tracks : Tracks trace (length trace.entries) tracked)
    (client : ClientId) (number : ℕ) (parts : List (ObjectId × Method)) where
  abbrev digest : Digest
  digest = act_digest client number parts

  -- an update that took effect has a first mark, by then
  took_marks : (event : ℕ) → event ≤ length trace.entries → TookEffect trace event client number parts
      → IsUpTo (first_mark client parts digest tracked) event
  took_marks event happened took =
      let count : ℕ = length trace.entries in
      let held : is_accepted (world_after trace event) took.object took.candidate ≡ true =
      decided_is_accepted trace tracks.run event took.object took.candidate took.is_decided in
      let still : is_accepted (world_after trace count) took.object took.candidate ≡ true =
      is_accepted-more (world_after trace event) (world_after trace count)
      (has_more _ _ (world_after-grows trace event count happened)) took.object took.candidate held in
      let stands : IsTrackedAt took.object took.candidate tracked =
      stands_in took.object took.candidate tracked (tracks.accepted took.object took.candidate ∙ still) in
      let tells : TellsOf trace (count + 1) stands.found =
      subst (TellsOf trace (count + 1)) stands.at (tracks.marks stands.place stands.found stands.below) in
      let decided : IsDecided (setting trace) event stands.found.object stands.found.candidate =
      rw (stands.object_is, stands.candidate_is) took.is_decided in
      let mark : IsUpTo stands.found.decided event =
      tells_up_to trace (count + 1) stands.found.object stands.found.candidate stands.found.decided tells
      event (omega arith) decided in
      let of_client : (stands.found.candidate.stamp.client).0 ≡ client.0 =
      ap (λ (it : Candidate). (it.stamp.client).0) stands.candidate_is
      ∙ ap (λ (it : ClientId). it.0) took.of_client in
      let of_act : stands.found.candidate.stamp.act ≡ Some digest =
      ap (λ (it : Candidate). it.stamp.act) stands.candidate_is ∙ took.of_act in
      let of_update : is_of_update client parts digest stands.found ≡ true =
      and_from _ _ (ap (λ (it : ObjectId). is_on it parts) stands.object_is ∙ took.named)
      (and_from _ _ (eq-eqb _ _ of_client) (act_is_same stands.found.candidate.stamp.act digest of_act)) in
      let first : IsUpTo (first_mark client parts digest tracked) mark.0 =
      first_mark_least client parts digest tracked stands.place stands.found mark.0 stands.below stands.at of_update
      mark.1 in
      let order : mark.0 ≤ event = mark.2 in
      let least : first.0 ≤ mark.0 = first.2 in
      (first.0, first.1, omega arith)

  -- the first mark is where the update took effect
  pub decides_at : IsHandled trace client number parts → (event : ℕ) → first_mark client parts digest tracked ≡ Some
      event → DecidesAt trace client number parts event
  decides_at handled event is =
      let count : ℕ = length trace.entries in
      let has : HasMark client parts digest tracked event = first_mark_found client parts digest tracked event is in
      let tells : TellsOf trace (count + 1) has.found =
      subst (TellsOf trace (count + 1)) has.at (tracks.marks has.place has.found has.below) in
      let first : TellsFirst trace (count + 1) has.found.object has.found.candidate (Some event) =
      subst (λ (mark : Option ℕ). TellsFirst trace (count + 1) has.found.object has.found.candidate mark) has.mark
      tells in
      let within : event < count + 1 = first.0 in
      let on : (is_on has.found.object parts ≡ true)
      × (((has.found.candidate.stamp.client).0 == client.0
      && option_eq same_digest has.found.candidate.stamp.act (Some digest)) ≡ true) = and_parts _ _ has.of_update in
      let of : (((has.found.candidate.stamp.client).0 == client.0) ≡ true)
      × (option_eq same_digest has.found.candidate.stamp.act (Some digest) ≡ true) = and_parts _ _ on.1 in
      record {
        handled = handled;
        happened = omega arith;
        by_then = record {
          object = has.found.object;
          named = on.0;
          candidate = has.found.candidate;
          is_decided = first.1;
          of_client = tested_client has.found.candidate.stamp.client client of.0;
          of_act = equal_by_same_act has.found.candidate.stamp.act (Some digest) of.1;
        };
        not_before = λ earlier before took. not_earlier event is earlier before (took_marks earlier (omega arith) took);
      }
    where
      not_earlier : (event : ℕ) → first_mark client parts digest tracked ≡ Some event → (earlier : ℕ) → earlier < event
          → IsUpTo (first_mark client parts digest tracked) earlier → ⊥
      not_earlier event is earlier before up_to =
          let same : event ≡ up_to.0 = same_Some event up_to.0 (sym is ∙ up_to.1) in
          let order : up_to.0 ≤ earlier = up_to.2 in
          absurd (omega arith)

  -- where there is none it took no effect
  pub decides_nowhere : first_mark client parts digest tracked ≡ None → (event : ℕ)
      → ¬ (DecidesAt trace client number parts event)
  decides_nowhere none event decides =
      let up_to : IsUpTo (first_mark client parts digest tracked) event = took_marks event decides.happened
      decides.by_then in
      none-some up_to.0 (sym none ∙ up_to.1)

-- ---- queries

sends_get : (client : ClientId) (number round : ℕ) (entries : List Entry) (place : ℕ) (default : Entry)
    → place < length entries → sends_answer client number round (slice_get entries place) ≡ answers_in client
    number round (get_or entries place default)
sends_get client number round [] place default below = absurd (omega arith)
sends_get client number round (entry ∷ later) zero default below = refl
sends_get client number round (entry ∷ later) (suc place) default below =
    sends_get client number round later place default (omega arith)

sends_past : (client : ClientId) (number round : ℕ) (entries : List Entry) (place : ℕ) → length entries ≤ place
    → sends_answer client number round (slice_get entries place) ≡ false
sends_past client number round [] place past = refl
sends_past client number round (entry ∷ later) zero past = absurd (omega arith)
sends_past client number round (entry ∷ later) (suc place) past =
    sends_past client number round later place (omega arith)

answers_none : (trace : Trace) (client : ClientId) (number round : ℕ) → position (answers_in client number round)
    trace.entries ≡ None → (event : ℕ) → answers_at trace client number round event ≡ false
answers_none trace client number round none zero = refl
answers_none trace client number round none (suc place) =
    elim (cases_lt place (length trace.entries)) [
      | inl below ↦ inside trace.entries place below (position_none (answers_in client number round) trace.entries none)
      | inr past ↦ sends_past client number round trace.entries place past
    ]
  where
    inside : (entries : List Entry) (place : ℕ) → place < length entries
        → ((at : ℕ) (default : Entry) → at < length entries → answers_in client number round
        (get_or entries at default) ≡ false) → sends_answer client number round (slice_get entries place) ≡ false
    inside [] place below nowhere = absurd (omega arith)
    inside (entry ∷ later) place below nowhere = sends_get client number round (entry ∷ later) place entry below
        ∙ nowhere place entry below

answers_before : (trace : Trace) (client : ClientId) (number round index : ℕ) (default : Entry)
    → index < length trace.entries
    → ((k : ℕ) → k < index → answers_in client number round (get_or trace.entries k default) ≡ false)
    → (earlier : ℕ) → earlier < index + 1 → answers_at trace client number round earlier ≡ false
answers_before trace client number round index default below nowhere zero before = refl
answers_before trace client number round index default below nowhere (suc place) before =
    sends_get client number round trace.entries place default (omega arith) ∙ nowhere place (omega arith)

-- the first entry with an answer to the round that completed the query
pub answers_first : (trace : Trace) (client : ClientId) (number reply round index : ℕ) (default : Entry)
    → delivered_round trace (numbered trace.entries reply) ≡ Some round
    → position (answers_in client number round) trace.entries ≡ Some index
    → AnswersFirst trace client number reply (index + 1)
answers_first trace client number reply round index default completed first =
    let found : (index < length trace.entries)
    × (answers_in client number round (get_or trace.entries index default) ≡ true)
    × ((k : ℕ) → k < index → answers_in client number round (get_or trace.entries k default) ≡ false) =
    position-Some (answers_in client number round) trace.entries index default first in
    record {
      round = round;
      completed = completed;
      by_then = ap (λ (event : ℕ). answers_at trace client number round event) (add-one index)
          ∙ sends_get client number round trace.entries index default found.0 ∙ found.1;
      not_before = answers_before trace client number round index default found.0 found.2;
    }

pub answers_nowhere : (trace : Trace) (client : ClientId) (number reply round : ℕ)
    → delivered_round trace (numbered trace.entries reply) ≡ Some round
    → position (answers_in client number round) trace.entries ≡ None → (event : ℕ)
    → ¬ (AnswersFirst trace client number reply event)
answers_nowhere trace client number reply round completed none event first =
    let same : first.round ≡ round = same_Some first.round round (sym first.completed ∙ completed) in
    false≢true (sym (answers_none trace client number round none event)
    ∙ ap (λ (it : ℕ). answers_at trace client number it event) (sym same) ∙ first.by_then)

pub answers_never : (trace : Trace) (client : ClientId) (number reply : ℕ)
    → delivered_round trace (numbered trace.entries reply) ≡ None → (event : ℕ)
    → ¬ (AnswersFirst trace client number reply event)
answers_never trace client number reply none event first = none-some first.round (sym none ∙ first.completed)

-- ---- one event

decides_once : (trace : Trace) (client : ClientId) (number : ℕ) (parts : List (ObjectId × Method))
    (first second : ℕ) → DecidesAt trace client number parts first → DecidesAt trace client number parts second
    → first ≡ second
decides_once trace client number parts first second one two =
    elim (cases_order first second) [
      | inl same ↦ same
      | inr other ↦ elim other [
        | inl before ↦ absurd (two.not_before first before one.by_then)
        | inr after ↦ absurd (one.not_before second after two.by_then)
      ]
    ]

answers_once : (trace : Trace) (client : ClientId) (number reply first second : ℕ)
    → AnswersFirst trace client number reply first → AnswersFirst trace client number reply second → first ≡ second
answers_once trace client number reply first second one two =
    let same : one.round ≡ two.round = same_Some one.round two.round (sym one.completed ∙ two.completed) in
    elim (cases_order first second) [
      | inl equal ↦ equal
      | inr other ↦ elim other [
        | inl before ↦ absurd
            (false≢true (sym (two.not_before first before)
            ∙ ap (λ (it : ℕ). answers_at trace client number it first) (sym same) ∙ one.by_then))
        | inr after ↦ absurd
            (false≢true (sym (one.not_before second after)
            ∙ ap (λ (it : ℕ). answers_at trace client number it second) same ∙ two.by_then))
      ]
    ]

completes_once : (trace : Trace) (operation : OpRecord) (first second reply : ℕ) (ended : Outcome)
    → completed_effect trace operation first reply ended → completed_effect trace operation second reply ended
    → first ≡ second
completes_once trace operation first second reply (outcome.Done answer) one two =
    answers_once trace operation.client operation.number reply first second one two
completes_once trace operation first second reply outcome.GaveUp one two = absurd one

query_once : (trace : Trace) (operation : OpRecord) (first second : ℕ) (reply : Option (ℕ × Outcome))
    → query_effect trace operation first reply → query_effect trace operation second reply → first ≡ second
query_once trace operation first second None one two = absurd one
query_once trace operation first second (Some reply) one two =
    completes_once trace operation first second reply.0 reply.1 one two

-- an operation took effect at one event
pub effect_once : (trace : Trace) (operation : OpRecord) (first second : ℕ) (what : Op)
    → effect_of trace operation first what → effect_of trace operation second what → first ≡ second
effect_once trace operation first second (op.Act parts) one two =
    decides_once trace operation.client operation.number parts first second one two
effect_once trace operation first second (op.Query query) one two =
    query_once trace operation first second operation.reply one two

-- ---- as the code finds them

some_entry : (test : Entry → Bool) (entries : List Entry) (index : ℕ) → position test entries ≡ Some index → Entry
some_entry test [] index first = absurd (none-some index first)
some_entry test (entry ∷ later) index first = entry

-- the effect of an operation is at this event, or there is none
abbrev pub IsEffect : Trace → OpRecord → Op → Option ℕ → Type 0
IsEffect trace operation what found =
    MatchOption found ((event : ℕ) → ¬ (effect_of trace operation event what))
    (λ event. effect_of trace operation event what)

acted : (trace : Trace) (tracked : List Tracked) → Tracks trace (length trace.entries) tracked
    → (client : ClientId) (number : ℕ) (parts : List (ObjectId × Method)) → IsHandled trace client number parts
    → (found : Option ℕ) → first_mark client parts (act_digest client number parts) tracked ≡ found
    → MatchOption found ((event : ℕ) → ¬ (DecidesAt trace client number parts event))
    (λ event. DecidesAt trace client number parts event)
acted trace tracked tracks client number parts handled None is =
    decides_nowhere trace tracked tracks client number parts is
acted trace tracked tracks client number parts handled (Some event) is =
    decides_at trace tracked tracks client number parts handled event is

-- the mark of an act takes it for handled where it is among the handled acts
marked : (trace : Trace) (tracked : List Tracked) → Tracks trace (length trace.entries) tracked
    → (operation : OpRecord) (parts : List (ObjectId × Method)) (found : Option ℕ)
    → act_mark operation.client operation.number parts (handled_acts trace) tracked ≡ found
    → MatchOption found ((event : ℕ) → ¬ (DecidesAt trace operation.client operation.number parts event))
    (λ event. DecidesAt trace operation.client operation.number parts event)
marked trace tracked tracks operation parts found mark =
    elim (cases_Bool (list_any (is_named_act operation.client operation.number parts) (handled_acts trace))) [
      | inl there ↦
          acted trace tracked tracks operation.client operation.number parts
          (among_handled trace operation.client operation.number parts there) found
          (sym (ap (λ (test : Bool). cond test
          (first_mark operation.client parts (act_digest operation.client operation.number parts) tracked) None)
          there) ∙ mark)
      | inr not_there ↦
          subst (λ it. MatchOption it
          ((event : ℕ) → ¬ (DecidesAt trace operation.client operation.number parts event))
          (λ event. DecidesAt trace operation.client operation.number parts event))
          (sym (ap (λ (test : Bool). cond test
          (first_mark operation.client parts (act_digest operation.client operation.number parts) tracked) None)
          not_there) ∙ mark)
          (λ event decides. false≢true
          (sym not_there ∙ handled_among trace operation.client operation.number parts decides.handled))
    ]

act_effect : (trace : Trace) (tracked : List Tracked) (operation : OpRecord) (what : Op)
    (act : List (ObjectId × Method)) (found : Option ℕ) → Tracks trace (length trace.entries) tracked
    → what ≡ op.Act act
    → found ≡ act_mark operation.client operation.number act (handled_acts trace) tracked
    → IsEffect trace operation what found
act_effect trace tracked operation what act found tracks is mark =
    subst (λ (it : Op). IsEffect trace operation it found) (sym is)
    (marked trace tracked tracks operation act found (sym mark))

-- the same of a result
pub act_effect_of : {E : Type 0} (trace : Trace) (tracked : List Tracked) (operation : OpRecord) (what : Op)
    (act : List (ObjectId × Method)) (acts : List NamedAct) (seen : List Tracked) (result : Result (Option ℕ) E)
    → Tracks trace (length trace.entries) tracked → what ≡ op.Act act → acts ≡ handled_acts trace → seen ≡ tracked
    → IfOk result (λ found. found ≡ act_mark operation.client operation.number act acts seen)
    → IfOk result (IsEffect trace operation what)
act_effect_of trace tracked operation what act acts seen (Err missing) tracks is are seen_is mark = mark
act_effect_of trace tracked operation what act acts seen (Ok found) tracks is are seen_is mark =
    act_effect trace tracked operation what act found tracks is
    (mark ∙ (λ i. act_mark operation.client operation.number act (are i) (seen_is i)))

pub ask_effect : (trace : Trace) (operation : OpRecord) (what : Op) (query : List (ObjectId × Ask))
    (found : Option ℕ) → what ≡ op.Query query
    → MatchOption found ((event : ℕ) → ¬ (query_effect trace operation event operation.reply))
    (λ event. query_effect trace operation event operation.reply) → IsEffect trace operation what found
ask_effect trace operation what query found is effect =
    subst (λ (it : Op). IsEffect trace operation it found) (sym is) effect

abbrev pub IsAnswer : Trace → ClientId → ℕ → ℕ → Option ℕ → Type 0
IsAnswer trace client number reply found =
    MatchOption found ((event : ℕ) → ¬ (AnswersFirst trace client number reply event))
    (λ event. AnswersFirst trace client number reply event)

answered_by : (trace : Trace) (client : ClientId) (number reply round : ℕ) (first : Option ℕ)
    → delivered_round trace (numbered trace.entries reply) ≡ Some round
    → position (answers_in client number round) trace.entries ≡ first → IsAnswer trace client number reply
    (option_map (λ index. index + 1) first)
answered_by trace client number reply round None completed is =
    answers_nowhere trace client number reply round completed is
answered_by trace client number reply round (Some index) completed is =
    answers_first trace client number reply round index
    (some_entry (answers_in client number round) trace.entries index is) completed is

pub answered : (trace : Trace) (client : ClientId) (number reply round : ℕ) (found : Option ℕ)
    → Some round ≡ delivered_round trace (numbered trace.entries reply) → found ≡ option_map (λ index. index + 1)
    (position (answers_in client number round) trace.entries) → IsAnswer trace client number reply found
answered trace client number reply round found completed is =
    subst (IsAnswer trace client number reply) (sym is)
    (answered_by trace client number reply round (position (answers_in client number round) trace.entries)
    (sym completed) refl)

pub unanswered : (trace : Trace) (client : ClientId) (number reply : ℕ) (found : Option ℕ)
    → None ≡ delivered_round trace (numbered trace.entries reply) → found ≡ None
    → IsAnswer trace client number reply found
unanswered trace client number reply found none is =
    subst (IsAnswer trace client number reply) (sym is) (answers_never trace client number reply (sym none))
