-- The client's step: a function from its state and an invocation, a text or a tick to a state,
-- letters and possibly an end.
use Rattle.std.specs.Prelude.{ℕ, Bool, true, false, ◌+◌, ◌-◌, ◌==◌, ◌&&◌, nat_lt, nat_le, if◌then◌else◌, List, [], Option, None, Some}
use Rattle.std.specs.List.{list_any}
use Rattle.qu_base.specs.declared.party.Party.TheVariants as party
use Rattle.qu_base.specs.declared.party.ObjectId.{ObjectId}
use Rattle.qu_base.specs.declared.party.ReplicaId.{ReplicaId}
use Rattle.qu_objects.specs.declared.answer.Answer.{Answer}
use Rattle.qu_objects.specs.declared.op.Op.{Op}
use Rattle.qu_objects.specs.declared.op.Outcome.{Outcome}
use Rattle.qu_objects.specs.declared.op.Outcome.TheVariants as outcome
use Rattle.qu_frames.specs.declared.frame.Frame.{Frame}
use Rattle.qu_frames.specs.declared.frame.Frame.TheVariants as frame
use Rattle.qu_frames.specs.declared.limits.TheConstants.{LAST_ROUND}
use Rattle.qu_verdicts.specs.declared.verdict.Verdict.{Verdict}
use Rattle.qu_verdicts.specs.declared.verdict.Verdict.TheVariants as verdict
use Rattle.qu_verdicts.specs.declared.verdict.Refusal.TheVariants as refusal
use Rattle.qu_frames.specs.Signing.{brought}
use Rattle.qu_client.specs.Waits.{next_wait}
use Rattle.qu_client.specs.declared.work.Counted.{Counted}
use Rattle.qu_client.specs.declared.work.Phase.{Phase}
use Rattle.qu_client.specs.declared.work.Phase.TheVariants.{Asking, Resting}
use Rattle.qu_client.specs.declared.work.Work.{Work}
use Rattle.qu_client.specs.Whom.{whom_asked}
use Rattle.qu_client.specs.Verdicts.{fitting, is_hopeless, is_agreed}
use Rattle.qu_client.specs.Work.{rest_left, counts, with_verdict}
use Rattle.qu_client.specs.Needed.{named_after}
use Rattle.qu_client.specs.State.{ClientState, Stepped}
use Rattle.qu_question.specs.Kept.{keep_all, unmarked}
use Rattle.qu_client.specs.Leaving.{after_replies}
use Rattle.qu_question.specs.Named.{operation_objects}
use Rattle.qu_client.specs.Rounds.{begin_round, asks_others}

abbrev pub stays : ClientState → Stepped
stays state = record { state = state; letters = []; ended = None }

abbrev pub ends : ClientState → Outcome → Stepped
ends state outcome = record { state = record state { work = None }; letters = []; ended = Some outcome }

-- ---- the end of a round

-- after a round the next one begins, unless it was the last
abbrev pub next_round : ClientState → Work → Stepped
next_round state work =
    if nat_le LAST_ROUND work.round then ends state outcome.GaveUp
    else begin_round state work.op work.number (work.round + 1) work.named

-- the replica has a later candidate than the sets showed
abbrev pub is_behind : Verdict → Bool
is_behind (verdict.Refused (refusal.NotCurrent object latest)) = true
is_behind _ = false

-- the sets were behind a replica, and a round is left
abbrev pub is_rest_due : ℕ → List Counted → Bool
is_rest_due round replies = nat_lt round LAST_ROUND && list_any (λ counted. is_behind counted.verdict) replies

-- before the next round the client rests as long as is drawn for the round that ended
abbrev pub rests : ClientState → Work → Stepped
rests state work =
    let drawn = next_wait work.round state.waits in
    stays (record state { waits = drawn.1; work = Some (record work { phase = Resting drawn.0; replies = [] }) })

-- the client rests, or the next round begins at once
abbrev pub goes_on : ClientState → Work → Stepped
goes_on state work = if is_rest_due work.round work.replies then rests state work else next_round state work

-- a round that ended without an answer leaves out what its replies name as culled, and names too what they need
abbrev pub ends_round : ClientState → Work → Stepped
ends_round state work =
    goes_on (record state { kept = after_replies state.keys.bounds work.replies state.kept })
    (record work { named = named_after state.keys.bounds work.replies work.named })

-- ---- replies

-- a quorum tells this answer, or where there is none that an object was mended
abbrev pub agreed : ClientState → Work → Option Answer → Stepped
agreed state work None = ends_round state work
agreed state work (Some answer) = ends state (outcome.Done answer)

-- the round whose last verdict is this one
abbrev pub judged : ClientState → Work → Verdict → Stepped
judged state work verdict =
    if is_agreed state.keys.bounds work.body work.replies verdict then agreed state work (fitting work.body verdict)
    else if is_hopeless state.keys.bounds work.body (whom_asked work) work.replies then ends_round state work
    else stays (record state { work = Some work })

abbrev pub counted_in : ClientState → Option Work → ReplicaId → ℕ → ℕ → Verdict → List (ObjectId × ReplicaId) → Stepped
counted_in state None replica number round verdict culled = stays state
counted_in state (Some work) replica number round verdict culled =
    if counts work replica number round then judged state (with_verdict work replica verdict culled) verdict
    else stays state

-- a frame that is no reply to this client is ignored; a reply's histories are kept, and then its
-- verdict counts
abbrev pub client_on_frame : ClientState → Frame → Stepped
client_on_frame state (frame.Reply replica client number round verdict culled shown mac) =
    if client.0 == (state.me).0
    then counted_in (record state { kept = keep_all number round shown state.kept }) state.work replica number
    round verdict culled
    else stays state
client_on_frame state _ = stays state

abbrev pub client_on_received : ClientState → Option Frame → Stepped
client_on_received state None = stays state
client_on_received state (Some frame) = client_on_frame state frame

-- a text that is no frame, or whose HMAC is wrong, is ignored
abbrev pub client_step : ClientState → List ℕ → Stepped
client_step state text = client_on_received state (brought state.keys (party.Client state.me) text)

-- ---- ticks

-- a tick of a rest: after the last one the next round begins
abbrev pub rest_ticked : ClientState → Work → ℕ → Stepped
rest_ticked state work ticks =
    if nat_le ticks 1 then next_round state work
    else stays (record state { work = Some (record work { phase = Resting (ticks - 1) }) })

-- where the preferred replicas were asked, the others are asked too; where all were, the round ends
abbrev pub ticked_in : ClientState → Work → Phase → Stepped
ticked_in state work (Resting ticks) = rest_ticked state work ticks
ticked_in state work (Asking false) = asks_others state work
ticked_in state work (Asking true) = ends_round state work

-- a client with no operation under way stays
abbrev pub ticked : ClientState → Option Work → Stepped
ticked state None = stays state
ticked state (Some work) = ticked_in state work work.phase

abbrev pub client_tick : ClientState → Stepped
client_tick state = ticked state state.work

-- how many ticks are left of a rest of the operation under way
abbrev pub rest_of : Option Work → Option ℕ
rest_of None = None
rest_of (Some work) = rest_left work.phase

-- ---- invocations

-- the number of the next operation
abbrev pub next_number : Option (ℕ × ℕ) → ℕ
next_number None = 1
next_number (Some last) = last.0 + 1

-- an operation begins with its first round, in which no entry is left out and its own objects are named
abbrev pub client_invoke : ClientState → Op → Stepped
client_invoke state op =
    begin_round (record state { kept = unmarked state.kept }) op (next_number state.last_request) 1
    (operation_objects op)
