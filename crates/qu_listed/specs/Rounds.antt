-- What is told of a client's rounds: which one is over and why, what is left out from then on, how long the client
-- rests, and whom it asks.
use Rattle.std.specs.Prelude.{ℕ, Bool, true, false, not, ◌==◌, ◌&&◌, if◌then◌else◌, List, [], ◌++◌, Option, None, Some, option_map, codes}
use Rattle.std.specs.Fmt.{decimal}
use Rattle.std.specs.List.{flat_map}
use Rattle.std.specs.Option.{option_and_then}
use Rattle.qu_base.specs.declared.party.ClientId.{ClientId}
use Rattle.qu_base.specs.declared.party.Party.{Party}
use Rattle.qu_base.specs.declared.party.Party.TheVariants as party
use Rattle.qu_frames.specs.declared.frame.Frame.{Frame}
use Rattle.qu_frames.specs.declared.frame.Frame.TheVariants as frame
use Rattle.qu_question.specs.declared.kept.Kept.{Kept}
use Rattle.qu_client.specs.declared.state.ClientState.{ClientState}
use Rattle.qu_client.specs.declared.work.Phase.{Phase}
use Rattle.qu_client.specs.declared.work.Phase.TheVariants.{Asking, Resting}
use Rattle.qu_client.specs.declared.work.Work.{Work}
use Rattle.qu_question.specs.Kept.{is_left_out}
use Rattle.qu_client.specs.Verdicts.{is_agreed}
use Rattle.qu_client.specs.Work.{is_asking, with_reply}
use Rattle.qu_trace.specs.declared.event.Event.{Event}
use Rattle.qu_trace.specs.declared.event.Event.TheVariants.{Invoke, Tick}
use Rattle.qu_trace.specs.declared.trace.Setup.{Setup}
use Rattle.qu_world.specs.State.{WorldState, correct_client}
use Rattle.qu_listed.specs.declared.stood.Round.{Round}
use Rattle.qu_listed.specs.declared.stood.Stood.{Stood}
use Rattle.qu_listed.specs.declared.stood.Why.{Why}
use Rattle.qu_listed.specs.declared.stood.Why.TheVariants.{Agreed, Split, TimedOut}
use Rattle.qu_listed.specs.Names.{object_text, party_text, count_text}
use Rattle.qu_listed.specs.Receivers.{frame_taken}

-- ---- before an event

abbrev pub offered_client : Option (Party × List ℕ) → Option ClientId
offered_client None = None
offered_client (Some (party.Replica me, text)) = None
offered_client (Some (party.Client me, text)) = Some me

-- the client that steps at an event: it is called, its clock ticks, or it is offered a text
abbrev pub stepping_client : Option (Party × List ℕ) → Event → Option ClientId
stepping_client offered (Invoke client op) = Some client
stepping_client offered (Tick client) = Some client
stepping_client offered _ = offered_client offered

-- a quorum agrees with the verdict that a reply brings
abbrev pub is_agreed_by : ℕ → Work → Option Frame → Bool
is_agreed_by bounds work (Some (frame.Reply replica client number round verdict culled shown mac)) =
    is_agreed bounds work.body (with_reply work.replies replica verdict culled) verdict
is_agreed_by bounds work _ = false

-- why a round is over behind an event, if it is
abbrev pub why_over : Setup → Option (Party × List ℕ) → Work → Why
why_over setup None work = TimedOut
why_over setup (Some (to, text)) work =
    if is_agreed_by setup.bounds work (frame_taken setup to text) then Agreed else Split

abbrev pub round_before : Setup → Option (Party × List ℕ) → Work → Round
round_before setup offered work =
    record { number = work.round; phase = work.phase; why = why_over setup offered work }

abbrev pub stood_by : Setup → Option (Party × List ℕ) → ClientId → ClientState → Stood
stood_by setup offered client state =
    record { client = client; round = option_map (λ (work : Work). round_before setup offered work) state.work }

-- how the correct client stands that steps at an event
abbrev pub stood_before : Setup → WorldState → Option (Party × List ℕ) → Event → Option Stood
stood_before setup world offered event =
    option_and_then (λ (client : ClientId).
    option_map (λ (state : ClientState). stood_by setup offered client state) (correct_client world client))
    (stepping_client offered event)

-- ---- behind it

-- the round was under way, and is no more
abbrev pub is_over : Round → Option Work → Bool
is_over round None = is_asking round.phase
is_over round (Some work) = is_asking round.phase && not (work.round == round.number && is_asking work.phase)

abbrev pub over_why_text : Why → List ℕ
over_why_text Agreed = codes " agreed"
over_why_text Split = codes " split"
over_why_text TimedOut = codes " timed out"

-- an entry that is left out
abbrev pub without_text : Kept → List ℕ
without_text held =
    if is_left_out held.mark then codes ", without " ++ object_text (held.sealed.history).object
    ++ codes " of " ++ party_text (party.Replica (held.sealed.history).replica)
    else []

-- what the rounds behind it do without
abbrev pub left_text : Option Work → List Kept → List ℕ
left_text None kept = []
left_text (Some work) kept = flat_map without_text kept

abbrev pub over_text : Option Round → Option Work → List Kept → List ℕ
over_text None work kept = []
over_text (Some round) work kept =
    if is_over round work then
    codes ", round " ++ decimal round.number ++ over_why_text round.why ++ left_text work kept
    else []

abbrev pub is_same_phase : Phase → Phase → Bool
is_same_phase (Asking true) (Asking all) = all
is_same_phase (Asking false) (Asking all) = not all
is_same_phase (Resting ticks) (Resting other) = ticks == other
is_same_phase _ _ = false

-- the round is the one that was under way
abbrev pub is_same_round : Option Round → Work → Bool
is_same_round None work = false
is_same_round (Some round) work = work.round == round.number

abbrev pub is_unmoved : Option Round → Work → Bool
is_unmoved None work = false
is_unmoved (Some round) work = work.round == round.number && is_same_phase round.phase work.phase

-- a round begins, rests, or is asked of the others too
abbrev pub phase_text : Bool → Phase → List ℕ
phase_text again (Resting ticks) = codes ", rests " ++ count_text ticks (codes "tick")
phase_text again (Asking false) = codes ", asks the preferred"
phase_text true (Asking true) = codes ", asks the others"
phase_text false (Asking true) = codes ", asks all"

abbrev pub goes_text : Option Round → Option Work → List ℕ
goes_text round None = []
goes_text round (Some work) = if is_unmoved round work then [] else phase_text (is_same_round round work) work.phase

abbrev pub client_text : Option Round → Option ClientState → List ℕ
client_text round None = []
client_text round (Some state) = over_text round state.work state.kept ++ goes_text round state.work

-- what is told of the client that stood so, in the world behind the event
abbrev pub rounds_text : Option Stood → WorldState → List ℕ
rounds_text None world = []
rounds_text (Some stood) world = client_text stood.round (correct_client world stood.client)
