-- The points of some operations of a trace, in their order.
use Rattle.std.specs.Prelude.{◌<◌, ◌^◌, ◌≡◌, ℕ, Bool, true, false, ◌==◌, ◌&&◌, ◌+◌, if◌then◌else◌, List, [], ◌∷◌, position, Option, None, Some, option_map, Ok, IsTrue, Contains, ◌⊎◌}
use Rattle.std.specs.List.{AllPairs, list_any, filter_map}
use Rattle.qu_base.specs.declared.party.ClientId.{ClientId}
use Rattle.qu_base.specs.declared.party.ObjectId.{ObjectId}
use Rattle.qu_base.specs.declared.party.Party.TheVariants as party
use Rattle.qu_objects.specs.declared.act.Method.{Method}
use Rattle.qu_objects.specs.declared.act.Method.TheVariants.{Add, Take, Link}
use Rattle.qu_objects.specs.declared.op.Op.{Op}
use Rattle.qu_objects.specs.declared.op.Op.TheVariants as op
use Rattle.qu_objects.specs.Digesting.{act_digest, PartsFit}
use Rattle.qu_objects.specs.Parts.{are_parts}
use Rattle.qu_frames.specs.declared.frame.Body.{Body}
use Rattle.qu_frames.specs.declared.frame.Body.TheVariants as body
use Rattle.qu_frames.specs.declared.frame.Frame.{Frame}
use Rattle.qu_machine.specs.declared.record.OpRecord.{OpRecord}
use Rattle.qu_machine.specs.declared.record.Point.{Point}
use Rattle.qu_machine.specs.PointTests.{same_op}
use Rattle.qu_trace.specs.declared.trace.Entry.{Entry}
use Rattle.qu_trace.specs.declared.trace.Setup.{Setup}
use Rattle.qu_trace.specs.declared.trace.Trace.{Trace}
use Rattle.qu_trace.specs.Faulty.{is_faulty}
use Rattle.qu_claims.specs.Handled.{Request, handled_by}
use Rattle.qu_claims.specs.Answers.{answers, round_in}
use Rattle.qu_known.specs.declared.answers.Answered.{Answered}
use Rattle.qu_known.specs.declared.tracked.Tracked.{Tracked}
use Rattle.qu_marks.specs.FirstMark.{first_mark}
use Rattle.qu_claims.specs.Order.{DecidesAt, query_effect, op_bytes, is_earlier, are_in_order}

-- the round of the answer that a frame is
abbrev pub round_by : Option Frame → Option ℕ
round_by None = None
round_by (Some sent) = round_in (Ok sent)

-- ---- updates

-- an act, with its client and its number
abbrev pub NamedAct : Type 0
NamedAct = ClientId × ℕ × List (ObjectId × Method)

-- the act that is asked for
abbrev pub named_act_in : ClientId → ℕ → Body → Option NamedAct
named_act_in client number (body.Act parts) = Some (client, number, parts)
named_act_in client number (body.Ask parts) = None
named_act_in client number (body.Mend target) = None

-- the same of a request
abbrev pub act_in : Option Request → Option NamedAct
act_in None = None
act_in (Some request) = named_act_in request.client request.number request.body

-- the same of the request that the event of an entry lets a replica handle
abbrev pub act_at : Trace → Entry → Option NamedAct
act_at trace entry = act_in (handled_by trace entry.event)

-- each act that a replica handled
unfoldable pub handled_acts : Trace → List NamedAct
handled_acts trace = filter_map (act_at trace) trace.entries

-- the act is of this client, and has this number and these parts
abbrev pub is_named_act : ClientId → ℕ → List (ObjectId × Method) → NamedAct → Bool
is_named_act client number parts act = (act.0).0 == client.0 && (act.1 == number
    && same_op (op.Act act.2) (op.Act parts))

-- the first mark of the update that this client asks for under this number, where it is among the handled acts
abbrev pub act_mark : ClientId → ℕ → List (ObjectId × Method) → List NamedAct → List Tracked → Option ℕ
act_mark client number parts acts tracked =
    if list_any (is_named_act client number parts) acts
    then first_mark client parts (act_digest client number parts) tracked
    else None

-- ---- queries

-- an answer to this round is among the letters of the entry
abbrev pub answers_in : ClientId → ℕ → ℕ → Entry → Bool
answers_in client number round entry = list_any (answers client number round) entry.letters

-- it is this round
abbrev pub is_answered : Answered → Answered → Bool
is_answered asked round =
    (round.client).0 == (asked.client).0 && (round.number == asked.number && round.round == asked.round)

abbrev pub has_answered : Answered → List Answered → Bool
has_answered asked rounds = list_any (is_answered asked) rounds

-- the first event with an answer to this round, of the rounds that are answered at each
abbrev pub first_answer : Answered → List (List Answered) → Option ℕ
first_answer asked answers = option_map (λ index. index + 1) (position (has_answered asked) answers)

-- ---- what may have a point

-- where an operation took effect
abbrev pub effect_of : Trace → OpRecord → ℕ → Op → Type 0
effect_of trace operation event (op.Act parts) = DecidesAt trace operation.client operation.number parts event
effect_of trace operation event (op.Query query) = query_effect trace operation event operation.reply

abbrev pub asks : Op → Bool
asks (op.Act parts) = false
asks (op.Query query) = true

abbrev pub is_query : OpRecord → Bool
is_query operation = asks operation.op

-- a handled act, as an operation that began before the first event and did not end
abbrev pub as_operation : NamedAct → OpRecord
as_operation act = record { client = act.0; number = act.1; op = op.Act act.2; invoked = 0; reply = None }

-- the second is another operation
abbrev pub AreApart : OpRecord → OpRecord → Type 0
AreApart first second = (first.client).0 ≡ (second.client).0 → first.number ≡ second.number → ⊥

-- the second is another operation, or asks for something else by the same client and number
abbrev pub AreDistinct : OpRecord → OpRecord → Type 0
AreDistinct first second = (first.client).0 ≡ (second.client).0 → first.number ≡ second.number
    → op_bytes first.op ≡ op_bytes second.op → ⊥

-- the client of an operation is correct
abbrev pub IsOfCorrect : Setup → OpRecord → Type 0
IsOfCorrect setup operation = is_faulty setup (party.Client operation.client) ≡ false

-- it is one of these acts
pub record IsActOf (acts : List NamedAct) (operation : OpRecord) : Type 0 where
  pub act : NamedAct
  pub of_list : Contains acts act
  pub is : operation ≡ as_operation act

-- the operations, and besides them these acts, each once
pub record AddsActs (acts : List NamedAct) (old new : List OpRecord) : Type 0 where
  pub distinct : AllPairs AreDistinct new
  pub sound : (operation : OpRecord) → Contains new operation → Contains old operation ⊎ IsActOf acts operation
  pub kept : (operation : OpRecord) → Contains old operation → Contains new operation
  pub complete : (act : NamedAct) → Contains acts act → Contains new (as_operation act)

-- an act that is none of the earlier ones, as an operation
abbrev pub new_act : List NamedAct → NamedAct → List OpRecord
new_act earlier act = if list_any (is_named_act act.0 act.1 act.2) earlier then [] else as_operation act ∷ []

-- the numbers of a method fit their bytes
abbrev pub NumbersFit : Method → Type 0
NumbersFit (Add more) = more < 2 ^ 64
NumbersFit (Take fewer) = fewer < 2 ^ 64
NumbersFit (Link name number) = number < 2 ^ 64
NumbersFit method = Unit {0}

-- the numbers of an act fit their bytes, and no part carries more than it may
abbrev pub ActFits : NamedAct → Type 0
ActFits act = IsTrue (are_parts act.2) × PartsFit act.2

-- ---- the order

-- the point of an operation at this event
abbrev pub point_at : Setup → OpRecord → ℕ → Point
point_at setup operation event = record {
  event = event;
  client = operation.client;
  number = operation.number;
  op = operation.op;
  faulty = is_faulty setup (party.Client operation.client);
}

-- a point of one of these operations
pub record IsPointOf (trace : Trace) (operations : List OpRecord) (point : Point) : Type 0 where
  pub operation : OpRecord
  pub of_list : Contains operations operation
  pub is_point : point ≡ point_at trace.setup operation point.event
  pub effect : effect_of trace operation point.event operation.op

pub record ArePointsOf (trace : Trace) (operations : List OpRecord) (points : List Point) : Type 0 where
  pub in_order : IsTrue (are_in_order points)
  pub sound : (point : Point) → Contains points point → IsPointOf trace operations point
  pub complete : (point : Point) → IsPointOf trace operations point → Contains points point

-- the points with another one in its place
unfoldable pub with_point : Point → List Point → List Point
with_point point [] = point ∷ []
with_point point (first ∷ later) =
    if is_earlier first point then first ∷ with_point point later else point ∷ first ∷ later

-- the point of the operation is added, where it took effect
abbrev pub AddsPoint : Trace → OpRecord → List Point → List Point → Type 0
AddsPoint trace operation old new =
    ((event : ℕ) × effect_of trace operation event operation.op
    × (new ≡ with_point (point_at trace.setup operation event) old))
    ⊎ (((event : ℕ) → ¬ (effect_of trace operation event operation.op)) × (new ≡ old))
