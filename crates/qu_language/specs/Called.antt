-- The calls that the lines of a script make.
use Rattle.std.specs.Prelude.{ℕ, false, ◌≡◌, ◌≤◌, List, [], ◌∷◌}
use Rattle.std.specs.List.{flat_map, AllByRecursion}
use Rattle.qu_base.specs.declared.party.ClientId.{ClientId}
use Rattle.qu_base.specs.declared.party.Party.TheVariants as party
use Rattle.qu_objects.specs.declared.op.Op.{Op}
use Rattle.qu_trace.specs.Faulty.{is_faulty}
use Rattle.qu_trace.specs.declared.trace.Setup.{Setup}
use Rattle.qu_language.specs.declared.line.Line.{Line}
use Rattle.qu_language.specs.declared.line.Line.TheVariants.{Call, Deliver, Flow, Hold, Free, Lose, Tick, Wake, Inject, Fake}

abbrev pub call_of : Line → List (ClientId × Op)
call_of (Call client op) = (client, op) ∷ []
call_of (Deliver letters) = []
call_of (Flow count) = []
call_of (Hold those) = []
call_of (Free those) = []
call_of Lose = []
call_of (Tick client count) = []
call_of (Wake client) = []
call_of (Inject who text) = []
call_of (Fake me client how good) = []

-- the calls of these lines, in their order
abbrev pub calls_said : List (ℕ × Line) → List (ClientId × Op)
calls_said lines = flat_map (λ (line : ℕ × Line). call_of line.1) lines

-- the client is one of the setup, and correct
pub record MayCall (setup : Setup) (me : ClientId) : Type 0 where
  pub from_one : 1 ≤ me.0
  pub among : me.0 ≤ setup.clients
  pub does_not_lie : is_faulty setup (party.Client me) ≡ false

-- each of these clients is one of the setup, and correct
abbrev pub MayAllCall : Setup → List (ClientId × Op) → Type 0
MayAllCall setup calls = AllByRecursion (λ (call : ClientId × Op). MayCall setup call.0) calls
