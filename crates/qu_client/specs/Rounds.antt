-- How a client begins a round of an operation, and the letters of a round.
use Rattle.std.specs.Prelude.{ℕ, zero, suc, true, ◌+◌, if◌then◌else◌, List, [], ◌∷◌, None, Some}
use Rattle.qu_base.specs.declared.party.ClientId.{ClientId}
use Rattle.qu_base.specs.declared.party.ObjectId.{ObjectId}
use Rattle.qu_base.specs.declared.party.Party.TheVariants as party
use Rattle.qu_base.specs.Bounds.{replicas}
use Rattle.qu_seal.specs.Keys.{Ring}
use Rattle.qu_objects.specs.declared.op.Op.{Op}
use Rattle.qu_frames.specs.declared.frame.Frame.{Frame}
use Rattle.qu_frames.specs.declared.frame.Frame.TheVariants as frame
use Rattle.qu_frames.specs.declared.frame.Letter.{Letter}
use Rattle.qu_frames.specs.Blank.{blank_mac}
use Rattle.qu_frames.specs.Signing.{signed}
use Rattle.qu_client.specs.declared.whom.Whom.{Whom}
use Rattle.qu_client.specs.declared.whom.Whom.TheVariants.{Others}
use Rattle.qu_client.specs.declared.work.Phase.TheVariants.{Asking}
use Rattle.qu_client.specs.declared.work.Work.{Work}
use Rattle.qu_client.specs.Whom.{is_asked, first_object, whom_asked}
use Rattle.qu_client.specs.Work.{work_asking}
use Rattle.qu_client.specs.State.{ClientState, Stepped}
use Rattle.qu_question.specs.Question.{question_of}
use Rattle.qu_question.specs.Marking.{marked_shown}

-- ---- letters

-- what is asked in the round under way, before its HMAC is made
abbrev pub request_of : ClientId → Work → Frame
request_of me work = frame.Request me work.number work.round work.sets work.body blank_mac

-- the request to those who are asked of so many replicas from this one on, signed for each
unfoldable pub requests_from : Ring → ℕ → ℕ → ClientId → Work → Whom → List Letter
requests_from keys replica zero me work whom = []
requests_from keys replica (suc count) me work whom =
    if is_asked keys.bounds whom replica then
    (record {
      from = party.Client me;
      to = party.Replica (record { 0 = replica });
      text = signed keys (party.Replica (record { 0 = replica })) (request_of me work);
    }) ∷ requests_from keys (replica + 1) count me work whom
    else requests_from keys (replica + 1) count me work whom

-- the round's request to these replicas
abbrev pub requests : Ring → ClientId → Work → Whom → List Letter
requests keys me work whom = requests_from keys 0 (replicas keys.bounds) me work whom

-- ---- rounds

-- a round begins that asks this
abbrev pub begins : ClientState → Work → Stepped
begins state work = record {
  state = record state {
    kept = marked_shown work.sets state.kept;
    last_request = Some (work.number, work.round);
    work = Some work;
  };
  letters = requests state.keys state.me work (whom_asked work);
  ended = None;
}

-- a round of an operation begins, upon the objects that are named so far and what is kept
abbrev pub begin_round : ClientState → Op → ℕ → ℕ → List ObjectId → Stepped
begin_round state op number round named =
    begins state (work_asking op number round (question_of state.keys.bounds op round state.kept named))

-- the round in which all are asked, where the preferred ones were
abbrev pub asking_all : Work → Work
asking_all work = record work { phase = Asking true }

-- the preferred replicas were asked, and now the same is asked of the others
abbrev pub asks_others : ClientState → Work → Stepped
asks_others state work = record {
  state = record state { work = Some (asking_all work) };
  letters = requests state.keys state.me (asking_all work) (Others (first_object work.op));
  ended = None;
}
