-- What a planned step makes of a client's state.
use Rattle.std.specs.Prelude.{List, [], Option, None, Some, option_map}
use Rattle.qu_question.specs.declared.kept.Kept.{Kept}
use Rattle.qu_client.specs.declared.planned.Planned.{Planned}
use Rattle.qu_client.specs.declared.planned.Turn.{Turn}
use Rattle.qu_client.specs.declared.planned.Turn.TheVariants.{Stays, Ends, Begins, Counts, Rests, Passes}
use Rattle.qu_client.specs.declared.work.Phase.TheVariants.{Resting}
use Rattle.qu_client.specs.declared.work.Work.{Work}
use Rattle.qu_client.specs.State.{ClientState, Stepped}

-- the operation under way, if there is one, is changed so
abbrev pub with_work : ClientState → (Work → Work) → ClientState
with_work state change = record state { work = option_map change state.work }

abbrev pub after_turn : ClientState → Turn → ClientState
after_turn state Stays = state
after_turn state Ends = record state { work = None }
after_turn state (Begins work) = record state { last_request = Some (work.number, work.round); work = Some work }
after_turn state (Counts replies) = with_work state (λ work. record work { replies = replies })
after_turn state (Rests ticks waits named) =
    record (with_work state (λ work. record work { phase = Resting ticks; named = named; replies = [] })) {
      waits = waits;
    }
after_turn state (Passes phase) = with_work state (λ work. record work { phase = phase })

abbrev pub with_kept : ClientState → Option (List Kept) → ClientState
with_kept state None = state
with_kept state (Some kept) = record state { kept = kept }

-- the state after a step that was planned
abbrev pub planned_state : ClientState → Planned → ClientState
planned_state state planned = after_turn (with_kept state planned.kept) planned.turn

-- the step that was planned
abbrev pub planned_step : ClientState → Planned → Stepped
planned_step state planned = record {
  state = planned_state state planned;
  letters = planned.moved.letters;
  ended = planned.moved.ended;
}
