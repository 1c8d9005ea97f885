-- Steps that actors make can be put behind others: no premise on replays is empty.
use Rattle.std.proofs.Common.{◌≡◌, List, [], ◌∷◌, ◌++◌, Option, None, Some, refl, sym, subst, ◌∙◌}
use Rattle.std.proofs.lemmas.Option.{none-some, same_Some}
use Rattle.qu_base.specs.declared.party.Party.{Party}
use Rattle.qu_replay.specs.Steps.{Actor, actor_moved}
use Rattle.qu_replay.specs.declared.kept_step.KeptStep.{KeptStep}
use Rattle.qu_replay.specs.Replays.{IsStepMade, IsReplay, IsReplayOf}
use Rattle.qu_replay.proofs.Replayed.{replay_push}

pub push_of : (me : Party) (found end : Option Actor) (steps : List KeptStep) (actor : Actor) (step : KeptStep)
    → IsReplayOf me found steps end → end ≡ Some actor → IsStepMade me actor step
    → IsReplayOf me found (steps ++ step ∷ []) (Some (actor_moved me actor step.input).actor)
unfolding IsReplayOf
push_of me None end steps actor step replay is made = absurd (none-some actor (sym replay.1 ∙ is))
push_of me (Some first) end steps actor step replay is made =
    let last : replay.0 ≡ actor = same_Some replay.0 actor (sym replay.1 ∙ is) in (
      (actor_moved me actor step.input).actor,
      refl,
      replay_push me first actor steps step (subst (λ (it : Actor). IsReplay me first steps it) last replay.2) made,
    )
