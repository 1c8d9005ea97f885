-- Replays: one step more, where they end, and what they are after some of the steps.
use Rattle.std.proofs.Common.{◌≡◌, ℕ, zero, suc, ◌+◌, ◌≤◌, List, [], ◌∷◌, ◌++◌, take, Option, None, Some, refl, sym, ap, subst, ◌∙◌, inl, inr}
use Rattle.std.specs.Prelude.{option_map}
use Rattle.std.proofs.lemmas.Bool.{cases_Bool}
use Rattle.qu_base.specs.declared.party.Party.{Party}
use Rattle.qu_frames.specs.declared.frame.Letter.{Letter}
use Rattle.qu_trace.specs.Faulty.{is_same}
use Rattle.qu_trace.specs.declared.trace.Entry.{Entry}
use Rattle.qu_trace.specs.Letters.{letters_of}
use Rattle.qu_trace.specs.declared.trace.Setup.{Setup}
use Rattle.qu_world.specs.State.{WorldState, opening_world}
use Rattle.qu_world.specs.Run.{run, events_of}
use Rattle.qu_replay.specs.Steps.{Actor, actor_moved}
use Rattle.qu_replay.specs.declared.kept_step.KeptStep.{KeptStep}
use Rattle.qu_replay.specs.Replays.{IsStepMade, IsReplay, IsReplayOf, AreReplays, AreReplaysOf, opening_actor, IsAfterLetter, RisesFrom, first_free_ticket, state_after_steps, own_steps, actor_at}
use Rattle.qu_replay.specs.Told.{AreTold, FollowsFrom}
use Rattle.qu_replay.proofs.Openings.{opening_actor_is}
use Rattle.qu_replay.proofs.Told.{own_here, own_other, told_follows}

pub replay_push : (me : Party) (first last : Actor) (steps : List KeptStep) (step : KeptStep)
    → IsReplay me first steps last → IsStepMade me last step
    → IsReplay me first (steps ++ step ∷ []) (actor_moved me last step.input).actor
unfolding IsReplay
replay_push me first last [] step replay made =
    let here : IsStepMade me first step = subst (λ (it : Actor). IsStepMade me it step) (sym replay) made in
    (here, ap (λ (it : Actor). (actor_moved me it step.input).actor) replay)
replay_push me first last (x ∷ later) step replay made =
    (replay.0, replay_push me (actor_moved me first x.input).actor last later step replay.1 made)

pub rises_push : (low : ℕ) (steps : List KeptStep) (step : KeptStep) → RisesFrom low steps
    → first_free_ticket low steps ≤ step.ticket → IsAfterLetter step.ticket step.input
    → RisesFrom low (steps ++ step ∷ [])
unfolding RisesFrom first_free_ticket
rises_push low [] step rises later after = (later, after, tt)
rises_push low (x ∷ steps) step rises later after =
    (rises.0, rises.1, rises_push (x.ticket + 1) steps step rises.2 later after)

-- ---- after some of the steps

abbrev some_after : Party → Option Actor → List KeptStep → Option Actor
some_after me found steps = option_map (λ (actor : Actor). state_after_steps me actor steps) found

take_of : (me : Party) (xs : List (Party × KeptStep)) (found end : Option Actor) (count : ℕ)
    → IsReplayOf me found (own_steps me xs) end
    → IsReplayOf me found (own_steps me (take count xs)) (some_after me found (own_steps me (take count xs)))
unfolding own_steps IsReplayOf IsReplay state_after_steps
take_of me [] None end zero replay = (refl, refl)
take_of me [] None end (suc count) replay = (refl, refl)
take_of me [] (Some actor) end zero replay = (actor, refl, refl)
take_of me [] (Some actor) end (suc count) replay = (actor, refl, refl)
take_of me (x ∷ xs) None end zero replay = (refl, refl)
take_of me (x ∷ xs) (Some actor) end zero replay = (actor, refl, refl)
take_of me (x ∷ xs) found end (suc count) replay =
    elim (cases_Bool (is_same x.0 me)) [
      | inl same ↦
          subst (λ (it : List KeptStep). IsReplayOf me found it (some_after me found it))
          (sym (own_here x (take count xs) me same))
          (take_here me x.1 xs found end count
          (λ at. take_of me xs at end count)
          (subst (λ (it : List KeptStep). IsReplayOf me found it end) (own_here x xs me same) replay))
      | inr apart ↦
          subst (λ (it : List KeptStep). IsReplayOf me found it (some_after me found it))
          (sym (own_other x (take count xs) me apart))
          (take_of me xs found end count
          (subst (λ (it : List KeptStep). IsReplayOf me found it end) (own_other x xs me apart) replay))
    ]
  where
    take_here : (me : Party) (step : KeptStep) (xs : List (Party × KeptStep)) (found end : Option Actor) (count : ℕ)
        → ((at : Option Actor) → IsReplayOf me at (own_steps me xs) end
        → IsReplayOf me at (own_steps me (take count xs)) (some_after me at (own_steps me (take count xs))))
        → IsReplayOf me found (step ∷ own_steps me xs) end
        → IsReplayOf me found (step ∷ own_steps me (take count xs))
        (some_after me found (step ∷ own_steps me (take count xs)))
    take_here me step xs None end count rest replay = absurd cc
    take_here me step xs (Some actor) end count rest replay =
        let made : IsStepMade me actor step = replay.2.0 in
        let later = rest (Some (actor_moved me actor step.input).actor) (replay.0, replay.1, replay.2.1) in
        (later.0, later.1, (made, later.2))

told_take : (sent : List Letter) (xs : List (Party × KeptStep)) (entries : List Entry) (count : ℕ)
    → AreTold sent xs entries → AreTold sent (take count xs) (take count entries)
unfolding AreTold
told_take sent [] [] zero told = tt
told_take sent [] [] (suc count) told = tt
told_take sent [] (entry ∷ later) count told = absurd told
told_take sent (x ∷ xs) [] count told = absurd told
told_take sent (x ∷ xs) (entry ∷ later) zero told = tt
told_take sent (x ∷ xs) (entry ∷ later) (suc count) told =
    (told.0, told_take (sent ++ entry.letters) xs later count told.1)

-- after so many entries each actor is where its own steps among as many lead
pub told_until : (world : WorldState) (xs : List (Party × KeptStep)) (entries : List Entry)
    (ends : Party → Option Actor) (count : ℕ)
    → AreReplays world xs ends → AreTold (letters_of world.entries) xs entries
    → FollowsFrom world (take count entries) (λ me. some_after me (actor_at world me) (own_steps me (take count xs)))
told_until world xs entries ends count replays told =
    told_follows world (take count xs) (take count entries)
    (λ me. some_after me (actor_at world me) (own_steps me (take count xs)))
    (λ me. take_of me xs (actor_at world me) (ends me) count (replays me))
    (told_take (letters_of world.entries) xs entries count told)

pub told_until_opening : (setup : Setup) (xs : List (Party × KeptStep)) (entries : List Entry)
    (ends : Party → Option Actor) (count : ℕ) (me : Party) → AreReplaysOf setup xs ends → AreTold [] xs entries
    → actor_at (run setup (events_of (take count entries))) me
    ≡ some_after me (opening_actor setup me) (own_steps me (take count xs))
unfolding letters_of
told_until_opening setup xs entries ends count me replays told =
    let opening = λ (it : Party). opening_actor_is setup it in
    (told_until (opening_world setup) xs entries ends count
    (λ it. subst (λ (at : Option Actor). IsReplayOf it at (own_steps it xs) (ends it)) (sym (opening it)) (replays it))
    told).ends me
    ∙ ap (λ (at : Option Actor). some_after me at (own_steps me (take count xs))) (opening me)
