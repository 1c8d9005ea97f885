-- Entries that tell replayed steps are a run, whatever the order of the steps.
use Rattle.std.proofs.Common.{◌≡◌, Bool, true, false, cond, List, [], ◌∷◌, ◌++◌, Option, None, Some, refl, sym, ap, subst, ◌∙◌, append_assoc, append-nil, inl, inr}
use Rattle.std.proofs.lemmas.Bool.{cases_Bool}
use Rattle.qu_base.specs.declared.party.Party.{Party}
use Rattle.qu_frames.specs.declared.frame.Letter.{Letter}
use Rattle.qu_trace.specs.Faulty.{is_same}
use Rattle.qu_trace.specs.Letters.{letters_of}
use Rattle.qu_trace.specs.declared.trace.Entry.{Entry}
use Rattle.qu_trace.specs.declared.trace.Setup.{Setup}
use Rattle.qu_trace.proofs.LetterLaws.{letters-push}
use Rattle.qu_trace.proofs.Parties.{same_party, same_self}
use Rattle.qu_world.specs.State.{WorldState, opening_world}
use Rattle.qu_world.specs.Step.{world_step}
use Rattle.qu_world.specs.Run.{run_from, MayHappen, IsSetup, IsRun}
use Rattle.qu_replay.specs.Steps.{Actor, actor_moved}
use Rattle.qu_replay.specs.declared.kept_step.KeptStep.{KeptStep}
use Rattle.qu_replay.specs.Replays.{IsStepMade, IsReplay, IsReplayOf, AreReplays, AreReplaysOf, own_steps, actor_at}
use Rattle.qu_replay.specs.Told.{AreTold, FollowsFrom}
use Rattle.qu_replay.proofs.Actors.{Tells, told_step}
use Rattle.qu_replay.proofs.Openings.{opening_actor_is}

-- ---- the first step

record First (world : WorldState) (me : Party) (step : KeptStep) : Type 0 where
  actor : Actor
  at : actor_at world me ≡ Some actor
  made : IsStepMade me actor step

first_of : (world : WorldState) (me : Party) (found : Option Actor) (step : KeptStep) (rest : List KeptStep)
    (end : Option Actor) → actor_at world me ≡ found → IsReplayOf me found (step ∷ rest) end → First world me step
unfolding IsReplayOf IsReplay
first_of world me None step rest end at replay = absurd cc
first_of world me (Some actor) step rest end at replay = record { actor = actor; at = at; made = replay.2.0 }

rest_of : (me : Party) (actor : Actor) (step : KeptStep) (rest : List KeptStep) (end : Option Actor)
    → IsReplayOf me (Some actor) (step ∷ rest) end
    → IsReplayOf me (Some (actor_moved me actor step.input).actor) rest end
unfolding IsReplayOf IsReplay
rest_of me actor step rest end replay = (replay.0, replay.1, replay.2.1)

done : (me : Party) (found end : Option Actor) → IsReplayOf me found [] end → found ≡ end
unfolding IsReplayOf IsReplay
done me None end replay = sym replay.1
done me (Some actor) end replay = ap (λ (it : Actor). Some it) replay.2 ∙ sym replay.1

pub own_here : (x : Party × KeptStep) (later : List (Party × KeptStep)) (me : Party) → is_same x.0 me ≡ true
    → own_steps me (x ∷ later) ≡ x.1 ∷ own_steps me later
unfolding own_steps
own_here x later me same = ap (λ (it : Bool). cond it (x.1 ∷ own_steps me later) (own_steps me later)) same

pub own_other : (x : Party × KeptStep) (later : List (Party × KeptStep)) (me : Party) → is_same x.0 me ≡ false
    → own_steps me (x ∷ later) ≡ own_steps me later
unfolding own_steps
own_other x later me apart = ap (λ (it : Bool). cond it (x.1 ∷ own_steps me later) (own_steps me later)) apart

first_step : (world : WorldState) (x : Party × KeptStep) (xs : List (Party × KeptStep)) (ends : Party → Option Actor)
    → AreReplays world (x ∷ xs) ends → First world x.0 x.1
first_step world x xs ends replays =
    first_of world x.0 (actor_at world x.0) x.1 (own_steps x.0 xs) (ends x.0) refl
    (subst (λ (it : List KeptStep). IsReplayOf x.0 (actor_at world x.0) it (ends x.0))
    (own_here x xs x.0 (same_self x.0))
    (replays x.0))

-- the steps that are left are replays in the world after the first
rest_replays : (world : WorldState) (x : Party × KeptStep) (xs : List (Party × KeptStep)) (ends : Party → Option Actor)
    (entry : Entry) (actor : Actor) → AreReplays world (x ∷ xs) ends → actor_at world x.0 ≡ Some actor
    → Tells world x.0 (actor_moved x.0 actor x.1.input).actor entry
    → AreReplays (world_step world entry.event) xs ends
rest_replays world x xs ends entry actor replays at tells me =
    elim (cases_Bool (is_same x.0 me)) [
      | inl same ↦
          let is : x.0 ≡ me = same_party x.0 me same in
          let after : actor_at (world_step world entry.event) me ≡ Some (actor_moved x.0 actor x.1.input).actor =
          tells.after me
          ∙ ap (λ (it : Bool). cond it (Some (actor_moved x.0 actor x.1.input).actor) (actor_at world me)) same in
          let before : actor_at world me ≡ Some actor = ap (actor_at world) (sym is) ∙ at in
          let mine : IsReplayOf me (Some actor) (x.1 ∷ own_steps me xs) (ends me) =
          subst (λ (it : Option Actor). IsReplayOf me it (x.1 ∷ own_steps me xs) (ends me)) before
          (subst (λ (it : List KeptStep). IsReplayOf me (actor_at world me) it (ends me)) (own_here x xs me same)
          (replays me)) in
          let rest : IsReplayOf me (Some (actor_moved x.0 actor x.1.input).actor) (own_steps me xs) (ends me) =
          subst (λ (it : Party). IsReplayOf me (Some (actor_moved it actor x.1.input).actor)
          (own_steps me xs) (ends me)) (sym is)
          (rest_of me actor x.1 (own_steps me xs) (ends me) mine) in
          subst (λ (it : Option Actor). IsReplayOf me it (own_steps me xs) (ends me)) (sym after) rest
      | inr apart ↦
          let after : actor_at (world_step world entry.event) me ≡ actor_at world me =
          tells.after me
          ∙ ap (λ (it : Bool). cond it (Some (actor_moved x.0 actor x.1.input).actor) (actor_at world me)) apart in
          subst (λ (it : Option Actor). IsReplayOf me it (own_steps me xs) (ends me)) (sym after)
          (subst (λ (it : List KeptStep). IsReplayOf me (actor_at world me) it (ends me)) (own_other x xs me apart)
          (replays me))
    ]

-- ---- the run

pub told_follows : (world : WorldState) (xs : List (Party × KeptStep)) (entries : List Entry)
    (ends : Party → Option Actor)
    → AreReplays world xs ends → AreTold (letters_of world.entries) xs entries → FollowsFrom world entries ends
unfolding AreTold own_steps run_from MayHappen
told_follows world [] [] ends replays told = record {
  entries = sym (append-nil world.entries);
  may = tt;
  ends = λ me. done me (actor_at world me) (ends me) (replays me);
}
told_follows world [] (entry ∷ later) ends replays told = absurd told
told_follows world (x ∷ xs) [] ends replays told = absurd told
told_follows world (x ∷ xs) (entry ∷ later) ends replays told =
    let first = first_step world x xs ends replays in
    let tells = told_step world x.0 first.actor x.1 entry first.at first.made told.0 in
    let sent : letters_of world.entries ++ entry.letters ≡ letters_of (world_step world entry.event).entries =
    sym (letters-push world.entries entry) ∙ ap letters_of (sym tells.entries) in
    let follows = told_follows (world_step world entry.event) xs later ends
    (rest_replays world x xs ends entry first.actor replays first.at tells)
    (subst (λ (it : List Letter). AreTold it xs later) sent told.1) in
    record {
      entries =
          follows.entries ∙ ap (λ (it : List Entry). it ++ later) tells.entries
          ∙ append_assoc world.entries (entry ∷ []) later;
      may = (tells.may, follows.may);
      ends = follows.ends;
    }

-- ---- from the opening on

pub told_from_opening : (setup : Setup) (xs : List (Party × KeptStep)) (entries : List Entry)
    (ends : Party → Option Actor) → AreReplaysOf setup xs ends → AreTold [] xs entries
    → FollowsFrom (opening_world setup) entries ends
unfolding letters_of
told_from_opening setup xs entries ends replays told =
    told_follows (opening_world setup) xs entries ends
    (λ me. subst (λ (it : Option Actor). IsReplayOf me it (own_steps me xs) (ends me)) (sym (opening_actor_is setup me))
    (replays me))
    told

pub told_is_run : (setup : Setup) (xs : List (Party × KeptStep)) (entries : List Entry)
    (ends : Party → Option Actor) → IsSetup setup → AreReplaysOf setup xs ends → AreTold [] xs entries
    → IsRun (record { setup = setup; entries = entries })
told_is_run setup xs entries ends limits replays told =
    let follows = told_from_opening setup xs entries ends replays told in
    record { setup = limits; entries = follows.entries; happened = follows.may }
