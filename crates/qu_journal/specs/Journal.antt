-- The steps of the journal beside those that actors kept.
use Rattle.std.specs.Prelude.{ℕ, ◌<◌, ◌≡◌, ◌≢◌, ◌==◌, List, map, filter, take, slice_get, if◌then◌else◌, nat_lt, Option, None, Some, option_map}
use Rattle.std.specs.List.{find}
use Rattle.qu_base.specs.declared.party.Party.{Party}
use Rattle.qu_frames.specs.declared.input.Input.{Input}
use Rattle.qu_frames.specs.declared.input.Input.TheVariants.{Frame, Tick, Invoke}
use Rattle.qu_replay.specs.declared.kept_step.KeptStep.{KeptStep}
use Rattle.qu_replay.specs.Merged.{steps_of_ticket, is_step_named}
use Rattle.qu_post.specs.declared.filed.Filed.{Filed}

-- a filed step with its actor, as the actor keeps it
abbrev pub as_kept : Filed → Party × KeptStep
as_kept filed = (
  filed.actor,
  record {
    ticket = filed.ticket;
    input = filed.input;
    letters = filed.letters;
    ended = filed.ended;
  },
)

-- an actor's step, as it is filed
abbrev pub as_filed : Party × KeptStep → Filed
as_filed step = record {
  ticket = step.1.ticket;
  actor = step.0;
  input = step.1.input;
  letters = step.1.letters;
  ended = step.1.ended;
}

-- the filed steps of a ticket, in the order of the journal
abbrev pub filed_of_ticket : ℕ → List Filed → List Filed
filed_of_ticket ticket journal = filter (λ (filed : Filed). filed.ticket == ticket) journal

-- the steps of a ticket that actors kept are those that were filed
abbrev pub AreFiledAt : ℕ → List (Party × KeptStep) → List Filed → Type 0
AreFiledAt ticket steps journal = steps_of_ticket ticket steps ≡ map as_kept (filed_of_ticket ticket journal)

-- the steps that actors kept are those that were filed
abbrev pub AreFiled : List (Party × KeptStep) → List Filed → Type 0
AreFiled steps journal = (ticket : ℕ) → AreFiledAt ticket steps journal

-- ---- where they differ

-- the lowest ticket whose kept steps are not the filed ones, and what stands in either at the first place at which they
-- differ: the kept step, the filed step
pub record IsUnfiled (steps : List (Party × KeptStep)) (journal : List Filed) (kept : Option KeptStep)
    (filed : Option Filed) : Type 0 where
  pub ticket : ℕ
  pub place : ℕ
  pub below : (lower : ℕ) → lower < ticket → AreFiledAt lower steps journal
  pub before : take place (steps_of_ticket ticket steps) ≡ take place (map as_kept (filed_of_ticket ticket journal))
  pub unlike : slice_get (steps_of_ticket ticket steps) place
      ≢ option_map as_kept (slice_get (filed_of_ticket ticket journal) place)
  pub kept_is : kept ≡ option_map (λ (step : Party × KeptStep). step.1) (slice_get (steps_of_ticket ticket steps) place)
  pub filed_is : filed ≡ slice_get (filed_of_ticket ticket journal) place

-- two lists of steps differ first at a place
pub record DifferAt (one other : List (Party × KeptStep)) (at : ℕ) : Type 0 where
  pub before : take at one ≡ take at other
  pub unlike : slice_get one at ≢ slice_get other at

-- of two steps with different tickets the one with the lower ticket alone
abbrev pub lower_ticket : Party × KeptStep → Party × KeptStep → Option KeptStep × Option Filed
lower_ticket kept filed =
    if nat_lt kept.1.ticket filed.1.ticket then (Some kept.1, None)
    else if nat_lt filed.1.ticket kept.1.ticket then (None, Some (as_filed filed))
    else (Some kept.1, Some (as_filed filed))

-- what is told of a place of the kept and of the filed steps, where these are in the order of tickets
abbrev pub pair_of : Option (Party × KeptStep) → Option (Party × KeptStep) → Option KeptStep × Option Filed
pair_of None None = (None, None)
pair_of None (Some filed) = (None, Some (as_filed filed))
pair_of (Some kept) None = (Some kept.1, None)
pair_of (Some kept) (Some filed) = lower_ticket kept filed

-- kept and filed steps in the order of their tickets, which differ first at a place: what is told of it
pub record AreUnlike (merged filed : List (Party × KeptStep)) (pair : Option KeptStep × Option Filed) : Type 0 where
  pub at : ℕ
  pub differ : DifferAt merged filed at
  pub pair_is : pair ≡ pair_of (slice_get merged at) (slice_get filed at)

-- ---- the sender of a letter

-- the filed step that an input names as the sender of its letter
abbrev pub sender_of : Input → List Filed → Option Filed
sender_of (Frame name text) journal = find (λ (filed : Filed). is_step_named name (as_kept filed)) journal
sender_of Tick journal = None
sender_of (Invoke op) journal = None

-- a kept step, if there is one, and the filed one that it names as the sender of its letter
abbrev pub IsPairOf : Option (Party × KeptStep) → List Filed → Option KeptStep × Option Filed → Type 0
IsPairOf None journal made = made ≡ (None, None)
IsPairOf (Some step) journal made = (made.0 ≡ Some step.1) × (made.1 ≡ sender_of step.1.input journal)
