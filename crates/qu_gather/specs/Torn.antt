-- Why what actors kept is no run.
use Rattle.std.specs.Prelude.{ℕ, ◌≡◌, ◌⊎◌, List, [], ◌∷◌, ◌++◌, map, if◌then◌else◌, Option, None, Some, Result, Ok, Err}
use Rattle.qu_base.specs.declared.party.ClientId.{ClientId}
use Rattle.qu_base.specs.declared.party.ReplicaId.{ReplicaId}
use Rattle.qu_base.specs.declared.party.Party.{Party}
use Rattle.qu_base.specs.declared.party.Party.TheVariants as party
use Rattle.qu_base.specs.Bounds.{replicas}
use Rattle.qu_rows.specs.State.{ReplicaState}
use Rattle.qu_client.specs.declared.state.ClientState.{ClientState}
use Rattle.qu_trace.specs.Faulty.{is_same}
use Rattle.qu_trace.specs.declared.trace.Setup.{Setup}
use Rattle.qu_replay.specs.declared.kept_step.KeptStep.{KeptStep}
use Rattle.qu_trace.specs.declared.trace.Entry.{Entry}
use Rattle.qu_replay.specs.Entries.{IsFirstUnsent, WereSentBefore}
use Rattle.qu_replay.specs.Merged.{AreByTicket, steps_of_ticket, merged_entries}
use Rattle.qu_post.specs.declared.filed.Filed.{Filed}
use Rattle.qu_gather.specs.declared.torn.LiveFail.{LiveFail}
use Rattle.qu_gather.specs.declared.torn.LiveFail.TheVariants as fail
use Rattle.qu_gather.specs.declared.torn.Torn.TheVariants as torn
use Rattle.qu_gather.specs.Correct.{correct_replicas, correct_clients}
use Rattle.qu_journal.specs.Journal.{as_filed, AreFiled, IsUnfiled, AreUnlike, sender_of}
use Rattle.qu_gather.specs.Ticks.{late_letter}

-- ---- another actor behind a lock

-- the first of these locks, with the party behind it, where these parties stand behind them and it is another one
unfoldable pub first_moved : List Party → List Party → Option (Party × Party)
first_moved [] held = None
first_moved (lock ∷ locks) [] = None
first_moved (lock ∷ locks) (here ∷ held) = if is_same here lock then first_moved locks held else Some (lock, here)

abbrev pub replica_locks : List ReplicaId → List Party
replica_locks names = map (λ (me : ReplicaId). party.Replica me) names

abbrev pub client_locks : List ClientId → List Party
client_locks names = map (λ (me : ClientId). party.Client me) names

abbrev pub replicas_behind : List (ReplicaState × List KeptStep) → List Party
replicas_behind held = map (λ (one : ReplicaState × List KeptStep). party.Replica one.0.me) held

abbrev pub clients_behind : List (ClientState × List KeptStep) → List Party
clients_behind held = map (λ (one : ClientState × List KeptStep). party.Client one.0.me) held

-- the lowest lock of a setup behind which another actor stands, with that one; replicas come before clients
abbrev pub moved_actor : Setup → List (ReplicaState × List KeptStep) → List (ClientState × List KeptStep)
    → Option (Party × Party)
moved_actor setup held others =
    first_moved
    (replica_locks (correct_replicas setup (replicas setup.bounds))
    ++ client_locks (correct_clients setup setup.clients))
    (replicas_behind held ++ clients_behind others)

-- where an actor moved just this is told, unless memory ends; where none did it is not
abbrev pub TellsMoved : {X : Type 0} → Option (Party × Party) → Result X LiveFail → Type 0
TellsMoved moved (Ok x) = moved ≡ None
TellsMoved moved (Err (fail.Torn (torn.Moved lock held))) = moved ≡ Some (lock, held)
TellsMoved moved (Err (fail.Torn (torn.Steps kept filed))) = moved ≡ None
TellsMoved moved (Err (fail.Torn (torn.Early client letter))) = moved ≡ None
TellsMoved moved (Err fail.NoMemory) = Unit {0}

-- only locks are told not to fit
abbrev pub IsOfLocks : LiveFail → Type 0
IsOfLocks (fail.Torn (torn.Moved lock held)) = Unit {0}
IsOfLocks (fail.Torn (torn.Steps kept filed)) = ⊥
IsOfLocks (fail.Torn (torn.Early client letter)) = ⊥
IsOfLocks fail.NoMemory = Unit {0}

-- ---- a step on what was not sent

-- the first of these steps that takes what was not sent to its actor before, and the filed step that its letter names
pub record TakesUnsent (merged : List (Party × KeptStep)) (journal : List Filed) (kept : Option KeptStep)
    (filed : Option Filed) : Type 0 where
  pub at : ℕ
  pub first : IsFirstUnsent merged at
  pub kept_is : kept ≡ Some first.step.1
  pub filed_is : filed ≡ sender_of first.step.1.input journal

-- the same of the steps of all actors, put into the order of their tickets, those of one ticket as they stood
pub record HasUnsent (steps : List (Party × KeptStep)) (journal : List Filed) (kept : Option KeptStep)
    (filed : Option Filed) : Type 0 where
  pub merged : List (Party × KeptStep)
  pub sorted : AreByTicket 0 merged
  pub ties : (ticket : ℕ) → steps_of_ticket ticket merged ≡ steps_of_ticket ticket steps
  pub takes : TakesUnsent merged journal kept filed

-- ---- why steps are not told

-- why no entries tell steps in the order of their tickets: the filed ones are others, or one took what was not sent;
-- memory is wanted only where neither is so
abbrev pub IsUntold : List (Party × KeptStep) → List (Party × KeptStep) → LiveFail → Type 0
IsUntold merged filed (fail.Torn (torn.Moved lock held)) = ⊥
IsUntold merged filed (fail.Torn (torn.Steps kept step)) =
    AreUnlike merged filed (kept, step) ⊎ ((merged ≡ filed) × TakesUnsent merged (map as_filed filed) kept step)
IsUntold merged filed (fail.Torn (torn.Early client letter)) = ⊥
IsUntold merged filed fail.NoMemory = (merged ≡ filed) × WereSentBefore [] merged

-- steps of all actors, put into the order of their tickets, each of which takes what was sent to its actor before
pub record WereSent (steps : List (Party × KeptStep)) : Type 0 where
  pub merged : List (Party × KeptStep)
  pub sorted : AreByTicket 0 merged
  pub ties : (ticket : ℕ) → steps_of_ticket ticket merged ≡ steps_of_ticket ticket steps
  pub sent : WereSentBefore [] merged

-- the steps that actors kept are those that were filed, and each takes what was sent to its actor before
pub record AreWhole (steps : List (Party × KeptStep)) (journal : List Filed) : Type 0 where
  pub filed : AreFiled steps journal
  pub sent : WereSent steps

-- steps are told not to fit where others were filed, and else where one took what was not sent: then always, unless
-- memory ends or another actor stands behind a lock
abbrev pub TellsSteps : {X : Type 0} → List (Party × KeptStep) → List Filed → Result X LiveFail → Type 0
TellsSteps steps journal (Ok x) = AreWhole steps journal
TellsSteps steps journal (Err (fail.Torn (torn.Moved lock held))) = Unit {0}
TellsSteps steps journal (Err (fail.Torn (torn.Steps kept filed))) =
    IsUnfiled steps journal kept filed ⊎ (AreFiled steps journal × HasUnsent steps journal kept filed)
TellsSteps steps journal (Err (fail.Torn (torn.Early client letter))) = AreWhole steps journal
TellsSteps steps journal (Err fail.NoMemory) = Unit {0}

-- ---- a tick that came too early

-- why entries that tell steps are no run on threads: a client ticked before a letter that it waited for was delivered
abbrev pub IsEarly : Setup → List Entry → LiveFail → Type 0
IsEarly setup entries (fail.Torn (torn.Moved lock held)) = ⊥
IsEarly setup entries (fail.Torn (torn.Steps kept filed)) = ⊥
IsEarly setup entries (fail.Torn (torn.Early client letter)) = late_letter setup [] entries ≡ Some (client, letter)
IsEarly setup entries fail.NoMemory = Unit {0}

-- the same of the steps of all actors, put into the order of their tickets, where each took what was sent to its actor
pub record HasEarly (setup : Setup) (steps : List (Party × KeptStep)) (client : ClientId) (letter : ℕ) : Type 0 where
  pub merged : List (Party × KeptStep)
  pub sorted : AreByTicket 0 merged
  pub ties : (ticket : ℕ) → steps_of_ticket ticket merged ≡ steps_of_ticket ticket steps
  pub sent : WereSentBefore [] merged
  pub late : late_letter setup [] (merged_entries merged) ≡ Some (client, letter)

-- a client is told to have ticked too early only where it did
abbrev pub TellsEarly : {X : Type 0} → Setup → List (Party × KeptStep) → Result X LiveFail → Type 0
TellsEarly setup steps (Ok x) = Unit {0}
TellsEarly setup steps (Err (fail.Torn (torn.Moved lock held))) = Unit {0}
TellsEarly setup steps (Err (fail.Torn (torn.Steps kept filed))) = Unit {0}
TellsEarly setup steps (Err (fail.Torn (torn.Early client letter))) = HasEarly setup steps client letter
TellsEarly setup steps (Err fail.NoMemory) = Unit {0}
