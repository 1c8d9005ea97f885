-- Requests that wait, each in the slot of its client, and fetches that run (Query/Update: object syncing).
use Rattle.std.specs.Prelude.{ℕ, ◌+◌, ◌==◌, Bool, true, not, ◌&&◌, if◌then◌else◌, List, [], ◌∷◌, ◌++◌, set, map, filter, find, slice_get, Option, None, Some, is_some, unwrap_or, IfSome, IsTrue, ◌≡◌}
use Rattle.std.specs.List.{list_any}
use Rattle.qu_base.specs.declared.party.ClientId.{ClientId}
use Rattle.qu_base.specs.declared.party.ObjectId.{ObjectId}
use Rattle.qu_base.specs.declared.party.ReplicaId.{ReplicaId}
use Rattle.qu_stamp.specs.declared.stamp.Stamp.{Stamp}
use Rattle.qu_versions.specs.Versions.{is_same_key}
use Rattle.qu_waiting.specs.Tally.{has_voted}
use Rattle.qu_waiting.specs.Fetching.{completes, with_answer}
use Rattle.qu_waiting.specs.Waiting.{Waiting, Running}
use Rattle.qu_waiting.specs.declared.counting.Counting.{Counting}
use Rattle.qu_waiting.specs.declared.counting.Counting.TheVariants.{NotFetched, OtherKind, Twice, Counted, Found}
use Rattle.qu_waiting.specs.declared.next.Next.{Next}
use Rattle.qu_waiting.specs.declared.next.Next.TheVariants.{Nothing, Waits, Lacks}
use Rattle.qu_waiting.specs.declared.next.Turn.{Turn}

-- ---- versions that are fetched

abbrev pub is_running : ObjectId → Stamp → Running → Bool
is_running object stamp running = is_same_key running.object running.stamp object stamp

-- the fetch of the version under this key
abbrev pub fetch_under : ObjectId → Stamp → List Running → Option Running
fetch_under object stamp fetching = find (is_running object stamp) fetching

-- the version under the key is fetched, which needs so many identical answers; a fetch that runs goes on
abbrev pub with_fetch : ℕ → ObjectId × Stamp → List Running → List Running
with_fetch need key fetching =
    if is_some (fetch_under key.0 key.1 fetching) then fetching
    else fetching ++ record {
      object = key.0;
      stamp = key.1;
      answers = record { need = need; votes = [] };
    } ∷ []

unfoldable pub with_fetches : ℕ → List (ObjectId × Stamp) → List Running → List Running
with_fetches need [] fetching = fetching
with_fetches need (key ∷ later) fetching = with_fetches need later (with_fetch need key fetching)

-- the fetch of the key with a replica's answer
abbrev pub with_vote : ObjectId → Stamp → ReplicaId → List ℕ → Running → Running
with_vote object stamp replica text running =
    if is_running object stamp running
    then record running { answers = with_answer running.answers replica text } else running

unfoldable pub with_votes : ObjectId → Stamp → ReplicaId → List ℕ → List Running → List Running
with_votes object stamp replica text fetching = map (with_vote object stamp replica text) fetching

-- without the fetch of the key
unfoldable pub without_fetch : ObjectId → Stamp → List Running → List Running
without_fetch object stamp fetching = filter (λ running. not (is_running object stamp running)) fetching

-- whether this answer of a replica counts, where the version is of the object's kind or not
abbrev pub counting_of : Option Running → Bool → ReplicaId → List ℕ → Counting
counting_of None is_of_kind replica text = NotFetched
counting_of (Some running) is_of_kind replica text =
    if not is_of_kind then OtherKind
    else if has_voted replica (running.answers).votes then Twice
    else if completes running.answers replica text then Found
    else Counted

-- ---- requests that wait

abbrev pub lacks : ObjectId → Stamp → Waiting → Bool
lacks object stamp waiting = list_any (λ key. is_same_key key.0 key.1 object stamp) waiting.missing

-- each request waits in the slot of its client, from this number on
unfoldable pub are_slots : ℕ → List (Option Waiting) → Bool
are_slots number [] = true
are_slots number (None ∷ later) = are_slots (number + 1) later
are_slots number (Some waiting ∷ later) = waiting.request.client.0 == number && are_slots (number + 1) later

-- the waiting request of the lowest client that lacks the version under this key
unfoldable pub first_waiting : ObjectId → Stamp → List (Option Waiting) → Option Waiting
first_waiting object stamp [] = None
first_waiting object stamp (None ∷ later) = first_waiting object stamp later
first_waiting object stamp (Some waiting ∷ later) =
    if lacks object stamp waiting then Some waiting else first_waiting object stamp later

-- the slot of the client holds this request, or none
abbrev pub with_slot : ClientId → Option Waiting → List (Option Waiting) → List (Option Waiting)
with_slot client waiting slots = set slots client.0 waiting

-- the request waits no longer
abbrev pub without_request : Option Waiting → List (Option Waiting) → List (Option Waiting)
without_request None slots = slots
without_request (Some waiting) slots = with_slot waiting.request.client None slots

-- ---- a slot that changes

abbrev pub next_slot : Next → Option Waiting → Option Waiting
next_slot Nothing slot = None
next_slot (Waits waiting) slot = Some waiting
next_slot (Lacks missing) None = None
next_slot (Lacks missing) (Some waiting) = Some (record waiting { missing = missing })

-- the slot that changes holds what comes next
abbrev pub with_turn : Option Turn → List (Option Waiting) → List (Option Waiting)
with_turn None slots = slots
with_turn (Some turn) slots =
    with_slot turn.client (next_slot turn.next (unwrap_or (slice_get slots (turn.client).0) None)) slots

-- each request waits in the slot of its client
abbrev pub AreSlots : List (Option Waiting) → Type 0
AreSlots slots = IsTrue (are_slots 0 slots)

-- a slot that changes holds a request of its client, or none
abbrev pub TurnFits : List (Option Waiting) → Option Turn → Type 0
TurnFits slots None = Unit {0}
TurnFits slots (Some turn) =
    IfSome (next_slot turn.next (unwrap_or (slice_get slots (turn.client).0) None))
    (λ (waiting : Waiting). ((waiting.request).client).0 ≡ (turn.client).0)
