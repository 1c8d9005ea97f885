-- What is known of the replicas of a run, by what their replies show of their histories.
use Rattle.std.specs.Prelude.{◌≡◌, ℕ, zero, suc, ◌+◌, ◌≤◌, Bool, true, ◌||◌, List, [], ◌∷◌, ◌++◌, length, map, drop, slice_get, slice_set, slice_index_or, Option, None, Some}
use Rattle.std.specs.List.{AllZip, AllByRecursion, list_any, flat_map}
use Rattle.qu_base.specs.declared.party.ObjectId.{ObjectId}
use Rattle.qu_base.specs.declared.party.Party.{Party}
use Rattle.qu_base.specs.declared.party.Party.TheVariants as party
use Rattle.qu_base.specs.declared.party.ReplicaId.{ReplicaId}
use Rattle.qu_base.specs.Format.{AreBytes}
use Rattle.qu_stamp.specs.declared.candidate.Candidate.{Candidate}
use Rattle.qu_stamp.specs.Candidate.{opening}
use Rattle.qu_history.specs.declared.sealed.Sealed.{Sealed}
use Rattle.qu_history.specs.History.{ObjectHistory, holds}
use Rattle.qu_objects.specs.declared.kind.KindName.{KindName}
use Rattle.qu_frames.specs.declared.frame.Letter.{Letter}
use Rattle.qu_frames.specs.Decoding.{decoded}
use Rattle.qu_rows.specs.State.{ReplicaState, own_candidates}
use Rattle.qu_trace.specs.declared.event.Event.{Event}
use Rattle.qu_trace.specs.declared.event.Event.TheVariants.{Invoke, Deliver, Tick, Inject}
use Rattle.qu_trace.specs.declared.trace.Entry.{Entry}
use Rattle.qu_claims.specs.Accepted.{accepts}
use Rattle.qu_claims.specs.Handled.{shown_in}
use Rattle.qu_known.specs.declared.tracked.Tracked.{Tracked}
use Rattle.qu_known.specs.Tracked.{undecided, is_tracked}

-- the candidates of the objects 0, 1, 2, .. at one replica
abbrev pub ShownRow : Type 0
ShownRow = List (List Candidate)

-- what is known of the replicas 0, 1, 2, .., and what was new
abbrev pub Seen : Type 0
Seen = List ShownRow × List Tracked

-- what is known of an object
abbrev pub known_on : ObjectId → ShownRow → List Candidate
known_on object row = slice_index_or row object.0 []

-- ---- what a history tells

-- what is shown beyond what was known
abbrev pub beyond : List Candidate → List Candidate → List Candidate
beyond known shown = drop (length known) shown

-- the objects of a row with a history of one of them, and what was new
abbrev pub with_known : ObjectHistory → ShownRow × List Tracked → Option (List Candidate) → ShownRow × List Tracked
with_known history seen None = seen
with_known history seen (Some known) = (
  slice_set seen.0 (history.object).0 (known ++ beyond known history.candidates),
  seen.1 ++ map (undecided history.object) (beyond known history.candidates),
)

abbrev pub see_in : ObjectHistory → ShownRow × List Tracked → ShownRow × List Tracked
see_in history seen = with_known history seen (slice_get seen.0 (history.object).0)

-- the same of all replicas, with a history of one of them
abbrev pub put_row : List ShownRow → ReplicaId → ShownRow × List Tracked → Seen
put_row rows me made = (slice_set rows me.0 made.0, made.1)

abbrev pub with_shown_row : ReplicaId → ObjectHistory → Seen → Option ShownRow → Seen
with_shown_row me history seen None = seen
with_shown_row me history seen (Some row) = put_row seen.0 me (see_in history (row, seen.1))

abbrev pub see_history : ReplicaId → ObjectHistory → Seen → Seen
see_history me history seen = with_shown_row me history seen (slice_get seen.0 me.0)

-- ---- what letters tell

unfoldable pub see_shown : ReplicaId → List Sealed → Seen → Seen
see_shown me [] seen = seen
see_shown me (sealed ∷ later) seen = see_shown me later (see_history me sealed.history seen)

-- replies of a replica alone tell something
abbrev pub see_from : Party → List ℕ → Seen → Seen
see_from (party.Replica me) text seen = see_shown me (shown_in (decoded text)) seen
see_from (party.Client me) text seen = seen

unfoldable pub see_letters : List Letter → Seen → Seen
see_letters [] seen = seen
see_letters (letter ∷ later) seen = see_letters later (see_from letter.from letter.text seen)

-- ---- the beginning

-- the opening candidate of each object
abbrev pub opening_row : List KindName → ShownRow
opening_row kinds = map (λ kind. opening ∷ []) kinds

-- of so many replicas from this number on, each with objects of its kinds
unfoldable pub opening_rows : ℕ → ℕ → (ℕ → List KindName) → List ShownRow
opening_rows number zero kinds = []
opening_rows number (suc count) kinds = opening_row (kinds number) ∷ opening_rows (number + 1) count kinds

-- all that is known of so many objects from this number on
unfoldable pub row_tracked : ShownRow → ℕ → ℕ → List Tracked
row_tracked row object zero = []
row_tracked row object (suc count) =
    map (undecided (record { 0 = object })) (known_on (record { 0 = object }) row) ++ row_tracked row (object + 1) count

-- of the first objects of all replicas
abbrev pub rows_tracked : ℕ → List ShownRow → List Tracked
rows_tracked objects rows = flat_map (λ row. row_tracked row 0 objects) rows

-- ---- what replicas have

-- all that the replica accepted is known
pub record IsKnown (replica : ReplicaState) (row : ShownRow) : Type 0 where
  pub number : length replica.histories ≤ length row
  pub all : (object : ObjectId) → known_on object row ≡ own_candidates replica object

abbrev pub AreKnown : List ReplicaState → List ShownRow → Type 0
AreKnown replicas rows = AllZip IsKnown replicas rows

-- what the letters of an event tell: all that the replicas accepted is known after it, where it was before; what
-- is accepted then was accepted before, or is new; and where nothing is new, nothing more is accepted
pub record Learned (old new : List ReplicaState) (seen : Seen) : Type 0 where
  pub known : AreKnown new seen.0
  pub either : (object : ObjectId) (candidate : Candidate) → list_any (accepts object candidate) new
      ≡ (list_any (accepts object candidate) old || is_tracked object candidate seen.1)
  pub still : seen.1 ≡ [] → AllZip (λ (after before : ReplicaState). (object : ObjectId) (candidate : Candidate)
      → accepts object candidate after ≡ true → accepts object candidate before ≡ true) new old

-- what is known of a replica has the candidate
abbrev pub knows : ObjectId → Candidate → ShownRow → Bool
knows object candidate row = holds candidate (known_on object row)

-- ---- bytes

abbrev pub HasBytes : Event → Type 0
HasBytes (Invoke client op) = Unit {0}
HasBytes (Deliver letter) = Unit {0}
HasBytes (Tick client) = Unit {0}
HasBytes (Inject who text) = AreBytes text

abbrev pub HaveBytes : List Letter → Type 0
HaveBytes letters = AllByRecursion (λ (letter : Letter). AreBytes letter.text) letters

-- what an entry injects and sends are bytes
pub record IsOfBytes (entry : Entry) : Type 0 where
  pub event : HasBytes entry.event
  pub letters : HaveBytes entry.letters

abbrev pub AreOfBytes : List Entry → Type 0
AreOfBytes entries = AllByRecursion IsOfBytes entries
