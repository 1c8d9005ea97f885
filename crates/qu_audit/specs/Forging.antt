-- The tests by which an audit finds what is forged: bytes with the HMAC of a party that did not send them, and
-- histories with the HMAC of a replica that did not show them.
use Rattle.std.specs.Prelude.{ℕ, Bool, true, false, not, ◌==◌, ◌&&◌, ◌||◌, nat_eq, List, map, slice_get, Option, None, Some}
use Rattle.std.specs.Cmp.Lexicographic.{pointwise}
use Rattle.std.specs.List.{list_all, list_any}
use Rattle.qu_base.specs.declared.party.Party.{Party}
use Rattle.qu_base.specs.declared.party.Party.TheVariants as party
use Rattle.qu_base.specs.declared.party.ReplicaId.{ReplicaId}
use Rattle.qu_stamp.specs.Candidate.{same}
use Rattle.qu_history.specs.declared.sealed.Sealed.{Sealed}
use Rattle.qu_history.specs.declared.sets.SetOf.{SetOf}
use Rattle.qu_history.specs.Culling.{is_right}
use Rattle.qu_history.specs.History.{ObjectHistory}
use Rattle.qu_frames.specs.declared.frame.Frame.{Frame}
use Rattle.qu_frames.specs.declared.frame.Frame.TheVariants as frame
use Rattle.qu_frames.specs.declared.frame.Letter.{Letter}
use Rattle.qu_frames.specs.Signing.{sender, brought}
use Rattle.qu_trace.specs.declared.event.Event.{Event}
use Rattle.qu_trace.specs.declared.trace.Entry.{Entry}
use Rattle.qu_trace.specs.declared.trace.Setup.{Setup}
use Rattle.qu_trace.specs.Faulty.{is_same, is_faulty}
use Rattle.qu_trace.specs.Letters.{letters_of}
use Rattle.qu_world.specs.State.{ring_of}
use Rattle.qu_claims.specs.Carried.{handed_by}
use Rattle.qu_claims.specs.Handled.{is_of_setup, is_handler, shown_by}

-- ---- letters

-- the first party sent these bytes to the second in this letter
abbrev pub is_letter : Party → Party → List ℕ → Letter → Bool
is_letter from to text letter =
    is_same letter.from from && (is_same letter.to to && pointwise nat_eq letter.text text)

abbrev pub is_sent_at : Party → Party → List ℕ → Entry → Bool
is_sent_at from to text entry = list_any (is_letter from to text) entry.letters

-- in one of the letters of these entries
abbrev pub was_sent : List Entry → Party → Party → List ℕ → Bool
was_sent entries from to text = list_any (is_sent_at from to text) entries

-- the frame that these bytes brought is of a correct party that did not send them
abbrev pub is_unsent : Setup → List Entry → Party → List ℕ → Frame → Bool
is_unsent setup entries to text frame =
    not (is_faulty setup (sender frame)) && not (was_sent entries (sender frame) to text)

-- ---- histories

-- the histories that a letter shows, and the party that sent it
pub record ShownLetter : Type 0 where
  pub from : Party
  pub histories : List Sealed

abbrev pub letter_shown : Letter → ShownLetter
letter_shown letter = record { from = letter.from; histories = shown_by letter }

-- what the letters of these entries show
unfoldable pub shown_in_all : List Entry → List ShownLetter
shown_in_all entries = map letter_shown (letters_of entries)

abbrev pub same_history : ObjectHistory → ObjectHistory → Bool
same_history one other =
    (one.object).0 == (other.object).0
    && ((one.replica).0 == (other.replica).0 && pointwise same one.candidates other.candidates)

abbrev pub same_mac : Option (List ℕ) → Option (List ℕ) → Bool
same_mac None None = true
same_mac None (Some other) = false
same_mac (Some one) None = false
same_mac (Some one) (Some other) = pointwise nat_eq one other

-- the same history, with the same HMAC for this reader
abbrev pub is_like : ReplicaId → Sealed → Sealed → Bool
is_like me sealed other =
    same_mac (slice_get other.macs me.0) (slice_get sealed.macs me.0) && same_history other.history sealed.history

-- the history's replica showed it
abbrev pub is_showing : ReplicaId → Sealed → ShownLetter → Bool
is_showing me sealed shown =
    is_same shown.from (party.Replica (sealed.history).replica) && list_any (is_like me sealed) shown.histories

abbrev pub was_shown : List ShownLetter → ReplicaId → Sealed → Bool
was_shown shown me sealed = list_any (is_showing me sealed) shown

-- the replica does not cull the entry, which is of a correct replica that did not show it
abbrev pub is_unshown : Setup → List ShownLetter → ReplicaId → Sealed → Bool
is_unshown setup shown me sealed =
    not (is_faulty setup (party.Replica (sealed.history).replica))
    && (not (was_shown shown me sealed) && is_right (ring_of setup) me sealed)

-- one of the entries of this set
abbrev pub has_unshown : Setup → List ShownLetter → ReplicaId → SetOf → Bool
has_unshown setup shown me set = list_any (is_unshown setup shown me) set.entries

-- one in the sets of a request that the replica handles
abbrev pub asks_unshown : Setup → List ShownLetter → ReplicaId → Frame → Bool
asks_unshown setup shown me (frame.Request client number round sets body mac) =
    list_all (is_of_setup setup) sets && list_any (has_unshown setup shown me) sets
asks_unshown setup shown me _ = false

abbrev pub shows_unshown : Setup → List ShownLetter → Party → Frame → Bool
shows_unshown setup shown (party.Replica me) sent = is_handler setup me && asks_unshown setup shown me sent
shows_unshown setup shown (party.Client me) sent = false

-- ---- events

-- the frame that these bytes brought to the party is forged, or a history in it; before it were these entries
abbrev pub is_forged_frame : Setup → List Entry → List ShownLetter → Party → List ℕ → Option Frame → Bool
is_forged_frame setup entries shown to text None = false
is_forged_frame setup entries shown to text (Some sent) =
    is_unsent setup entries to text sent || shows_unshown setup shown to sent

abbrev pub is_forged_text : Setup → List Entry → List ShownLetter → Party → List ℕ → Bool
is_forged_text setup entries shown to text =
    is_forged_frame setup entries shown to text (brought (ring_of setup) to text)

abbrev pub is_forged_given : Setup → List Entry → List ShownLetter → Option (Party × List ℕ) → Bool
is_forged_given setup entries shown None = false
is_forged_given setup entries shown (Some (to, text)) = is_forged_text setup entries shown to text

-- the event hands something forged to a correct party
abbrev pub is_forged : Setup → List Entry → List ShownLetter → Event → Bool
is_forged setup entries shown event = is_forged_given setup entries shown (handed_by setup entries event)
