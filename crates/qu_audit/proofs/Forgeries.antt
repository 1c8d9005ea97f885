-- The tests for what is forged say what the definition says, of bytes that are handed to a party of a world.
use Rattle.std.proofs.Common.{◌≡◌, ℕ, zero, suc, Bool, true, false, cond, List, [], Option, None, Some, Ok, refl, sym, ap, subst, ◌∙◌, inl, inr, arith}
use Rattle.std.specs.Prelude.{not, ◌&&◌, ◌||◌, nat_eq, slice_get, Contains}
use Rattle.std.specs.Cmp.Lexicographic.{pointwise, bytes_decides}
use Rattle.std.specs.List.{list_all, list_any, flat_map}
use Rattle.std.proofs.lemmas.Bool.{false≢true, cases_Bool, or_cases, and_parts, and_from, not-true, not_from_false, and_right}
use Rattle.std.proofs.lemmas.Option.{none-some, same_Some}
use Rattle.qu_base.specs.declared.party.Party.{Party}
use Rattle.qu_base.specs.declared.party.Party.TheVariants as party
use Rattle.qu_base.specs.declared.party.ReplicaId.{ReplicaId}
use Rattle.qu_base.proofs.Items.{contains_at, any_contained}
use Rattle.qu_history.specs.declared.sealed.Sealed.{Sealed}
use Rattle.qu_history.specs.declared.sets.SetOf.{SetOf}
use Rattle.qu_history.specs.Culling.{is_right}
use Rattle.qu_frames.specs.declared.frame.Frame.{Frame}
use Rattle.qu_frames.specs.declared.frame.Frame.TheVariants as frame
use Rattle.qu_frames.specs.declared.frame.Letter.{Letter}
use Rattle.qu_frames.specs.Signing.{sender, brought, is_signed, if_signed}
use Rattle.qu_trace.specs.declared.trace.Entry.{Entry}
use Rattle.qu_trace.specs.declared.trace.Setup.{Setup}
use Rattle.qu_trace.specs.Faulty.{is_same, is_faulty}
use Rattle.qu_trace.specs.Letters.{letters_of}
use Rattle.qu_trace.proofs.Parties.{decides_party}
use Rattle.qu_world.specs.State.{WorldState, ring_of, numbered}
use Rattle.qu_claims.specs.Handled.{is_of_setup, is_handler, shown_by, entries_in, entries_brought, entries_to}
use Rattle.qu_claims.specs.Premises.{HasSent, WasShown, AreUnforged}
use Rattle.qu_audit.specs.Forging.{ShownLetter, is_letter, was_sent, is_unsent, letter_shown, shown_in_all, is_like, is_showing, was_shown, is_unshown, has_unshown, asks_unshown, shows_unshown, is_forged_frame, is_forged_text}
use Rattle.qu_audit.proofs.Lists.{Passing, passing, any_at, any_flat, any_mapped}
use Rattle.qu_audit.proofs.Equalities.{decides_mac, decides_history}

-- ---- letters

in_letters : (entries : List Entry) (from to : Party) (text : List ℕ) → was_sent entries from to text ≡ list_any
    (is_letter from to text) (letters_of entries)
unfolding letters_of
in_letters entries from to text =
    sym (any_flat (is_letter from to text) (λ (entry : Entry). entry.letters) entries)

sent_found : (world : WorldState) (from to : Party) (text : List ℕ) → was_sent world.entries from to text ≡ true
    → HasSent world from to text
sent_found world from to text sent =
    let it : Passing (is_letter from to text) (letters_of world.entries) =
    passing _ _ (sym (in_letters world.entries from to text) ∙ sent) in
    let parts : (is_same (it.item).from from ≡ true)
    × ((is_same (it.item).to to && pointwise nat_eq (it.item).text text) ≡ true) = and_parts _ _ it.passes in
    let more : (is_same (it.item).to to ≡ true) × (pointwise nat_eq (it.item).text text ≡ true) =
    and_parts _ _ parts.1 in
    record {
      number = suc it.place;
      letter = it.item;
      is_letter = it.at;
      from_is = (decides_party (it.item).from from).0 parts.0;
      to_is = (decides_party (it.item).to to).0 more.0;
      text_is = (bytes_decides (it.item).text text).0 more.1;
    }

-- a letter that has a number passes a test that it passes
any_numbered : (test : Letter → Bool) (letters : List Letter) (number : ℕ) (letter : Letter)
    → numbered letters number ≡ Some letter → test letter ≡ true → list_any test letters ≡ true
any_numbered test letters zero letter is passes = absurd (none-some letter is)
any_numbered test letters (suc place) letter is passes = any_at test letters place letter is passes

-- a letter that has a number was sent
pub letter_sent : (entries : List Entry) (number : ℕ) (letter : Letter)
    → numbered (letters_of entries) number ≡ Some letter
    → was_sent entries letter.from letter.to letter.text ≡ true
letter_sent entries number letter is =
    in_letters entries letter.from letter.to letter.text
    ∙ any_numbered (is_letter letter.from letter.to letter.text) (letters_of entries) number letter is
    (and_from _ _ ((decides_party letter.from letter.from).1 refl)
    (and_from _ _ ((decides_party letter.to letter.to).1 refl) ((bytes_decides letter.text letter.text).1 refl)))

sent_is : (world : WorldState) (from to : Party) (text : List ℕ) → HasSent world from to text
    → was_sent world.entries from to text ≡ true
sent_is world from to text it =
    in_letters world.entries from to text ∙
    any_numbered (is_letter from to text) (letters_of world.entries) it.number it.letter it.is_letter
    (and_from _ _ ((decides_party (it.letter).from from).1 it.from_is)
    (and_from _ _ ((decides_party (it.letter).to to).1 it.to_is)
    ((bytes_decides (it.letter).text text).1 it.text_is)))

-- ---- histories

in_shown : (entries : List Entry) (me : ReplicaId) (sealed : Sealed) → was_shown (shown_in_all entries) me
    sealed ≡ list_any (λ letter. is_showing me sealed (letter_shown letter)) (letters_of entries)
unfolding shown_in_all
in_shown entries me sealed = any_mapped (is_showing me sealed) letter_shown (letters_of entries)

shown_found : (world : WorldState) (me : ReplicaId) (sealed : Sealed)
    → was_shown (shown_in_all world.entries) me sealed ≡ true → WasShown world me sealed
shown_found world me sealed shown =
    let by : Passing (λ letter. is_showing me sealed (letter_shown letter)) (letters_of world.entries) =
    passing _ _ (sym (in_shown world.entries me sealed) ∙ shown) in
    let parts = and_parts _ _ by.passes in
    let it : Passing (is_like me sealed) (shown_by by.item) = passing _ _ parts.1 in
    let more = and_parts _ _ it.passes in
    record {
      number = suc by.place;
      letter = by.item;
      is_letter = by.at;
      from_is = (decides_party (by.item).from (party.Replica (sealed.history).replica)).0 parts.0;
      shown = it.item;
      by_letter = contains_at (shown_by by.item) it.place it.item it.at;
      history_is = (decides_history (it.item).history sealed.history).0 more.1;
      mac_is = (decides_mac (slice_get (it.item).macs me.0) (slice_get sealed.macs me.0)).0 more.0;
    }

shown_is : (world : WorldState) (me : ReplicaId) (sealed : Sealed) → WasShown world me sealed → was_shown
    (shown_in_all world.entries) me sealed ≡ true
shown_is world me sealed it =
    in_shown world.entries me sealed ∙
    any_numbered (λ letter. is_showing me sealed (letter_shown letter)) (letters_of world.entries) it.number it.letter
    it.is_letter
    (and_from _ _ ((decides_party (it.letter).from (party.Replica (sealed.history).replica)).1 it.from_is)
    (any_contained (is_like me sealed) (shown_by it.letter) it.shown it.by_letter
    (and_from _ _ ((decides_mac (slice_get (it.shown).macs me.0) (slice_get sealed.macs me.0)).1 it.mac_is)
    ((decides_history (it.shown).history sealed.history).1 it.history_is))))

-- ---- a frame whose entries are looked at

in_sets : (setup : Setup) (shown : List ShownLetter) (me : ReplicaId) (sets : List SetOf) → list_any
    (has_unshown setup shown me) sets ≡ list_any (is_unshown setup shown me) (flat_map (λ (set : SetOf). set.entries)
    sets)
in_sets setup shown me sets = sym (any_flat (is_unshown setup shown me) (λ (set : SetOf). set.entries) sets)

asks_in : (setup : Setup) (shown : List ShownLetter) (me : ReplicaId) (sets : List SetOf) (known : Bool)
    → (known && list_any (has_unshown setup shown me) sets) ≡ list_any (is_unshown setup shown me)
    (cond known (flat_map (λ (set : SetOf). set.entries) sets) [])
asks_in setup shown me sets true = in_sets setup shown me sets
asks_in setup shown me sets false = refl

asks_entries : (setup : Setup) (shown : List ShownLetter) (me : ReplicaId) (sent : Frame) → asks_unshown setup shown me
    sent ≡ list_any (is_unshown setup shown me) (entries_in setup sent)
asks_entries setup shown me (frame.Request client number round sets body mac) =
    asks_in setup shown me sets (list_all (is_of_setup setup) sets)
asks_entries setup shown me (frame.Reply replica client number round verdict left histories mac) = refl
asks_entries setup shown me (frame.Fetch replica object stamp mac) = refl
asks_entries setup shown me (frame.Fetched replica object stamp state mac) = refl

handled_in : (setup : Setup) (shown : List ShownLetter) (me : ReplicaId) (sent : Frame) (handles : Bool)
    → (handles && asks_unshown setup shown me sent) ≡ list_any (is_unshown setup shown me)
    (cond handles (entries_brought setup (Some sent)) [])
handled_in setup shown me sent true = asks_entries setup shown me sent
handled_in setup shown me sent false = refl

-- an entry of a correct replica that the reader keeps was shown, where none is unshown
shown_where_none : (setup : Setup) (shown : List ShownLetter) (me : ReplicaId) (entries : List Sealed) (sealed : Sealed)
    → list_any (is_unshown setup shown me) entries ≡ false → Contains entries sealed
    → is_right (ring_of setup) me sealed ≡ true → is_faulty setup (party.Replica (sealed.history).replica) ≡ false
    → was_shown shown me sealed ≡ true
shown_where_none setup shown me entries sealed none held right correct =
    elim (cases_Bool (was_shown shown me sealed)) [
      | inl it ↦ it
      | inr not_shown ↦ absurd (false≢true (sym none ∙ any_contained (is_unshown setup shown me) entries sealed held
          (and_from _ _ (not_from_false _ correct) (and_from _ _ (not_from_false _ not_shown) right))))
    ]

or_parts : (one other : Bool) → (one || other) ≡ false → (one ≡ false) × (other ≡ false)
or_parts true other none = absurd (false≢true (sym none))
or_parts false other none = (refl, none)

sent_where_not : (one other : Bool) → (not one && not other) ≡ false → one ≡ false → other ≡ true
sent_where_not true other none is = absurd (false≢true (sym is))
sent_where_not false true none is = refl
sent_where_not false false none is = absurd (false≢true (sym none))

-- ---- bytes

no_entry : (setup : Setup) (handles : Bool) (sealed : Sealed)
    → ¬ (Contains (cond handles (entries_brought setup None) []) sealed)
no_entry setup true sealed held = omega (arith, held.1)
no_entry setup false sealed held = omega (arith, held.1)

sent_from : (world : WorldState) (to : Party) (text : List ℕ) (found : Option Frame)
    → is_forged_frame world.setup world.entries (shown_in_all world.entries) to text found ≡ false → (sent : Frame)
    → found ≡ Some sent → is_faulty world.setup (sender sent) ≡ false → HasSent world (sender sent) to text
sent_from world to text None none sent is correct = absurd (none-some sent is)
sent_from world to text (Some it) none sent is correct =
    let same : it ≡ sent = same_Some it sent is in
    let unsent : is_unsent world.setup world.entries to text sent ≡ false =
    subst (λ (one : Frame). is_unsent world.setup world.entries to text one ≡ false) same (or_parts _ _ none).0 in
    sent_found world (sender sent) to text (sent_where_not _ _ unsent correct)

shown_from : (world : WorldState) (me : ReplicaId) (text : List ℕ) (found : Option Frame)
    → is_forged_frame world.setup world.entries (shown_in_all world.entries) (party.Replica me) text found ≡ false
    → (sealed : Sealed) → Contains (cond (is_handler world.setup me) (entries_brought world.setup found) []) sealed
    → is_right (ring_of world.setup) me sealed ≡ true
    → is_faulty world.setup (party.Replica (sealed.history).replica) ≡ false → WasShown world me sealed
shown_from world me text None none sealed held right correct =
    absurd (no_entry world.setup (is_handler world.setup me) sealed held)
shown_from world me text (Some it) none sealed held right correct =
    shown_found world me sealed
    (shown_where_none world.setup (shown_in_all world.entries) me _ sealed
    (sym (handled_in world.setup (shown_in_all world.entries) me it (is_handler world.setup me))
    ∙ (or_parts _ _ none).1) held right correct)

-- where the test finds nothing forged
shown_to : (world : WorldState) (to : Party) (text : List ℕ)
    → is_forged_text world.setup world.entries (shown_in_all world.entries) to text ≡ false
    → (me : ReplicaId) (sealed : Sealed) → to ≡ party.Replica me
    → Contains (entries_to world.setup text to) sealed → is_right (ring_of world.setup) me sealed ≡ true
    → is_faulty world.setup (party.Replica (sealed.history).replica) ≡ false → WasShown world me sealed
shown_to world (party.Replica it) text none me sealed to_is held right correct =
    let same : it ≡ me = cc in
    subst (λ (who : ReplicaId). WasShown world who sealed) same
    (shown_from world it text (brought (ring_of world.setup) (party.Replica it) text) none sealed held
    (subst (λ (who : ReplicaId). is_right (ring_of world.setup) who sealed ≡ true) (sym same) right) correct)
shown_to world (party.Client it) text none me sealed to_is held right correct = absurd (omega (arith, held.1))

pub unforged_text : (world : WorldState) (to : Party) (text : List ℕ)
    → is_forged_text world.setup world.entries (shown_in_all world.entries) to text ≡ false → AreUnforged world to text
unforged_text world to text none = record {
  sent = λ sent is correct. sent_from world to text (brought (ring_of world.setup) to text) none sent is correct;
  shown = λ me sealed to_is held right correct. shown_to world to text none me sealed to_is held right correct;
}

-- ---- where the test finds something

not_sent : (world : WorldState) (to : Party) (text : List ℕ) (sent : Frame) → AreUnforged world to text
    → brought (ring_of world.setup) to text ≡ Some sent
    → ¬ (is_unsent world.setup world.entries to text sent ≡ true)
not_sent world to text sent unforged is unsent =
    let parts : (not (is_faulty world.setup (sender sent)) ≡ true)
    × (not (was_sent world.entries (sender sent) to text) ≡ true) = and_parts _ _ unsent in
    let correct : is_faulty world.setup (sender sent) ≡ false = not-true _ parts.0 in
    false≢true (sym (not-true _ parts.1)
    ∙ sent_is world (sender sent) to text (unforged.sent sent is correct))

not_shown : (world : WorldState) (me : ReplicaId) (text : List ℕ) → AreUnforged world (party.Replica me) text
    → ¬ (list_any (is_unshown world.setup (shown_in_all world.entries) me)
    (entries_to world.setup text (party.Replica me)) ≡ true)
not_shown world me text unforged some =
    let it : Passing (is_unshown world.setup (shown_in_all world.entries) me)
    (entries_to world.setup text (party.Replica me)) = passing _ _ some in
    let parts = and_parts _ _ it.passes in
    let more = and_parts _ _ parts.1 in
    let held : Contains (entries_to world.setup text (party.Replica me)) it.item =
    contains_at _ it.place it.item it.at in
    false≢true (sym (not-true _ more.0) ∙ shown_is world me it.item
    (unforged.shown me it.item refl held more.1 (not-true _ parts.0)))

not_shown_to : (world : WorldState) (to : Party) (text : List ℕ) (sent : Frame) → AreUnforged world to text
    → brought (ring_of world.setup) to text ≡ Some sent
    → ¬ (shows_unshown world.setup (shown_in_all world.entries) to sent ≡ true)
not_shown_to world (party.Replica me) text sent unforged is some =
    not_shown world me text unforged
    (ap (λ (found : Option Frame). list_any (is_unshown world.setup (shown_in_all world.entries) me)
    (cond (is_handler world.setup me) (entries_brought world.setup found) [])) is ∙
    sym (handled_in world.setup (shown_in_all world.entries) me sent (is_handler world.setup me)) ∙ some)
not_shown_to world (party.Client me) text sent unforged is some = false≢true some

frame_unforged : (world : WorldState) (to : Party) (text : List ℕ) (found : Option Frame)
    → brought (ring_of world.setup) to text ≡ found → AreUnforged world to text
    → ¬ (is_forged_frame world.setup world.entries (shown_in_all world.entries) to text found ≡ true)
frame_unforged world to text None is unforged forged = false≢true forged
frame_unforged world to text (Some sent) is unforged forged =
    elim (or_cases _ _ forged) [
      | inl unsent ↦ not_sent world to text sent unforged is unsent
      | inr unshown ↦ not_shown_to world to text sent unforged is unshown
    ]

pub forged_text : (world : WorldState) (to : Party) (text : List ℕ)
    → is_forged_text world.setup world.entries (shown_in_all world.entries) to text ≡ true
    → ¬ (AreUnforged world to text)
forged_text world to text forged unforged =
    frame_unforged world to text (brought (ring_of world.setup) to text) refl unforged forged

-- ---- the HMAC is verified last

and_true : (signed : Bool) → (signed && true) ≡ signed
and_true true = refl
and_true false = refl

verified : (setup : Setup) (entries : List Entry) (shown : List ShownLetter) (to : Party) (text : List ℕ)
    (frame : Frame) (signed suspected : Bool)
    → (is_unsent setup entries to text frame || shows_unshown setup shown to frame) ≡ suspected
    → is_forged_frame setup entries shown to text (cond signed (Some frame) None) ≡ signed && suspected
verified setup entries shown to text frame true suspected is = is
verified setup entries shown to text frame false suspected is = refl

pub forged_if_signed : (setup : Setup) (entries : List Entry) (shown : List ShownLetter) (to : Party) (text : List ℕ)
    (frame : Frame) → (is_unsent setup entries to text frame || shows_unshown setup shown to frame) ≡ true
    → is_signed (ring_of setup) to text frame
    ≡ is_forged_frame setup entries shown to text (if_signed (ring_of setup) to text (Ok frame))
forged_if_signed setup entries shown to text frame suspected =
    let signed : Bool = is_signed (ring_of setup) to text frame in
    sym (verified setup entries shown to text frame signed true suspected ∙ and_true signed)

pub not_forged : (setup : Setup) (entries : List Entry) (shown : List ShownLetter) (to : Party) (text : List ℕ)
    (frame : Frame) → (is_unsent setup entries to text frame || shows_unshown setup shown to frame) ≡ false
    → false ≡ is_forged_frame setup entries shown to text (if_signed (ring_of setup) to text (Ok frame))
not_forged setup entries shown to text frame suspected =
    let signed : Bool = is_signed (ring_of setup) to text frame in
    sym (verified setup entries shown to text frame signed false suspected ∙ and_right signed false refl)
