-- What an audit makes of one event of a run more, and of all of them.
use Rattle.std.proofs.Common.{◌≡◌, ℕ, suc, ◌+◌, ◌<◌, ◌≤◌, true, false, List, [], ◌∷◌, ◌++◌, length, take, get_or, Option, None, Some, refl, sym, ap, subst, ◌∙◌, inl, inr, arith, add-one}
use Rattle.std.specs.Prelude.{map, slice_get, Contains, IfSome}
use Rattle.std.specs.List.{flat_map}
use Rattle.std.proofs.lemmas.Bool.{false≢true, cases_Bool, cases_lt}
use Rattle.std.proofs.lemmas.List.{take_more, get_or_default, map-append}
use Rattle.std.proofs.lemmas.List.Concat.{flat_map-cons}
use Rattle.std.proofs.lemmas.List.Elements.{Contains-append_cases}
use Rattle.std.proofs.lemmas.Option.{slice_get_within, slice_get-get_or}
use Rattle.qu_base.specs.declared.party.Digest.{Digest}
use Rattle.qu_base.specs.declared.party.Party.{Party}
use Rattle.qu_seal.specs.Digesting.{digest_of}
use Rattle.qu_trace.specs.declared.event.Event.{Event}
use Rattle.qu_trace.specs.declared.trace.Entry.{Entry}
use Rattle.qu_trace.specs.declared.trace.Setup.{Setup}
use Rattle.qu_trace.specs.declared.trace.Trace.{Trace}
use Rattle.qu_trace.specs.Letters.{letters_of}
use Rattle.qu_world.specs.Run.{IsRun}
use Rattle.qu_world.specs.State.{WorldState}
use Rattle.qu_trace.proofs.LetterLaws.{letters-push}
use Rattle.qu_claims.specs.Carried.{handed}
use Rattle.qu_claims.specs.Digested.{Text, texts_at, digested, NoCollision}
use Rattle.qu_claims.specs.Premises.{AreUnforged, IsUnforgedAt, MeetsPremises}
use Rattle.qu_claims.specs.Times.{world_after}
use Rattle.qu_runs.proofs.Events.Recording.{entries_after}
use Rattle.qu_runs.proofs.Digests.Plain.{setup_after}
use Rattle.qu_audit.specs.declared.auditing.Past.{Past}
use Rattle.qu_audit.specs.Answer.{UnforgedAt, UnforgedBefore, texts_of_entry, texts_by, DoCollide, NoneCollideBefore, IsFirstForged, IsFirstCollision}
use Rattle.qu_audit.specs.Digesting.{same_text}
use Rattle.qu_audit.specs.Digests.{look, Notes, first_clash}
use Rattle.qu_audit.specs.Forging.{ShownLetter, letter_shown, shown_in_all, is_forged_given, is_forged}
use Rattle.qu_audit.specs.Past.{IsPast, Knows}
use Rattle.qu_audit.proofs.Collisions.{knows_more, knows_nothing, none_at, first_collision}
use Rattle.qu_audit.proofs.Equalities.{decides_text}
use Rattle.qu_audit.proofs.Forgeries.{unforged_text, forged_text}

-- ---- what an event hands over

given_unforged : (world : WorldState) (given : Option (Party × List ℕ)) → is_forged_given world.setup world.entries
    (shown_in_all world.entries) given ≡ false
    → IfSome given (λ (it : Party × List ℕ). AreUnforged world it.0 it.1)
given_unforged world None none = tt
given_unforged world (Some (to, text)) none = unforged_text world to text none

given_forged : (world : WorldState) (given : Option (Party × List ℕ)) → is_forged_given world.setup world.entries
    (shown_in_all world.entries) given ≡ true
    → ¬ (IfSome given (λ (it : Party × List ℕ). AreUnforged world it.0 it.1))
given_forged world None forged unforged = false≢true forged
given_forged world (Some (to, text)) forged unforged = forged_text world to text forged unforged

-- the test in the world before the event, and upon the entries before it
test_is : (trace : Trace) → IsRun trace → (index : ℕ) → index ≤ length trace.entries → (event : Event)
    → is_forged (world_after trace index).setup (world_after trace index).entries
    (shown_in_all (world_after trace index).entries) event ≡ is_forged trace.setup (take index trace.entries)
    (shown_in_all (take index trace.entries)) event
test_is trace is index within event =
    ap (λ (setup : Setup). is_forged setup (world_after trace index).entries
    (shown_in_all (world_after trace index).entries) event) (setup_after trace index) ∙
    ap (λ (entries : List Entry). is_forged trace.setup entries (shown_in_all entries) event)
    (entries_after trace is index within)

pub unforged_at : (trace : Trace) → IsRun trace → (index : ℕ) (entry : Entry) → index < length trace.entries
    → get_or trace.entries index entry ≡ entry → is_forged trace.setup (take index trace.entries)
    (shown_in_all (take index trace.entries)) entry.event ≡ false → UnforgedAt trace index
unforged_at trace is index entry within at none default =
    subst (λ (it : Entry). IsUnforgedAt (world_after trace index) it.event)
    (sym at ∙ get_or_default trace.entries index entry default within)
    (given_unforged (world_after trace index) (handed (world_after trace index) entry.event)
    (test_is trace is index (omega arith) entry.event ∙ none))

pub forged_at : (trace : Trace) → IsRun trace → (index : ℕ) (entry : Entry) → index < length trace.entries
    → get_or trace.entries index entry ≡ entry → is_forged trace.setup (take index trace.entries)
    (shown_in_all (take index trace.entries)) entry.event ≡ true → ¬ (UnforgedAt trace index)
forged_at trace is index entry within at forged unforged =
    given_forged (world_after trace index) (handed (world_after trace index) entry.event)
    (test_is trace is index (omega arith) entry.event ∙ forged)
    (subst (λ (it : Entry). IsUnforgedAt (world_after trace index) it.event) at (unforged entry))

pub unforged_more : (trace : Trace) (index : ℕ) → UnforgedBefore trace index → UnforgedAt trace index
    → UnforgedBefore trace (index + 1)
unforged_more trace index before now at within order =
    elim (cases_lt at index) [
      | inl earlier ↦ before at within earlier
      | inr last ↦
          let same : at ≡ index = omega arith in
          subst (λ (it : ℕ). UnforgedAt trace it) (sym same) now
    ]

-- ---- what letters show

pub shown_more : (entries : List Entry) (index : ℕ) (entry : Entry) → index < length entries
    → get_or entries index entry ≡ entry → shown_in_all (take (index + 1) entries) ≡ shown_in_all (take index entries)
    ++ map letter_shown entry.letters
unfolding shown_in_all
shown_more entries index entry within at =
    ap (λ (it : List Entry). map letter_shown (letters_of it)) (take_more entries index entry within) ∙
    ap (λ (it : Entry). map letter_shown (letters_of (take index entries ++ it ∷ []))) at ∙
    ap (map letter_shown) (letters-push (take index entries) entry) ∙
    map-append letter_shown (letters_of (take index entries)) entry.letters

-- the texts of the event with this index
texts_here : (trace : Trace) (index : ℕ) (entry : Entry) → index < length trace.entries
    → get_or trace.entries index entry ≡ entry → texts_at trace entry ≡ texts_by trace (index + 1)
texts_here trace index entry within at =
    let found : slice_get trace.entries index ≡ Some entry =
    slice_get-get_or trace.entries index entry within ∙ ap Some at in
    rw add-one (ap (texts_of_entry trace) (sym found))

-- ---- all events

record InMapped {X Y : Type 0} (f : X → List Y) (items : List X) (it : Y) : Type 0 where
  place : ℕ
  item : X
  at : slice_get items place ≡ Some item
  inside : Contains (f item) it

in_mapped : {X Y : Type 0} (f : X → List Y) (items : List X) (it : Y) → Contains (flat_map f items) it
    → InMapped f items it
in_mapped f [] it held = absurd (omega (arith, held.1))
in_mapped f (first ∷ later) it held =
    elim (Contains-append_cases (f first) (flat_map f later) it
    (subst (λ all. Contains all it) (flat_map-cons f first later) held)) [
      | inl here ↦ record { place = 0; item = first; at = refl; inside = here }
      | inr there ↦
          let more : InMapped f later it = in_mapped f later it there in
          record { place = suc more.place; item = more.item; at = more.at; inside = more.inside }
    ]

-- a text that is digested is digested at an event
record IsDigested (trace : Trace) (text : Text) : Type 0 where
  event : ℕ
  within : event ≤ length trace.entries
  held : Contains (texts_by trace event) text

digested_at : (trace : Trace) (text : Text) → Contains (digested trace) text → IsDigested trace text
unfolding digested
digested_at trace text held =
    let it : InMapped (texts_at trace) trace.entries text = in_mapped (texts_at trace) trace.entries text held in
    let below : it.place < length trace.entries = slice_get_within trace.entries it.place it.item it.at in
    record {
      event = suc it.place;
      within = omega arith;
      held = subst (λ (found : Option Entry). Contains (texts_of_entry trace found) text) (sym it.at) it.inside;
    }

apart_none : (trace : Trace) → NoneCollideBefore trace (length trace.entries + 1) → (one other : Text)
    → IsDigested trace one → IsDigested trace other
    → digest_of one.tag one.bytes ≡ digest_of other.tag other.bytes → ¬ (¬ (one ≡ other))
apart_none trace none one other first second same apart =
    let below : first.event ≤ length trace.entries = first.within in
    let within : second.event ≤ length trace.entries = second.within in
    elim (cases_lt second.event first.event) [
      | inl later ↦ none second.event first.event (omega arith) (record {
        order = omega arith;
        one = other;
        other = one;
        at_first = second.held;
        at_second = first.held;
        apart = λ equal. apart (sym equal);
        same = sym same;
      })
      | inr order ↦ none first.event second.event (omega arith) (record {
        order = order;
        one = one;
        other = other;
        at_first = first.held;
        at_second = second.held;
        apart = apart;
        same = same;
      })
    ]

none_collide : (trace : Trace) → NoneCollideBefore trace (length trace.entries + 1) → NoCollision trace
none_collide trace none one other first second same =
    elim (cases_Bool (same_text one other)) [
      | inl alike ↦ (decides_text one other).0 alike
      | inr apart ↦ absurd (apart_none trace none one other (digested_at trace one first)
          (digested_at trace other second) same
          (λ equal. false≢true (sym apart ∙ (decides_text one other).1 equal)))
    ]

pub meets_premises : (trace : Trace) (past : Past) → IsPast trace (length trace.entries) past → MeetsPremises trace
meets_premises trace past is = record {
  unforged = λ at default within. is.unforged at within within default;
  no_collision = none_collide trace is.none_collide;
}

-- ---- one event more

pub first_forged : (trace : Trace) (index : ℕ) (past : Past) → IsPast trace index past → index < length trace.entries
    → ¬ (UnforgedAt trace index) → IsFirstForged trace (index + 1)
first_forged trace index past is within forged = record {
  index = index;
  is_event = refl;
  within = within;
  forged = forged;
  unforged_before = is.unforged;
  none_collide = is.none_collide;
}

-- the past, to which an event belongs that breaks nothing
pub past_more : (trace : Trace) (index : ℕ) (entry : Entry) (old new : Past) → IsPast trace index old
    → index < length trace.entries → get_or trace.entries index entry ≡ entry → UnforgedAt trace index
    → Notes (look old.digests) (look new.digests) (index + 1) (texts_at trace entry)
    → new.shown ≡ old.shown ++ map letter_shown entry.letters
    → first_clash (look new.digests) (texts_at trace entry) ≡ None → IsPast trace (index + 1) new
past_more trace index entry old new is within at unforged notes shown none =
    let texts : texts_at trace entry ≡ texts_by trace (index + 1) = texts_here trace index entry within at in
    let knows : Knows trace (index + 1) new.digests =
    knows_more trace index old.digests new.digests is.digests
    (subst (λ (it : List Text). Notes (look old.digests) (look new.digests) (index + 1) it) texts notes) in
    record {
      shown = shown ∙ ap (λ (it : List ShownLetter). it ++ map letter_shown entry.letters) is.shown
          ∙ sym (shown_more trace.entries index entry within at);
      digests = knows;
      unforged = unforged_more trace index is.unforged unforged;
      none_collide = none_at trace index new.digests knows is.none_collide
          (subst (λ (it : List Text). first_clash (look new.digests) it ≡ None) texts none);
    }

pub collision_here : (trace : Trace) (index : ℕ) (entry : Entry) (old new : Past) (first : ℕ) → IsPast trace index old
    → index < length trace.entries → get_or trace.entries index entry ≡ entry → UnforgedAt trace index
    → Notes (look old.digests) (look new.digests) (index + 1) (texts_at trace entry)
    → first_clash (look new.digests) (texts_at trace entry) ≡ Some first
    → IsFirstCollision trace first (index + 1)
collision_here trace index entry old new first is within at unforged notes some =
    let texts : texts_at trace entry ≡ texts_by trace (index + 1) = texts_here trace index entry within at in
    let knows : Knows trace (index + 1) new.digests =
    knows_more trace index old.digests new.digests is.digests
    (subst (λ (it : List Text). Notes (look old.digests) (look new.digests) (index + 1) it) texts notes) in
    first_collision trace index new.digests knows is.none_collide first
    (subst (λ (it : List Text). first_clash (look new.digests) it ≡ Some first) texts some)
    (unforged_more trace index is.unforged unforged)

-- the past of no event
pub past_none : (trace : Trace) (past : Past) → past.shown ≡ [] → ((digest : Digest) → look past.digests digest ≡ None)
    → IsPast trace 0 past
unfolding shown_in_all letters_of
past_none trace past shown none = record {
  shown = shown;
  digests = knows_nothing trace past.digests none;
  unforged = λ at within order. absurd (omega (arith, order));
  none_collide = λ first second order it. nothing_first first second order it;
}
  where
    nothing_first : (first second : ℕ) → second < 1 → ¬ (DoCollide trace first second)
    nothing_first first second order it =
        let at : second ≡ 0 = omega arith in
        let none : Contains (texts_by trace 0) it.other =
        subst (λ (event : ℕ). Contains (texts_by trace event) it.other) at it.at_second in
        omega (arith, none.1)
