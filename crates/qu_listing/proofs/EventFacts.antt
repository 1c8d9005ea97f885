-- The lines of one event, and of those behind it.
use Rattle.std.proofs.Common.{◌≡◌, ℕ, ◌+◌, ◌<◌, List, [], ◌∷◌, ◌++◌, length, drop, take, get_or, ap, sym, ◌∙◌, append_assoc, subst}
use Rattle.std.proofs.lemmas.List.{drop_more, take_more}
use Rattle.std.specs.List.{flat_map, enumerate_from}
use Rattle.qu_machine.specs.declared.record.Point.{Point}
use Rattle.qu_trace.specs.declared.trace.Entry.{Entry}
use Rattle.qu_trace.specs.declared.trace.Setup.{Setup}
use Rattle.qu_trace.specs.Letters.{letters_of}
use Rattle.qu_print.specs.Lines.{lines_text}
use Rattle.qu_print.proofs.LineFacts.{lines_text-append}
use Rattle.qu_listing.specs.declared.so_far.SoFar.{SoFar}
use Rattle.qu_listed.specs.Events.{event_line, points_below, letter_lines, entry_lines}
use Rattle.qu_listing.specs.SoFar.{IsSoFar}

-- the lines of an event: its own, those of its points, and those of its letters
pub entry_text : (setup : Setup) (order : List Point) (earlier : List Entry) (entry : Entry)
    → lines_text (entry_lines setup order earlier entry)
    ≡ (event_line setup earlier entry ++ 10 ∷ []) ++ (lines_text (points_below (length earlier + 1) order)
    ++ lines_text (letter_lines (length (letters_of earlier) + 1) entry.letters))
unfolding lines_text entry_lines
entry_text setup order earlier entry =
    ap (λ more. (event_line setup earlier entry ++ 10 ∷ []) ++ more)
    (lines_text-append (points_below (length earlier + 1) order)
    (letter_lines (length (letters_of earlier) + 1) entry.letters))

-- the lines of the entries from this index on
abbrev pub lines_from : Setup → List Point → List Entry → ℕ → List (List ℕ)
lines_from setup order entries index =
    flat_map (λ (place : ℕ × Entry). entry_lines setup order (take place.0 entries) place.1)
    (enumerate_from index (drop index entries))

-- what is written stays the front of the whole as the lines of one event are written
pub event_step : (setup : Setup) (order : List Point) (index : ℕ) (entries earlier : List Entry) (entry : Entry)
    (before written whole : List ℕ)
    → index < length entries → entry ≡ get_or entries index entry → earlier ≡ take index entries
    → before ++ lines_text (lines_from setup order entries index) ≡ whole
    → written ≡ before ++ lines_text (entry_lines setup order earlier entry)
    → written ++ lines_text (lines_from setup order entries (index + 1)) ≡ whole
event_step setup order index entries earlier entry before written whole within is same so_far next =
    let rest : drop index entries ≡ entry ∷ drop (index + 1) entries =
    drop_more entries index entry within ∙ ap (λ it. it ∷ drop (index + 1) entries) (sym is) in
    let later = lines_from setup order entries (index + 1) in
    let split : lines_from setup order entries index
    ≡ entry_lines setup order (take index entries) entry ++ later =
    ap (λ those. flat_map (λ (place : ℕ × Entry). entry_lines setup order (take place.0 entries) place.1)
    (enumerate_from index those)) rest in
    let told : lines_text (lines_from setup order entries index)
    ≡ lines_text (entry_lines setup order earlier entry) ++ lines_text later =
    ap lines_text split
    ∙ lines_text-append (entry_lines setup order (take index entries) entry) later
    ∙ ap (λ front. lines_text (entry_lines setup order front entry) ++ lines_text later)
    (sym same) in
    rw next (rw append_assoc (rw (← told) so_far))

-- and what is known of the entries so far
pub known_step : (setup : Setup) (index : ℕ) (entries earlier : List Entry) (entry : Entry) (known : SoFar)
    → index < length entries → entry ≡ get_or entries index entry → earlier ≡ take index entries
    → IsSoFar setup (earlier ++ entry ∷ []) known → IsSoFar setup (take (index + 1) entries) known
known_step setup index entries earlier entry known within is same knows =
    let more : take (index + 1) entries ≡ earlier ++ entry ∷ [] =
    take_more entries index entry within ∙ ap (λ front. front ++ get_or entries index entry ∷ []) (sym same)
    ∙ ap (λ it. earlier ++ it ∷ []) (sym is) in
    subst (λ those. IsSoFar setup those known) (sym more) knows
