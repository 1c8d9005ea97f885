-- Facts on the last letter of a party.
use Rattle.std.proofs.Common.{◌≡◌, ℕ, ◌+◌, ◌<◌, ◌≤◌, List, [], ◌∷◌, length, get_or, drop, true, false, Option, None, Some, refl, sym, ap, ◌∙◌}
use Rattle.std.specs.Prelude.{if◌then◌else◌}
use Rattle.std.specs.Borrow.{Bor}
use Rattle.std.specs.Option.{option_or, option_copied}
use Rattle.std.proofs.lemmas.List.{at_drop_more, at_drop_all}
use Rattle.qu_base.specs.declared.party.Party.{Party}
use Rattle.qu_base.proofs.Items.{or_none}
use Rattle.qu_frames.specs.declared.frame.Letter.{Letter}
use Rattle.qu_trace.specs.declared.trace.Entry.{Entry}
use Rattle.qu_script.specs.Letters.{is_meant, if_meant, last_of, last_sent}

or_assoc : {X : Type 0} (a b c : Option X) → option_or (option_or a b) c ≡ option_or a (option_or b c)
or_assoc None b c = refl
or_assoc (Some x) b c = refl

-- ---- letters

-- the last one of these, or the one found so far
abbrev pub last_or : Party → Option Party → Option Letter → List Letter → Option Letter
last_or from to found letters = option_or (last_of from to letters) found

last_of-cons : (from : Party) (to : Option Party) (letter : Letter) (later : List Letter)
    → last_of from to (letter ∷ later) ≡ option_or (last_of from to later) (if_meant from to letter)
unfolding last_of
last_of-cons from to letter later = refl

last_of-nil : (from : Party) (to : Option Party) → last_of from to [] ≡ None
unfolding last_of
last_of-nil from to = refl

letter_step : (from : Party) (to : Option Party) (found : Option Letter) (letters : List Letter) (index : ℕ)
    (default : Letter) → index < length letters
    → last_or from to found (drop index letters) ≡ last_or from to
    (option_or (if_meant from to (get_or letters index default)) found) (drop (index + 1) letters)
letter_step from to found letters index default below =
    at_drop_more (last_or from to found) letters index default below
    ∙ ap (λ (last : Option Letter). option_or last found)
    (last_of-cons from to (get_or letters index default) (drop (index + 1) letters))
    ∙ or_assoc (last_of from to (drop (index + 1) letters)) (if_meant from to (get_or letters index default)) found

-- a letter that is meant is the last one so far
pub letter_found : (from : Party) (to : Option Party) (found : Option Letter) (letters : List Letter) (index : ℕ)
    (letter : Letter) → index < length letters → letter ≡ get_or letters index letter
    → is_meant from to letter ≡ true
    → last_or from to (Some letter) (drop (index + 1) letters) ≡ last_or from to found (drop index letters)
letter_found from to found letters index letter below is meant =
    sym (letter_step from to found letters index letter below
    ∙ ap (λ (it : Letter). last_or from to (option_or (if_meant from to it) found) (drop (index + 1) letters)) (sym is)
    ∙ ap (λ test. last_or from to (option_or (if test then Some letter else None) found) (drop (index + 1) letters))
    meant)

pub letter_passed : (from : Party) (to : Option Party) (found : Option Letter) (letters : List Letter) (index : ℕ)
    (letter : Letter) → index < length letters → letter ≡ get_or letters index letter
    → is_meant from to letter ≡ false
    → last_or from to found (drop (index + 1) letters) ≡ last_or from to found (drop index letters)
letter_passed from to found letters index letter below is other =
    sym (letter_step from to found letters index letter below
    ∙ ap (λ (it : Letter). last_or from to (option_or (if_meant from to it) found) (drop (index + 1) letters)) (sym is)
    ∙ ap (λ test. last_or from to (option_or (if test then Some letter else None) found) (drop (index + 1) letters))
    other)

pub letters_end : (from : Party) (to : Option Party) (found : Option Letter) (letters : List Letter) (index : ℕ)
    → length letters ≤ index → last_or from to found (drop index letters) ≡ found
letters_end from to found letters index past =
    at_drop_all (last_or from to found) letters index past
    ∙ ap (λ (last : Option Letter). option_or last found) (last_of-nil from to)

-- ---- events

abbrev pub sent_or : Party → Option Party → Option Letter → List Entry → Option Letter
sent_or from to found entries = option_or (last_sent from to entries) found

last_sent-cons : (from : Party) (to : Option Party) (entry : Entry) (later : List Entry)
    → last_sent from to (entry ∷ later) ≡ option_or (last_sent from to later) (last_of from to entry.letters)
unfolding last_sent
last_sent-cons from to entry later = refl

last_sent-nil : (from : Party) (to : Option Party) → last_sent from to [] ≡ None
unfolding last_sent
last_sent-nil from to = refl

-- one event more
pub sent_more : (from : Party) (to : Option Party) (found : Option Letter) (entries : List Entry) (index : ℕ)
    (entry : Entry) (last : Option Letter) → index < length entries → entry ≡ get_or entries index entry
    → last_of from to entry.letters ≡ last
    → sent_or from to (option_or last found) (drop (index + 1) entries) ≡ sent_or from to found (drop index entries)
sent_more from to found entries index entry last below is sent =
    sym (at_drop_more (sent_or from to found) entries index entry below
    ∙ ap (λ (sent : Option Letter). option_or sent found)
    (last_sent-cons from to (get_or entries index entry) (drop (index + 1) entries))
    ∙ or_assoc (last_sent from to (drop (index + 1) entries)) (last_of from to (get_or entries index entry).letters)
    found
    ∙ ap (λ (it : Entry). sent_or from to (option_or (last_of from to it.letters) found) (drop (index + 1) entries))
    (sym is)
    ∙ ap (λ (it : Option Letter). sent_or from to (option_or it found) (drop (index + 1) entries)) sent)

pub sent_end : (from : Party) (to : Option Party) (found : Option Letter) (entries : List Entry) (index : ℕ)
    → length entries ≤ index → sent_or from to found (drop index entries) ≡ found
sent_end from to found entries index past =
    at_drop_all (sent_or from to found) entries index past
    ∙ ap (λ (sent : Option Letter). option_or sent found) (last_sent-nil from to)

pub sent_start : (from : Party) (to : Option Party) (entries : List Entry)
    → sent_or from to None entries ≡ last_sent from to entries
sent_start from to entries = or_none (last_sent from to entries)

pub letters_start : (from : Party) (to : Option Party) (letters : List Letter)
    → last_or from to None letters ≡ last_of from to letters
letters_start from to letters = or_none (last_of from to letters)

pub ruleset letter_facts = (letter_found, letter_passed, letters_end, letters_start)

-- what was found is seen by its value
pub copied_or : {X : Type 0} (a b : Option (Bor X)) → option_copied (option_or a b) ≡ option_or (option_copied a)
    (option_copied b)
copied_or None b = refl
copied_or (Some x) b = refl
