-- Where a named letter stands among those of some steps: in a list by tickets before all steps of greater tickets.
use Rattle.std.proofs.Common.{◌≡◌, ℕ, ◌+◌, ◌<◌, Bool, true, false, cond, List, [], ◌∷◌, ◌++◌, length, None, Some, refl, sym, ap, ◌∙◌, arith, inl, inr}
use Rattle.std.specs.Prelude.{slice_get, ◌==◌}
use Rattle.std.proofs.lemmas.Bool.{cases_Bool, ne_eqb}
use Rattle.std.proofs.lemmas.Option.{none-some, slice_get_within}
use Rattle.qu_base.specs.declared.party.Party.{Party}
use Rattle.qu_frames.specs.declared.frame.Letter.{Letter}
use Rattle.qu_trace.specs.Faulty.{is_same}
use Rattle.qu_trace.proofs.LetterLaws.{slice_get-append_left, slice_get-append_right}
use Rattle.qu_frames.specs.declared.input.LetterName.{LetterName}
use Rattle.qu_replay.specs.declared.kept_step.KeptStep.{KeptStep}
use Rattle.qu_replay.specs.Replays.{own_steps}
use Rattle.qu_replay.specs.Merged.{AreByTicket, is_step_named, place_of, letter_kept, letters_in}
use Rattle.qu_replay.specs.Entries.{letter_named}
use Rattle.qu_replay.proofs.Told.{own_here, own_other}

abbrev Merged : Type 0
Merged = List (Party × KeptStep)

named_here : (x : Party × KeptStep) (xs : Merged) (name : LetterName) → is_same x.0 name.from ≡ true
    → (x.1.ticket == name.ticket) ≡ true → letter_named (x ∷ xs) name ≡ slice_get x.1.letters name.place
unfolding letter_kept
named_here x xs name same ticket =
    ap (λ (it : List KeptStep). letter_kept it name.ticket name.place) (own_here x xs name.from same)
    ∙ ap (λ (it : Bool). cond it (slice_get x.1.letters name.place)
    (letter_kept (own_steps name.from xs) name.ticket name.place)) ticket

named_ticket : (x : Party × KeptStep) (xs : Merged) (name : LetterName) → is_same x.0 name.from ≡ true
    → (x.1.ticket == name.ticket) ≡ false → letter_named (x ∷ xs) name ≡ letter_named xs name
unfolding letter_kept
named_ticket x xs name same ticket =
    ap (λ (it : List KeptStep). letter_kept it name.ticket name.place) (own_here x xs name.from same)
    ∙ ap (λ (it : Bool). cond it (slice_get x.1.letters name.place)
    (letter_kept (own_steps name.from xs) name.ticket name.place)) ticket

named_other : (x : Party × KeptStep) (xs : Merged) (name : LetterName) → is_same x.0 name.from ≡ false
    → letter_named (x ∷ xs) name ≡ letter_named xs name
named_other x xs name apart =
    ap (λ (it : List KeptStep). letter_kept it name.ticket name.place) (own_other x xs name.from apart)

-- a step is the named one, or the name is looked up behind it
pub named_cases : (P : Type 0) (x : Party × KeptStep) (name : LetterName)
    → (is_step_named name x ≡ true → ((xs : Merged) → letter_named (x ∷ xs) name ≡ slice_get x.1.letters name.place)
    → P)
    → (is_step_named name x ≡ false → ((xs : Merged) → letter_named (x ∷ xs) name ≡ letter_named xs name) → P)
    → P
named_cases P x name here later =
    elim (cases_Bool (is_same x.0 name.from)) [
      | inl same ↦ elim (cases_Bool (x.1.ticket == name.ticket)) [
        | inl ticket ↦ here (rw (same, ticket) refl) (λ xs. named_here x xs name same ticket)
        | inr ticket ↦ later (rw (same, ticket) refl) (λ xs. named_ticket x xs name same ticket)
      ]
      | inr apart ↦ later (rw apart refl) (λ xs. named_other x xs name apart)
    ]

-- no step of a greater ticket is named
pub not_named : (low : ℕ) (xs : Merged) (name : LetterName) → AreByTicket low xs → name.ticket < low
    → letter_named xs name ≡ None
unfolding AreByTicket own_steps letter_kept
not_named low [] name sorted below = refl
not_named low (x ∷ xs) name sorted below =
    let ticket : (x.1.ticket == name.ticket) ≡ false =
    ne_eqb x.1.ticket name.ticket (λ same. omega (arith, sorted.0, below, same)) in
    let rest : letter_named xs name ≡ None =
    not_named x.1.ticket xs name sorted.1 (omega (arith, sorted.0, below)) in
    elim (cases_Bool (is_same x.0 name.from)) [
      | inl same ↦ named_ticket x xs name same ticket ∙ rest
      | inr apart ↦ named_other x xs name apart ∙ rest
    ]

-- a letter that none of the later steps sent is that of an earlier one
pub named_before : (front rest : Merged) (name : LetterName) → letter_named rest name ≡ None
    → letter_named (front ++ rest) name ≡ letter_named front name
unfolding own_steps letter_kept
named_before [] rest name none = none
named_before (x ∷ front) rest name none =
    named_cases (letter_named (x ∷ (front ++ rest)) name ≡ letter_named (x ∷ front) name) x name
    (λ is at. at (front ++ rest) ∙ sym (at front))
    (λ is at. at (front ++ rest) ∙ named_before front rest name none ∙ sym (at front))

-- the letter stands at its place among those of the steps so far
pub named_at : (front rest : Merged) (name : LetterName) (letter : Letter) → letter_named front name ≡ Some letter
    → slice_get (letters_in front) (place_of (front ++ rest) name) ≡ Some letter
unfolding place_of own_steps letter_kept
named_at [] rest name letter found = absurd (none-some letter found)
named_at (x ∷ front) rest name letter found =
    named_cases
    (slice_get (x.1.letters ++ letters_in front)
    (cond (is_step_named name x) name.place (length x.1.letters + place_of (front ++ rest) name)) ≡ Some letter) x name
    (λ is at.
    let here : slice_get x.1.letters name.place ≡ Some letter = sym (at front) ∙ found in
    ap (λ (it : Bool). slice_get (x.1.letters ++ letters_in front)
    (cond it name.place (length x.1.letters + place_of (front ++ rest) name))) is
    ∙ slice_get-append_left x.1.letters (letters_in front) name.place
    (slice_get_within x.1.letters name.place letter here)
    ∙ here)
    (λ is at.
    ap (λ (it : Bool). slice_get (x.1.letters ++ letters_in front)
    (cond it name.place (length x.1.letters + place_of (front ++ rest) name))) is
    ∙ slice_get-append_right x.1.letters (letters_in front)
    (length x.1.letters + place_of (front ++ rest) name) (place_of (front ++ rest) name) refl
    ∙ named_at front rest name letter (sym (at front) ∙ found))
