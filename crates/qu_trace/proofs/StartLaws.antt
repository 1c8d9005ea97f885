-- A letter is found by where the letters of each entry begin.
use Rattle.std.proofs.Common.{◌≡◌, ℕ, zero, suc, ◌+◌, ◌-◌, ◌^◌, ◌<◌, ◌≤◌, min, List, [], ◌∷◌, ◌++◌, length, take, get_or, refl, sym, ap, subst, ◌∙◌, append-nil, arith}
use Rattle.std.specs.Prelude.{slice_get, None}
use Rattle.std.specs.List.Sorted.{IsNonDecreasingBy}
use Rattle.qu_trace.specs.declared.trace.Entry.{Entry}
use Rattle.qu_trace.specs.Letters.{letters_of}
use Rattle.qu_trace.specs.declared.sent.Starts.{Starts}
use Rattle.qu_trace.specs.Letters.{numbered}
use Rattle.qu_trace.specs.Starts.{starts_from, start_after, start_behind, AreStarts, IsBegun}
use Rattle.qu_trace.proofs.LetterLaws.{slice_get-append_left, slice_get-append_right}

pub length-starts : (before : ℕ) (entries : List Entry) → length (starts_from before entries) ≡ length entries
unfolding starts_from
length-starts before [] = refl
length-starts before (entry ∷ later) = ap suc (length-starts (start_behind before entry) later)

-- ---- one entry more

pub starts_more : (before : ℕ) (entries : List Entry) (entry : Entry)
    → starts_from before (entries ++ entry ∷ []) ≡ starts_from before entries ++ start_after before entries ∷ []
unfolding starts_from start_after
starts_more before [] entry = refl
starts_more before (first ∷ later) entry =
    ap (λ (those : List ℕ). before ∷ those) (starts_more (start_behind before first) later entry)

pub after_more : (before : ℕ) (entries : List Entry) (entry : Entry)
    → start_after before (entries ++ entry ∷ []) ≡ start_behind (start_after before entries) entry
unfolding start_after
after_more before [] entry = refl
after_more before (first ∷ later) entry = after_more (start_behind before first) later entry

-- ---- starts rise

pub start_least : (before index default : ℕ) (entries : List Entry) → before ≤ 2 ^ 64 - 1 → index < length entries
    → before ≤ get_or (starts_from before entries) index default
unfolding starts_from
start_least before index default [] most within = absurd (omega arith)
start_least before zero default (entry ∷ later) most within = omega arith
start_least before (suc index) default (entry ∷ later) most within =
    let next : ℕ = start_behind before entry in
    let least : next ≤ get_or (starts_from next later) index default =
    start_least next index default later (omega arith) (omega arith) in
    omega (arith, least, most)

pub starts_rise : (before : ℕ) (entries : List Entry) → before ≤ 2 ^ 64 - 1
    → IsNonDecreasingBy (λ (start : ℕ). start) (starts_from before entries)
unfolding starts_from
starts_rise before [] most i j default order within = absurd (omega arith)
starts_rise before (entry ∷ later) most zero j default order within =
    start_least before j default (entry ∷ later) most (omega (arith, length-starts before (entry ∷ later)))
starts_rise before (entry ∷ later) most (suc i) zero default order within = absurd (omega arith)
starts_rise before (entry ∷ later) most (suc i) (suc j) default order within =
    starts_rise (start_behind before entry) later (omega arith) i j default (omega arith) (omega arith)

-- ---- the letter at a place is that of the last entry whose letters begin there or before

pub letter_found : (before place index : ℕ) (entries : List Entry) (default : Entry) → before ≤ 2 ^ 64 - 1
    → place < 2 ^ 64 - 1 → index < length entries → get_or (starts_from before entries) index 0 ≤ place
    → (index + 1 < length entries → place < get_or (starts_from before entries) (index + 1) 0)
    → slice_get (letters_of entries) (place - before)
    ≡ slice_get (get_or entries index default).letters (place - get_or (starts_from before entries) index 0)
unfolding letters_of starts_from
letter_found before place index [] default most few within begun next = absurd (omega arith)
letter_found before place zero (entry ∷ []) default most few within begun next =
    ap (λ letters. slice_get letters (place - before)) (append-nil entry.letters)
letter_found before place zero (entry ∷ second ∷ later) default most few within begun next =
    slice_get-append_left entry.letters (letters_of (second ∷ later)) (place - before)
    (omega (arith, next (omega arith)))
letter_found before place (suc index) (entry ∷ later) default most few within begun next =
    let here : ℕ = start_behind before entry in
    let least : here ≤ get_or (starts_from here later) index 0 =
    start_least here index 0 later (omega arith) (omega arith) in
    slice_get-append_right entry.letters (letters_of later) (place - before) (place - here)
    (omega (arith, least, begun, few))
    ∙ letter_found here place index later default (omega arith) few (omega arith) begun
    (λ more.
    let same : suc index + 1 ≡ suc (index + 1) = omega arith in
    subst (λ (at : ℕ). place < get_or (starts_from before (entry ∷ later)) at 0) same (next (omega arith)))

pub numbered_found : (number place index count start : ℕ) (entries : List Entry) (entry : Entry)
    → IsBegun (starts_from 0 entries) place count → number ≡ suc place → place < 2 ^ 64 - 1 → count ≡ index + 1
    → start ≡ get_or (starts_from 0 entries) index 0
    → ((default : Entry) → entry ≡ get_or entries index default)
    → slice_get entry.letters (place - start) ≡ numbered (letters_of entries) number
numbered_found number place index count start entries entry begun is_number few is_count is_start is_entry =
    let within : index < length entries = omega (arith, begun.bound, length-starts 0 entries, is_count) in
    let bare : place - 0 ≡ place = omega arith in
    let found =
    letter_found 0 place index entries entry (omega arith) few within
    (begun.before index 0 (omega (arith, is_count)))
    (λ more. begun.behind (index + 1) 0 (omega (arith, is_count)) (omega (arith, length-starts 0 entries, more))) in
    ap (λ (it : Entry). slice_get it.letters (place - start)) (is_entry entry)
    ∙ ap (λ (at : ℕ). slice_get (get_or entries index entry).letters (place - at)) is_start
    ∙ sym found
    ∙ ap (λ (at : ℕ). slice_get (letters_of entries) at) bare
    ∙ ap (λ (at : ℕ). numbered (letters_of entries) at) (sym is_number)

-- where no letters begin there or before, there are none
none_begun : (place count : ℕ) (entries : List Entry) → IsBegun (starts_from 0 entries) place count → count < 1
    → slice_get (letters_of entries) place ≡ None
unfolding letters_of starts_from
none_begun place count [] begun none = refl
none_begun place count (entry ∷ later) begun none =
    let behind : place < 0 = begun.behind 0 0 (omega (arith, none)) (omega arith) in
    absurd (omega (arith, behind))

pub numbered_none : (number place count : ℕ) (entries : List Entry) → IsBegun (starts_from 0 entries) place count
    → number ≡ suc place → count < 1 → numbered (letters_of entries) number ≡ None
numbered_none number place count entries begun is_number none =
    ap (λ (at : ℕ). numbered (letters_of entries) at) is_number ∙ none_begun place count entries begun none

-- ---- what is kept of it, with one entry more

pub are_more : (entries more : List Entry) (entry : Entry) (starts new : Starts) → AreStarts entries starts
    → more ≡ entries ++ entry ∷ [] → new.places.items ≡ starts.places.items ++ starts.next ∷ []
    → new.next ≡ min (starts.next + length entry.letters) (2 ^ 64 - 1) → AreStarts more new
are_more entries more entry starts new are is_more places next = record {
  places =
      places
      ∙ ap (λ (those : List ℕ). those ++ starts.next ∷ []) are.places
      ∙ ap (λ (last : ℕ). starts_from 0 entries ++ last ∷ []) are.next
      ∙ sym (starts_more 0 entries entry)
      ∙ ap (starts_from 0) (sym is_more);
  next =
      next
      ∙ ap (λ (last : ℕ). min (last + length entry.letters) (2 ^ 64 - 1)) are.next
      ∙ sym (after_more 0 entries entry)
      ∙ ap (start_after 0) (sym is_more);
}

-- ---- the first entries

pub take_starts : (before count : ℕ) (entries : List Entry)
    → take count (starts_from before entries) ≡ starts_from before (take count entries)
unfolding starts_from
take_starts before zero [] = refl
take_starts before zero (entry ∷ later) = refl
take_starts before (suc count) [] = refl
take_starts before (suc count) (entry ∷ later) =
    ap (λ (those : List ℕ). before ∷ those) (take_starts (start_behind before entry) count later)
