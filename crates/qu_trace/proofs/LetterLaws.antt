-- Where a letter stands among those of several events.
use Rattle.std.proofs.Common.{◌≡◌, ℕ, zero, suc, ◌+◌, ◌<◌, List, [], ◌∷◌, ◌++◌, length, take, get_or, refl, sym, ap, ◌∙◌, append-nil, arith}
use Rattle.std.specs.List.{flat_map}
use Rattle.std.proofs.lemmas.List.{take_more}
use Rattle.std.proofs.lemmas.Grind.{flat_map-append}
use Rattle.std.proofs.lemmas.List.Sums.{sum_by-append}
use Rattle.std.specs.Prelude.{Some, slice_get}
use Rattle.std.proofs.lemmas.Option.{none-some, slice_get_within}
use Rattle.qu_trace.specs.declared.trace.Entry.{Entry}
use Rattle.qu_frames.specs.declared.frame.Letter.{Letter}
use Rattle.qu_trace.specs.Letters.{letters_of, numbered, bytes_of, bytes_sent}

-- an item of the first list
pub slice_get-append_left : {X : Type 0} (xs ys : List X) (k : ℕ) → k < length xs
    → slice_get (xs ++ ys) k ≡ slice_get xs k
slice_get-append_left [] ys k within = absurd (omega arith)
slice_get-append_left (x ∷ xs) ys zero within = refl
slice_get-append_left (x ∷ xs) ys (suc k) within = slice_get-append_left xs ys k (omega arith)

pub numbered-append : {X : Type 0} (items more : List X) (number : ℕ) (item : X) → numbered items number ≡ Some item
    → numbered (items ++ more) number ≡ Some item
numbered-append items more zero item found = absurd (none-some item found)
numbered-append items more (suc place) item found =
    slice_get-append_left items more place (slice_get_within items place item found) ∙ found

-- an item of the second list
pub slice_get-append_right : {X : Type 0} (xs ys : List X) (k rest : ℕ) → k ≡ length xs + rest
    → slice_get (xs ++ ys) k ≡ slice_get ys rest
slice_get-append_right [] ys k rest at = let e : k ≡ rest = omega arith in rw e refl
slice_get-append_right (x ∷ xs) ys zero rest at = absurd (omega arith)
slice_get-append_right (x ∷ xs) ys (suc k) rest at = slice_get-append_right xs ys k rest (omega arith)

pub letters-push : (entries : List Entry) (entry : Entry) → letters_of (entries ++ entry ∷ []) ≡ letters_of
    entries ++ entry.letters
unfolding letters_of
letters-push entries entry =
    flat_map-append (λ (it : Entry). it.letters) entries (entry ∷ [])
    ∙ ap (λ more. flat_map (λ (it : Entry). it.letters) entries ++ more) (append-nil entry.letters)

-- an entry adds the bytes of its letters
pub bytes_sent_more : (entries : List Entry) (entry : Entry) → bytes_sent (entries ++ entry ∷ []) ≡ bytes_sent
    entries + bytes_of entry.letters
bytes_sent_more entries entry =
    ap bytes_of (letters-push entries entry) ∙ sum_by-append (λ (letter : Letter). length letter.text)
    (letters_of entries) entry.letters

-- ---- the first entries, with one more

pub taken_more : (entries : List Entry) (index : ℕ) (entry : Entry) → index < length entries
    → entry ≡ get_or entries index entry → take (index + 1) entries ≡ take index entries ++ entry ∷ []
taken_more entries index entry within is =
    take_more entries index entry within ∙ ap (λ (it : Entry). take index entries ++ it ∷ []) (sym is)

pub letters-taken : (entries : List Entry) (index : ℕ) (entry : Entry) → index < length entries
    → entry ≡ get_or entries index entry
    → letters_of (take (index + 1) entries) ≡ letters_of (take index entries) ++ entry.letters
letters-taken entries index entry within is =
    ap (λ (it : List Entry). letters_of it) (taken_more entries index entry within is)
    ∙ letters-push (take index entries) entry
