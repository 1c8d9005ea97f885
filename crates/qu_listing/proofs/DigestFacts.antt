-- The lines of the letters of one event, and of those behind it.
use Rattle.std.proofs.Common.{◌≡◌, ℕ, ◌+◌, ◌<◌, List, [], ◌∷◌, ◌++◌, length, map, drop, get_or, ap, sym, ◌∙◌, arith, append_assoc}
use Rattle.std.proofs.lemmas.List.{drop_more, length-map, map-append}
use Rattle.std.specs.List.{enumerate_from}
use Rattle.qu_frames.specs.declared.frame.Letter.{Letter}
use Rattle.qu_trace.specs.declared.trace.Entry.{Entry}
use Rattle.qu_print.specs.Lines.{lines_text}
use Rattle.qu_print.proofs.LineFacts.{lines_text-append}
use Rattle.qu_listed.specs.Digests.{told_line, sent_at, sent_from, numbered_lines}

module _ {X : Type 0} where
  pub enumerate_from-append : (first : ℕ) (xs ys : List X) → enumerate_from first (xs ++ ys)
      ≡ enumerate_from first xs ++ enumerate_from (first + length xs) ys
  enumerate_from-append first [] ys = let e : first ≡ first + 0 = omega arith in ap (λ n. enumerate_from n ys) e
  enumerate_from-append first (x ∷ xs) ys =
      let e : first + 1 + length xs ≡ first + length (x ∷ xs) = omega arith in
      ap (λ rest. (first, x) ∷ rest)
      (enumerate_from-append (first + 1) xs ys ∙ ap (λ n. enumerate_from (first + 1) xs ++ enumerate_from n ys) e)

-- the lines of letters that stand behind others
pub numbered_lines-append : (told : List ℕ → List ℕ) (first : ℕ) (letters more : List (ℕ × Letter))
    → numbered_lines told first (letters ++ more)
    ≡ numbered_lines told first letters ++ numbered_lines told (first + length letters) more
numbered_lines-append told first letters more =
    rw (enumerate_from-append first letters more)
    (map-append (λ place. told_line told place.0 (place.1).0 (place.1).1) (enumerate_from first letters)
    (enumerate_from (first + length letters) more))

-- what is written stays the front of the whole as the line of one letter is written
pub letter_step : (told : List ℕ → List ℕ) (first event index : ℕ) (letters : List Letter) (letter : Letter)
    (before written whole : List ℕ) → index < length letters → letter ≡ get_or letters index letter
    → before ++ lines_text (numbered_lines told (first + index) (map (sent_at event) (drop index letters))) ≡ whole
    → written ≡ before ++ told_line told (first + index) event letter ++ 10 ∷ []
    → written ++ lines_text (numbered_lines told (first + (index + 1)) (map (sent_at event) (drop (index + 1) letters)))
    ≡ whole
unfolding lines_text
letter_step told first event index letters letter before written whole within is so_far line =
    let rest : drop index letters ≡ letter ∷ drop (index + 1) letters =
    drop_more letters index letter within ∙ ap (λ it. it ∷ drop (index + 1) letters) (sym is) in
    let number : first + (index + 1) ≡ first + index + 1 = omega arith in
    let so_far' = rw rest at so_far in
    let flat = simp append_assoc at so_far' in
    rw number (rw line (simp append_assoc flat))

-- what is written stays the front of the whole as the lines of one event are written
pub event_step : (told : List ℕ → List ℕ) (first event index : ℕ) (entries : List Entry) (entry : Entry)
    (letters : List Letter) (before written whole : List ℕ) → index < length entries
    → entry ≡ get_or entries index entry → letters ≡ entry.letters
    → before ++ lines_text (numbered_lines told first (sent_from event (drop index entries))) ≡ whole
    → written ≡ before ++ lines_text (numbered_lines told first (map (sent_at event) letters))
    → written
    ++ lines_text (numbered_lines told (first + length letters) (sent_from (event + 1) (drop (index + 1) entries)))
    ≡ whole
event_step told first event index entries entry letters before written whole within is same so_far next =
    let sent = map (sent_at event) letters in
    let later = sent_from (event + 1) (drop (index + 1) entries) in
    let rest : drop index entries ≡ entry ∷ drop (index + 1) entries =
    drop_more entries index entry within ∙ ap (λ it. it ∷ drop (index + 1) entries) (sym is) in
    let parts : sent_from event (drop index entries) ≡ sent ++ later =
    ap (sent_from event) rest ∙ ap (λ (those : List Letter). map (sent_at event) those ++ later) (sym same) in
    let count : length sent ≡ length letters = simp length-map in
    let split : lines_text (numbered_lines told first (sent_from event (drop index entries)))
    ≡ lines_text (numbered_lines told first sent) ++ lines_text (numbered_lines told (first + length letters) later) =
    ap (λ those. lines_text (numbered_lines told first those)) parts
    ∙ ap lines_text (numbered_lines-append told first sent later)
    ∙ lines_text-append (numbered_lines told first sent) (numbered_lines told (first + length sent) later)
    ∙ ap (λ n. lines_text (numbered_lines told first sent) ++ lines_text (numbered_lines told (first + n) later))
    count in
    rw next (rw append_assoc (rw (← split) so_far))
