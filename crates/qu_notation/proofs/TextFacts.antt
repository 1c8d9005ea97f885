-- Facts on lines, words and numbers.
use Rattle.std.proofs.Common.{◌≡◌, ◌==◌, not, ℕ, suc, one-add, add-one, ◌+◌, ◌-◌, ◌*◌, ◌^◌, ◌<◌, ◌≤◌, Bool, true, false, cond, ◌&&◌, nat_lt, List, [], ◌∷◌, length, get_or, take, drop, Option, None, Some, map, refl, sym, ap, ◌∙◌, arith, position, length-drop}
use Rattle.std.specs.List.{prefix_len, onto_first}
use Rattle.std.specs.Char.{is_ascii_digit, digit_value}
use Rattle.std.specs.Borrow.{Bor}
use Rattle.std.specs.Option.{option_and_then}
use Rattle.std.specs.Str.{all_ascii_digits}
use Rattle.std.specs.Str.Parse.{digits_value_after}
use Rattle.std.proofs.lemmas.List.{at_drop_more, at_drop_all, take_all}
use Rattle.std.proofs.lemmas.Bool.Decides.{nat_tests}
use Rattle.qu_notation.specs.Text.{lines_of}
use Rattle.qu_notation.specs.Numbers.{number_of}
use Rattle.qu_notation.specs.Digits.{with_digit}

abbrev pub texts : List (Bor (List ℕ)) → List (List ℕ)
texts words = map (λ word. word.now) words

-- the number that digits write when they follow those of n
unfoldable pub number_rest : ℕ → List ℕ → Option ℕ
number_rest n ds = cond (all_ascii_digits ds && nat_lt (digits_value_after 10 n ds) (2 ^ 64))
    (Some (digits_value_after 10 n ds)) None

digit_is : (c : ℕ) → is_ascii_digit c ≡ true → digit_value c ≡ c - 48
digit_is c h = grind (arith, nat_tests)

digits_grow : (n : ℕ) (ds : List ℕ) → n ≤ digits_value_after 10 n ds
digits_grow n [] = omega arith
digits_grow n (c ∷ cs) = omega (arith, digits_grow (n * 10 + digit_value c) cs)

pub number_rest-nil : (n : ℕ) → n < 2 ^ 64 → number_rest n [] ≡ Some n
unfolding number_rest
number_rest-nil n small = grind (arith, nat_tests)

pub number_rest-cons : (n c : ℕ) (cs : List ℕ) → number_rest n (c ∷ cs) ≡ option_and_then (λ m. number_rest m cs)
    (with_digit n c)
unfolding number_rest
number_rest-cons n c cs = grind (arith, nat_tests, digit_is c, digits_grow (n * 10 + (c - 48)) cs)

pub number_of-rest : (ds : List ℕ) → 0 < length ds → number_of ds ≡ number_rest 0 ds
unfolding number_of number_rest
number_of-rest [] h = absurd (omega arith)
number_of-rest (d ∷ ds) h = refl

pub number_of-nil : (ds : List ℕ) → length ds ≡ 0 → number_of ds ≡ None
unfolding number_of
number_of-nil [] h = refl
number_of-nil (d ∷ ds) h = absurd (omega arith)

-- a loop's step, its early end and its end
pub number_more : (n m i : ℕ) (word : List ℕ) → i < length word → with_digit n (get_or word i 0) ≡ Some m
    → number_rest m (drop (i + 1) word) ≡ number_rest n (drop i word)
number_more n m i word lt e =
    sym (at_drop_more (number_rest n) word i 0 lt ∙ number_rest-cons n (get_or word i 0) (drop (i + 1) word)
    ∙ ap (option_and_then (λ k. number_rest k (drop (i + 1) word))) e)

pub number_stop : (n i : ℕ) (word : List ℕ) → i < length word → with_digit n (get_or word i 0) ≡ None
    → number_rest n (drop i word) ≡ None
number_stop n i word lt e = at_drop_more (number_rest n) word i 0 lt ∙ number_rest-cons n (get_or word i 0)
    (drop (i + 1) word) ∙ ap (option_and_then (λ k. number_rest k (drop (i + 1) word))) e

pub number_end : (n i : ℕ) (word : List ℕ) → n < 2 ^ 64 → length word ≤ i → number_rest n (drop i word) ≡ Some n
number_end n i word small e = at_drop_all (number_rest n) word i e ∙ number_rest-nil n small

pub ruleset number_facts = (number_of-rest, number_of-nil, number_more, number_stop, number_end)

-- ---- lines

abbrev feed : ℕ → Bool
feed b = b == 10

abbrev other : ℕ → Bool
other b = not (feed b)

-- one byte more before the first line feed
line_more : (t : Bool) (b k : ℕ) (bs : List ℕ) → (k < length bs → lines_of bs ≡ take k bs ∷ lines_of (drop (k + 1) bs))
    → cond (not t) (1 + k) 0 < suc (length bs)
    → cond t ([] ∷ lines_of bs) (onto_first b (lines_of bs)) ≡ take (cond (not t) (1 + k) 0) (b ∷ bs) ∷ lines_of
    (drop (cond (not t) (1 + k) 0 + 1) (b ∷ bs))
line_more true b k bs rest lt = refl
line_more false b k bs rest lt = simp (rest (omega arith), one-add, add-one)

line_first : (bs : List ℕ) → prefix_len other bs < length bs → lines_of bs ≡ take (prefix_len other bs)
    bs ∷ lines_of (drop (prefix_len other bs + 1) bs)
unfolding lines_of
line_first [] lt = absurd (omega arith)
line_first (b ∷ bs) lt = line_more (feed b) b (prefix_len other bs) bs (line_first bs) lt

pub lines_of-nil : (bs : List ℕ) → length bs ≡ 0 → lines_of bs ≡ []
unfolding lines_of
lines_of-nil [] h = refl
lines_of-nil (b ∷ bs) h = absurd (omega arith)

line_same : (t : Bool) (b k : ℕ) (bs : List ℕ) → (0 < length bs → length bs ≤ k → lines_of bs ≡ bs ∷ [])
    → (length bs ≡ 0 → lines_of bs ≡ [])
    → suc (length bs) ≤ cond (not t) (1 + k) 0 → cond t ([] ∷ lines_of bs) (onto_first b (lines_of bs)) ≡ (b ∷ bs) ∷ []
line_same true b k bs rest none le = absurd (omega arith)
line_same false b k [] rest none le = rw (none refl) refl
line_same false b k (c ∷ bs) rest none le = rw (rest (omega arith) (omega arith)) refl

line_last : (bs : List ℕ) → 0 < length bs → length bs ≤ prefix_len other bs → lines_of bs ≡ bs ∷ []
unfolding lines_of
line_last [] some le = absurd (omega arith)
line_last (b ∷ bs) some le = line_same (feed b) b (prefix_len other bs) bs (line_last bs) (lines_of-nil bs) le

-- the first line feed stands at i, and bytes that follow it are whole lines again
pub line_at : (bs : List ℕ) (i n : ℕ) → position feed bs ≡ Some i → n ≡ length bs - (i + 1)
    → lines_of bs ≡ take i bs ∷ lines_of (take n (drop (i + 1) bs))
line_at bs i n e same = rw (take_all n (drop (i + 1) bs) (simp length-drop (omega arith)))
    (grind (arith, nat_tests, line_first bs))

pub line_alone : (bs : List ℕ) → 0 < length bs → position feed bs ≡ None → lines_of bs ≡ bs ∷ []
line_alone bs some e = grind (arith, nat_tests, line_last bs)

pub ruleset line_facts = (line_at, line_alone, lines_of-nil)
