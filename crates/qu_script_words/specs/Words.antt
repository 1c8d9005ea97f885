-- The words of a line, and how they are taken one after another.
use Rattle.std.specs.Prelude.{ℕ, Bool, true, false, nat_le, ◌&&◌, ◌==◌, List, [], ◌∷◌, Result, Ok, Err, if◌then◌else◌, codes}
use Rattle.std.specs.List.{filter, list_all, slice_split}
use Rattle.std.specs.Str.{bytes_eq}
use Rattle.qu_script_words.specs.declared.bad.BadKind.{BadKind}
use Rattle.qu_script_words.specs.declared.bad.BadKind.TheVariants.{NotAscii, WrongCount}
use Rattle.qu_script_words.specs.Meaning.{then_good}

-- whether no word is left
abbrev pub is_nil : List (List ℕ) → Bool
is_nil [] = true
is_nil (word ∷ words) = false

abbrev pub has_bytes : List ℕ → Bool
has_bytes [] = false
has_bytes (byte ∷ bytes) = true

-- what stands between one or more spaces; spaces at both ends part nothing
abbrev pub words_in : List ℕ → List (List ℕ)
words_in line = filter has_bytes (slice_split (λ b. b == 32) line)

-- printable ASCII characters
abbrev pub is_ascii_word : List ℕ → Bool
is_ascii_word word = list_all (λ b. nat_le 32 b && nat_le b 126) word

-- ---- one word after another: what is wrong with a word comes before what is wrong with those behind it

abbrev pub ascii_word : List ℕ → Result (List ℕ) BadKind
ascii_word word = if is_ascii_word word then Ok word else Err NotAscii

-- the next word, and those behind it
abbrev pub next_of : List (List ℕ) → Result (List ℕ × List (List ℕ)) BadKind
next_of [] = Err WrongCount
next_of (word ∷ words) = then_good (ascii_word word) (λ word. Ok (word, words))

-- no word is left
abbrev pub end_of : List (List ℕ) → Result (Unit {0}) BadKind
end_of [] = Ok tt
end_of (word ∷ words) = then_good (ascii_word word) (λ word. Err WrongCount)

-- what the last word says, by a rule
abbrev pub only_of : {X : Type 0} → (List ℕ → Result X BadKind) → List (List ℕ) → Result X BadKind
only_of rule words =
    then_good (next_of words) (λ next. then_good (rule next.0) (λ said. then_good (end_of next.1) (λ done. Ok said)))

-- what the words say that are left, by a rule for each
unfoldable pub all_of : {X : Type 0} → (List ℕ → Result X BadKind) → List (List ℕ) → Result (List X) BadKind
all_of rule [] = Ok []
all_of rule (word ∷ words) =
    then_good (ascii_word word) (λ word.
    then_good (rule word) (λ said.
    then_good (all_of rule words) (λ more. Ok (said ∷ more))))

-- the same, where one word at least is left
abbrev pub some_of : {X : Type 0} → (List ℕ → Result X BadKind) → List (List ℕ) → Result (List X) BadKind
some_of rule [] = Err WrongCount
some_of rule (word ∷ words) = all_of rule (word ∷ words)

-- the next word, where a `+` stands before the next part of an operation, and so is none of this part
abbrev pub next_of_part : List (List ℕ) → Result (List ℕ × List (List ℕ)) BadKind
next_of_part words =
    then_good (next_of words) (λ next. if bytes_eq next.0 (codes "+") then Err WrongCount else Ok next)

-- the words behind a `+`, which has to be the next word
unfoldable pub behind_plus : List (List ℕ) → Result (List (List ℕ)) BadKind
behind_plus words =
    then_good (next_of words) (λ next. if bytes_eq next.0 (codes "+") then Ok next.1 else Err WrongCount)
