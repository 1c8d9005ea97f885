-- Facts on the words of a comment.
use Rattle.std.proofs.Common.{◌≡◌, ℕ, Bool, true, false, cond, List, [], ◌∷◌, Result, Ok, Err, refl, sym, ap}
use Rattle.std.specs.Prelude.{◌&&◌}
use Rattle.std.specs.List.{list_all}
use Rattle.qu_script_words.specs.declared.bad.BadKind.{BadKind}
use Rattle.qu_script_words.specs.declared.bad.BadKind.TheVariants.{NotAscii}
use Rattle.qu_script_words.specs.Meaning.{then_good}
use Rattle.qu_script_words.specs.Words.{is_nil, is_ascii_word, next_of}
use Rattle.qu_script_words.proofs.ListedFacts.{rest_of}
use Rattle.qu_language.specs.Phase.{comment_of}

abbrev before : List (List ℕ) → List ℕ → Result (List ℕ × List (List ℕ)) BadKind
before words word = Ok (word, words)

-- a comment whose words are ASCII, or are not
abbrev comment_when : Bool → Result (Unit {0}) BadKind
comment_when ascii = cond ascii (Ok tt) (Err NotAscii)

more : (first : Bool) (word read : List ℕ) (rest words : List (List ℕ))
    → then_good (cond first (Ok word) (Err NotAscii)) (before words) ≡ Ok (read, rest)
    → comment_when (list_all is_ascii_word rest) ≡ comment_when (first && list_all is_ascii_word words)
more true word read rest words is =
    ap (λ (left : List (List ℕ)). comment_when (list_all is_ascii_word left)) (sym (ap rest_of is))
more false word read rest words is = absurd cc

pub comment_more : (words rest : List (List ℕ)) (word : List ℕ) → next_of words ≡ Ok (word, rest)
    → comment_of rest ≡ comment_of words
comment_more [] rest word is = absurd cc
comment_more (first ∷ words) rest word is = more (is_ascii_word first) first word rest words is

odd : (first : Bool) (word : List ℕ) (words : List (List ℕ)) (kind : BadKind)
    → then_good (cond first (Ok word) (Err NotAscii)) (before words) ≡ Err kind
    → comment_when (first && list_all is_ascii_word words) ≡ Err kind
odd true word words kind is = absurd cc
odd false word words kind is = cc

pub comment_odd : (words : List (List ℕ)) (kind : BadKind) → is_nil words ≡ false → next_of words ≡ Err kind
    → comment_of words ≡ Err kind
comment_odd [] kind some is = absurd cc
comment_odd (first ∷ words) kind some is = odd (is_ascii_word first) first words kind is

pub comment_end : (words : List (List ℕ)) → is_nil words ≡ true → comment_of words ≡ Ok tt
comment_end [] none = refl
comment_end (first ∷ words) none = absurd cc

pub ruleset comment_facts = (comment_more, comment_odd, comment_end)
