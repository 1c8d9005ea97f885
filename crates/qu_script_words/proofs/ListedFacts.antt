-- Facts on what words say that are read one after another.
use Rattle.std.proofs.Common.{◌≡◌, ℕ, ◌<◌, true, false, List, [], ◌∷◌, ◌++◌, length, Result, Ok, Err, refl, sym, ap, ◌∙◌, append_assoc, append-nil, arith}
use Rattle.qu_base.specs.declared.party.ReplicaId.{ReplicaId}
use Rattle.qu_script_words.specs.declared.bad.BadKind.{BadKind}
use Rattle.qu_script_words.specs.Meaning.{then_good}
use Rattle.qu_script_words.specs.Parties.{replica_rule}
use Rattle.qu_script_words.specs.Words.{is_nil, ascii_word, next_of, all_of}

-- what was said so far with what the words say that are left
abbrev pub listed_with : {X : Type 0} → (List ℕ → Result X BadKind) → List X → List (List ℕ)
    → Result (List X) BadKind
listed_with rule these words = then_good (all_of rule words) (λ more. Ok (these ++ more))

abbrev onto_said : {X : Type 0} → (List ℕ → Result X BadKind) → List ℕ → List (List ℕ) → Result (List X) BadKind
onto_said rule word words =
    then_good (rule word) (λ said. then_good (all_of rule words) (λ more. Ok (said ∷ more)))

abbrev before : List (List ℕ) → List ℕ → Result (List ℕ × List (List ℕ)) BadKind
before words word = Ok (word, words)

again : {X : Type 0} (rule : List ℕ → Result X BadKind) (words : List (List ℕ)) (word : Result (List ℕ) BadKind)
    → then_good word (λ word. onto_said rule word words)
    ≡ then_good (then_good word (before words)) (λ next. onto_said rule next.0 next.1)
again rule words (Ok word) = refl
again rule words (Err kind) = refl

-- the next word, and then those behind it
step : {X : Type 0} (rule : List ℕ → Result X BadKind) (words : List (List ℕ)) → is_nil words ≡ false
    → all_of rule words ≡ then_good (next_of words) (λ next. onto_said rule next.0 next.1)
unfolding all_of
step rule [] some = absurd cc
step rule (word ∷ words) some = again rule words (ascii_word word)

next_is_some : (words rest : List (List ℕ)) (word : List ℕ) → next_of words ≡ Ok (word, rest) → is_nil words ≡ false
next_is_some [] rest word is = absurd cc
next_is_some (first ∷ words) rest word is = refl

onto_back : {X : Type 0} (these : List X) (said : X) (rest : Result (List X) BadKind)
    → then_good (then_good rest (λ more. Ok (said ∷ more))) (λ more. Ok (these ++ more)) ≡ then_good rest
    (λ more. Ok ((these ++ said ∷ []) ++ more))
onto_back these said (Ok more) = ap Ok (sym (append_assoc these (said ∷ []) more))
onto_back these said (Err kind) = refl

pub listed_more : {X : Type 0} (rule : List ℕ → Result X BadKind) (these : List X) (said : X)
    (words rest : List (List ℕ)) (word : List ℕ) → next_of words ≡ Ok (word, rest) → rule word ≡ Ok said
    → listed_with rule (these ++ said ∷ []) rest ≡ listed_with rule these words
listed_more rule these said words rest word is says =
    sym (ap (λ found. then_good found (λ more. Ok (these ++ more)))
    (step rule words (next_is_some words rest word is)
    ∙ ap (λ next. then_good next (λ next. onto_said rule next.0 next.1)) is
    ∙ ap (λ said. then_good said (λ said. then_good (all_of rule rest) (λ more. Ok (said ∷ more)))) says)
    ∙ onto_back these said (all_of rule rest))

-- the next word is not ASCII
pub listed_odd : {X : Type 0} (rule : List ℕ → Result X BadKind) (these : List X) (words : List (List ℕ))
    (kind : BadKind) → is_nil words ≡ false → next_of words ≡ Err kind → listed_with rule these words ≡ Err kind
listed_odd rule these words kind some is =
    ap (λ found. then_good found (λ more. Ok (these ++ more)))
    (step rule words some ∙ ap (λ next. then_good next (λ next. onto_said rule next.0 next.1)) is)

-- the next word says nothing
pub listed_bad : {X : Type 0} (rule : List ℕ → Result X BadKind) (these : List X) (words rest : List (List ℕ))
    (word : List ℕ) (kind : BadKind) → next_of words ≡ Ok (word, rest) → rule word ≡ Err kind
    → listed_with rule these words ≡ Err kind
listed_bad rule these words rest word kind is says =
    ap (λ found. then_good found (λ more. Ok (these ++ more)))
    (step rule words (next_is_some words rest word is)
    ∙ ap (λ next. then_good next (λ next. onto_said rule next.0 next.1)) is
    ∙ ap (λ said. then_good said (λ said. then_good (all_of rule rest) (λ more. Ok (said ∷ more)))) says)

-- the same of a word that names no replica
pub replicas_bad : (bounds : ℕ) (these : List ReplicaId) (words rest : List (List ℕ)) (word : List ℕ) (kind : BadKind)
    → next_of words ≡ Ok (word, rest) → replica_rule bounds word ≡ Err kind
    → listed_with (replica_rule bounds) these words ≡ Err kind
replicas_bad bounds these words rest word kind is says =
    listed_bad (replica_rule bounds) these words rest word kind is says

pub listed_end : {X : Type 0} (rule : List ℕ → Result X BadKind) (these : List X) (words : List (List ℕ))
    → is_nil words ≡ true → listed_with rule these words ≡ Ok these
unfolding all_of
listed_end rule these [] none = ap Ok (append-nil these)
listed_end rule these (word ∷ words) none = absurd cc

pub listed_start : {X : Type 0} (rule : List ℕ → Result X BadKind) (words : List (List ℕ))
    → listed_with rule [] words ≡ all_of rule words
listed_start rule words = same (all_of rule words)
  where
    same : {X : Type 0} (found : Result (List X) BadKind) → then_good found (λ more. Ok ([] ++ more)) ≡ found
    same (Ok more) = refl
    same (Err kind) = refl

abbrev pub rest_of : Result (List ℕ × List (List ℕ)) BadKind → List (List ℕ)
rest_of (Ok next) = next.1
rest_of (Err kind) = []

after_word : (words rest : List (List ℕ)) (word : List ℕ) (first : Result (List ℕ) BadKind)
    → then_good first (before words) ≡ Ok (word, rest) → rest ≡ words
after_word words rest word (Ok first) is = sym (ap rest_of is)
after_word words rest word (Err kind) is = absurd cc

pub next_is_shorter : (words rest : List (List ℕ)) (word : List ℕ) → next_of words ≡ Ok (word, rest)
    → length rest < length words
next_is_shorter [] rest word is = absurd cc
next_is_shorter (first ∷ words) rest word is =
    omega (arith, ap length (after_word words rest word (ascii_word first) is))

pub ruleset listed_facts =
    (listed_more, listed_odd, listed_bad, replicas_bad, listed_end, listed_start, next_is_shorter)
