-- What the words of `qu` ask for is that for which its command set has them.
use Rattle.std.proofs.Common.{◌≡◌, ℕ, Bool, true, false, cond, List, [], ◌∷◌, ◌++◌, Option, None, Some, take, drop, refl, subst, sym, ap, ◌∙◌, inl, inr}
use Rattle.std.specs.Prelude.{◌↔◌, ◌⊎◌, codes, if◌then◌else◌}
use Rattle.std.proofs.lemmas.List.{take-append-drop}
use Rattle.std.specs.Cmp.Lexicographic.{bytes_decides}
use Rattle.std.specs.Option.{option_map}
use Rattle.std.specs.Str.{bytes_eq}
use Rattle.qu_notation.specs.declared.command.Command.{Command}
use Rattle.qu_notation.specs.declared.command.Command.TheVariants.{Sim, Live, SimGen, Gen}
use Rattle.qu_notation.specs.declared.command.Telling.TheVariants.{Operations, Events, Digests, Bytes, Summary}
use Rattle.qu_notation.specs.Words.{are_words, short_number, joined_number, two_words, three_words, alone_command_of, AsksFor}
use Rattle.qu_notation.proofs.WordFacts.{same_words}

same_word : (word those : List ℕ) → bytes_eq word those ≡ true → word ≡ those
same_word word those same = (bytes_decides word those).0 same

-- ---- what is asked for is in the set

by_test : (test : Bool) (words : List (List ℕ)) (command : Command) (here other : Option Command)
    → cond test here other ≡ Some command → (test ≡ true → here ≡ Some command → AsksFor words command)
    → (other ≡ Some command → AsksFor words command) → AsksFor words command
by_test true words command here other is holds fails = holds refl is
by_test false words command here other is holds fails = fails is

-- a command that has a number has it of the words
by_number : (make : ℕ → Command) (words : List (List ℕ)) (found : Option ℕ) (command : Command)
    → option_map make found ≡ Some command → ((number : ℕ) → found ≡ Some number → AsksFor words (make number))
    → AsksFor words command
by_number make words None command is asks = absurd (cc)
by_number make words (Some number) command is asks =
    let same : make number ≡ command = cc in subst (λ (it : Command). AsksFor words it) same (asks number refl)

-- what stands behind the flag in one word with it
joined_by : (test : Bool) (second : List ℕ) (number : ℕ) → bytes_eq (take 6 second) (codes "--gen=") ≡ test
    → cond test (short_number (drop 6 second)) None ≡ Some number
    → (second ≡ codes "--gen=" ++ drop 6 second) × (short_number (drop 6 second) ≡ Some number)
joined_by true second number same is = (
  sym (take-append-drop 6 second) ∙ ap (λ (it : List ℕ). it ++ drop 6 second)
      (same_word (take 6 second) (codes "--gen=") same),
  is,
)
joined_by false second number same is = absurd (cc)

joined_asked : (first second : List ℕ) (number : ℕ) → bytes_eq first (codes "sim") ≡ true
    → joined_number second ≡ Some number → AsksFor (first ∷ second ∷ []) (SimGen number)
unfolding joined_number
joined_asked first second number same is =
    let behind = joined_by (bytes_eq (take 6 second) (codes "--gen=")) second number refl is in
    record {
      digits = drop 6 second;
      writes = behind.1;
      asks = inr (ap (λ (it : List ℕ). it ∷ second ∷ []) (same_word first (codes "sim") same)
          ∙ ap (λ (it : List ℕ). codes "sim" ∷ it ∷ []) behind.0);
    }

two_asked : (first second : List ℕ) (command : Command) → two_words first second ≡ Some command
    → AsksFor (first ∷ second ∷ []) command
unfolding two_words
two_asked first second command is =
    by_test (bytes_eq first (codes "sim")) (first ∷ second ∷ []) command (option_map SimGen (joined_number second))
    (if bytes_eq first (codes "gen") then option_map Gen (short_number second) else None) is
    (λ same found. by_number SimGen (first ∷ second ∷ []) (joined_number second) command found
    (λ number. joined_asked first second number same))
    (λ other. by_test (bytes_eq first (codes "gen")) (first ∷ second ∷ []) command
    (option_map Gen (short_number second)) None other
    (λ same found. by_number Gen (first ∷ second ∷ []) (short_number second) command found
    (λ number writes. record {
      digits = second;
      writes = writes;
      asks = inl (ap (λ (it : List ℕ). it ∷ second ∷ []) (same_word first (codes "gen") same));
    }))
    (λ none. absurd (cc)))

front_same : (first second third one other : List ℕ) → are_words (first ∷ second ∷ []) (one ∷ other ∷ []) ≡ true
    → first ∷ second ∷ third ∷ [] ≡ one ∷ other ∷ third ∷ []
front_same first second third one other same =
    ap (λ (it : List (List ℕ)). it ++ third ∷ []) (same_words (first ∷ second ∷ []) (one ∷ other ∷ []) same)

three_asked : (first second third : List ℕ) (command : Command) → three_words first second third ≡ Some command
    → AsksFor (first ∷ second ∷ third ∷ []) command
unfolding three_words
three_asked first second third command is =
    by_test (are_words (first ∷ second ∷ []) (codes "sim" ∷ codes "--gen" ∷ [])) (first ∷ second ∷ third ∷ []) command
    (option_map SimGen (short_number third))
    (if are_words (first ∷ second ∷ []) (codes "gen" ∷ codes "--" ∷ []) then option_map Gen (short_number third)
    else None) is
    (λ same found. by_number SimGen (first ∷ second ∷ third ∷ []) (short_number third) command found
    (λ number writes. record {
      digits = third;
      writes = writes;
      asks = inl (front_same first second third (codes "sim") (codes "--gen") same);
    }))
    (λ other. by_test (are_words (first ∷ second ∷ []) (codes "gen" ∷ codes "--" ∷ []))
    (first ∷ second ∷ third ∷ []) command (option_map Gen (short_number third)) None other
    (λ same found. by_number Gen (first ∷ second ∷ third ∷ []) (short_number third) command found
    (λ number writes. record {
      digits = third;
      writes = writes;
      asks = inr (front_same first second third (codes "gen") (codes "--") same);
    }))
    (λ none. absurd (cc)))

asked : (words : List (List ℕ)) (command : Command) → alone_command_of words ≡ Some command → AsksFor words command
unfolding alone_command_of
asked [] command is = absurd (cc)
asked (word ∷ []) command is =
    by_test (bytes_eq word (codes "sim")) (word ∷ []) command (Some (Sim Operations)) None is
    (λ same found. let equal : Sim Operations ≡ command = cc in
    subst (λ (it : Command). AsksFor (word ∷ []) it) equal
    (ap (λ (it : List ℕ). it ∷ []) (same_word word (codes "sim") same)))
    (λ none. absurd (cc))
asked (first ∷ second ∷ []) command is = two_asked first second command is
asked (first ∷ second ∷ third ∷ []) command is = three_asked first second third command is
asked (first ∷ second ∷ third ∷ fourth ∷ words) command is = absurd (cc)

-- ---- what is in the set is asked for

found : (words : List (List ℕ)) (command : Command) → AsksFor words command → alone_command_of words ≡ Some command
unfolding alone_command_of two_words three_words joined_number
found words (Sim Operations) is = rw is refl
found words (Sim Events) is = absurd is
found words (Sim Digests) is = absurd is
found words (Sim Bytes) is = absurd is
found words (Sim (Summary number)) is = absurd is
found words Live is = absurd is
found words (SimGen number) is = by is.asks
  where
    by : (words ≡ codes "sim" ∷ codes "--gen" ∷ is.digits ∷ [])
        ⊎ (words ≡ codes "sim" ∷ (codes "--gen=" ++ is.digits) ∷ [])
        → alone_command_of words ≡ Some (SimGen number)
    by (inl same) = rw same (ap (option_map SimGen) is.writes)
    by (inr same) = rw same (ap (option_map SimGen) is.writes)
found words (Gen number) is = by is.asks
  where
    by : (words ≡ codes "gen" ∷ is.digits ∷ []) ⊎ (words ≡ codes "gen" ∷ codes "--" ∷ is.digits ∷ [])
        → alone_command_of words ≡ Some (Gen number)
    by (inl same) = rw same (ap (option_map Gen) is.writes)
    by (inr same) = rw same (ap (option_map Gen) is.writes)

-- ---- both ways

pub alone_listed : (words : List (List ℕ)) (command : Command)
    → (alone_command_of words ≡ Some command) ↔ AsksFor words command
alone_listed words command = (asked words command, found words command)
