-- What words ask for is what a set lists them with, and the one word `live` asks for a run on threads.
use Rattle.std.proofs.Common.{◌≡◌, ◌<◌, ℕ, zero, suc, Bool, true, false, cond, List, [], ◌∷◌, Some, Contains, refl, subst, sym, ap, ap₂, ◌∙◌, arith}
use Rattle.std.specs.Prelude.{◌↔◌}
use Rattle.std.specs.Cmp.Lexicographic.{pointwise_decides, bytes_decides}
use Rattle.qu_notation.specs.declared.command.Command.{Command}
use Rattle.qu_notation.specs.Words.{Listed, command_in, are_words, live_words, asks_live, letters_commands}

pub same_words : (words those : List (List ℕ)) → are_words words those ≡ true → words ≡ those
same_words words those same = (pointwise_decides bytes_decides words those).0 same

-- ---- what is found is listed

here : (words : List (List ℕ)) (command : Command) (listed : Listed) (others : List Listed) → words ≡ listed.0
    → Some listed.1 ≡ Some command → Contains (listed ∷ others) (words, command)
here words command listed others same is =
    let told : listed.1 ≡ command = cc in
    (zero, omega arith, ap₂ (λ (those : List (List ℕ)) (it : Command). (those, it)) (sym same) told)

later : (found : Listed) (listed : Listed) (others : List Listed) → Contains others found
    → Contains (listed ∷ others) found
later found listed others there = (suc there.0, omega (arith, there.1), there.2)

by_test : (test : Bool) (words : List (List ℕ)) (command : Command) (listed : Listed) (others : List Listed)
    → are_words words listed.0 ≡ test → cond test (Some listed.1) (command_in others words) ≡ Some command
    → (command_in others words ≡ Some command → Contains others (words, command))
    → Contains (listed ∷ others) (words, command)
by_test true words command listed others same is among =
    here words command listed others (same_words words listed.0 same) is
by_test false words command listed others other is among = later (words, command) listed others (among is)

found_listed : (set : List Listed) (words : List (List ℕ)) (command : Command) → command_in set words ≡ Some command
    → Contains set (words, command)
unfolding command_in
found_listed [] words command is = absurd (cc)
found_listed (listed ∷ others) words command is =
    by_test (are_words words listed.0) words command listed others refl is (found_listed others words command)

-- ---- what is listed is found, since no words are listed twice

letters_found : (words : List (List ℕ)) (command : Command) → Contains letters_commands (words, command)
    → command_in letters_commands words ≡ Some command
unfolding command_in
letters_found words command (zero, below, is) =
    subst (λ (it : Listed). command_in letters_commands it.0 ≡ Some it.1) is refl
letters_found words command (suc zero, below, is) =
    subst (λ (it : Listed). command_in letters_commands it.0 ≡ Some it.1) is refl
letters_found words command (suc (suc zero), below, is) =
    subst (λ (it : Listed). command_in letters_commands it.0 ≡ Some it.1) is refl
letters_found words command (suc (suc (suc k)), below, is) = absurd (omega (arith, below))

-- ---- both ways

pub letters_listed : (words : List (List ℕ)) (command : Command)
    → (command_in letters_commands words ≡ Some command) ↔ Contains letters_commands (words, command)
letters_listed words command = (found_listed letters_commands words command, letters_found words command)

pub live_listed : (words : List (List ℕ)) → (asks_live words ≡ true) ↔ (words ≡ live_words)
live_listed words = pointwise_decides bytes_decides words live_words
