-- Facts on the lines of a script.
use Rattle.std.proofs.Common.{◌≡◌, ℕ, Bool, ◌+◌, length, List, [], ◌∷◌, Ok, Err, refl, ap, sym, ◌∙◌}
use Rattle.qu_notation.specs.Text.{lines_of}
use Rattle.qu_notation.proofs.TextFacts.{lines_of-nil}
use Rattle.qu_script_words.specs.declared.bad.Bad.{Bad}
use Rattle.qu_script_words.specs.declared.bad.ScriptFail.{ScriptFail}
use Rattle.qu_script_words.specs.declared.bad.ScriptFail.TheVariants as fails
use Rattle.qu_script_words.specs.Meaning.{then_good, at_line, Fails}
use Rattle.qu_script_words.specs.Words.{words_in}
use Rattle.qu_language.specs.declared.phase.Phase.{Phase}
use Rattle.qu_language.specs.Phase.{line_rule, end_rule}
use Rattle.qu_language.specs.Script.{lines_rule}

lines_rule-cons : (live : Bool) (phase : Phase) (number : ℕ) (text : List ℕ) (texts : List (List ℕ))
    → lines_rule live phase number (text ∷ texts)
    ≡ then_good (at_line number (line_rule live phase number (words_in text)))
    (λ phase. lines_rule live phase (number + 1) texts)
unfolding lines_rule
lines_rule-cons live phase number text texts = refl

lines_rule-nil : (live : Bool) (phase : Phase) (number : ℕ)
    → lines_rule live phase number [] ≡ at_line number (end_rule phase)
unfolding lines_rule
lines_rule-nil live phase number = refl

pub lines_more : (live : Bool) (phase next : Phase) (number : ℕ) (text : List ℕ) (rest after : List (List ℕ))
    → rest ≡ text ∷ after → at_line number (line_rule live phase number (words_in text)) ≡ Ok next
    → lines_rule live next (number + 1) after ≡ lines_rule live phase number rest
lines_more live phase next number text rest after cut read =
    sym (ap (lines_rule live phase number) cut ∙ lines_rule-cons live phase number text after
    ∙ ap (λ found. then_good found (λ phase. lines_rule live phase (number + 1) after)) read)

pub lines_stop : (live : Bool) (phase : Phase) (bad : Bad) (number : ℕ) (text : List ℕ) (rest after : List (List ℕ))
    → rest ≡ text ∷ after → at_line number (line_rule live phase number (words_in text)) ≡ Err bad
    → lines_rule live phase number rest ≡ Err bad
lines_stop live phase bad number text rest after cut read =
    ap (lines_rule live phase number) cut ∙ lines_rule-cons live phase number text after
    ∙ ap (λ found. then_good found (λ phase. lines_rule live phase (number + 1) after)) read

-- a line that is not read is what is told of all lines
pub lines_fail : (live : Bool) (phase : Phase) (fail : ScriptFail) (number : ℕ) (text : List ℕ)
    (rest after : List (List ℕ))
    → rest ≡ text ∷ after → Fails fail (at_line number (line_rule live phase number (words_in text)))
    → Fails fail (lines_rule live phase number rest)
lines_fail live phase (fails.Bad bad) number text rest after cut read =
    lines_stop live phase bad number text rest after cut read
lines_fail live phase fails.NoMemory number text rest after cut read = tt

pub lines_end : (live : Bool) (phase : Phase) (number : ℕ) (text : List ℕ) → length text ≡ 0
    → lines_rule live phase number (lines_of text) ≡ at_line number (end_rule phase)
lines_end live phase number text empty =
    ap (lines_rule live phase number) (lines_of-nil text empty) ∙ lines_rule-nil live phase number
