-- The first number that no letter has.
use Rattle.std.proofs.Common.{◌∙◌, ◌≤◌, ◌<◌, length, sym, arith}
use Rattle.qu_trace.specs.Letters.{letters_of}
use Rattle.qu_script.proofs.WaitingFacts.{found_within, found_past}
use Rattle.qu_script.proofs.waiting.next_letter.Goals as goal

pub letters-preserved : goal.letters-preserved
letters-preserved c =
    let within : c.letters.next ≤ length (letters_of c.args.entries.now) =
    found_within (letters_of c.args.entries.now) c.letters.next c.letter.result c.letter.ensures
    (sym c.is_some.ensures ∙ c.letters-test.true) in
    record { is_letter = omega arith; sent = omega arith }

pub letters-smaller : goal.letters-smaller
letters-smaller c =
    let within : c.letters.next ≤ length (letters_of c.args.entries.now) =
    found_within (letters_of c.args.entries.now) c.letters.next c.letter.result c.letter.ensures
    (sym c.is_some.ensures ∙ c.letters-test.true) in
    grind (arith, within)

pub returns : goal.returns
returns c =
    let past : length (letters_of c.args.entries.now) < c.letters.next =
    found_past (letters_of c.args.entries.now) c.letters.next c.letter.result c.letter.ensures
    (sym c.is_some.ensures ∙ c.letters-test.false) c.letters.invariant.is_letter in
    omega arith
