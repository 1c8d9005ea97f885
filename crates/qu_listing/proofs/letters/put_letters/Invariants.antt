-- what is written so far, put before what the rest gives, is the whole; and so is what is known of the letters
use Rattle.std.proofs.Common.{◌≡◌, ◌+◌, ◌++◌, length, map, drop}
use Rattle.std.specs.Prelude.{string_bytes}
use Rattle.qu_print.specs.Lines.{lines_text}
use Rattle.qu_listed.specs.Events.{letter_lines}
use Rattle.qu_listing.specs.SoFar.{sent_of}
use Rattle.qu_listing.proofs.letters.put_letters.Given as goal

abbrev pub invariant-loop-letter : goal.invariant-loop-letter
invariant-loop-letter l = record {
  text : string_bytes l.text
      ++ lines_text (letter_lines (length l.sent + 1) (drop l.letter-index l.letters))
      ≡ string_bytes l.initial.text ++ lines_text (letter_lines (length l.initial.sent + 1) l.letters);
  sent : l.sent ++ map (sent_of l.receivers) (drop l.letter-index l.letters)
      ≡ l.initial.sent ++ map (sent_of l.receivers) l.letters;
}
