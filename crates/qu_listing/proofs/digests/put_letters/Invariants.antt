-- what is written so far, put before what the rest gives, is the whole
use Rattle.std.proofs.Common.{◌≡◌, ◌+◌, ◌++◌, drop, map}
use Rattle.std.specs.Prelude.{string_bytes}
use Rattle.qu_print.specs.Lines.{lines_text}
use Rattle.qu_listed.specs.Digests.{last_text, numbered_lines, sent_at}
use Rattle.qu_listing.proofs.digests.put_letters.Given as goal

abbrev pub invariant-loop-index : goal.invariant-loop-index
invariant-loop-index l =
    string_bytes l.text
    ++ lines_text
    (numbered_lines (last_text l.last) (l.first + l.index) (map (sent_at l.event) (drop l.index l.letters)))
    ≡ string_bytes l.initial.text
    ++ lines_text (numbered_lines (last_text l.last) l.first (map (sent_at l.event) l.letters))
