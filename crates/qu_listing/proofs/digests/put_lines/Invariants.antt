-- what is written so far, put before what the rest gives, is the whole
use Rattle.std.proofs.Common.{◌≡◌, ◌+◌, ◌*◌, ◌^◌, ◌≤◌, ◌++◌, drop}
use Rattle.std.specs.Prelude.{string_bytes}
use Rattle.qu_print.specs.Lines.{lines_text}
use Rattle.qu_listed.specs.Digests.{last_text, numbered_lines, sent_from}
use Rattle.qu_listing.proofs.digests.put_lines.Given as goal

abbrev pub invariant-loop-index : goal.invariant-loop-index
invariant-loop-index l = record {
  most : l.number ≤ l.index * 2 ^ 63 + 1;
  so_far : string_bytes l.text
      ++ lines_text (numbered_lines (last_text l.last) l.number (sent_from (l.index + 1) (drop l.index l.entries)))
      ≡ string_bytes l.initial.text ++ lines_text (numbered_lines (last_text l.last) 1 (sent_from 1 l.entries));
}
