-- what is written so far, put before what the rest gives, is the whole
use Rattle.std.proofs.Common.{◌≡◌, ◌++◌, drop}
use Rattle.std.specs.Prelude.{string_bytes}
use Rattle.std.specs.List.{flat_map}
use Rattle.qu_notation.specs.Bytes.{byte_text}
use Rattle.qu_notation.proofs.bytes.append_bytes.Given as goal

abbrev pub invariant-loop-byte : goal.invariant-loop-byte
invariant-loop-byte l =
    string_bytes l.text ++ flat_map byte_text (drop l.byte-index l.bytes)
    ≡ string_bytes l.initial.text ++ flat_map byte_text l.bytes
