-- Facts on what is taken from a source and put into a sink, one call after another.
use Rattle.std.proofs.Common.{ℕ, ◌+◌, ◌-◌, List, length, take, drop, length-drop, Option, arith}
use Rattle.std.proofs.lemmas.List.{take_all}
use Rattle.std.proofs.Math.Seq.{take-add}
use Rattle.std.proofs.KnownBytes.{Appends-trans}
use Rattle.std.specs.Io.KnownBytes.{Appends}

-- the front of a text, and then a front of its rest
pub front_more : (a b c : Option (List ℕ)) (i n : ℕ) (text : List ℕ) → Appends a b (take i text)
    → Appends b c (take n (take (length text - i) (drop i text))) → Appends a c (take (i + n) text)
front_more a b c i n text first second =
    let whole = take_all (length text - i) (drop i text) (simp length-drop (omega arith)) in
    rw (take-add i n text) (Appends-trans a b c (take i text) (take n (drop i text)) first (rw whole at second))
