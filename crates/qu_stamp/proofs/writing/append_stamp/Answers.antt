use Rattle.std.proofs.Common.{◌≡◌, ℕ, List, ◌++◌, append_assoc}
use Rattle.qu_stamp.specs.Formats.{stamp_with}
use Rattle.qu_stamp.proofs.writing.append_stamp.Goals as goal

-- five pieces one behind the other
pieces : (start one two three four end a b c d e : List ℕ) → one ≡ start ++ a → two ≡ one ++ b → three ≡ two ++ c
    → four ≡ three ++ d → end ≡ four ++ e
    → end ≡ start ++ (a ++ (b ++ (c ++ (d ++ e))))
pieces start one two three four end a b c d e first second third fourth fifth =
    rw (fifth, fourth, third, second, first) (simp append_assoc)

pub returns-clause-ok : goal.returns-clause-ok
unfolding stamp_with
returns-clause-ok c =
    pieces _ _ _ _ _ _ _ _ _ _ _ c.in_ok-u64.ensures.ok c.in_ok-flag.ensures.ok c.in_ok-u16.ensures.ok
    c.in_ok-append_act.ensures.ok c.in_ok-put.ensures.ok
