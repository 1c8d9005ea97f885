-- the senders so far stand behind the others
use Rattle.std.proofs.Common.{◌≡◌, ◌++◌, map, take}
use Rattle.qu_frames.specs.declared.frame.Letter.{Letter}
use Rattle.qu_gather.proofs.ticks.put_senders.Given as goal

abbrev pub invariant-loop-letter : goal.invariant-loop-letter
invariant-loop-letter l =
    l.senders.items ≡ l.fn.senders.items ++ map (λ (letter : Letter). letter.from) (take l.letter-index l.letters)
