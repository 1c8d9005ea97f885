-- The candidates so far are the first ones of the history.
use Rattle.std.proofs.Common.{◌≡◌, take}
use Rattle.qu_adversary.proofs.naming.in_name_of.Given as goal

abbrev pub invariant-loop-place : goal.invariant-loop-place
invariant-loop-place l =
    l.named ≡ record { object = l.history.object; replica = l.fn.me; candidates = take l.place l.history.candidates }
