use Rattle.std.proofs.Common.{◌≡◌, length, map, take}
use Rattle.std.specs.List.{range_with_len}
use Rattle.qu_seal.specs.Keys.{key_at}
use Rattle.qu_seal.proofs.keys.replica_keys.Given as goal

-- the keys of the places so far
abbrev pub invariant-loop-place : goal.invariant-loop-place
invariant-loop-place l = record {
  size : length l.keys ≡ 256;
  made : take l.place l.keys ≡ map (key_at l.seed) (range_with_len 0 l.place);
}
