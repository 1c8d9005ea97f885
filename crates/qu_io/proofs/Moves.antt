-- Bytes that move between lists make what a read and a write promise.
use Rattle.std.proofs.Common.{◌≡◌, ℕ, ◌<◌, ◌≤◌, List, ◌++◌, length, take, drop, Some, Ok, Err, arith, min, Result, is_ok, false, append_assoc, refl}
use Rattle.std.proofs.lemmas.Grind.{common_steps}
use Rattle.std.proofs.lemmas.List.{take-append-drop, drop-append-le}
use Rattle.qu_io.specs.declared.failed.Failed.{Failed}
use Rattle.qu_io.specs.Streams.{next_count}
use Rattle.qu_io.specs.Reads.{ReadsFrom}
use Rattle.qu_io.specs.Writes.{WritesTo}

-- the front of what was left now stands at the front of a slice
pub reads_front : (left now old new : List ℕ) (count room faults : ℕ) → 0 < room → room ≤ length old
    → count ≡ min (length left) room → now ≡ drop count left → new ≡ take count left ++ drop count old
    → ReadsFrom (record { bytes = Some left; faults = faults }) (record { bytes = Some now; faults = faults })
    (Ok count) new
reads_front left now old new count room faults some fits is rest given = record {
  fits = grind (arith, common_steps);
  takes = grind (arith, common_steps);
  ends = grind (arith, common_steps);
  empty = λ none. grind (arith, common_steps);
  keeps = tt;
  counts = grind (arith, common_steps);
  rises = tt;
  stays = refl;
}

-- a fault was counted, and nothing was read
pub reads_fault : (left now into : List ℕ) (faults faults' : ℕ) (result : Result ℕ Failed) → is_ok result ≡ false
    → now ≡ left → faults' ≡ next_count faults → faults ≤ faults'
    → ReadsFrom (record { bytes = Some left; faults = faults }) (record { bytes = Some now; faults = faults' })
    result into
reads_fault left now into faults faults' (Ok count) failure same is falls = cc
reads_fault left now into faults faults' (Err failed) failure same is falls = record {
  fits = tt;
  takes = tt;
  ends = tt;
  empty = tt;
  keeps = same;
  counts = falls;
  rises = grind arith;
  stays = tt;
}

-- a fault was counted, and nothing was taken
pub writes_fault : (taken now piece : List ℕ) (faults faults' : ℕ) (result : Result ℕ Failed)
    → is_ok result ≡ false → now ≡ taken → faults' ≡ next_count faults → faults ≤ faults'
    → WritesTo (record { bytes = Some taken; faults = faults }) (record { bytes = Some now; faults = faults' })
    result piece
writes_fault taken now piece faults faults' (Ok count) failure same is falls = cc
writes_fault taken now piece faults faults' (Err failed) failure same is falls = record {
  fits = tt;
  moves = tt;
  takes = tt;
  keeps = same;
  counts = falls;
  rises = grind arith;
  stays = tt;
}

-- the rest of a list is the rest of a front and what stands behind it
pub drop-front : (into : List ℕ) (count room : ℕ) → count ≤ room → room ≤ length into
    → drop count (take room into) ++ drop room into ≡ drop count into
drop-front into count room fits within =
    rw (← drop-append-le count (take room into) (drop room into) (grind (arith, common_steps)))
    (rw (take-append-drop room into) refl)

-- what stands in a slice of which a front was given away to be written
pub given_front : (bytes left into new : List ℕ) (count room : ℕ) → left ≡ bytes → room ≤ length into
    → count ≡ min (length left) (length (take room into)) → new ≡ take count left ++ drop count (take room into)
    → new ++ drop room into ≡ take count bytes ++ drop count into
given_front bytes left into new count room same within is given =
    rw (given, append_assoc, drop-front into count room (grind (arith, common_steps)) within, same) refl
