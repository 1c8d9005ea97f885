-- The key of two replicas stands in the table.
use Rattle.std.proofs.Common.{◌≡◌, ℕ, zero, suc, ◌+◌, ◌*◌, ◌<◌, ◌/◌, ◌%◌, List, map, get_or, ap, ◌∙◌, arith}
use Rattle.std.specs.List.{range_with_len}
use Rattle.qu_base.specs.declared.party.Party.TheVariants.{Replica}
use Rattle.qu_seal.specs.Keys.{pair_key, key_at, replica_keys}

made_at : {X : Type 0} (make : ℕ → X) (first count place : ℕ) (default : X) → place < count
    → get_or (map make (range_with_len first count)) place default ≡ make (first + place)
made_at make first zero place default within = absurd (omega arith)
made_at make first (suc count) zero default within = ap make (omega arith)
made_at make first (suc count) (suc place) default within =
    made_at make (first + 1) count place default (omega (arith, within)) ∙ ap make (omega arith)

pub key_there : (seed one two : ℕ) (default : List ℕ) → one < 16 → two < 16
    → get_or (replica_keys seed) (16 * one + two) default
    ≡ pair_key seed (Replica (record { 0 = one })) (Replica (record { 0 = two }))
unfolding replica_keys
key_there seed one two default first second =
    let row : (16 * one + two) / 16 ≡ one = omega (arith, first, second) in
    let column : (16 * one + two) % 16 ≡ two = omega (arith, first, second) in
    made_at (key_at seed) 0 256 (16 * one + two) default (omega (arith, first, second))
    ∙ ap (key_at seed) (omega arith)
    ∙ (λ i. pair_key seed (Replica (record { 0 = row i })) (Replica (record { 0 = column i })))
