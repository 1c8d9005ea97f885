-- Behind a pair that is put at the end stands a blank less.
use Rattle.std.proofs.Common.{◌≡◌, ℕ, zero, suc, ◌+◌, ◌-◌, ◌<◌, List, [], ◌∷◌, drop, set, ap, ◌∙◌, arith, drop-set-lt}
use Rattle.qu_base.specs.declared.party.ObjectId.{ObjectId}
use Rattle.qu_stamp.specs.Blanks.{room, blanks}

drop_one_more : (many count : ℕ) (cells : List (ObjectId × ℕ)) → drop many cells ≡ blanks (suc count)
    → drop (suc many) cells ≡ blanks count
drop_one_more zero count [] is = ap (drop 1) is
drop_one_more zero count (cell ∷ later) is = ap (drop 1) is
drop_one_more (suc many) count [] is = ap (drop 1) is
drop_one_more (suc many) count (cell ∷ later) is = drop_one_more many count later is

pub blanks_behind : (cells : List (ObjectId × ℕ)) (len : ℕ) (pair : ObjectId × ℕ) → len < room
    → drop len cells ≡ blanks (room - len) → drop (len + 1) (set cells len pair) ≡ blanks (room - (len + 1))
blanks_behind cells len pair fits behind =
    let one_less : room - len ≡ suc (room - (len + 1)) = omega arith in
    let one_more : len + 1 ≡ suc len = omega arith in
    drop-set-lt (len + 1) cells len pair (omega arith)
    ∙ ap (λ (many : ℕ). drop many cells) one_more
    ∙ drop_one_more len (room - (len + 1)) cells (behind ∙ ap blanks one_less)
