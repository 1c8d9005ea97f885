-- The order of stamps: field by field, as that of logical timestamps in Query/Update.
use mathlib.Core.Bool.{beq}
use Rattle.std.specs.Prelude.{Bool, false, not, ◌==◌, ◌&&◌, nat_eq, None, length, [], ◌∷◌}
use Rattle.std.specs.List.{repeat}
use Rattle.std.specs.declared.cmp.Ordering.{Ordering}
use Rattle.std.specs.Ordering.{nat_cmp, bool_cmp, ordering_then, is_lt}
use Rattle.std.specs.Option.{option_cmp, option_eq}
use Rattle.std.specs.Cmp.Lexicographic.{slice_cmp, pointwise}
use Rattle.qu_base.specs.declared.party.Digest.{Digest}
use Rattle.qu_stamp.specs.declared.stamp.Stamp.{Stamp}

-- the stamp with which each object begins
abbrev pub opening_stamp : Stamp
opening_stamp =
    record { time = 0; barrier = false; client = record { 0 = 0 }; act = None; set = record { 0 = repeat 32 (0 ∷ []) } }

-- a digest has 32 bytes
abbrev pub is_sized : Digest → Bool
is_sized digest = length digest.0 == 32

-- digests compare by their bytes; lists of another length, which are none, stand above them, so that
-- the opening stamp is the least of all
abbrev pub digest_cmp : Digest → Digest → Ordering
digest_cmp a b = ordering_then (bool_cmp (not (is_sized a)) (not (is_sized b))) (slice_cmp nat_cmp a.0 b.0)

-- the first fields decide, and the later ones where these are equal
unfoldable pub stamp_cmp : Stamp → Stamp → Ordering
stamp_cmp a b =
    ordering_then (nat_cmp a.time b.time)
    (ordering_then (bool_cmp a.barrier b.barrier)
    (ordering_then (nat_cmp (a.client).0 (b.client).0)
    (ordering_then (option_cmp digest_cmp a.act b.act)
    (digest_cmp a.set b.set))))

unfoldable pub is_below : Stamp → Stamp → Bool
is_below a b = is_lt (stamp_cmp a b)

abbrev pub same_digest : Digest → Digest → Bool
same_digest a b = pointwise nat_eq a.0 b.0

unfoldable pub same_stamp : Stamp → Stamp → Bool
same_stamp a b =
    a.time == b.time
    && (beq a.barrier b.barrier
    && ((a.client).0 == (b.client).0
    && (option_eq same_digest a.act b.act && same_digest a.set b.set)))
