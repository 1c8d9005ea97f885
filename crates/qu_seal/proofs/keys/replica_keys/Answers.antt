use Rattle.std.proofs.Common.{◌≡◌, ℕ, ◌+◌, map, take, slice_set, refl, sym, ap, ◌∙◌, arith}
use Rattle.std.specs.List.{range_with_len}
use Rattle.std.proofs.lemmas.List.{take_all, length-set}
use Rattle.std.proofs.lemmas.Grind.{take-set_at}
use Rattle.qu_seal.specs.Keys.{key_at, replica_keys}
use Rattle.qu_seal.proofs.Numbers.{numbers_more}
use Rattle.qu_seal.proofs.keys.replica_keys.Goals as goal

pub loop-place-preserved : goal.loop-place-preserved
loop-place-preserved c =
    let keys = c.loop-place.keys in
    let place : ℕ = c.loop-place.place in
    record {
      size = length-set keys place c.key_at.result ∙ c.loop-place.invariant.size;
      made =
          numbers_more (key_at c.args.seed) place (take place keys)
          (take (place + 1) (slice_set keys place c.key_at.result)) c.key_at.result c.loop-place.invariant.made
          (take-set_at keys place (place + 1) c.key_at.result refl
          (omega (arith, c.loop-place-test.true, c.loop-place.invariant.size)))
          c.key_at.ensures;
    }

pub returns : goal.returns
unfolding replica_keys
returns c =
    let all : c.loop-place.place ≡ 256 =
    omega (arith, c.loop-place-test.false, c.loop-place.auto.place-end) in
    sym (take_all c.loop-place.place c.loop-place.keys
    (omega (arith, c.loop-place-test.false, c.loop-place.invariant.size)))
    ∙ c.loop-place.invariant.made
    ∙ ap (λ (count : ℕ). map (key_at c.args.seed) (range_with_len 0 count)) all
