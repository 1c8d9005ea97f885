-- Histories with the same parts are one.
use Rattle.std.proofs.Common.{rules, ◌≡◌, true, sym, ◌∙◌}
use Rattle.std.specs.Cmp.Lexicographic.{pointwise}
use Rattle.qu_stamp.specs.Candidate.{same}
use Rattle.qu_stamp.specs.Stamp.{same_stamp}
use Rattle.qu_stamp.proofs.Order.{decides_candidates}
use Rattle.qu_replica.proofs.seals.is_same.Goals as goal

pub returns-then-eq-2 : goal.returns-then-eq-2
unfolding same_stamp
returns-then-eq-2 c = λ same_all.
    let one = c.args.one.now in
    let other = c.args.other.now in
    let object : one.object ≡ other.object = search rules in
    let replica : one.replica ≡ other.replica = search rules in
    let alike : pointwise same c.as_slice.result.now c.as_slice-then-eq-2.result.now ≡ true =
    sym c.eq-then-eq-2.ensures ∙ same_all in
    let equal : c.as_slice.result.now ≡ c.as_slice-then-eq-2.result.now =
    (decides_candidates c.as_slice.result.now c.as_slice-then-eq-2.result.now).0 alike in
    let candidates : one.candidates ≡ other.candidates = search rules in
    λ i. record { object = object i; replica = replica i; candidates = candidates i }
