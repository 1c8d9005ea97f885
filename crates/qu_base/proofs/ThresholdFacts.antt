-- What a proof may use of the sizes of quorums.
use Rattle.std.proofs.Common.{◌≡◌, ℕ, zero, suc, ◌≤◌, ◌<◌, true, refl, arith}
use Rattle.std.specs.Prelude.{IsTrue}
use Rattle.std.proofs.lemmas.Bool.{false≢true}
use Rattle.std.proofs.lemmas.Bool.Decides.{nat_tests}
use Rattle.qu_base.specs.declared.limits.TheConstants.{MOST_FAULTS, REPLICA_IDS}
use Rattle.qu_base.specs.Bounds.{replicas, is_replica_count, quorum, repair, AreThresholds}

-- the sizes for at least one lying replica
pub are_thresholds : (b : ℕ) → 1 ≤ b → AreThresholds b
unfolding replicas quorum repair
are_thresholds b some = record {
  quorum_meets_repair = omega arith;
  quorums_share_repair = omega arith;
  correct_make_quorum = omega arith;
  repair_outnumbers = omega arith;
}

-- a quorum has a member
pub some_quorum : (b : ℕ) → 0 < quorum b
unfolding quorum
some_quorum b = omega arith

-- ---- the number of replicas

pub replicas_are_few : (b : ℕ) → b ≤ MOST_FAULTS → replicas b ≤ REPLICA_IDS
unfolding replicas
replicas_are_few b few = omega arith

pub replicas_are_count : (b : ℕ) → 1 ≤ b → b ≤ MOST_FAULTS → is_replica_count (replicas b) ≡ true
unfolding is_replica_count replicas
replicas_are_count zero some few = absurd (omega arith)
replicas_are_count (suc zero) some few = refl
replicas_are_count (suc (suc zero)) some few = refl
replicas_are_count (suc (suc (suc zero))) some few = refl
replicas_are_count (suc (suc (suc (suc more)))) some few = absurd (omega arith)

pub count_is_few : (count : ℕ) → IsTrue (is_replica_count count) → count ≤ REPLICA_IDS
unfolding is_replica_count replicas
count_is_few count is = grind (arith, nat_tests)

-- a number of replicas that some number of faults wants is that of one fault or more
pub count_has_faults : (b : ℕ) → is_replica_count (replicas b) ≡ true → 1 ≤ b
unfolding is_replica_count replicas
count_has_faults zero is = absurd (false≢true is)
count_has_faults (suc b) is = omega arith
