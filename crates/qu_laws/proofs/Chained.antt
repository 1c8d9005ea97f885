-- What follows of every run whose bytes are not forged and whose digests do not collide: its decided candidates
-- are a chain, and are decided in turn.
use Rattle.std.proofs.Common.{arith}
use Rattle.qu_runs.specs.Plain.{ArePlain}
use Rattle.qu_claims.specs.Turns.{DecidesInTurn, DecidesJointly}
use Rattle.qu_claims.specs.Chained.{IsChained}
use Rattle.qu_world.specs.Run.{IsRun}
use Rattle.qu_chain.specs.Joint.{Joint}
use Rattle.qu_chain.specs.Laws.{Laws}
use Rattle.qu_claims.specs.Digested.{NoCollision}
use Rattle.qu_trace.specs.declared.trace.Trace.{Trace}
use Rattle.qu_chain.proofs.Turns.{one_turn, upon_top}
use Rattle.qu_chain.proofs.Groups.{decided_joint}
use Rattle.qu_chain.proofs.Deciding.{decided_order}
use Rattle.qu_chain.proofs.Ancestry.{one_candidate}
use Rattle.qu_laws.proofs.JointLaws.{laws, joint_laws}
use Rattle.qu_chain.proofs.Established.{chain}
use Rattle.qu_chain.proofs.Tops.{top, one_top}
use Rattle.qu_claims.specs.RunSetting.{setting}

module _ (trace : Trace) (is_run : IsRun trace) (have : ArePlain trace) (no_collision : NoCollision trace) where
  law : Laws (setting trace)
  law = laws trace is_run have no_collision

  joint : Joint (setting trace)
  joint = joint_laws trace is_run have no_collision

  pub is_chained : IsChained trace
  is_chained = record {
    chain = chain (setting trace) law (setting trace).last (omega arith);
    ordered = decided_order (setting trace) law joint;
    one = λ object first second accepted again same.
        one_candidate (setting trace) law.lasting joint.one (setting trace).last (setting trace).last (omega arith)
        (omega arith)
        object first second accepted again same;
  }

  pub decides_in_turn : DecidesInTurn trace
  decides_in_turn = record {
    one = one_turn (setting trace) law joint;
    upon_top = upon_top (setting trace) law joint;
    top = top (setting trace) law joint;
    one_top = one_top (setting trace) law joint;
  }

  pub decides_jointly : DecidesJointly trace
  decides_jointly = decided_joint (setting trace) law joint
