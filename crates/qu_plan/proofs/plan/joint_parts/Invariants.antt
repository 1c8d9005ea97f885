use Rattle.std.proofs.Common.{◌≡◌, None, find, take}
use Rattle.std.specs.Prelude.{filter_map}
use Rattle.std.specs.List.{All}
use Rattle.qu_history.specs.Sets.{entries_of}
use Rattle.qu_plan.specs.Copying.{is_outstanding, joint_part}
use Rattle.qu_plan.specs.Linking.{linking}
use Rattle.qu_class.specs.Rows.{AreWellFormed}
use Rattle.qu_plan.proofs.plan.joint_parts.Given as goal

abbrev pub invariant-loop-member : goal.invariant-loop-member
invariant-loop-member l = record {
  none_left : find (is_outstanding l.known.bounds l.known.sets (linking l.known.facts) l.target l.candidate)
      (take l.member-index l.members) ≡ None;
  value : l.joint ≡ filter_map (joint_part l.known.bounds l.known.sets (linking l.known.facts) l.candidate)
      (take l.member-index l.members);
  formed : All (λ part. AreWellFormed l.known.bounds (entries_of part.0 l.known.sets)) l.joint;
}
