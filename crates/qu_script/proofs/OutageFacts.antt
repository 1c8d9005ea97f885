-- Facts on the marks of replicas.
use Rattle.std.proofs.Common.{◌≡◌, ℕ, ◌+◌, ◌<◌, ◌≤◌, Bool, List, length, get_or, drop, sym, ap, ◌∙◌}
use Rattle.std.specs.Prelude.{slice_set}
use Rattle.std.proofs.lemmas.List.{at_drop_more, at_drop_all}
use Rattle.qu_base.specs.declared.party.ReplicaId.{ReplicaId}
use Rattle.qu_script.specs.Outage.{with_marks}

-- one replica more has its mark
pub marks_more : (mark : Bool) (held after : List Bool) (replicas : List ReplicaId) (index : ℕ) (default : ReplicaId)
    → index < length replicas → after ≡ slice_set held (get_or replicas index default).0 mark
    → with_marks mark after (drop (index + 1) replicas) ≡ with_marks mark held (drop index replicas)
unfolding with_marks
marks_more mark held after replicas index default below is =
    ap (λ (it : List Bool). with_marks mark it (drop (index + 1) replicas)) is
    ∙ sym (at_drop_more (with_marks mark held) replicas index default below)

pub marks_end : (mark : Bool) (held : List Bool) (replicas : List ReplicaId) (index : ℕ) → length replicas ≤ index
    → with_marks mark held (drop index replicas) ≡ held
unfolding with_marks
marks_end mark held replicas index past = at_drop_all (with_marks mark held) replicas index past
