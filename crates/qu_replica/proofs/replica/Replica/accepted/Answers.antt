-- What is gained with what is accepted is what accepting makes.
use Rattle.std.proofs.Common.{◌≤◌, ◌++◌, length, sym, subst, ap, ◌∙◌}
use Rattle.qu_replica.specs.declared.planned.Gain.{Gain}
use Rattle.qu_replica.specs.Growth.{MayGain}
use Rattle.qu_replica.specs.State.{with_gain}
use Rattle.qu_replica.proofs.States.Gains.{gain_is_accepted, gain_may}
use Rattle.qu_replica.proofs.replica.Replica.accepted.Goals as goal
use Rattle.qu_versions.specs.declared.limits.TheConstants.{MOST_VERSIONS}

pub returns-clause-state : goal.returns-clause-state
returns-clause-state c =
    let made = c.in_ok-histories in
    ap (with_gain c.args.self.now) (c.in_ok-gain.ensures.value ∙ c.with_accepted.ensures)
    ∙ gain_is_accepted c.args.self.now c.args.accepted.now c.args.gain made.histories made.versions
    made.ensures.histories made.ensures.versions c.requires.histories c.requires.versions

pub returns-clause-may : goal.returns-clause-may
returns-clause-may c =
    let made = c.in_ok-histories in
    let grown = c.in_ok-gain.ensures.value ∙ c.with_accepted.ensures in
    subst (MayGain c.args.self.now) (sym grown)
    (gain_may c.args.self.now c.args.accepted.now c.args.gain made.histories made.versions made.ensures.histories
    made.ensures.versions made.ensures.own c.requires.may made.ensures.known made.ensures.slots c.requires.turn
    (subst (λ (it : Gain). length ((c.args.self.now.versions ++ it.found) ++ it.versions) ≤ MOST_VERSIONS) grown
    c.in_ok-gain.ensures.room))
