-- The histories that grew are those of what is accepted.
use Rattle.std.proofs.Common.{rules, ◌≡◌, ◌<◌, List, [], ◌∷◌, ◌++◌, length, take, sym, subst, ap, ◌∙◌}
use Rattle.std.specs.List.{AllByRecursion}
use Rattle.std.proofs.lemmas.List.{take_more, take_all}
use Rattle.qu_base.proofs.EachItem.{each_push}
use Rattle.qu_history.specs.History.{ObjectHistory}
use Rattle.qu_mends.specs.declared.accepted.Accepted.{Accepted}
use Rattle.qu_rows.specs.Allowed.{MayAccept}
use Rattle.qu_rows.specs.State.{ReplicaState, AreHistories}
use Rattle.qu_fitting.specs.Holding.{with_histories}
use Rattle.qu_fitting.proofs.Accepting.{grown_place}
use Rattle.qu_fitting.proofs.AcceptingAll.{with_candidates, accept_all-is, grown_more, one_of}
use Rattle.qu_replica.proofs.replica.Replica.grown_each.Goals as goal

pub grown-requires : goal.grown-requires
grown-requires c =
    (one_of c.args.self.now c.args.accepted.now c.loop-one.one-index c.one-item.result c.requires
    c.loop-one-test.true c.one-item.is).0

pub loop-one-preserved : goal.loop-one-preserved
loop-one-preserved c =
    let state : ReplicaState = c.args.self.now in
    let own : AreHistories state = search rules in
    let one : Accepted = c.one-item.result in
    let may : MayAccept state one × AllByRecursion (λ other. other.object ≡ one.object → ⊥)
    (take c.loop-one.one-index c.args.accepted.now) =
    one_of state c.args.accepted.now c.loop-one.one-index one c.requires c.loop-one-test.true c.one-item.is in
    let history : ObjectHistory = c.in_ok-grown.field-0 in
    let place : (history.object).0 ≡ (one.object).0 =
    grown_place state one history own may.0 c.in_ok-grown.ensures in
    record {
      histories = ap (λ (grown : List ObjectHistory). with_histories grown state.histories) c.in_ok-push.ensures.ok
          ∙ grown_more (take c.loop-one.one-index c.args.accepted.now) one c.loop-one.grown history state.histories
          may.1 c.loop-one.invariant.histories c.in_ok-grown.ensures place
          ∙ ap (λ (them : List Accepted). with_candidates them state.histories)
          (sym (take_more c.args.accepted.now c.loop-one.one-index one c.loop-one-test.true
          ∙ ap (λ (it : Accepted). take c.loop-one.one-index c.args.accepted.now ++ it ∷ []) (sym c.one-item.is)));
      known = subst (AllByRecursion (λ (it : ObjectHistory). (it.object).0 < length state.histories))
          (sym c.in_ok-push.ensures.ok)
          (each_push (λ (it : ObjectHistory). (it.object).0 < length state.histories) c.loop-one.grown history
          c.loop-one.invariant.known (subst (λ at. at < length state.histories) (sym place) may.0.known));
    }

pub returns-clause-histories : goal.returns-clause-histories
returns-clause-histories c =
    let state : ReplicaState = c.args.self.now in
    c.loop-one.invariant.histories
    ∙ ap (λ (them : List Accepted). with_candidates them state.histories)
    (take_all c.loop-one.one-index c.args.accepted.now c.loop-one-test.false)
    ∙ sym (ap (λ (it : ReplicaState). it.histories) (accept_all-is state c.args.accepted.now))
