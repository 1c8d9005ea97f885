use Rattle.std.proofs.lemmas.Result.{IfOk-weaker}
use Rattle.qu_kept.specs.Rows.{client_of}
use Rattle.qu_kept.proofs.KeyedLaws.{own_item, other_item, rising_with}
use Rattle.qu_kept.proofs.RowLaws.{rows_fit}
use Rattle.qu_kept.proofs.rows.with_row.Goals as goal

pub returns-clause-own : goal.returns-clause-own
returns-clause-own c =
    IfOk-weaker c.replaced.result _ _ (λ new is. rw is (own_item client_of c.args.row c.args.rows.now))
    c.replaced.ensures

pub returns-clause-others : goal.returns-clause-others
returns-clause-others c = λ other differs.
    IfOk-weaker c.replaced.result _ _
    (λ new is. rw is (other_item client_of other.0 c.args.row c.args.rows.now differs)) c.replaced.ensures

pub returns-clause-rising : goal.returns-clause-rising
returns-clause-rising c = λ rising.
    IfOk-weaker c.replaced.result _ _ (λ new is. rw is (rising_with client_of c.args.row c.args.rows.now rising))
    c.replaced.ensures

pub returns-clause-room : goal.returns-clause-room
returns-clause-room c = λ clients rising all is_one.
    IfOk-weaker c.replaced.result _ _ (λ new is. rw is (rows_fit clients c.args.row c.args.rows.now rising all is_one))
    c.replaced.ensures
