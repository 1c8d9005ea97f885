-- Whatever a client does, it sends nothing, or the request of a round.
use Rattle.std.proofs.Common.{ℕ, List, []}
use Rattle.qu_objects.specs.declared.op.Op.{Op}
use Rattle.qu_frames.specs.declared.frame.Letter.{Letter}
use Rattle.qu_client.specs.declared.state.ClientState.{ClientState}
use Rattle.qu_client.specs.declared.whom.Whom.{Whom}
use Rattle.qu_client.specs.declared.whom.Whom.TheVariants.{Others}
use Rattle.qu_client.specs.declared.work.Work.{Work}
use Rattle.qu_client.specs.Whom.{whom_asked, first_object}
use Rattle.qu_client.specs.Rounds.{requests, asking_all}
use Rattle.qu_client.specs.Steps.{client_step, client_tick, client_invoke}
use Rattle.qu_client.proofs.Cases.{OfEach, step_cases, tick_cases, invoke_cases}

module _ (state : ClientState) (P : List Letter → Type 0) (none : P [])
    (asks : (work : Work) (whom : Whom) → P (requests state.keys state.me work whom)) where
  each_sends : OfEach state (λ kept. Unit {0}) (λ stepped. P stepped.letters)
  each_sends = record {
    quiet = record {
      same = none;
      keeps = λ kept _. none;
      counts = λ kept work replica number round verdict culled _ is counting. none;
      ends = λ kept work end _ is. none;
      rests = λ kept work named _ is _ more. none;
      ticks = λ work ticks is. none;
    };
    begins = λ kept work _ next. asks work (whom_asked work);
    asks_others = λ work is preferred. asks (asking_all work) (Others (first_object work.op));
  }

  pub step_sends : (text : List ℕ) → P (client_step state text).letters
  step_sends text =
      step_cases state (λ kept. Unit {0}) (λ stepped. P stepped.letters) (λ kept marked same _. tt) each_sends text
      (λ replica client number round verdict culled shown mac is. tt)

  pub tick_sends : P (client_tick state).letters
  tick_sends =
      tick_cases state (λ kept. Unit {0}) (λ stepped. P stepped.letters) (λ kept marked same _. tt) each_sends tt

  pub invoke_sends : (op : Op) → P (client_invoke state op).letters
  invoke_sends op = invoke_cases state op (λ stepped. P stepped.letters) (λ work first. asks work (whom_asked work))
