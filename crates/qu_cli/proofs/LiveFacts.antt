-- Calls that a script for threads may make.
use Rattle.std.proofs.Common.{◌≡◌, ℕ, true, List, [], ◌∷◌, Result, Ok, Err, refl}
use Rattle.std.specs.Prelude.{IfErr}
use Rattle.qu_base.specs.declared.party.ClientId.{ClientId}
use Rattle.qu_objects.specs.declared.op.Op.{Op}
use Rattle.qu_trace.specs.declared.trace.Setup.{Setup}
use Rattle.qu_language.specs.Called.{MayAllCall}
use Rattle.qu_language.specs.declared.line.Script.{Script}
use Rattle.qu_language.specs.Script.{script_of}
use Rattle.qu_gather.specs.declared.torn.LiveFail.{LiveFail}
use Rattle.qu_gather.specs.declared.torn.LiveFail.TheVariants as fail
use Rattle.qu_gather.specs.Live.{AreCallsOf}
use Rattle.qu_notation.specs.declared.command.Command.TheVariants.{Live}
use Rattle.qu_cli.specs.Output.{MayFail}

pub calls_may : (setup : Setup) (calls : List (ClientId × Op)) → MayAllCall setup calls → AreCallsOf setup calls
calls_may setup [] may = tt
calls_may setup (call ∷ calls) may =
    (record { first = may.0.from_one; last = may.0.among; correct = may.0.does_not_lie }, calls_may setup calls may.1)

-- the run of a good script may be torn
may_fail : (text : List ℕ) (script : Script) (why : LiveFail) → script_of true text ≡ Ok script
    → MayFail Live text why
may_fail text script (fail.Torn torn) spelled = (refl, rw spelled refl)
may_fail text script fail.NoMemory spelled = tt

-- whatever is answered of a good script
pub fails_well : {X : Type 0} (text : List ℕ) (script : Script) (answer : Result X LiveFail)
    → script_of true text ≡ Ok script → IfErr answer (MayFail Live text)
fails_well text script (Ok made) spelled = tt
fails_well text script (Err why) spelled = may_fail text script why spelled
