-- What is told of what a command has to write is how its call ends.
use Rattle.std.proofs.Common.{◌≡◌, ◌≢◌, ◌≤◌, Result, Ok, Err, ℕ, List, Option, None, Some, IfOk, IfErr, IfSome, IsSome, refl, subst, arith, inl, inr, ◌⊎◌, ◌↔◌}
use Rattle.qu_io.specs.Streams.{StreamView, Rose, IsCalm}
use Rattle.qu_gather.specs.declared.torn.Torn.{Torn}
use Rattle.qu_trace.specs.declared.trace.Trace.{Trace}
use Rattle.qu_notation.specs.declared.command.Command.{Command}
use Rattle.qu_cli.specs.declared.output.Output.{Output}
use Rattle.qu_cli.specs.declared.output.Output.TheVariants as output
use Rattle.qu_cli.specs.declared.output.NoOutput.{NoOutput}
use Rattle.qu_cli.specs.declared.output.NoOutput.TheVariants as no_output
use Rattle.qu_cli.specs.declared.report.Report.{Report}
use Rattle.qu_io.specs.Transfer.{TakesFew, Writes, WritesShort, WritesOrFails}
use Rattle.qu_notation.specs.declared.command.Command.TheVariants.{Live}
use Rattle.qu_cli.specs.Ends.{ReadsNothing, LeavesInput, HasScript, EndsBad, EndsShort, EndsDone, IsPromised, IsTraced, IsRefused, IsComplete, Ends}
use Rattle.qu_cli.specs.Output.{IsWhole, Outputs, TellsRefusal, HasNoOutput, Tears}
use Rattle.qu_cli.specs.Told.{IsWrittenOut, IsTold}
use Rattle.qu_cli.proofs.EndFacts.{makes_traced, text_known, report_refused, report_complete, report_done, report_short, refusal_bad, refusal_refused, refusal_complete, torn_refused}

-- what the streams and the report of a call tell of its end that was asked for a command
record StreamEnds (asked : Option Command) (source source' sink sink' : StreamView) (report : Report) : Type 0 where
  pub status : (report.status ≤ 7) × ((report.status ≢ 1) × (report.status ≢ 2))
  pub bad_script : report.status ≡ 3 → EndsBad asked source source' sink sink'
  pub write_fault : report.status ≡ 5 → EndsShort asked source source' sink sink' report.trace
  pub done : report.status ≡ 0 → EndsDone asked source source' sink sink' report.trace
  pub traced : IsTraced asked report.trace report.status
  pub known : IfSome report.trace (IsPromised asked)
  pub torn : IsSome report.torn ↔ (report.status ≡ 7)
  pub lives : report.status ≡ 7 → asked ≡ Some Live
  pub refused : IsRefused asked source source' sink sink' report.status
  pub complete : IsComplete asked source source' sink sink' report.trace report.status

-- a report that is written whole
whole_ends : (asked : Option Command) (source source' sink sink' : StreamView) (report : Report) (command : Command)
    (trace : Option Trace) (text : List ℕ) → asked ≡ Some command
    → Outputs command source source' (output.Report trace text) → report.trace ≡ trace → report.torn ≡ None
    → report.status ≡ 0 → Writes sink sink' text → IsCalm sink sink' → StreamEnds asked source source' sink sink' report
whole_ends asked source source' sink sink' report command trace text asks answers tells untorn is writes calm = record {
  status = (omega (arith, is), (omega (arith, is), omega (arith, is)));
  bad_script = λ other. absurd (omega (arith, is, other));
  write_fault = λ other. absurd (omega (arith, is, other));
  done = λ other.
      report_done asked source source' sink sink' report.trace command trace text asks answers tells writes calm;
  traced =
      makes_traced asked command answers.script trace report.trace text report.status asks tells (inl is)
      answers.output_is;
  known = text_known asked command answers.script trace report.trace text asks tells answers.output_is;
  torn = (λ some. absurd (let none = rw untorn at some in cc), λ other. absurd (omega (arith, is, other)));
  lives = λ other. absurd (omega (arith, is, other));
  refused = report_refused asked source source' sink sink' report.status command trace text asks answers;
  complete =
      report_complete asked source source' sink sink' report.trace report.status command trace text asks answers tells
      is writes;
}

-- and one that a fault leaves short
short_ends : (asked : Option Command) (source source' sink sink' : StreamView) (report : Report) (command : Command)
    (trace : Option Trace) (text : List ℕ) → asked ≡ Some command
    → Outputs command source source' (output.Report trace text) → report.trace ≡ trace → report.torn ≡ None
    → report.status ≡ 5 → WritesShort sink sink' text → StreamEnds asked source source' sink sink' report
short_ends asked source source' sink sink' report command trace text asks answers tells untorn is short = record {
  status = (omega (arith, is), (omega (arith, is), omega (arith, is)));
  bad_script = λ other. absurd (omega (arith, is, other));
  write_fault = λ other.
      report_short asked source source' sink sink' report.trace command trace text asks answers tells short;
  done = λ other. absurd (omega (arith, is, other));
  traced =
      makes_traced asked command answers.script trace report.trace text report.status asks tells (inr is)
      answers.output_is;
  known = text_known asked command answers.script trace report.trace text asks tells answers.output_is;
  torn = (λ some. absurd (let none = rw untorn at some in cc), λ other. absurd (omega (arith, is, other)));
  lives = λ other. absurd (omega (arith, is, other));
  refused = report_refused asked source source' sink sink' report.status command trace text asks answers;
  complete = λ other held again holds accepts quiet calm. absurd (calm short.rose);
}

by_written : (asked : Option Command) (source source' sink sink' : StreamView) (report : Report) (command : Command)
    (trace : Option Trace) (text : List ℕ) → asked ≡ Some command
    → Outputs command source source' (output.Report trace text) → report.trace ≡ trace → report.torn ≡ None
    → IsWrittenOut text sink sink' report.status → StreamEnds asked source source' sink sink' report
by_written asked source source' sink sink' report command trace text asks answers tells untorn (inl whole) =
    whole_ends asked source source' sink sink' report command trace text asks answers tells untorn whole.0 whole.1.0
    whole.1.1
by_written asked source source' sink sink' report command trace text asks answers tells untorn (inr short) =
    short_ends asked source source' sink sink' report command trace text asks answers tells untorn short.0 short.1

-- without a trace, at a status of another end than that of a text
untraced : (asked : Option Command) (trace : Option Trace) (status : ℕ) → trace ≡ None → status ≢ 0 → status ≢ 5
    → IsTraced asked trace status
untraced asked trace status none some short =
    (λ is. absurd (let unlike = rw none at is in cc), λ both. absurd (by both.1))
  where
    by : (status ≡ 0) ⊎ (status ≡ 5) → ⊥
    by (inl is) = some is
    by (inr is) = short is

-- a script that is refused
refusal_ends : (asked : Option Command) (source source' sink sink' : StreamView) (report : Report) (command : Command)
    (script text : List ℕ) → asked ≡ Some command → HasScript command source source' script
    → TellsRefusal command script text → report.trace ≡ None → report.torn ≡ None → report.status ≡ 3
    → WritesOrFails sink sink' text → StreamEnds asked source source' sink sink' report
refusal_ends asked source source' sink sink' report command script text asks takes bad untraced_is untorn is writes =
    record {
      status = (omega (arith, is), (omega (arith, is), omega (arith, is)));
      bad_script = λ other.
          refusal_bad asked source source' sink sink' command script text bad.bad asks takes
          bad.refuses bad.tells writes;
      write_fault = λ other. absurd (omega (arith, is, other));
      done = λ other. absurd (omega (arith, is, other));
      traced = untraced asked report.trace report.status untraced_is (omega (arith, is)) (omega (arith, is));
      known = rw untraced_is tt;
      torn = (λ some. absurd (let none = rw untorn at some in cc), λ other. absurd (omega (arith, is, other)));
      lives = λ other. absurd (omega (arith, is, other));
      refused =
          refusal_refused asked source source' sink sink' report.status command script text bad.bad
          asks takes bad.refuses bad.tells is writes;
      complete =
          refusal_complete asked source source' sink sink' report.trace report.status command script
          bad.bad asks takes bad.refuses;
    }

-- where there is nothing to write: a fault of the source
fault_ends : (asked : Option Command) (source source' sink sink' : StreamView) (report : Report)
    → Rose source source' → report.trace ≡ None → report.torn ≡ None → report.status ≡ 4
    → StreamEnds asked source source' sink sink' report
fault_ends asked source source' sink sink' report rose untraced_is untorn is = record {
  status = (omega (arith, is), (omega (arith, is), omega (arith, is)));
  bad_script = λ other. absurd (omega (arith, is, other));
  write_fault = λ other. absurd (omega (arith, is, other));
  done = λ other. absurd (omega (arith, is, other));
  traced = untraced asked report.trace report.status untraced_is (omega (arith, is)) (omega (arith, is));
  known = rw untraced_is tt;
  torn = (λ some. absurd (let none = rw untorn at some in cc), λ other. absurd (omega (arith, is, other)));
  lives = λ other. absurd (omega (arith, is, other));
  refused = λ command held bad again holds refuses quiet. absurd (quiet rose);
  complete = λ command held again holds accepts quiet calm. absurd (quiet rose);
}

-- want of memory
memory_ends : (asked : Option Command) (source source' sink sink' : StreamView) (report : Report)
    → report.trace ≡ None → report.torn ≡ None → report.status ≡ 6 → StreamEnds asked source source' sink sink' report
memory_ends asked source source' sink sink' report untraced_is untorn is = record {
  status = (omega (arith, is), (omega (arith, is), omega (arith, is)));
  bad_script = λ other. absurd (omega (arith, is, other));
  write_fault = λ other. absurd (omega (arith, is, other));
  done = λ other. absurd (omega (arith, is, other));
  traced = untraced asked report.trace report.status untraced_is (omega (arith, is)) (omega (arith, is));
  known = rw untraced_is tt;
  torn = (λ some. absurd (let none = rw untorn at some in cc), λ other. absurd (omega (arith, is, other)));
  lives = λ other. absurd (omega (arith, is, other));
  refused = λ command held bad again holds refuses quiet. inr is;
  complete = λ command held again holds accepts quiet calm. inr (inl is);
}

-- a run on threads that is torn
torn_ends : (asked : Option Command) (source source' sink sink' : StreamView) (report : Report) (command : Command)
    (torn : Torn) → asked ≡ Some command → Tears command source source' → report.trace ≡ None
    → report.torn ≡ Some torn → report.status ≡ 7 → StreamEnds asked source source' sink sink' report
torn_ends asked source source' sink sink' report command torn asks tears untraced_is torn_is is = record {
  status = (omega (arith, is), (omega (arith, is), omega (arith, is)));
  bad_script = λ other. absurd (omega (arith, is, other));
  write_fault = λ other. absurd (omega (arith, is, other));
  done = λ other. absurd (omega (arith, is, other));
  traced = untraced asked report.trace report.status untraced_is (omega (arith, is)) (omega (arith, is));
  known = rw untraced_is tt;
  torn = (λ some. is, λ other. rw torn_is refl);
  lives = λ other. rw asks (rw tears.lives refl);
  refused = torn_refused asked source source' sink sink' report.status command asks tears;
  complete = λ other held again holds accepts quiet calm. inr (inr (rw asks (rw tears.lives refl), is));
}

-- what is told of what a command has to write, of its script
told_ends : (asked : Option Command) (source source' sink sink' : StreamView) (report : Report)
    (command : Command) (made : Result Output NoOutput) → asked ≡ Some command
    → IfOk made (Outputs command source source') → IfErr made (HasNoOutput command source source')
    → (made ≡ Err no_output.ReadFault → Rose source source') → IsTold made sink sink' report
    → StreamEnds asked source source' sink sink' report
told_ends asked source source' sink sink' report command (Ok (output.Report trace text)) asks outputs none fault told =
    by_written asked source source' sink sink' report command trace text asks outputs told.0 told.1.0 told.1.1
told_ends asked source source' sink sink' report command (Ok (output.Refusal text hint)) asks outputs none fault told =
    refusal_ends asked source source' sink sink' report command outputs.script text asks outputs.takes outputs.output_is
    told.0 told.1.0 told.1.1.0 told.1.1.1
told_ends asked source source' sink sink' report command (Err no_output.ReadFault) asks outputs none fault told =
    fault_ends asked source source' sink sink' report (fault refl) told.0 told.1.0 told.1.1
told_ends asked source source' sink sink' report command (Err no_output.NoMemory) asks outputs none fault told =
    memory_ends asked source source' sink sink' report told.0 told.1.0 told.1.1
told_ends asked source source' sink sink' report command (Err (no_output.Torn torn)) asks outputs none fault told =
    torn_ends asked source source' sink sink' report command torn asks none told.0 told.1.0 told.1.1

-- without threads nothing is torn
pub none_torn : (command : Command) (source source' : StreamView) (made : Result Output NoOutput)
    → IfErr made IsWhole → IfErr made (HasNoOutput command source source')
none_torn command source source' (Ok made) whole = tt
none_torn command source source' (Err no_output.ReadFault) whole = tt
none_torn command source source' (Err no_output.NoMemory) whole = tt
none_torn command source source' (Err (no_output.Torn torn)) whole = absurd whole

pub whole_report : (made : Result Output NoOutput) (sink sink' : StreamView) (report : Report) → IfErr made IsWhole
    → IsTold made sink sink' report → report.torn ≡ None
whole_report (Ok (output.Report trace text)) sink sink' report whole told = told.1.0
whole_report (Ok (output.Refusal text hint)) sink sink' report whole told = told.1.0
whole_report (Err no_output.ReadFault) sink sink' report whole told = told.1.0
whole_report (Err no_output.NoMemory) sink sink' report whole told = told.1.0
whole_report (Err (no_output.Torn torn)) sink sink' report whole told = absurd whole

-- which status tells which want of an output
fault_told : (made : Result Output NoOutput) (sink sink' : StreamView) (report : Report)
    → IsTold made sink sink' report → report.status ≡ 4 → made ≡ Err no_output.ReadFault
fault_told (Ok (output.Report trace text)) sink sink' report told is = absurd (by told.1.1)
  where
    by : IsWrittenOut text sink sink' report.status → ⊥
    by (inl whole) = let zero = whole.0 in omega (arith, zero, is)
    by (inr short) = let five = short.0 in omega (arith, five, is)
fault_told (Ok (output.Refusal text hint)) sink sink' report told is =
    absurd (let three = told.1.1.0 in omega (arith, three, is))
fault_told (Err no_output.ReadFault) sink sink' report told is = refl
fault_told (Err no_output.NoMemory) sink sink' report told is =
    absurd (let six = told.1.1 in omega (arith, six, is))
fault_told (Err (no_output.Torn torn)) sink sink' report told is =
    absurd (let seven = told.1.1 in omega (arith, seven, is))

calm_told : (made : Result Output NoOutput) (sink sink' : StreamView) (report : Report)
    → IsTold made sink sink' report → report.status ≢ 4 → made ≢ Err no_output.ReadFault
calm_told made sink sink' report told other is = other (by made told is)
  where
    by : (made : Result Output NoOutput) → IsTold made sink sink' report → made ≡ Err no_output.ReadFault
        → report.status ≡ 4
    by (Ok some) told is = absurd (cc)
    by (Err no_output.ReadFault) told is = told.1.1
    by (Err no_output.NoMemory) told is = absurd (cc)
    by (Err (no_output.Torn torn)) told is = absurd (cc)

-- at these statuses there was nothing to write
nothing_told : {P : Type 0} (made : Result Output NoOutput) (sink sink' : StreamView) (report : Report)
    → IsTold made sink sink' report → IfErr made (λ _. P)
    → (report.status ≡ 4) ⊎ ((report.status ≡ 6) ⊎ (report.status ≡ 7)) → P
nothing_told (Err why) sink sink' report told holds is = holds
nothing_told (Ok (output.Refusal text hint)) sink sink' report told holds is = absurd (by is)
  where
    by : (report.status ≡ 4) ⊎ ((report.status ≡ 6) ⊎ (report.status ≡ 7)) → ⊥
    by (inl four) = let three = told.1.1.0 in omega (arith, three, four)
    by (inr (inl six)) = let three = told.1.1.0 in omega (arith, three, six)
    by (inr (inr seven)) = let three = told.1.1.0 in omega (arith, three, seven)
nothing_told (Ok (output.Report trace text)) sink sink' report told holds is = absurd (by told.1.1 is)
  where
    by : IsWrittenOut text sink sink' report.status
        → (report.status ≡ 4) ⊎ ((report.status ≡ 6) ⊎ (report.status ≡ 7)) → ⊥
    by (inl whole) (inl four) = let zero = whole.0 in omega (arith, zero, four)
    by (inl whole) (inr (inl six)) = let zero = whole.0 in omega (arith, zero, six)
    by (inl whole) (inr (inr seven)) = let zero = whole.0 in omega (arith, zero, seven)
    by (inr short) (inl four) = let five = short.0 in omega (arith, five, four)
    by (inr short) (inr (inl six)) = let five = short.0 in omega (arith, five, six)
    by (inr short) (inr (inr seven)) = let five = short.0 in omega (arith, five, seven)

-- ---- a call

-- what was asked for, of its script, is told
pub ends : {S K : Type 0} (source : S → StreamView) (sink : K → StreamView) (asked : Option Command)
    (usage_line : List ℕ) (input input' : S) (output output' : K) (report : Report) (command : Command)
    (made : Result Output NoOutput) → asked ≡ Some command
    → IfOk made (Outputs command (source input) (source input'))
    → IfErr made (HasNoOutput command (source input) (source input')) → TakesFew (source input) (source input')
    → (ReadsNothing command → input' ≡ input)
    → (made ≡ Err no_output.ReadFault → Rose (source input) (source input'))
    → (made ≢ Err no_output.ReadFault → IsCalm (source input) (source input'))
    → IsTold made (sink output) (sink output') report → IfErr made (λ _. output' ≡ output)
    → Ends source sink asked usage_line input input' output output' report
ends source sink asked usage_line input input' output output' report command made asks outputs none few unread fault
    calm told untold =
    let it : StreamEnds asked (source input) (source input') (sink output) (sink output') report =
    told_ends asked (source input) (source input') (sink output) (sink output') report command made asks outputs none
    fault told in
    let untouched : (report.status ≡ 4) ⊎ ((report.status ≡ 6) ⊎ (report.status ≡ 7)) → output' ≡ output =
    nothing_told made (sink output) (sink output') report told untold in
    record {
      status = (it.status.0, it.status.1.0);
      few = few;
      unread = λ leaves. unread (subst LeavesInput asks leaves);
      bad_words = (λ is. absurd (it.status.1.1 is), λ nothing. absurd (let some = asks in cc));
      usage = λ is. absurd (it.status.1.1 is);
      bad_script = it.bad_script;
      read_fault = λ is. (
        fault (fault_told made (sink output) (sink output') report told is),
        untouched (inl is),
      );
      calm = λ other. calm (calm_told made (sink output) (sink output') report told other);
      write_fault = it.write_fault;
      no_memory = λ is. untouched (inr (inl is));
      done = it.done;
      traced = it.traced;
      known = it.known;
      torn = it.torn;
      tears = λ is. (it.lives is, untouched (inr (inr is)));
      refused = it.refused;
      complete = it.complete;
    }

-- a call that is not torn has one of the other statuses
pub untorn_statuses : (report : Report) → report.status ≤ 7 → IsSome report.torn ↔ (report.status ≡ 7)
    → report.torn ≡ None → (report.torn ≡ None) × (report.status ≤ 6)
untorn_statuses report most torn untorn = (untorn, omega (arith, most, by))
  where
    by : report.status ≢ 7
    by is = absurd (let some = torn.1 is in let none = rw untorn at some in cc)
