-- How a call of a program ends: `Ends`, at the end of this file. What is known of the source and of the sink stands as
-- `source` and `sink` before the call, and as `source'` and `sink'` behind it.
use Rattle.std.specs.Prelude.{◌≡◌, ◌≢◌, ⊤, ℕ, ◌≤◌, true, false, List, [], ◌++◌, Option, None, Some, Result, Ok, Err, IsOk, IsSome, IfSome, ◌⊎◌, ◌↔◌}
use Rattle.std.specs.Io.KnownBytes.{IsAtEnd}
use Rattle.qu_io.specs.Streams.{StreamView, Rose, IsCalm}
use Rattle.qu_machine.specs.declared.record.Point.{Point}
use Rattle.qu_machine.specs.Serial.{IsSerial}
use Rattle.qu_trace.specs.declared.premises.Premises.{Premises}
use Rattle.qu_trace.specs.declared.trace.Trace.{Trace}
use Rattle.qu_trace.specs.Operation.{operations_of}
use Rattle.qu_world.specs.Run.{IsRun}
use Rattle.qu_claims.specs.Premises.{MeetsPremises}
use Rattle.qu_audit.specs.Answer.{IsAnswer}
use Rattle.qu_claims.specs.Chained.{IsChained}
use Rattle.qu_claims.specs.Order.{IsPrintedOrder}
use Rattle.qu_print.specs.Report.{report_of}
use Rattle.qu_print.specs.Summary.{summary_of}
use Rattle.qu_listed.specs.Digests.{digests_text, letter_bytes_text}
use Rattle.qu_listed.specs.Events.{events_text}
use Rattle.qu_script_words.specs.declared.bad.Bad.{Bad}
use Rattle.qu_language.specs.declared.line.Script.{Script}
use Rattle.qu_language.specs.Called.{calls_said}
use Rattle.qu_language.specs.Script.{script_of}
use Rattle.qu_gather.specs.Live.{IsLive}
use Rattle.qu_gen.specs.Script.{generated_script}
use Rattle.qu_script.specs.Events.{played_of, sim_of}
use Rattle.qu_notation.specs.declared.command.Command.{Command}
use Rattle.qu_notation.specs.declared.command.Command.TheVariants.{Sim, Live, SimGen, Gen}
use Rattle.qu_notation.specs.declared.command.Telling.{Telling}
use Rattle.qu_notation.specs.declared.command.Telling.TheVariants.{Operations, Events, Digests, Bytes, Summary}
use Rattle.qu_cli.specs.declared.report.Report.{Report}
use Rattle.qu_cli.specs.Refusal.{bad_text}
use Rattle.qu_io.specs.Transfer.{TakesScript, TakesFew, Writes, WritesShort, WritesOrFails}

-- ---- what a command makes of a script

-- the text tells of the run, with the answer of its audit, which is Hold exactly where the premises hold, and with its
-- printed order, whose points it tells where they hold. Then the order is a serial order of the run's operations,
-- whatever up to b faulty replicas and all faulty clients sent, and on each object the established candidates without
-- barrier are a chain
pub record TellsOrder (told : Trace → Premises → List Point → List ℕ) (trace : Trace) (text : List ℕ) : Type 0 where
  pub premises : Premises
  pub order : List Point
  pub audited : IsAnswer trace premises
  pub ordered : IsPrintedOrder trace order
  pub serial : MeetsPremises trace → IsSerial trace.setup.kinds (operations_of trace) order
  pub chained : MeetsPremises trace → IsChained trace
  pub tells : text ≡ told trace premises order

-- it is the report of the run
abbrev pub Reports : Trace → List ℕ → Type 0
Reports trace text = TellsOrder report_of trace text

-- it lists the events of the run
abbrev pub Lists : Trace → List ℕ → Type 0
Lists trace text = TellsOrder events_text trace text

-- it sums up the run of the script of a number
abbrev pub SumsUp : ℕ → Trace → List ℕ → Type 0
SumsUp number trace text = TellsOrder (summary_of number) trace text

-- the headline: where no HMAC of a correct party is forged, and no two different texts that the run digests have one
-- digest, one machine that runs whole operations in the printed order gives each completed operation of the run its
-- answer, between its call and its reply, and each update once, whatever the network does and up to b faulty replicas
-- and all faulty clients send; and on each object the established candidates without barrier are a chain
pub record HasOneHistory (trace : Trace) : Type 0 where
  pub order : List Point
  pub is_run : IsRun trace
  pub printed : IsPrintedOrder trace order
  pub serial : MeetsPremises trace → IsSerial trace.setup.kinds (operations_of trace) order
  pub chained : MeetsPremises trace → IsChained trace

-- the text is what is to be told of a run
abbrev pub TellsRun : Telling → Trace → List ℕ → Type 0
TellsRun Operations trace text = Reports trace text
TellsRun Events trace text = Lists trace text
TellsRun Digests trace text = text ≡ digests_text trace
TellsRun Bytes trace text = text ≡ letter_bytes_text trace
TellsRun (Summary number) trace text = SumsUp number trace text

-- the trace is that of the script's run, and the text is what is to be told of it
pub record MakesOf (telling : Telling) (script : List ℕ) (trace : Trace) (text : List ℕ) : Type 0 where
  pub runs : sim_of script ≡ Ok trace
  pub is_run : IsRun trace
  pub tells : TellsRun telling trace text

-- the trace is that of a run on threads, of the setup and the calls of the script that is spelled, and the text is its
-- report
pub record MakesLive (text : List ℕ) (trace : Trace) (told : List ℕ) : Type 0 where
  pub script : Script
  pub spelled : script_of true text ≡ Ok script
  pub ran : IsLive script.setup (calls_said script.lines) trace
  pub reports : Reports trace told

-- the command makes this trace of a script, and this text of the trace
abbrev pub MakesRun : Command → List ℕ → Trace → List ℕ → Type 0
MakesRun (Sim telling) script trace text = MakesOf telling script trace text
MakesRun Live script trace text = MakesLive script trace text
MakesRun (SimGen number) script trace text = MakesOf (Summary number) script trace text
MakesRun (Gen number) script trace text = ⊥

-- the same where no trace is made: the text is the script itself
abbrev pub MakesScript : Command → List ℕ → List ℕ → Type 0
MakesScript (Sim telling) script text = ⊥
MakesScript Live script text = ⊥
MakesScript (SimGen number) script text = ⊥
MakesScript (Gen number) script text = text ≡ script

abbrev pub MakesText : Command → List ℕ → Option Trace → List ℕ → Type 0
MakesText command script None text = MakesScript command script text
MakesText command script (Some trace) text = MakesRun command script trace text

-- what is known of a run of which a call told that was asked this
abbrev pub IsPromised : Option Command → Trace → Type 0
IsPromised None trace = ⊥
IsPromised (Some (Sim Operations)) trace = HasOneHistory trace
IsPromised (Some (Sim Events)) trace = HasOneHistory trace
IsPromised (Some (Sim Digests)) trace = IsRun trace
IsPromised (Some (Sim Bytes)) trace = IsRun trace
IsPromised (Some (Sim (Summary number))) trace = HasOneHistory trace
IsPromised (Some Live) trace = HasOneHistory trace
IsPromised (Some (SimGen number)) trace = HasOneHistory trace
IsPromised (Some (Gen number)) trace = ⊥

-- the command can make something of it
abbrev pub IsScriptFor : Command → List ℕ → Type 0
IsScriptFor (Sim telling) script = IsOk (sim_of script)
IsScriptFor Live script = IsOk (script_of true script)
IsScriptFor (SimGen number) script = IsOk (sim_of script)
IsScriptFor (Gen number) script = ⊤

-- the command refuses it, for this
abbrev pub Refuses : Command → List ℕ → Bad → Type 0
Refuses (Sim telling) script bad = sim_of script ≡ Err bad
Refuses Live script bad = script_of true script ≡ Err bad
Refuses (SimGen number) script bad = sim_of script ≡ Err bad
Refuses (Gen number) script bad = ⊥

-- ---- which script it is

-- the command has a script of its own, that of its number
abbrev pub ReadsNothing : Command → Type 0
ReadsNothing (Sim telling) = ⊥
ReadsNothing Live = ⊥
ReadsNothing (SimGen number) = ⊤
ReadsNothing (Gen number) = ⊤

-- a call that was asked for such a command leaves the input as it is
abbrev pub LeavesInput : Option Command → Type 0
LeavesInput None = ⊤
LeavesInput (Some command) = ReadsNothing command

-- the script upon which the command works: the one that was taken, or that of its number
abbrev pub HasScript : Command → StreamView → StreamView → List ℕ → Type 0
HasScript (Sim telling) source source' script = TakesScript source source' script
HasScript Live source source' script = TakesScript source source' script
HasScript (SimGen number) source source' script = script ≡ generated_script number
HasScript (Gen number) source source' script = script ≡ generated_script number

-- the script that the command is given: all that the source holds, or that of its number
abbrev pub GivesScript : Command → StreamView → List ℕ → Type 0
GivesScript (Sim telling) source script = source.bytes ≡ Some script
GivesScript Live source script = source.bytes ≡ Some script
GivesScript (SimGen number) source script = script ≡ generated_script number
GivesScript (Gen number) source script = script ≡ generated_script number

-- the source is at its end, where the command reads it
abbrev pub IsReadOut : Command → StreamView → Type 0
IsReadOut (Sim telling) source' = IsAtEnd source'.bytes
IsReadOut Live source' = IsAtEnd source'.bytes
IsReadOut (SimGen number) source' = ⊤
IsReadOut (Gen number) source' = ⊤

-- ---- what is told of a script that is refused

-- a listing has what happened before the refusal, a report or a sum has nothing of it
abbrev pub TellsFront : Telling → Trace → List ℕ → Type 0
TellsFront Operations trace front = front ≡ []
TellsFront Events trace front = TellsRun Events trace front
TellsFront Digests trace front = TellsRun Digests trace front
TellsFront Bytes trace front = TellsRun Bytes trace front
TellsFront (Summary number) trace front = front ≡ []

-- nothing happens where the text is no script
abbrev pub TellsUntil : Telling → Result Script Bad → List ℕ → Type 0
TellsUntil telling (Ok script) front = TellsFront telling (played_of script).trace front
TellsUntil telling (Err bad) front = front ≡ []

-- the line that tells why, behind what is told of what happened before
pub record TellsRefused (telling : Telling) (script : List ℕ) (bad : Bad) (text : List ℕ) : Type 0 where
  pub front : List ℕ
  pub until : TellsUntil telling (script_of false script) front
  pub tells : text ≡ front ++ bad_text bad

-- the text is what the command tells of a script that it refuses for this
abbrev pub TellsBad : Command → List ℕ → Bad → List ℕ → Type 0
TellsBad (Sim telling) script bad text = TellsRefused telling script bad text
TellsBad Live script bad text = text ≡ bad_text bad
TellsBad (SimGen number) script bad text = TellsRefused (Summary number) script bad text
TellsBad (Gen number) script bad text = ⊥

-- this is written, but for a fault of the sink
pub record WritesBad (command : Command) (script : List ℕ) (bad : Bad) (sink sink' : StreamView) : Type 0 where
  pub text : List ℕ
  pub tells : TellsBad command script bad text
  pub writes : WritesOrFails sink sink' text

-- ---- the ends

-- the command refuses its script, and it is told why, but for a fault of the sink
pub record EndsBad (asked : Option Command) (source source' sink sink' : StreamView) : Type 0 where
  pub command : Command
  pub script : List ℕ
  pub bad : Bad
  pub asks : asked ≡ Some command
  pub takes : HasScript command source source' script
  pub refuses : Refuses command script bad
  pub tells : WritesBad command script bad sink sink'

-- the text of the script stays short, by a fault of the sink
pub record EndsShort (asked : Option Command) (source source' sink sink' : StreamView) (trace : Option Trace) : Type 0
  where
    pub command : Command
    pub script : List ℕ
    pub text : List ℕ
    pub asks : asked ≡ Some command
    pub takes : HasScript command source source' script
    pub to_end : IsReadOut command source'
    pub makes : MakesText command script trace text
    pub short : WritesShort sink sink' text

-- the whole text of the script is written, with no fault of the sink
pub record EndsDone (asked : Option Command) (source source' sink sink' : StreamView) (trace : Option Trace) : Type 0
  where
    pub command : Command
    pub script : List ℕ
    pub text : List ℕ
    pub asks : asked ≡ Some command
    pub takes : HasScript command source source' script
    pub to_end : IsReadOut command source'
    pub makes : MakesText command script trace text
    pub writes : Writes sink sink' text
    pub calm : IsCalm sink sink'

-- all commands but `gen` run something
abbrev pub Runs : Option Command → Type 0
Runs None = ⊤
Runs (Some (Sim telling)) = ⊤
Runs (Some Live) = ⊤
Runs (Some (SimGen number)) = ⊤
Runs (Some (Gen number)) = ⊥

-- there is a trace exactly where a text was made of a run, whether or not it was written whole
abbrev pub IsTraced : Option Command → Option Trace → ℕ → Type 0
IsTraced asked trace status = IsSome trace ↔ (Runs asked × ((status ≡ 0) ⊎ (status ≡ 5)))

-- ---- which end comes

-- a command that is given a script which it refuses, and no fault of the source: it is told why, whatever the sink does
abbrev pub IsRefused : Option Command → StreamView → StreamView → StreamView → StreamView → ℕ → Type 0
IsRefused asked source source' sink sink' status =
    (command : Command) (script : List ℕ) (bad : Bad) → asked ≡ Some command → GivesScript command source script
    → Refuses command script bad → (Rose source source' → ⊥)
    → ((status ≡ 3) × WritesBad command script bad sink sink') ⊎ (status ≡ 6)

-- the text that the command makes of the script is written whole
pub record WritesMade (command : Command) (script : List ℕ) (sink sink' : StreamView) (trace : Option Trace) : Type 0
  where
    pub text : List ℕ
    pub makes : MakesText command script trace text
    pub writes : Writes sink sink' text

-- a command that is given a good script, and no fault of source or sink: the whole text is written, unless there is no
-- memory, or what threads left behind is torn
abbrev pub IsComplete : Option Command → StreamView → StreamView → StreamView → StreamView → Option Trace → ℕ → Type 0
IsComplete asked source source' sink sink' trace status =
    (command : Command) (script : List ℕ) → asked ≡ Some command → GivesScript command source script
    → IsScriptFor command script → (Rose source source' → ⊥) → (Rose sink sink' → ⊥)
    → ((status ≡ 0) × WritesMade command script sink sink' trace)
    ⊎ ((status ≡ 6) ⊎ ((asked ≡ Some Live) × (status ≡ 7)))

-- ---- a call

-- How a call ends that was asked for a command, or for nothing that it knows, and has this usage: by the status of its
-- report. `source input` and `sink output` are what is known of its source and of its sink before it.
pub record Ends {S K : Type 0} (source : S → StreamView) (sink : K → StreamView) (asked : Option Command)
    (usage_line : List ℕ) (input input' : S) (output output' : K) (report : Report) : Type 0 where
  pub status : (report.status ≤ 7) × (report.status ≢ 1)
  pub few : TakesFew (source input) (source input')
  pub unread : LeavesInput asked → input' ≡ input
  pub bad_words : (report.status ≡ 2) ↔ (asked ≡ None)
  pub usage : report.status ≡ 2 → (input' ≡ input) × WritesOrFails (sink output) (sink output') usage_line
  pub bad_script : report.status ≡ 3 → EndsBad asked (source input) (source input') (sink output) (sink output')
  pub read_fault : report.status ≡ 4 → Rose (source input) (source input') × (output' ≡ output)
  pub calm : report.status ≢ 4 → IsCalm (source input) (source input')
  pub write_fault : report.status ≡ 5
      → EndsShort asked (source input) (source input') (sink output) (sink output') report.trace
  pub no_memory : report.status ≡ 6 → output' ≡ output
  pub done : report.status ≡ 0
      → EndsDone asked (source input) (source input') (sink output) (sink output') report.trace
  pub traced : IsTraced asked report.trace report.status
  pub known : IfSome report.trace (IsPromised asked)
  pub torn : IsSome report.torn ↔ (report.status ≡ 7)
  pub tears : report.status ≡ 7 → (asked ≡ Some Live) × (output' ≡ output)
  pub refused : IsRefused asked (source input) (source input') (sink output) (sink output') report.status
  pub complete :
      IsComplete asked (source input) (source input') (sink output) (sink output') report.trace report.status
