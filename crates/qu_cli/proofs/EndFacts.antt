-- Laws by cases on the command: what was taken is refused or told of as what was given is.
use Rattle.std.proofs.Common.{◌≡◌, true, false, Result, Ok, Err, ℕ, ◌<◌, ◌≤◌, List, ◌++◌, length, length-append, append-nil, Option, None, Some, IfSome, IsSome, refl, sym, ap, ◌∙◌, arith, inl, inr, subst, ◌⊎◌, ◌↔◌}
use Rattle.std.specs.Io.KnownBytes.{Consumes, IsAtEnd}
use Rattle.std.proofs.lemmas.Bool.{cases_lt}
use Rattle.qu_script_words.specs.declared.bad.Bad.{Bad}
use Rattle.qu_script.specs.Events.{sim_of}
use Rattle.qu_trace.specs.declared.trace.Trace.{Trace}
use Rattle.qu_language.specs.Script.{script_of}
use Rattle.qu_io.specs.declared.limits.TheConstants.{SCRIPT_LIMIT}
use Rattle.qu_notation.specs.declared.command.Command.{Command}
use Rattle.qu_notation.specs.declared.command.Command.TheVariants.{Sim, Live, SimGen, Gen}
use Rattle.qu_notation.specs.declared.command.Telling.{Telling}
use Rattle.qu_notation.specs.declared.command.Telling.TheVariants.{Operations, Events, Digests, Bytes, Summary}
use Rattle.qu_notation.specs.Words.{TellsOperations}
use Rattle.qu_cli.specs.declared.output.Output.TheVariants.{Report}
use Rattle.qu_io.specs.Streams.{StreamView, IsCalm}
use Rattle.qu_cli.proofs.ScriptFacts.{too_long, unread, sim_too_long, live_too_long}
use Rattle.qu_io.specs.Transfer.{TakesScript, Writes, WritesShort, WritesOrFails}
use Rattle.qu_cli.specs.Ends.{TellsUntil, TellsBad, MakesText, HasOneHistory, IsPromised, IsScriptFor, Refuses, ReadsNothing, HasScript, GivesScript, IsReadOut, Runs, IsTraced, EndsBad, EndsShort, EndsDone, IsRefused, IsComplete}
use Rattle.qu_cli.specs.Output.{Outputs, Tears}

-- the command reads its script
abbrev Reads : Command → Type 0
Reads command = ¬ (ReadsNothing command)

-- what was taken is all that was given, or both are too long, which is not asked of the script of a number
data IsTaken (command : Command) (script held : List ℕ) : Type 0 where
  all : script ≡ held → IsTaken command script held
  long : Reads command → SCRIPT_LIMIT < length script → SCRIPT_LIMIT < length held → IsTaken command script held

by_end : (command : Command) (script held : List ℕ) (left : Option (List ℕ)) → Reads command
    → Consumes (Some held) left script → (length script ≤ SCRIPT_LIMIT → IsAtEnd left)
    → (SCRIPT_LIMIT < length script) ⊎ (length script ≤ SCRIPT_LIMIT) → IsTaken command script held
by_end command script held None reads taken to_end cases = absurd taken
by_end command script held (Some rest) reads taken to_end (inl more) =
    long reads more (let total = ap length taken ∙ length-append script rest in omega arith)
by_end command script held (Some rest) reads taken to_end (inr few) =
    all (sym (taken ∙ ap (λ l. script ++ l) (to_end few) ∙ append-nil script))

of_source : (command : Command) (source source' : StreamView) (script held : List ℕ) → Reads command
    → TakesScript source source' script → source.bytes ≡ Some held → IsTaken command script held
of_source command source source' script held reads takes holds =
    by_end command script held source'.bytes reads (rw holds at takes.taken) takes.to_end
    (cases_lt SCRIPT_LIMIT (length script))

is_taken : (command : Command) (source source' : StreamView) (script held : List ℕ)
    → HasScript command source source' script → GivesScript command source held → IsTaken command script held
is_taken (Sim telling) source source' script held takes holds =
    of_source (Sim telling) source source' script held (λ none. none) takes holds
is_taken Live source source' script held takes holds =
    of_source Live source source' script held (λ none. none) takes holds
is_taken (SimGen number) source source' script held takes holds = all (takes ∙ sym holds)
is_taken (Gen number) source source' script held takes holds = all (takes ∙ sym holds)

-- ---- the laws

-- of a script that is refused where it is too long nothing is made then
few_by : {X : Type 0} (script : List ℕ) (found : Result X Bad) (x : X)
    → (SCRIPT_LIMIT < length script → found ≡ Err too_long) → found ≡ Ok x → length script ≤ SCRIPT_LIMIT
few_by script found x refuses is = by (cases_lt SCRIPT_LIMIT (length script))
  where
    by : (SCRIPT_LIMIT < length script) ⊎ (length script ≤ SCRIPT_LIMIT) → length script ≤ SCRIPT_LIMIT
    by (inl more) = absurd (let refused = refuses more in cc)
    by (inr few) = few

makes_few : (command : Command) (script : List ℕ) (trace : Option Trace) (text : List ℕ) → Reads command
    → MakesText command script trace text → length script ≤ SCRIPT_LIMIT
makes_few (Sim telling) script None text reads makes = absurd makes
makes_few (Sim telling) script (Some trace) text reads makes =
    few_by script (sim_of script) trace (sim_too_long script) makes.runs
makes_few Live script None text reads makes = absurd makes
makes_few Live script (Some trace) text reads makes =
    few_by script (script_of true script) makes.script (live_too_long script) makes.spelled
makes_few (SimGen number) script trace text reads makes = absurd (reads tt)
makes_few (Gen number) script trace text reads makes = absurd (reads tt)

-- a source from which a good script was read is at its end
read_out : (command : Command) (source source' : StreamView) (script : List ℕ) (trace : Option Trace) (text : List ℕ)
    → HasScript command source source' script → MakesText command script trace text → IsReadOut command source'
read_out (Sim telling) source source' script trace text takes makes =
    takes.to_end (makes_few (Sim telling) script trace text (λ none. none) makes)
read_out Live source source' script trace text takes makes =
    takes.to_end (makes_few Live script trace text (λ none. none) makes)
read_out (SimGen number) source source' script trace text takes makes = tt
read_out (Gen number) source source' script trace text takes makes = tt

makes_accepts : (command : Command) (script : List ℕ) (trace : Option Trace) (text : List ℕ)
    → MakesText command script trace text → IsScriptFor command script
makes_accepts (Sim telling) script None text makes = absurd makes
makes_accepts (Sim telling) script (Some trace) text makes = rw makes.runs refl
makes_accepts Live script None text makes = absurd makes
makes_accepts Live script (Some trace) text makes = rw makes.spelled refl
makes_accepts (SimGen number) script None text makes = absurd makes
makes_accepts (SimGen number) script (Some trace) text makes = rw makes.runs refl
makes_accepts (Gen number) script trace text makes = tt

-- a text is one of a run exactly where the command runs something
makes_runs : (command : Command) (script : List ℕ) (trace : Option Trace) (text : List ℕ)
    → MakesText command script trace text → IsSome trace ↔ Runs (Some command)
makes_runs (Sim telling) script None text makes = absurd makes
makes_runs (Sim telling) script (Some trace) text makes = (λ is. tt, λ runs. refl)
makes_runs Live script None text makes = absurd makes
makes_runs Live script (Some trace) text makes = (λ is. tt, λ runs. refl)
makes_runs (SimGen number) script None text makes = absurd makes
makes_runs (SimGen number) script (Some trace) text makes = (λ is. tt, λ runs. refl)
makes_runs (Gen number) script None text makes = (λ is. absurd (cc), λ runs. absurd runs)
makes_runs (Gen number) script (Some trace) text makes = absurd makes

pub makes_traced : (asked : Option Command) (command : Command) (script : List ℕ) (trace told : Option Trace)
    (text : List ℕ) (status : ℕ) → asked ≡ Some command → told ≡ trace → (status ≡ 0) ⊎ (status ≡ 5)
    → MakesText command script trace text → IsTraced asked told status
makes_traced asked command script trace told text status asks is written makes =
    let runs : IsSome told ↔ Runs asked = rw asks (rw is (makes_runs command script trace text makes)) in
    (λ some. (runs.0 some, written), λ both. runs.1 both.0)

-- what is known of the run of which a text tells; of a report, that it has one history
makes_known : (command : Command) (script : List ℕ) (trace : Trace) (text : List ℕ)
    → MakesText command script (Some trace) text → IsPromised (Some command) trace
makes_known (Sim Operations) script trace text makes = record {
  order = makes.tells.order;
  is_run = makes.is_run;
  printed = makes.tells.ordered;
  serial = makes.tells.serial;
  chained = makes.tells.chained;
}
makes_known (Sim Events) script trace text makes = record {
  order = makes.tells.order;
  is_run = makes.is_run;
  printed = makes.tells.ordered;
  serial = makes.tells.serial;
  chained = makes.tells.chained;
}
makes_known (Sim Digests) script trace text makes = makes.is_run
makes_known (Sim Bytes) script trace text makes = makes.is_run
makes_known (Sim (Summary number)) script trace text makes = record {
  order = makes.tells.order;
  is_run = makes.is_run;
  printed = makes.tells.ordered;
  serial = makes.tells.serial;
  chained = makes.tells.chained;
}
makes_known Live script trace text makes = record {
  order = makes.reports.order;
  is_run = makes.ran.is_run;
  printed = makes.reports.ordered;
  serial = makes.reports.serial;
  chained = makes.reports.chained;
}
makes_known (SimGen number) script trace text makes = record {
  order = makes.tells.order;
  is_run = makes.is_run;
  printed = makes.tells.ordered;
  serial = makes.tells.serial;
  chained = makes.tells.chained;
}
makes_known (Gen number) script trace text makes = makes

-- what is known of the run, where there is one
pub text_known : (asked : Option Command) (command : Command) (script : List ℕ) (trace told : Option Trace)
    (text : List ℕ) → asked ≡ Some command → told ≡ trace → MakesText command script trace text
    → IfSome told (IsPromised asked)
text_known asked command script None told text asks is makes = rw is tt
text_known asked command script (Some trace) told text asks is makes =
    rw is (rw asks (makes_known command script trace text makes))

-- the headline of a program that tells operations of runs
pub has_history : (asked : Option Command) (trace : Option Trace) → IfSome asked TellsOperations
    → IfSome trace (IsPromised asked) → IfSome trace HasOneHistory
has_history asked None tells known = tt
has_history None (Some trace) tells known = absurd known
has_history (Some (Sim Operations)) (Some trace) tells known = known
has_history (Some (Sim Events)) (Some trace) tells known = absurd tells
has_history (Some (Sim Digests)) (Some trace) tells known = absurd tells
has_history (Some (Sim Bytes)) (Some trace) tells known = absurd tells
has_history (Some (Sim (Summary number))) (Some trace) tells known = known
has_history (Some Live) (Some trace) tells known = known
has_history (Some (SimGen number)) (Some trace) tells known = known
has_history (Some (Gen number)) (Some trace) tells known = absurd known

-- ---- a script is refused or not

not_both : (command : Command) (script : List ℕ) (bad : Bad) → IsScriptFor command script → Refuses command script bad
    → ⊥
not_both (Sim telling) script bad accepts refuses = let accepted = rw refuses at accepts in absurd (cc)
not_both Live script bad accepts refuses = let accepted = rw refuses at accepts in absurd (cc)
not_both (SimGen number) script bad accepts refuses = let accepted = rw refuses at accepts in absurd (cc)
not_both (Gen number) script bad accepts refuses = refuses

one_bad : (command : Command) (script : List ℕ) (bad other : Bad) → Refuses command script bad
    → Refuses command script other → bad ≡ other
one_bad (Sim telling) script bad other refuses again = cc
one_bad Live script bad other refuses again = cc
one_bad (SimGen number) script bad other refuses again = cc
one_bad (Gen number) script bad other refuses again = absurd refuses

-- a script of too many bytes is refused
long_refused : (command : Command) (script : List ℕ) → Reads command → SCRIPT_LIMIT < length script
    → Refuses command script too_long
long_refused (Sim telling) script reads more = sim_too_long script more
long_refused Live script reads more = live_too_long script more
long_refused (SimGen number) script reads more = absurd (reads tt)
long_refused (Gen number) script reads more = absurd (reads tt)

-- what is given is refused as what was taken is
refuses_by : (command : Command) (script held : List ℕ) (bad : Bad) → IsTaken command script held
    → Refuses command held bad → Refuses command script bad
refuses_by command script held bad (all same) refuses = rw same refuses
refuses_by command script held bad (long reads more most) refuses =
    subst (Refuses command script) (one_bad command held too_long bad (long_refused command held reads most) refuses)
    (long_refused command script reads more)

-- a good script that is given was taken
accepts_by : (command : Command) (script held : List ℕ) → IsTaken command script held → IsScriptFor command held
    → IsScriptFor command script
accepts_by command script held (all same) accepts = rw same accepts
accepts_by command script held (long reads more most) accepts =
    absurd (not_both command held too_long accepts (long_refused command held reads most))

-- what is made of what was taken is made of what was given
makes_by : (command : Command) (script held : List ℕ) (trace : Option Trace) (text : List ℕ)
    → IsTaken command script held → MakesText command script trace text → MakesText command held trace text
makes_by command script held trace text (all same) makes =
    subst (λ (it : List ℕ). MakesText command it trace text) same makes
makes_by command script held trace text (long reads more most) makes = let few =
    makes_few command script trace text reads makes in absurd (omega arith)

-- what is told of a refusal of what was taken is told of one of what was given: where both are too long, nothing
-- happened
until_by : (command : Command) (telling : Telling) (script held front : List ℕ) → IsTaken command script held
    → TellsUntil telling (script_of false script) front → TellsUntil telling (script_of false held) front
until_by command telling script held front (all same) until =
    subst (λ (it : List ℕ). TellsUntil telling (script_of false it) front) same until
until_by command telling script held front (long reads more most) until =
    rw (unread held most) (rw (unread script more) at until)

tells_by : (command : Command) (script held : List ℕ) (bad : Bad) (text : List ℕ) → IsTaken command script held
    → TellsBad command script bad text → TellsBad command held bad text
tells_by (Sim telling) script held bad text taken tells = record {
  front = tells.front;
  until = until_by (Sim telling) telling script held tells.front taken tells.until;
  tells = tells.tells;
}
tells_by Live script held bad text taken tells = tells
tells_by (SimGen number) script held bad text taken tells = record {
  front = tells.front;
  until = until_by (SimGen number) (Summary number) script held tells.front taken tells.until;
  tells = tells.tells;
}
tells_by (Gen number) script held bad text taken tells = absurd tells

-- ---- which end comes

one_command : (asked : Option Command) (command other : Command) → asked ≡ Some command → asked ≡ Some other
    → command ≡ other
one_command asked command other asks again = cc

-- no report is written of a script that is refused
pub report_refused : (asked : Option Command) (source source' sink sink' : StreamView) (status : ℕ) (command : Command)
    (trace : Option Trace) (text : List ℕ) → asked ≡ Some command
    → Outputs command source source' (Report trace text) → IsRefused asked source source' sink sink' status
report_refused asked source source' sink sink' status command trace text asks answers other held bad again holds
    refuses quiet =
    let same = one_command asked other command again asks in
    let taken = is_taken command source source' answers.script held answers.takes
    (subst (λ (it : Command). GivesScript it source held) same holds) in
    absurd (not_both command answers.script bad
    (makes_accepts command answers.script trace text answers.output_is)
    (refuses_by command answers.script held bad taken (subst (λ c. Refuses c held bad) same refuses)))

-- no line that tells why is written of a good script
pub refusal_complete : (asked : Option Command) (source source' sink sink' : StreamView) (trace : Option Trace)
    (status : ℕ) (command : Command) (script : List ℕ) (bad : Bad) → asked ≡ Some command
    → HasScript command source source' script → Refuses command script bad → IsComplete asked source source' sink sink'
    trace status
refusal_complete asked source source' sink sink' trace status command script bad asks takes refuses other held
    again holds accepts quiet calm =
    let same = one_command asked other command again asks in
    let taken = is_taken command source source' script held takes
    (subst (λ (it : Command). GivesScript it source held) same holds) in
    absurd (not_both command script bad
    (accepts_by command script held taken (subst (λ c. IsScriptFor c held) same accepts)) refuses)

pub report_complete : (asked : Option Command) (source source' sink sink' : StreamView) (told : Option Trace)
    (status : ℕ) (command : Command) (trace : Option Trace) (text : List ℕ) → asked ≡ Some command
    → Outputs command source source' (Report trace text) → told ≡ trace → status ≡ 0 → Writes sink sink' text
    → IsComplete asked source source' sink sink' told status
report_complete asked source source' sink sink' told status command trace text asks answers tells is writes other
    held again holds accepts quiet calm =
    let same = one_command asked other command again asks in
    let taken = is_taken command source source' answers.script held answers.takes
    (subst (λ (it : Command). GivesScript it source held) same holds) in
    let makes : MakesText command held trace text =
    makes_by command answers.script held trace text taken answers.output_is in
    inl (
      is,
      record {
        text = text;
        makes = subst (λ c. MakesText c held told text) (sym same)
            (subst (λ (it : Option Trace). MakesText command held it text) (sym tells) makes);
        writes = writes;
      },
    )

pub refusal_refused : (asked : Option Command) (source source' sink sink' : StreamView) (status : ℕ)
    (command : Command) (script text : List ℕ) (bad : Bad) → asked ≡ Some command
    → HasScript command source source' script → Refuses command script bad → TellsBad command script bad text
    → status ≡ 3
    → WritesOrFails sink sink' text → IsRefused asked source source' sink sink' status
refusal_refused asked source source' sink sink' status command script text bad asks takes refused tells is writes
    other held why again holds refuses quiet =
    let same = one_command asked other command again asks in
    let taken = is_taken command source source' script held takes
    (subst (λ (it : Command). GivesScript it source held) same holds) in
    let equal : why ≡ bad =
    one_bad command script why bad
    (refuses_by command script held why taken (subst (λ c. Refuses c held why) same refuses)) refused in
    let told : TellsBad command held why text =
    subst (λ (it : Bad). TellsBad command held it text) (sym equal)
    (tells_by command script held bad text taken tells) in
    inl (
      is,
      record {
        text = text;
        tells = subst (λ c. TellsBad c held why text) (sym same) told;
        writes = writes;
      },
    )

-- a report that is written whole
pub report_done : (asked : Option Command) (source source' sink sink' : StreamView) (told : Option Trace)
    (command : Command) (trace : Option Trace) (text : List ℕ) → asked ≡ Some command
    → Outputs command source source' (Report trace text) → told ≡ trace → Writes sink sink' text
    → IsCalm sink sink' → EndsDone asked source source' sink sink' told
report_done asked source source' sink sink' told command trace text asks answers tells writes calm = record {
  command = command;
  script = answers.script;
  text = text;
  asks = asks;
  takes = answers.takes;
  to_end = read_out command source source' answers.script trace text answers.takes answers.output_is;
  makes = subst (λ (it : Option Trace). MakesText command answers.script it text) (sym tells) answers.output_is;
  writes = writes;
  calm = calm;
}

-- and one that a fault leaves short
pub report_short : (asked : Option Command) (source source' sink sink' : StreamView) (told : Option Trace)
    (command : Command) (trace : Option Trace) (text : List ℕ) → asked ≡ Some command
    → Outputs command source source' (Report trace text) → told ≡ trace → WritesShort sink sink' text
    → EndsShort asked source source' sink sink' told
report_short asked source source' sink sink' told command trace text asks answers tells short = record {
  command = command;
  script = answers.script;
  text = text;
  asks = asks;
  takes = answers.takes;
  to_end = read_out command source source' answers.script trace text answers.takes answers.output_is;
  makes = subst (λ (it : Option Trace). MakesText command answers.script it text) (sym tells) answers.output_is;
  short = short;
}

-- a script that is refused, and is told why
pub refusal_bad : (asked : Option Command) (source source' sink sink' : StreamView) (command : Command)
    (script text : List ℕ) (bad : Bad) → asked ≡ Some command → HasScript command source source' script
    → Refuses command script bad → TellsBad command script bad text → WritesOrFails sink sink' text
    → EndsBad asked source source' sink sink'
refusal_bad asked source source' sink sink' command script text bad asks takes refuses tells writes = record {
  command = command;
  script = script;
  bad = bad;
  asks = asks;
  takes = takes;
  refuses = refuses;
  tells = record { text = text; tells = tells; writes = writes };
}

-- no run is torn of a script that is refused
pub torn_refused : (asked : Option Command) (source source' sink sink' : StreamView) (status : ℕ) (command : Command)
    → asked ≡ Some command → Tears command source source' → IsRefused asked source source' sink sink' status
torn_refused asked source source' sink sink' status command asks tears other held bad again holds refuses quiet =
    let same = one_command asked other command again asks in
    let taken = is_taken command source source' tears.script held tears.takes
    (subst (λ (it : Command). GivesScript it source held) same holds) in
    absurd (not_both command tears.script bad tears.accepts
    (refuses_by command tears.script held bad taken (subst (λ c. Refuses c held bad) same refuses)))
