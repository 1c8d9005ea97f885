-- What is to be told of a script: of its whole run, of the run up to a refusal, or of a text that is no script.
use Rattle.std.proofs.Common.{◌≡◌, false, Result, Ok, Err, ℕ, List, [], ◌++◌, None, Some, refl, sym, ap, ◌∙◌, subst}
use Rattle.qu_script_words.specs.declared.bad.Bad.{Bad}
use Rattle.qu_script_words.specs.Meaning.{then_good}
use Rattle.qu_language.specs.declared.line.Script.{Script}
use Rattle.qu_language.specs.Script.{script_of}
use Rattle.qu_script.specs.declared.run.Played.{Played}
use Rattle.qu_script.specs.Events.{whole_run, played_of, run_of, sim_of}
use Rattle.qu_trace.specs.declared.trace.Trace.{Trace}
use Rattle.qu_world.specs.Run.{IsRun}
use Rattle.qu_notation.specs.declared.command.Command.TheVariants.{Sim}
use Rattle.qu_notation.specs.declared.command.Telling.{Telling}
use Rattle.qu_notation.specs.declared.command.Telling.TheVariants.{Operations, Events, Digests, Bytes, Summary}
use Rattle.qu_cli.specs.declared.output.Output.TheVariants.{Report}
use Rattle.qu_cli.specs.Refusal.{bad_text}
use Rattle.qu_cli.specs.Ends.{Reports, SumsUp, TellsRun, TellsFront, TellsUntil}
use Rattle.qu_cli.specs.Output.{IsOutput, TellsRefusal}

-- ---- the run of what is spelled

sim_unread : (text : List ℕ) (bad : Bad) → script_of false text ≡ Err bad → sim_of text ≡ Err bad
unfolding sim_of
sim_unread text bad is = ap (λ (it : Result Script Bad). then_good it run_of) is

sim_spelled : (text : List ℕ) (script : Script) (played : Played) → script_of false text ≡ Ok script
    → played_of script ≡ played → sim_of text ≡ whole_run played.trace played.refused
unfolding sim_of run_of
sim_spelled text script played spelled is =
    ap (λ (it : Result Script Bad). then_good it run_of) spelled
    ∙ ap (λ (it : Played). whole_run it.trace it.refused) is

-- ---- what is told

pub unread_output : (telling : Telling) (text told : List ℕ) (bad : Bad) → script_of false text ≡ Err bad
    → told ≡ [] ++ bad_text bad → TellsRefusal (Sim telling) text told
unread_output telling text told bad is tells = record {
  bad = bad;
  refuses = sim_unread text bad is;
  tells = record { front = []; until = rw is refl; tells = tells };
}

pub whole_output : (telling : Telling) (text told : List ℕ) (script : Script) (trace : Trace)
    → script_of false text ≡ Ok script → played_of script ≡ record { trace = trace; refused = None }
    → IsRun trace → TellsRun telling trace told → IsOutput (Sim telling) text (Report (Some trace) told)
whole_output telling text told script trace spelled is runs tells = record {
  runs = sim_spelled text script (record { trace = trace; refused = None }) spelled is;
  is_run = runs;
  tells = tells;
}

front_until : (telling : Telling) (text front : List ℕ) (script : Script) (played : Played)
    → script_of false text ≡ Ok script → played_of script ≡ played → TellsFront telling played.trace front
    → TellsUntil telling (script_of false text) front
front_until telling text front script played spelled is tells =
    rw spelled (subst (λ (it : Played). TellsFront telling it.trace front) (sym is) tells)

pub stopped_output : (telling : Telling) (text front told : List ℕ) (script : Script) (trace : Trace) (bad : Bad)
    → script_of false text ≡ Ok script → played_of script ≡ record { trace = trace; refused = Some bad }
    → TellsFront telling trace front → told ≡ front ++ bad_text bad → TellsRefusal (Sim telling) text told
stopped_output telling text front told script trace bad spelled is tells text_is =
    let played : Played = record { trace = trace; refused = Some bad } in
    record {
      bad = bad;
      refuses = sim_spelled text script played spelled is;
      tells = record {
        front = front;
        until = front_until telling text front script played spelled is tells;
        tells = text_is;
      };
    }

-- ---- by cases on what is told

pub tells_report : (telling : Telling) (trace : Trace) (text : List ℕ) → telling ≡ Operations → Reports trace text
    → TellsRun telling trace text
tells_report telling trace text is reports = rw is reports

pub tells_sums : (telling : Telling) (number : ℕ) (trace : Trace) (text : List ℕ) → telling ≡ Summary number
    → SumsUp number trace text → TellsRun telling trace text
tells_sums telling number trace text is sums = rw is sums

pub nothing_before : (telling : Telling) (trace : Trace) (front : List ℕ) → telling ≡ Operations → front ≡ []
    → TellsFront telling trace front
nothing_before telling trace front is none = rw is none

pub none_before : (telling : Telling) (number : ℕ) (trace : Trace) (front : List ℕ) → telling ≡ Summary number
    → front ≡ [] → TellsFront telling trace front
none_before telling number trace front is none = rw is none

pub events_before : (telling : Telling) (trace : Trace) (front : List ℕ) → telling ≡ Events
    → TellsRun telling trace front → TellsFront telling trace front
events_before telling trace front is tells = rw is (rw is at tells)

pub digests_before : (telling : Telling) (trace : Trace) (front : List ℕ) → telling ≡ Digests
    → TellsRun telling trace front → TellsFront telling trace front
digests_before telling trace front is tells = rw is (rw is at tells)

pub bytes_before : (telling : Telling) (trace : Trace) (front : List ℕ) → telling ≡ Bytes
    → TellsRun telling trace front → TellsFront telling trace front
bytes_before telling trace front is tells = rw is (rw is at tells)

pub ruleset front_laws = (nothing_before, none_before, events_before, digests_before, bytes_before)
