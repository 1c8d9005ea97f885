-- What a call that reads answers, held against what is meant. Want of memory says nothing of what is meant.
use Rattle.std.specs.Prelude.{◌≡◌, ℕ, Option, None, Some, Result, Ok, Err}
use Rattle.qu_script_words.specs.declared.bad.Bad.{Bad}
use Rattle.qu_script_words.specs.declared.bad.BadKind.{BadKind}
use Rattle.qu_script_words.specs.declared.bad.LineFail.{LineFail}
use Rattle.qu_script_words.specs.declared.bad.LineFail.TheVariants as line_fails
use Rattle.qu_script_words.specs.declared.bad.ScriptFail.{ScriptFail}
use Rattle.qu_script_words.specs.declared.bad.ScriptFail.TheVariants as fails

-- the first refusal is the whole one's
abbrev pub then_good : {X Y E : Type 0} → Result X E → (X → Result Y E) → Result Y E
then_good (Ok x) f = f x
then_good (Err bad) f = Err bad

abbrev pub or_bad : {X : Type 0} → BadKind → Option X → Result X BadKind
or_bad kind None = Err kind
or_bad kind (Some x) = Ok x

-- ---- of a line

abbrev pub LineFails : {Y : Type 0} → LineFail → Result Y BadKind → Type 0
LineFails (line_fails.Bad kind) meant = meant ≡ Err kind
LineFails line_fails.NoMemory meant = Unit {0}

-- what a call answered of a line, seen by `view`, is what was meant, unless memory ran out
abbrev pub IsReadAs : {X Y : Type 0} → (X → Y) → Result X LineFail → Result Y BadKind → Type 0
IsReadAs view (Ok x) meant = meant ≡ Ok (view x)
IsReadAs view (Err fail) meant = LineFails fail meant

-- ---- of a script

abbrev pub at_line : {X : Type 0} → ℕ → Result X BadKind → Result X Bad
at_line number (Ok x) = Ok x
at_line number (Err kind) = Err (record { line = number; kind = kind })

abbrev pub fail_at : ℕ → LineFail → ScriptFail
fail_at number (line_fails.Bad kind) = fails.Bad (record { line = number; kind = kind })
fail_at number line_fails.NoMemory = fails.NoMemory

abbrev pub Fails : {Y : Type 0} → ScriptFail → Result Y Bad → Type 0
Fails (fails.Bad bad) meant = meant ≡ Err bad
Fails fails.NoMemory meant = Unit {0}

-- what a call answered of a script, seen by `view`, is what was meant, unless memory ran out
abbrev pub IsAsMeant : {X Y : Type 0} → (X → Y) → Result X ScriptFail → Result Y Bad → Type 0
IsAsMeant view (Ok x) meant = meant ≡ Ok (view x)
IsAsMeant view (Err fail) meant = Fails fail meant
