-- What the steps of running do, for the contracts of private functions.
use Rattle.std.specs.Prelude.{ℕ}
use Rattle.qu_world.specs.declared.fail.WorldFail.{WorldFail}
use Rattle.qu_world.specs.declared.fail.WorldFail.TheVariants as fail
use Rattle.qu_script_words.specs.declared.bad.ScriptFail.{ScriptFail}
use Rattle.qu_script_words.specs.declared.bad.ScriptFail.TheVariants as fails
use Rattle.qu_script.specs.Events.{kind_of}

-- how a fail of the world is told of the line with this number
abbrev pub world_fail_at : ℕ → WorldFail → ScriptFail
world_fail_at number (fail.NoSuchLetter letter) =
    fails.Bad (record { line = number; kind = kind_of (fail.NoSuchLetter letter) })
world_fail_at number (fail.NoSuchActor party) = fails.Bad (record {
  line = number;
  kind = kind_of (fail.NoSuchActor
      party);
})
world_fail_at number fail.Busy = fails.Bad (record { line = number; kind = kind_of fail.Busy })
world_fail_at number fail.TooManyEvents = fails.Bad (record { line = number; kind = kind_of fail.TooManyEvents })
world_fail_at number fail.TooManyBytes = fails.Bad (record { line = number; kind = kind_of fail.TooManyBytes })
world_fail_at number fail.NoMemory = fails.NoMemory
