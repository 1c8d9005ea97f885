-- A script of too many bytes is refused.
use Rattle.std.proofs.Common.{◌≡◌, true, false, ℕ, ◌<◌, length, List, Err, refl}
use Rattle.std.proofs.lemmas.Bool.{lt-ltb}
use Rattle.qu_script_words.specs.declared.bad.Bad.{Bad}
use Rattle.qu_script_words.specs.declared.bad.BadKind.TheVariants.{TooLong}
use Rattle.qu_io.specs.declared.limits.TheConstants.{SCRIPT_LIMIT}
use Rattle.qu_language.specs.Script.{script_of}
use Rattle.qu_script.specs.Events.{sim_of}

pub too_long : Bad
too_long = record { line = 1; kind = TooLong }

pub sim_too_long : (script : List ℕ) → SCRIPT_LIMIT < length script → sim_of script ≡ Err too_long
unfolding sim_of script_of too_long
sim_too_long script long = rw (lt-ltb SCRIPT_LIMIT (length script) long) refl

pub unread : (script : List ℕ) → SCRIPT_LIMIT < length script → script_of false script ≡ Err too_long
unfolding script_of too_long
unread script long = rw (lt-ltb SCRIPT_LIMIT (length script) long) refl

pub live_too_long : (script : List ℕ) → SCRIPT_LIMIT < length script → script_of true script ≡ Err too_long
unfolding script_of too_long
live_too_long script long = rw (lt-ltb SCRIPT_LIMIT (length script) long) refl
