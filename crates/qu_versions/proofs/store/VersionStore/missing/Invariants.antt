use Rattle.std.proofs.Common.{◌≡◌, take}
use Rattle.std.specs.Prelude.{not, filter}
use Rattle.qu_versions.specs.Versions.{has_version}
use Rattle.qu_versions.proofs.store.VersionStore.missing.Given as goal

abbrev pub invariant-loop-key : goal.invariant-loop-key
invariant-loop-key l = l.missing ≡ filter (λ key. not (has_version key.0 key.1 l.self)) (take l.key-index l.keys)
