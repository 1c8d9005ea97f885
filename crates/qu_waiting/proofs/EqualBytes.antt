-- An answer is identical to itself.
use Rattle.std.proofs.Common.{◌≡◌, ℕ, List, true, refl}
use Rattle.std.proofs.lemmas.Slice.Eq.{bytes_eq-Decides}
use Rattle.qu_waiting.specs.Fetching.{same_bytes}

pub same_as_itself : (text : List ℕ) → same_bytes text text ≡ true
same_as_itself text = (bytes_eq-Decides text text).1 refl
