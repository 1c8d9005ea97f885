-- Objects and clients with one number are one.
use Rattle.std.proofs.Common.{◌≡◌, ℕ, true, ap}
use Rattle.std.specs.Prelude.{◌==◌}
use Rattle.std.proofs.lemmas.Bool.{eqb-true}
use Rattle.qu_base.specs.declared.party.ClientId.{ClientId}
use Rattle.qu_base.specs.declared.party.ObjectId.{ObjectId}

pub object_is : (a b : ObjectId) → a.0 ≡ b.0 → a ≡ b
object_is a b same = λ i. record { 0 = same i }

pub client_is : (a b : ClientId) → a.0 ≡ b.0 → a ≡ b
client_is a b same = λ i. record { 0 = same i }

-- and so where a test finds the numbers equal
pub tested_object : (a b : ObjectId) → (a.0 == b.0) ≡ true → a ≡ b
tested_object a b equal = object_is a b (eqb-true a.0 b.0 equal)

pub tested_client : (a b : ClientId) → (a.0 == b.0) ≡ true → a ≡ b
tested_client a b equal = client_is a b (eqb-true a.0 b.0 equal)
