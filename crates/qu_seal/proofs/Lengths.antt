-- A digest has 32 bytes.
use Rattle.std.proofs.Common.{◌≡◌, ℕ, List, ◌∷◌, ◌++◌, length}
use Rattle.sha2.proofs.Facts256.{length-sha256}
use Rattle.sha2.specs.Sha256.{sha256}
use Rattle.qu_seal.specs.declared.constants.TheConstants.{IPAD, OPAD}
use Rattle.qu_seal.specs.Digesting.{digest_of}
use Rattle.qu_seal.specs.Authenticating.{short_key, filled, padded, hmac_of}

pub length-digest : (tag : ℕ) (text : List ℕ) → length (digest_of tag text) ≡ 32
length-digest tag text = length-sha256 (tag ∷ text)

pub length-hmac : (key text : List ℕ) → length (hmac_of key text) ≡ 32
unfolding hmac_of
length-hmac key text =
    length-sha256 (padded OPAD (filled (short_key key)) ++ sha256 (padded IPAD (filled (short_key key)) ++ text))
