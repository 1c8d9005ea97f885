-- What a digest is: SHA-256 (FIPS 180-4, section 6.2), as `sha2` defines it.
use Rattle.std.specs.Prelude.{ℕ, List, ◌∷◌}
use Rattle.sha2.specs.Sha256.{sha256}

-- the digest under SHA-256 of the tag byte followed by the text
abbrev pub digest_of : ℕ → List ℕ → List ℕ
digest_of tag text = sha256 (tag ∷ text)
