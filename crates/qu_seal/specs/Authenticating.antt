-- HMAC-SHA-256 (RFC 2104): a digest that only who has the key can make.
use Rattle.std.specs.Prelude.{ℕ, ◌-◌, List, ◌++◌, replicate, map, bit_xor, length, nat_lt, if◌then◌else◌}
use Rattle.sha2.specs.Sha256.{sha256}
use Rattle.qu_seal.specs.declared.constants.TheConstants.{BLOCK, IPAD, OPAD}

-- a key of more than a block is replaced by its digest, and filled with zero bytes
abbrev pub short_key : List ℕ → List ℕ
short_key key = if nat_lt BLOCK (length key) then sha256 key else key

abbrev pub filled : List ℕ → List ℕ
filled key = key ++ replicate (BLOCK - length key) 0

-- the block with a pad in each byte
abbrev pub padded : ℕ → List ℕ → List ℕ
padded pad block = map (λ byte. bit_xor byte pad) block

unfoldable pub hmac_of : List ℕ → List ℕ → List ℕ
hmac_of key text =
    let block = filled (short_key key) in
    sha256 (padded OPAD block ++ sha256 (padded IPAD block ++ text))
