-- Bytes in hexadecimal digits: how they are read, and how they are written.
use Rattle.std.specs.Prelude.{ℕ, ◌/◌, ◌%◌, false, List, [], ◌∷◌, ◌++◌, Option, None, Some, if◌then◌else◌, codes, Result, Ok, Err}
use Rattle.std.specs.Fmt.{digits}
use Rattle.std.specs.List.{flat_map}
use Rattle.std.specs.Str.{bytes_eq}
use Rattle.hex.specs.Hex.{decode_of}
use Rattle.hex.specs.declared.error.FromHexError.{FromHexError}

-- ---- what words write

abbrev pub if_decoded : Result (List ℕ) FromHexError → Option (List ℕ)
if_decoded (Ok bytes) = Some bytes
if_decoded (Err why) = None

-- two hexadecimal digits for each byte, of either case, or `-` for none
unfoldable pub hex_bytes : List ℕ → Option (List ℕ)
hex_bytes [] = None
hex_bytes (digit ∷ digits) =
    if bytes_eq (digit ∷ digits) (codes "-") then Some [] else if_decoded (decode_of (digit ∷ digits))

-- ---- how they are written

-- a byte by two hexadecimal digits, of lower case
abbrev pub byte_text : ℕ → List ℕ
byte_text byte = digits 16 false (byte / 16) ++ digits 16 false (byte % 16)

-- two digits for each byte, or `-` for none
unfoldable pub bytes_text : List ℕ → List ℕ
bytes_text [] = codes "-"
bytes_text (byte ∷ bytes) = flat_map byte_text (byte ∷ bytes)
