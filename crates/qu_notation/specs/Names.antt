-- Names of entries, whose bytes may be any: how they are read, and how they and entries are written.
use Rattle.std.specs.Prelude.{ℕ, Bool, ◌==◌, ◌||◌, List, [], ◌∷◌, ◌++◌, Option, None, Some, if◌then◌else◌, codes}
use Rattle.std.specs.Char.{is_ascii_alphanumeric}
use Rattle.std.specs.Fmt.{decimal}
use Rattle.std.specs.List.{flat_map, join_by, list_all, slice_split}
use Rattle.std.specs.Option.{option_map, option_and_then}
use Rattle.hex.specs.Hex.{decode_of}
use Rattle.qu_notation.specs.Bytes.{if_decoded, byte_text}

-- letters, digits, `.`, `_` and `-` stand for themselves
abbrev pub is_plain_byte : ℕ → Bool
is_plain_byte byte = is_ascii_alphanumeric byte || byte == 46 || byte == 95 || byte == 45

-- ---- what words write

-- bytes that stand for themselves
unfoldable pub plain_bytes : List ℕ → Option (List ℕ)
plain_bytes piece = if list_all is_plain_byte piece then Some piece else None

-- a byte by two hexadecimal digits of either case, and bytes that stand for themselves
unfoldable pub coded_bytes : List ℕ → Option (List ℕ)
coded_bytes [] = None
coded_bytes (high ∷ []) = None
coded_bytes (high ∷ low ∷ piece) =
    option_and_then (λ byte. option_map (λ more. byte ++ more) (plain_bytes piece))
    (if_decoded (decode_of (high ∷ low ∷ [])))

-- pieces that each stand behind a `%`
unfoldable pub coded_pieces : List (List ℕ) → Option (List ℕ)
coded_pieces [] = Some []
coded_pieces (piece ∷ pieces) =
    option_and_then (λ bytes. option_map (λ more. bytes ++ more) (coded_pieces pieces)) (coded_bytes piece)

-- what stands before the first `%`, and each piece behind one
abbrev pub pieces_bytes : List (List ℕ) → Option (List ℕ)
pieces_bytes [] = None
pieces_bytes (piece ∷ pieces) =
    option_and_then (λ bytes. option_map (λ more. bytes ++ more) (coded_pieces pieces)) (plain_bytes piece)

-- the bytes of a name that has one character at least
unfoldable pub name_bytes : List ℕ → Option (List ℕ)
name_bytes [] = None
name_bytes (character ∷ word) = pieces_bytes (slice_split (λ byte. byte == 37) (character ∷ word))

-- ---- how they are written

-- a byte of a name: `%` and two digits where it does not stand for itself
abbrev pub name_byte_text : ℕ → List ℕ
name_byte_text byte = if is_plain_byte byte then byte ∷ [] else 37 ∷ byte_text byte

-- a name; `%` alone where it has no bytes
unfoldable pub written_name : List ℕ → List ℕ
written_name [] = codes "%"
written_name (byte ∷ name) = flat_map name_byte_text (byte ∷ name)

abbrev pub entry_text : List ℕ × ℕ → List ℕ
entry_text entry = written_name entry.0 ++ codes "=" ++ decimal entry.1

-- entries with commas between each two, or `-` for none
unfoldable pub entries_text : List (List ℕ × ℕ) → List ℕ
entries_text [] = codes "-"
entries_text (entry ∷ entries) = join_by entry_text (codes ",") (entry ∷ entries)
