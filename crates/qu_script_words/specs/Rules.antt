-- What a word has to be: a number, bytes, a name, or an object.
use Rattle.std.specs.Prelude.{ℕ, nat_le, nat_lt, ◌&&◌, List, length, Result, Ok, Err, if◌then◌else◌}
use Rattle.qu_base.specs.declared.limits.TheConstants.{CONTENT_LIMIT, NAME_LIMIT, OBJECT_IDS}
use Rattle.qu_base.specs.declared.party.ObjectId.{ObjectId}
use Rattle.qu_notation.specs.Bytes.{hex_bytes}
use Rattle.qu_notation.specs.Names.{name_bytes}
use Rattle.qu_notation.specs.Numbers.{number_of}
use Rattle.qu_script_words.specs.declared.bad.BadKind.{BadKind}
use Rattle.qu_script_words.specs.declared.bad.BadKind.TheVariants.{BadNumber, BadHex, BadName, OverLimit, NoSuchObject}
use Rattle.qu_script_words.specs.Meaning.{then_good, or_bad}

-- ---- numbers

abbrev pub number_rule : List ℕ → Result ℕ BadKind
number_rule word = or_bad BadNumber (number_of word)

abbrev pub within : ℕ → ℕ → ℕ → Result ℕ BadKind
within least greatest number = if nat_le least number && nat_le number greatest then Ok number else Err OverLimit

-- a number from a least to a greatest one
abbrev pub ranged_rule : ℕ → ℕ → List ℕ → Result ℕ BadKind
ranged_rule least greatest word = then_good (number_rule word) (within least greatest)

-- ---- bytes and names

abbrev pub at_most : ℕ → List ℕ → Result (List ℕ) BadKind
at_most limit bytes = if nat_le (length bytes) limit then Ok bytes else Err OverLimit

abbrev pub hex_rule : List ℕ → Result (List ℕ) BadKind
hex_rule word = or_bad BadHex (hex_bytes word)

-- bytes, no more than an update carries
abbrev pub content_rule : List ℕ → Result (List ℕ) BadKind
content_rule word = then_good (hex_rule word) (at_most CONTENT_LIMIT)

-- a name, of no more bytes than a name has
abbrev pub name_rule : List ℕ → Result (List ℕ) BadKind
name_rule word = then_good (or_bad BadName (name_bytes word)) (at_most NAME_LIMIT)

-- ---- objects

abbrev pub object_numbered : ℕ → ℕ → Result ObjectId BadKind
object_numbered count number =
    if nat_lt number OBJECT_IDS
    then (if nat_lt number count then Ok (record { 0 = number }) else Err NoSuchObject) else Err OverLimit

-- one of so many objects
abbrev pub object_rule : ℕ → List ℕ → Result ObjectId BadKind
object_rule count word = then_good (number_rule word) (object_numbered count)
