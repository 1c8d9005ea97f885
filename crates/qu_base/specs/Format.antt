-- The format of a field: which values have a spelling, the one spelling of each, and how a value is
-- read. Formats are put together in the order of their fields, and a text is refused at the first
-- field that fails.
use Rattle.std.specs.Prelude.{◌≡◌, ℕ, zero, suc, ◌+◌, ◌-◌, ◌==◌, ◌<◌, ◌≤◌, Bool, true, false, ◌&&◌, nat_lt, nat_le, if◌then◌else◌, List, [], ◌∷◌, length, take, drop, get_or, Option, None, Some, is_some, Result, Ok, Err, IsTrue, ◌++◌}
use Rattle.std.specs.List.{flat_map}
use Rattle.std.specs.Int.{Width, w8, w16, byte_len, from_be_bytes, to_be_bytes, from_bool}
use Rattle.qu_base.specs.declared.bad_text.BadText.{BadText}
use Rattle.qu_base.specs.declared.bad_text.Why.{Why}
use Rattle.qu_base.specs.declared.bad_text.Why.TheVariants.{Short, Range}
use Rattle.qu_base.specs.declared.limits.TheConstants.{LAST_CLIENT, OBJECT_IDS, REPLICA_IDS}
use Rattle.qu_base.specs.declared.party.ClientId.{ClientId}
use Rattle.qu_base.specs.declared.party.Digest.{Digest}
use Rattle.qu_base.specs.declared.party.ObjectId.{ObjectId}
use Rattle.qu_base.specs.declared.party.ReplicaId.{ReplicaId}
use Rattle.qu_base.specs.Cursor.{Front, Takes}

pub record Format (V : Type 0) : Type 1 where
  -- the values that have a spelling
  pub Fits : V → Type 0
  pub spell : V → List ℕ
  -- the value at the front of a text and the front behind it, or the first field that fails
  pub read : Front → Result (V × Front) BadText

-- the front of a whole text
abbrev pub front_of : List ℕ → Front
front_of text = record { place = 0; rest = text }

-- the front behind so many bytes
abbrev pub behind : ℕ → Front → Front
behind count front = record { place = front.place + count; rest = drop count front.rest }

-- a refusal at this front
abbrev pub refused : {V : Type 0} → Front → Why → Result (V × Front) BadText
refused front why = Err (record { place = front.place; why = why })

-- what is read behind a field
abbrev pub and_then : {V W : Type 0} → Result (V × Front) BadText → (V → Front → Result (W × Front) BadText)
    → Result (W × Front) BadText
and_then (Ok found) later = later found.0 found.1
and_then (Err bad) later = Err bad

-- ---- single fields

unfoldable pub number_at : Width → ℕ → ℕ → Front → Result (ℕ × Front) BadText
number_at width least most front =
    if nat_lt (length front.rest) (byte_len width) then refused front Short
    else (let value = from_be_bytes width (take (byte_len width) front.rest) in
    if nat_le least value && nat_le value most then Ok (value, behind (byte_len width) front) else refused front Range)

-- a number from the least to the most, big-endian
abbrev pub number : Width → ℕ → ℕ → Format ℕ
number width least most = record {
  Fits = λ value. (least ≤ value) × (value ≤ most);
  spell = to_be_bytes width;
  read = number_at width least most;
}

-- a number below the limit
abbrev pub below : Width → ℕ → Format ℕ
below width limit = number width 0 (limit - 1)

unfoldable pub bytes_at : ℕ → Front → Result (List ℕ × Front) BadText
bytes_at count front =
    if nat_lt (length front.rest) count then refused front Short
    else Ok (take count front.rest, behind count front)

-- so many bytes
abbrev pub bytes : ℕ → Format (List ℕ)
bytes count = record {
  Fits = λ value. length value ≡ count;
  spell = λ value. value;
  read = bytes_at count;
}

-- no field: the value is known
abbrev pub nothing : {V : Type 0} → V → Format V
nothing known = record {
  Fits = λ value. value ≡ known;
  spell = λ value. [];
  read = λ front. Ok (known, front);
}

-- ---- formats of formats

-- a field, and another one which may depend on the value of the first
abbrev pub both : {V W : Type 0} → Format V → (V → Format W) → Format (V × W)
both first second = record {
  Fits = λ pair. first.Fits pair.0 × (second pair.0).Fits pair.1;
  spell = λ pair. first.spell pair.0 ++ (second pair.0).spell pair.1;
  read = λ front. and_then (first.read front)
      (λ one next. and_then ((second one).read next) (λ two end. Ok ((one, two), end)));
}

-- a value that fails the test is refused at the start of its field
abbrev pub tested : {V : Type 0} → (V → Bool) → Why → Format V → Format V
tested test why form = record {
  Fits = λ value. form.Fits value × IsTrue (test value);
  spell = form.spell;
  read = λ front. and_then (form.read front) (λ value end. if test value then Ok (value, end) else refused front why);
}

abbrev pub FitsPart : {V : Type 0} → Format V → Option V → Type 0
FitsPart form None = ⊥
FitsPart form (Some part) = form.Fits part

abbrev pub spelled_part : {V : Type 0} → Format V → Option V → List ℕ
spelled_part form None = []
spelled_part form (Some part) = form.spell part

-- a value that is made of another one, which is its part
abbrev pub made : {V W : Type 0} → (V → W) → (W → Option V) → Format V → Format W
made make part form = record {
  Fits = λ value. FitsPart form (part value);
  spell = λ value. spelled_part form (part value);
  read = λ front. and_then (form.read front) (λ found end. Ok (make found, end));
}

-- one of two formats
abbrev pub either : {V : Type 0} → Bool → Format V → Format V → Format V
either true first second = first
either false first second = second

-- ---- lists

-- each value fits the format at its key, which the value before it determines
abbrev pub FitsFrom : {K V : Type 0} → (K → Format V) → (V → K) → K → List V → Type 0
FitsFrom item next key [] = Unit {0}
FitsFrom item next key (value ∷ later) = (item key).Fits value × FitsFrom item next (next value) later

unfoldable pub items_at : {K V : Type 0} → (K → Format V) → (V → K) → K → ℕ → Front → Result (List V × Front) BadText
items_at item next key zero front = Ok ([], front)
items_at item next key (suc count) front =
    and_then ((item key).read front) (λ value rest. and_then (items_at item next (next value) count rest)
    (λ later end. Ok (value ∷ later, end)))

-- values that were read, put before those that are read of the rest
abbrev pub put_before : {V : Type 0} → List V → Result (List V × Front) BadText → Result (List V × Front) BadText
put_before values read = and_then read (λ later end. Ok (values ++ later, end))

-- so many items, the first under this key, each spelled so
abbrev pub items : {K V : Type 0} → (V → List ℕ) → (K → Format V) → (V → K) → K → ℕ → Format (List V)
items spell item next key count = record {
  Fits = λ values. (length values ≡ count) × FitsFrom item next key values;
  spell = λ values. flat_map spell values;
  read = items_at item next key count;
}

-- a count, and so many items
abbrev pub counted : {K V : Type 0} → Format ℕ → (V → List ℕ) → (K → Format V) → (V → K) → K → Format (List V)
counted count spell item next key =
    made (λ pair. pair.1) (λ values. Some (length values, values)) (both count (λ many. items spell item next key many))

-- ---- common fields

-- 0 or 1; 1 only where it may be
abbrev pub flag : Bool → Format Bool
flag may = made (λ code. code == 1) (λ value. Some (from_bool value)) (number w8 0 (from_bool may))

-- a flag, and the value where the flag is set
abbrev pub optional : {V : Type 0} → Bool → Format V → Format (Option V)
optional may form =
    made (λ pair. pair.1) (λ value. Some (is_some value, value))
    (both (flag may) (λ there. either there (made Some (λ value. value) form) (nothing None)))

-- a code byte, and what it stands for
abbrev pub tagged : {V : Type 0} → (ℕ → Bool) → (V → ℕ) → (ℕ → Format V) → Format V
tagged is_code code body =
    made (λ pair. pair.1) (λ value. Some (code value, value)) (both (tested is_code Range (number w8 0 255)) body)

abbrev pub digest_form : Format Digest
digest_form = made (λ content. record { 0 = content }) (λ digest. Some digest.0) (bytes 32)

-- an object, a replica, a client: by its number
abbrev pub object_form : Format ObjectId
object_form = made (λ number. record { 0 = number }) (λ object. Some object.0) (below w16 OBJECT_IDS)

abbrev pub replica_form : Format ReplicaId
replica_form = made (λ number. record { 0 = number }) (λ replica. Some replica.0) (below w8 REPLICA_IDS)

abbrev pub client_form : Format ClientId
client_form = made (λ number. record { 0 = number }) (λ client. Some client.0) (number w16 1 LAST_CLIENT)

-- ---- what it is to be exact

-- the spelling of the value stands at the old front, and the new front is behind it
pub record Spells {V : Type 0} (form : Format V) (old new : Front) (value : V) : Type 0 where
  pub fits : form.Fits value
  pub takes : Takes old new (form.spell value)

abbrev pub AreBytes : List ℕ → Type 0
AreBytes content = (index : ℕ) → get_or content index 0 < 256

-- what is read is spelled so, and what is spelled so is read, whatever follows
pub record IsExact {V : Type 0} (form : Format V) : Type 0 where
  pub found : (old new : Front) (value : V) → AreBytes old.rest → form.read old ≡ Ok (value, new)
      → Spells form old new value
  pub only : (old new : Front) (value : V) → Spells form old new value → form.read old ≡ Ok (value, new)

-- and no spelling begins another: where the spellings of two values stand at one front, the values are one
pub record IsPrefixCode {V : Type 0} (form : Format V) : Type 0 where
  pub exact : IsExact form
  pub one : (old new end : Front) (value other : V) → Spells form old new value → Spells form old end other
      → (value ≡ other) × (new ≡ end)
