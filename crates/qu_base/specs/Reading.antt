-- What a reader tells: its result is what reading by the format gives, and so the refusal is that of
-- the first field that fails. What it gives is spelled at the front, and what is spelled there it gives.
use Rattle.std.specs.Prelude.{◌≡◌, Result, Ok, Err, MatchResult, IfOk}
use Rattle.qu_base.specs.declared.bad_text.BadText.{BadText}
use Rattle.qu_base.specs.declared.bad_text.ReadFail.{ReadFail}
use Rattle.qu_base.specs.declared.bad_text.ReadFail.TheVariants as fail
use Rattle.qu_base.specs.Cursor.{Front}
use Rattle.qu_base.specs.Format.{Format, Spells}

-- ---- readers that take no memory

-- what was read is what reading gives
abbrev pub Reads : {V : Type 0} → Format V → Result V BadText → Front → Front → Type 0
Reads form result old new = MatchResult result (λ value. form.read old ≡ Ok (value, new))
    (λ bad. form.read old ≡ Err bad)

pub record IsRead {V : Type 0} (form : Format V) (result : Result V BadText) (old new : Front) : Type 0 where
  pub given : Reads form result old new
  pub found : IfOk result (Spells form old new)
  pub only : (value : V) (end : Front) → Spells form old end value → result ≡ Ok value

-- ---- readers that may want memory

-- a failure is the refusal of reading, or want of memory
abbrev pub FailsAs : {Y : Type 0} → ReadFail → Result Y BadText → Type 0
FailsAs fail.NoMemory read = Unit {0}
FailsAs (fail.Bad bad) read = read ≡ Err bad

-- what was read is what reading gives, unless memory ran out
abbrev pub Gives : {V : Type 0} → Format V → Result V ReadFail → Front → Front → Type 0
Gives form result old new = MatchResult result (λ value. form.read old ≡ Ok (value, new))
    (λ why. FailsAs why (form.read old))

-- the value, unless memory ran out
abbrev pub IsOrFails : {V : Type 0} → Result V ReadFail → V → Type 0
IsOrFails result value = MatchResult result (λ given. given ≡ value) (λ why. why ≡ fail.NoMemory)

pub record IsGiven {V : Type 0} (form : Format V) (result : Result V ReadFail) (old new : Front) : Type 0 where
  pub given : Gives form result old new
  pub found : IfOk result (Spells form old new)
  pub only : (value : V) (end : Front) → Spells form old end value → IsOrFails result value
