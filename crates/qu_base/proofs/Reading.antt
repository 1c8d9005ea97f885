-- What readers tell follows from what reading gives, where the format is exact.
use Rattle.std.proofs.Common.{◌≡◌, Result, Ok, Err, refl, sym, ap, ◌∙◌}
use Rattle.qu_base.specs.declared.bad_text.BadText.{BadText}
use Rattle.qu_base.specs.declared.bad_text.ReadFail.{ReadFail}
use Rattle.qu_base.specs.declared.bad_text.ReadFail.TheVariants as fail
use Rattle.qu_base.specs.Cursor.{Front}
use Rattle.qu_base.specs.Format.{Format, AreBytes, IsExact}
use Rattle.qu_base.specs.Reading.{Reads, IsRead, Gives, IsGiven}

abbrev ok_of : {A B : Type 0} → A → Result A B
ok_of value = Ok value

abbrev err_of : {A B : Type 0} → B → Result A B
err_of bad = Err bad

not_both : {A B : Type 0} (bad : B) (one : A) → err_of {A = A} bad ≡ ok_of one → ⊥
not_both bad one is = cc

same_ok : {A E : Type 0} (one other : A) → ok_of {B = E} one ≡ ok_of other → one ≡ other
same_ok one other is = cc

value_of : {A B E : Type 0} (one other : A) (front end : B) → ok_of {A = A × B} {B = E} (one, front) ≡ ok_of
    {A = A × B} (other, end) → one ≡ other
value_of {A = A} {B = B} one other front end is = ap (λ (pair : A × B). pair.0) (same_ok (one, front) (other, end) is)

pub read_exactly : {V : Type 0} (form : Format V) → IsExact form → (result : Result V BadText) (old new : Front)
    → AreBytes old.rest → Reads form result old new → IsRead form result old new
read_exactly form exact (Ok value) old new fit given = record {
  given = given;
  found = exact.found old new value fit given;
  only = λ other end spelled. ap Ok (value_of value other new end (sym given ∙ exact.only old end other spelled));
}
read_exactly form exact (Err bad) old new fit given = record {
  given = given;
  found = tt;
  only = λ other end spelled. absurd (not_both bad (other, end) (sym given ∙ exact.only old end other spelled));
}

pub given_exactly : {V : Type 0} (form : Format V) → IsExact form → (result : Result V ReadFail) (old new : Front)
    → AreBytes old.rest → Gives form result old new → IsGiven form result old new
given_exactly form exact (Ok value) old new fit given = record {
  given = given;
  found = exact.found old new value fit given;
  only = λ other end spelled. value_of value other new end (sym given ∙ exact.only old end other spelled);
}
given_exactly form exact (Err fail.NoMemory) old new fit given =
    record { given = tt; found = tt; only = λ other end spelled. refl }
given_exactly form exact (Err (fail.Bad bad)) old new fit given = record {
  given = given;
  found = tt;
  only = λ other end spelled. absurd (not_both bad (other, end) (sym given ∙ exact.only old end other spelled));
}
