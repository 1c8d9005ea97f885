-- What follows of a format that is exact: one value and one spelling, and that it is a prefix code.
use Rattle.std.proofs.Common.{◌≡◌, ℕ, List, [], length, sym, ap, subst, ◌∙◌, arith}
use Rattle.std.proofs.lemmas.List.{append-nil}
use Rattle.qu_base.specs.declared.bad_text.Why.TheVariants.{Short}
use Rattle.qu_base.specs.Cursor.{Front}
use Rattle.qu_base.specs.Format.{Format, front_of, Spells, IsExact, IsPrefixCode}
use Rattle.qu_base.proofs.Formats.{same_ok}

-- ---- what exactness gives

-- no spelling begins another one: where the spellings of two values stand at one front, the values are one
pub one_value : {V : Type 0} (form : Format V) → IsExact form → (old new end : Front) (value other : V)
    → Spells form old new value → Spells form old end other → (value ≡ other) × (new ≡ end)
one_value {V = V} form exact old new end value other first second =
    let is : (value, new) ≡ (other, end) =
    same_ok _ _ (record { place = 0; why = Short }) (sym (exact.only old new value first)
    ∙ exact.only old end other second) in
    (ap (λ (pair : V × Front). pair.0) is, ap (λ (pair : V × Front). pair.1) is)

-- two values with one spelling are one
pub one_spelling : {V : Type 0} (form : Format V) → IsExact form → (value other : V) → form.Fits value
    → form.Fits other → form.spell value ≡ form.spell other → value ≡ other
one_spelling {V = V} form exact value other fits others same =
    let end : V → Front = λ it. record { place = length (form.spell it); rest = [] } in
    let spelled : (it : V) → form.Fits it → Spells form (front_of (form.spell it)) (end it) it =
    λ it fit. record { fits = fit; takes = record { bytes = sym (append-nil (form.spell it)); place = omega arith } } in
    (one_value form exact (front_of (form.spell value)) (end value) (end other) value other (spelled value fits)
    (subst (λ (text : List ℕ). Spells form (front_of text) (end other) other) (sym same) (spelled other others))).0

pub prefix_code : {V : Type 0} (form : Format V) → IsExact form → IsPrefixCode form
prefix_code form exact = record {
  exact = exact;
  one = one_value form exact;
}
