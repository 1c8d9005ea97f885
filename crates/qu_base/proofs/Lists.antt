-- A list is read item by item: the items so far, put before what is read of the rest, are what is read of all.
use Rattle.std.proofs.Common.{◌≡◌, ℕ, zero, suc, ◌<◌, List, [], ◌∷◌, ◌++◌, Result, Ok, Err, refl, sym, ap, ◌∙◌, append_assoc, arith}
use Rattle.std.proofs.lemmas.List.{append-nil}
use Rattle.qu_base.specs.declared.bad_text.BadText.{BadText}
use Rattle.qu_base.specs.Cursor.{Front}
use Rattle.qu_base.specs.Format.{Format, and_then, items_at, put_before}

put_before_none : {V : Type 0} (read : Result (List V × Front) BadText) → read ≡ put_before [] read
put_before_none (Ok found) = refl
put_before_none (Err bad) = refl

put_before_more : {V : Type 0} (values : List V) (value : V) (read : Result (List V × Front) BadText)
    → put_before values (and_then read (λ later end. Ok (value ∷ later, end))) ≡ put_before (values ++ value ∷ []) read
put_before_more values value (Ok found) =
    ap (λ later. Ok (later, found.1)) (sym (append_assoc values (value ∷ []) found.0))
put_before_more values value (Err bad) = refl

module _ {K V : Type 0} (item : K → Format V) (next : V → K) where
  pub items_begin : (key : K) (count : ℕ) (front : Front) → items_at item next key count front ≡ put_before []
      (items_at item next key count front)
  items_begin key count front = put_before_none (items_at item next key count front)

  pub items_end : (key : K) (left : ℕ) (front : Front) (values : List V) (all : Result (List V × Front) BadText)
      → left ≡ 0
      → all ≡ put_before values (items_at item next key left front) → all ≡ Ok (values, front)
  unfolding items_at
  items_end key left front values all none so_far =
      so_far ∙ (rw none (ap (λ (text : List V). Ok (text, front)) (append-nil values)))

  pub items_more : (key following : K) (left fewer : ℕ) (front after : Front) (values : List V) (value : V)
      (all : Result (List V × Front) BadText)
      → left ≡ suc fewer → following ≡ next value
      → all ≡ put_before values (items_at item next key left front) → (item key).read front ≡ Ok (value, after)
      → all ≡ put_before (values ++ value ∷ []) (items_at item next following fewer after)
  unfolding items_at
  items_more key following left fewer front after values value all one_less follows so_far read =
      so_far ∙ (rw (one_less, read, follows)
      (put_before_more values value (items_at item next (next value) fewer after)))

  pub items_fail : (key : K) (left : ℕ) (front : Front) (bad : BadText) (values : List V)
      (all : Result (List V × Front) BadText) → 0 < left
      → all ≡ put_before values (items_at item next key left front) → (item key).read front ≡ Err bad → all ≡ Err bad
  unfolding items_at
  items_fail key zero front bad values all some so_far read = absurd (omega arith)
  items_fail key (suc left) front bad values all some so_far read = so_far ∙ (rw read)

pub ruleset list_laws = (items_begin, items_end, items_more, items_fail)
