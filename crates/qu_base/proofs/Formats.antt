-- The laws of the formats: what is read is spelled so, and what is spelled so is read.
use Rattle.std.proofs.Common.{◌≡◌, ℕ, zero, suc, ◌+◌, ◌-◌, ◌^◌, ◌<◌, ◌≤◌, Bool, true, false, cond, ltb, leb, ◌&&◌, List, [], ◌∷◌, ◌++◌, length, get_or, take, drop, ◌==◌, Option, None, Some, is_some, Result, Ok, Err, refl, sym, ap, subst, ◌∙◌, append_assoc, inl, inr, arith}
use Rattle.std.specs.Prelude.{IsTrue}
use Rattle.std.specs.List.{flat_map}
use Rattle.std.specs.Int.{Width, w8, w16, w64, byte_len, from_be_bytes, to_be_bytes, from_bool}
use Rattle.std.proofs.lemmas.Bool.{cases_lt, ltb-false, le-ltb, lt-ltb, le-leb, leb-true, and_parts, and_from}
use Rattle.std.proofs.lemmas.List.{take_at, drop_at, take-append-drop, length-append, length-take, get_or-append-add, get_or-take, get_or_past}
use Rattle.std.proofs.lemmas.Nat.{be_bytes_2, be_bytes_8, from_be_bytes-to_be_bytes_2, from_be_bytes-to_be_bytes_8}
use Rattle.qu_base.specs.declared.bad_text.BadText.{BadText}
use Rattle.qu_base.specs.declared.bad_text.Why.{Why}
use Rattle.qu_base.specs.declared.bad_text.Why.TheVariants.{Short, Range}
use Rattle.qu_base.specs.declared.limits.TheConstants.{LAST_CLIENT, OBJECT_IDS, REPLICA_IDS}
use Rattle.qu_base.specs.Cursor.{Front, Takes}
use Rattle.qu_base.specs.Format.{Format, behind, refused, and_then, number_at, number, bytes_at, bytes, nothing, both, tested, FitsPart, spelled_part, made, either, FitsFrom, items_at, items, counted, flag, optional, tagged, digest_form, object_form, replica_form, client_form, Spells, AreBytes, IsExact}

-- ---- fronts

pub front_is : (one other : Front) → one.place ≡ other.place → one.rest ≡ other.rest → one ≡ other
front_is one other place rest =
    let front : ℕ → List ℕ → Front = λ at text. record { place = at; rest = text } in
    ap (λ (at : ℕ). front at one.rest) place ∙ ap (front other.place) rest

pub takes_then : (a b c : Front) (x y : List ℕ) → Takes a b x → Takes b c y → Takes a c (x ++ y)
takes_then a b c x y first second = record {
  bytes = first.bytes ∙ ap (λ (t : List ℕ). x ++ t) second.bytes ∙ sym (append_assoc x y c.rest);
  place = omega (arith, first.place, second.place, length-append x y);
}

-- what is left of bytes are bytes
pub bytes_behind : (old new : Front) (piece : List ℕ) → Takes old new piece → AreBytes old.rest → AreBytes new.rest
bytes_behind old new piece taken fit index =
    let at : get_or old.rest (length piece + index) 0 ≡ get_or new.rest index 0 =
    ap (λ (t : List ℕ). get_or t (length piece + index) 0) taken.bytes ∙ get_or-append-add piece new.rest index 0 in
    omega (arith, at, fit (length piece + index))

-- ---- what a reading that went well says

pub not_refused : {A : Type 0} (test : Bool) (bad : BadText) (result : Result A BadText) (value : A)
    → cond test (Err bad) result ≡ Ok value → (test ≡ false) × (result ≡ Ok value)
not_refused true bad result value given = absurd cc
not_refused false bad result value given = (refl, given)

pub accepted : {A : Type 0} (test : Bool) (bad : BadText) (one value : A)
    → cond test (Ok one) (Err bad) ≡ Ok value → (test ≡ true) × (one ≡ value)
accepted true bad one value given = (refl, cc)
accepted false bad one value given = absurd cc

-- the field before, and what was read behind it
pub and_then-ok : {V W : Type 0} (result : Result (V × Front) BadText)
    (later : V → Front → Result (W × Front) BadText) (value : W × Front) → and_then result later ≡ Ok value
    → (found : V × Front) × (result ≡ Ok found) × (later found.0 found.1 ≡ Ok value)
and_then-ok (Ok found) later value given = (found, refl, given)
and_then-ok (Err bad) later value given = absurd cc

pub same_ok : {A : Type 0} (one other : A) (bad : BadText) → cond true (Ok one) (Err bad) ≡ Ok other → one ≡ other
same_ok one other bad given = cc

-- ---- numbers

-- the bytes of a number below the limit, and the number of so many bytes
pub record IsWide (width : Width) (limit : ℕ) : Type 0 where
  pub size : (value : ℕ) → length (to_be_bytes width value) ≡ byte_len width
  pub back : (content : List ℕ) → length content ≡ byte_len width → AreBytes content
      → to_be_bytes width (from_be_bytes width content) ≡ content
  pub again : (value : ℕ) → value < limit → from_be_bytes width (to_be_bytes width value) ≡ value

one_byte : (content : List ℕ) → length content ≡ 1 → AreBytes content
    → to_be_bytes w8 (from_be_bytes w8 content) ≡ content
one_byte [] size fit = absurd (omega (arith, size))
one_byte (first ∷ []) size fit = ap (λ (byte : ℕ). byte ∷ []) (omega (arith, fit 0))
one_byte (first ∷ second ∷ later) size fit = absurd (omega (arith, size))

pub wide8 : IsWide w8 (2 ^ 8)
wide8 = record {
  size = λ value. refl;
  back = one_byte;
  again = λ value below. omega arith;
}

pub wide16 : IsWide w16 (2 ^ 16)
wide16 = record {
  size = λ value. refl;
  back = λ content size fit. be_bytes_2 content _ size fit refl;
  again = λ value below. from_be_bytes-to_be_bytes_2 value below;
}

pub wide64 : IsWide w64 (2 ^ 64)
wide64 = record {
  size = λ value. refl;
  back = λ content size fit. be_bytes_8 content _ size fit refl;
  again = λ value below. from_be_bytes-to_be_bytes_8 value below;
}

are_bytes-take : (count : ℕ) (content : List ℕ) → AreBytes content → AreBytes (take count content)
are_bytes-take count content fit index =
    elim (cases_lt index count) [
      | inl within ↦ rw (get_or-take count content index 0 within) (fit index)
      | inr past ↦ rw (get_or_past (take count content) index 0 (omega (arith, length-take count content)))
          (omega arith)
    ]

-- a piece of this length is taken
takes_front : (count : ℕ) (old : Front) → count ≤ length old.rest → Takes old (behind count old) (take count old.rest)
takes_front count old enough = record {
  bytes = sym (take-append-drop count old.rest);
  place = ap (λ (size : ℕ). old.place + size) (omega (arith, length-take count old.rest));
}

-- the front behind a piece of this length
behind_is : (count : ℕ) (old new : Front) (piece : List ℕ) → length piece ≡ count → Takes old new piece
    → (take count old.rest ≡ piece) × (behind count old ≡ new)
behind_is count old new piece size taken =
    let first : take count old.rest ≡ piece = ap (take count) taken.bytes ∙ take_at piece new.rest count size in
    let rest : drop count old.rest ≡ new.rest = ap (drop count) taken.bytes ∙ drop_at piece new.rest count size in
    (first, front_is (behind count old) new (omega (arith, taken.place, size)) rest)

long_enough : (count : ℕ) (old new : Front) (piece : List ℕ) → length piece ≡ count → Takes old new piece
    → ltb (length old.rest) count ≡ false
long_enough count old new piece size taken =
    le-ltb _ _ (omega (arith, size, ap length taken.bytes, length-append piece new.rest))

pub number-exact : (width : Width) (limit least most : ℕ) → IsWide width limit → most < limit
    → IsExact (number width least most)
unfolding number_at
number-exact width limit least most wide below = record {
  found = λ old new value fit given.
      let piece : List ℕ = take (byte_len width) old.rest in
      let read : ℕ = from_be_bytes width piece in
      let enough = not_refused (ltb (length old.rest) (byte_len width)) _ _ (value, new) given in
      let ranged = accepted (leb least read && leb read most) _ (read, behind (byte_len width) old)
      (value, new) enough.1 in
      let size : byte_len width ≤ length old.rest = ltb-false _ _ enough.0 in
      let tests = and_parts (leb least read) (leb read most) ranged.0 in
      let spelled : to_be_bytes width read ≡ piece =
      wide.back piece (omega (arith, length-take (byte_len width) old.rest))
      (are_bytes-take (byte_len width) old.rest fit) in
      let here : Spells (number width least most) old (behind (byte_len width) old) read = record {
        fits = (leb-true _ _ tests.0, leb-true _ _ tests.1);
        takes = subst (Takes old (behind (byte_len width) old)) (sym spelled) (takes_front (byte_len width) old size);
      } in
      subst (λ (pair : ℕ × Front). Spells (number width least most) old pair.1 pair.0) ranged.1 here;
  only = λ old new value spelled.
      let size : length (to_be_bytes width value) ≡ byte_len width = wide.size value in
      let is = behind_is (byte_len width) old new (to_be_bytes width value) size spelled.takes in
      let enough = long_enough (byte_len width) old new (to_be_bytes width value) size spelled.takes in
      let read : from_be_bytes width (take (byte_len width) old.rest) ≡ value =
      ap (from_be_bytes width) is.0 ∙ wide.again value (omega (arith, spelled.fits.1)) in
      let within : (leb least value && leb value most) ≡ true =
      and_from _ _ (le-leb _ _ spelled.fits.0) (le-leb _ _ spelled.fits.1) in
      rw (enough, read, within, is.1) refl;
}

-- ---- bytes

pub bytes-exact : (count : ℕ) → IsExact (bytes count)
unfolding bytes_at
bytes-exact count = record {
  found = λ old new value fit given.
      let enough = not_refused (ltb (length old.rest) count) _ _ (value, new) given in
      let size : count ≤ length old.rest = ltb-false _ _ enough.0 in
      let taken : length (take count old.rest) ≡ count = omega (arith, length-take count old.rest) in
      let is : (take count old.rest, behind count old) ≡ (value, new) =
      same_ok _ _ (record { place = 0; why = Short }) enough.1 in
      let here : Spells (bytes count) old (behind count old) (take count old.rest) = record {
        fits = taken;
        takes = takes_front count old size;
      } in
      subst (λ (pair : List ℕ × Front). Spells (bytes count) old pair.1 pair.0) is here;
  only = λ old new value spelled.
      let is : (take count old.rest ≡ value) × (behind count old ≡ new) =
      behind_is count old new value spelled.fits spelled.takes in
      rw (long_enough count old new value spelled.fits spelled.takes, is.0, is.1) refl;
}

-- a piece that was taken is read
pub bytes_read : (count : ℕ) (old new : Front) (piece : List ℕ) → length piece ≡ count → Takes old new piece
    → bytes_at count old ≡ Ok (piece, new)
bytes_read count old new piece size taken =
    (bytes-exact count).only old new piece (record { fits = size; takes = taken })

pub bytes_short : (count : ℕ) (old : Front) → length old.rest < count → bytes_at count old ≡ refused old Short
unfolding bytes_at
bytes_short count old few = rw (lt-ltb _ _ few) refl

-- ---- nothing

pub nothing-exact : {V : Type 0} (known : V) → IsExact (nothing known)
nothing-exact known = record {
  found = λ old new value fit given.
      let is : (known, old) ≡ (value, new) = same_ok _ _ (record { place = 0; why = Short }) given in
      subst (λ pair. Spells (nothing known) old pair.1 pair.0) is
      (record { fits = refl; takes = record { bytes = refl; place = omega arith } });
  only = λ old new value spelled.
      let front : old ≡ new = front_is old new (omega (arith, spelled.takes.place)) spelled.takes.bytes in
      rw (spelled.fits, front) refl;
}

-- ---- two fields

pub both-exact : {V W : Type 0} (first : Format V) (second : V → Format W) → IsExact first
    → ((value : V) → first.Fits value → IsExact (second value)) → IsExact (both first second)
both-exact first second one two = record {
  found = λ old new value fit given.
      let before = and_then-ok (first.read old) _ (value, new) given in
      let after = and_then-ok ((second before.0.0).read before.0.1) _ (value, new) before.2 in
      let front = one.found old before.0.1 before.0.0 fit before.1 in
      let back = (two before.0.0 front.fits).found before.0.1 after.0.1 after.0.0
      (bytes_behind old before.0.1 _ front.takes fit) after.1 in
      let is : ((before.0.0, after.0.0), after.0.1) ≡ (value, new) =
      same_ok _ _ (record { place = 0; why = Short }) after.2 in
      subst (λ pair. Spells (both first second) old pair.1 pair.0) is
      (record {
        fits = (front.fits, back.fits);
        takes = takes_then old before.0.1 after.0.1 _ _ front.takes
            back.takes;
      });
  only = λ old new value spelled.
      let between : Front =
      record {
        place = old.place + length (first.spell value.0);
        rest = (second value.0).spell value.1 ++ new.rest;
      } in
      let front : Takes old between (first.spell value.0) = record {
        bytes = (spelled.takes).bytes ∙ append_assoc (first.spell value.0) ((second value.0).spell value.1) new.rest;
        place = refl;
      } in
      let back : Takes between new ((second value.0).spell value.1) = record {
        bytes = refl;
        place = omega (
          arith,
          (spelled.takes).place,
          length-append (first.spell value.0)
              ((second value.0).spell value.1),
        );
      } in
      rw (
        one.only old between value.0 (record { fits = spelled.fits.0; takes = front }),
        (two value.0 spelled.fits.0).only between new value.1 (record { fits = spelled.fits.1; takes = back }),
      ) refl;
}

-- ---- a test, and a value that is made of another

pub tested-exact : {V : Type 0} (test : V → Bool) (why : Why) (form : Format V) → IsExact form
    → IsExact (tested test why form)
tested-exact test why form exact = record {
  found = λ old new value fit given.
      let before = and_then-ok (form.read old) _ (value, new) given in
      let passed = accepted (test before.0.0) _ before.0 (value, new) before.2 in
      let spelled = exact.found old before.0.1 before.0.0 fit before.1 in
      subst (λ pair. Spells (tested test why form) old pair.1 pair.0) passed.1
      (record { fits = (spelled.fits, passed.0); takes = spelled.takes });
  only = λ old new value spelled.
      rw (exact.only old new value (record { fits = spelled.fits.0; takes = spelled.takes }), spelled.fits.1) refl;
}

pub some_is : {A : Type 0} {one other : A} → Some one ≡ Some other → one ≡ other
some_is given = cc

-- the part of a value that fits is there
part_of : {V W : Type 0} (make : V → W) (part : W → Option V) (form : Format V) (old new : Front) (value : W)
    → Spells (made make part form) old new value
    → (found : V) × (part value ≡ Some found) × Spells form old new found
part_of {V = V} make part form old new value spelled =
    let P : Option V → Type 0 = λ it. FitsPart form it → Takes old new (spelled_part form it) → (found : V)
    × (it ≡ Some found) × Spells form old new found in
    let cases : (it : Option V) → P it = λ it. elim it as (λ it. P it) [
      | None ↦ λ fits takes. absurd fits
      | Some found ↦ λ fits takes. (found, refl, record { fits = fits; takes = takes })
    ] in
    cases (part value) spelled.fits spelled.takes

pub made-exact : {V W : Type 0} (make : V → W) (part : W → Option V) (form : Format V) → IsExact form
    → ((found : V) → form.Fits found → part (make found) ≡ Some found)
    → ((value : W) (found : V) → form.Fits found → part value ≡ Some found → make found ≡ value)
    → IsExact (made make part form)
made-exact {V = V} make part form exact back again = record {
  found = λ old new value fit given.
      let before = and_then-ok (form.read old) _ (value, new) given in
      let spelled = exact.found old before.0.1 before.0.0 fit before.1 in
      let is : (make before.0.0, before.0.1) ≡ (value, new) =
      same_ok _ _ (record { place = 0; why = Short }) before.2 in
      let part_is = back before.0.0 spelled.fits in
      subst (λ pair. Spells (made make part form) old pair.1 pair.0) is (record {
        fits = subst (FitsPart form) (sym part_is) spelled.fits;
        takes = subst (λ (it : Option V). Takes old before.0.1 (spelled_part form it)) (sym part_is) spelled.takes;
      });
  only = λ old new value spelled.
      let inner = part_of make part form old new value spelled in
      rw (exact.only old new inner.0 inner.2, again value inner.0 (inner.2).fits inner.1) refl;
}

-- a record of the fields that were read
pub fields-exact : {V W : Type 0} (make : V → W) (fields : W → V) (form : Format V) → IsExact form
    → ((found : V) → form.Fits found → fields (make found) ≡ found) → ((value : W) → make (fields value) ≡ value)
    → IsExact (made make (λ value. Some (fields value)) form)
fields-exact make fields form exact back again =
    made-exact make (λ value. Some (fields value)) form exact (λ found fits. ap Some (back found fits))
    (λ value found fits is. ap make (sym (some_is is)) ∙ again value)

pub either-exact : {V : Type 0} (which : Bool) (first second : Format V) → IsExact first → IsExact second
    → IsExact (either which first second)
either-exact true first second one two = one
either-exact false first second one two = two

-- ---- lists

module _ {K V : Type 0} (spell : V → List ℕ) (item : K → Format V) (next : V → K)
    (exact : (key : K) → IsExact (item key))
    (spelled_so : (key : K) (value : V) → (item key).spell value ≡ spell value) where
  -- what was read of a list is there
  ItemsFound : K → ℕ → Type 0
  ItemsFound key count = (old new : Front) (values : List V) → AreBytes old.rest
      → items_at item next key count old ≡ Ok (values, new) → Spells (items spell item next key count) old new values

  found_none : (key : K) → ItemsFound key zero
  unfolding items_at ItemsFound
  found_none key old new values fit given =
      let is : ([], old) ≡ (values, new) = same_ok _ _ (record { place = 0; why = Short }) given in
      subst (λ pair. Spells (items spell item next key zero) old pair.1 pair.0) is
      (record { fits = (refl, tt); takes = record { bytes = refl; place = omega arith } })

  found_more : (count : ℕ) (key : K) → ((key : K) → ItemsFound key count) → ItemsFound key (suc count)
  unfolding items_at ItemsFound
  found_more count key later old new values fit given =
      let before = and_then-ok ((item key).read old) _ (values, new) given in
      let after = and_then-ok (items_at item next (next before.0.0) count before.0.1) _ (values, new) before.2 in
      let front = (exact key).found old before.0.1 before.0.0 fit before.1 in
      let back = later (next before.0.0) before.0.1 after.0.1 after.0.0
      (bytes_behind old before.0.1 _ front.takes fit) after.1 in
      let is : (before.0.0 ∷ after.0.0, after.0.1) ≡ (values, new) =
      same_ok _ _ (record { place = 0; why = Short }) after.2 in
      let first : Takes old before.0.1 (spell before.0.0) =
      subst (Takes old before.0.1) (spelled_so key before.0.0) front.takes in
      subst (λ pair. Spells (items spell item next key (suc count)) old pair.1 pair.0) is
      (record {
        fits = (ap suc back.fits.0, (front.fits, back.fits.1));
        takes = takes_then old before.0.1 after.0.1 _ _ first back.takes;
      })

  found_items : (count : ℕ) (key : K) → ItemsFound key count
  found_items zero key = found_none key
  found_items (suc count) key = found_more count key (found_items count)

  -- a list that is spelled is read
  ItemsOnly : K → List V → Type 0
  ItemsOnly key values = (old new : Front) → FitsFrom item next key values → Takes old new (flat_map spell values)
      → items_at item next key (length values) old ≡ Ok (values, new)

  only_none : (key : K) → ItemsOnly key []
  unfolding items_at ItemsOnly
  only_none key old new fits takes =
      let front : old ≡ new = front_is old new (omega (arith, takes.place)) takes.bytes in
      rw front refl

  only_more : (value : V) (values : List V) (key : K) → ItemsOnly (next value) values → ItemsOnly key (value ∷ values)
  unfolding items_at ItemsOnly
  only_more value values key later old new fits takes =
      let between : Front =
      record { place = old.place + length (spell value); rest = flat_map spell values ++ new.rest } in
      let front : Takes old between (spell value) = record {
        bytes = takes.bytes ∙ append_assoc (spell value) (flat_map spell values) new.rest;
        place = refl;
      } in
      let back : Takes between new (flat_map spell values) = record {
        bytes = refl;
        place = omega (arith, takes.place, length-append (spell value) (flat_map spell values));
      } in
      let one : (item key).read old ≡ Ok (value, between) =
      (exact key).only old between value
      (record { fits = fits.0; takes = subst (Takes old between) (sym (spelled_so key value)) front }) in
      rw (one, later between new fits.1 back) refl

  only_items : (values : List V) (key : K) → ItemsOnly key values
  only_items [] key = only_none key
  only_items (value ∷ values) key = only_more value values key (only_items values (next value))

  pub items-exact : (key : K) (count : ℕ) → IsExact (items spell item next key count)
  unfolding ItemsFound ItemsOnly
  items-exact key count = record {
    found = found_items count key;
    only = λ old new values spelled.
        subst (λ (many : ℕ). items_at item next key many old ≡ Ok (values, new)) spelled.fits.0
        (only_items values key old new spelled.fits.1 spelled.takes);
  }

  pub counted-exact : (count : Format ℕ) (key : K) → IsExact count → IsExact (counted count spell item next key)
  counted-exact count key counts =
      made-exact (λ pair. pair.1) (λ values. Some (length values, values))
      (both count (λ many. items spell item next key many))
      (both-exact count (λ many. items spell item next key many) counts (λ many fits. items-exact key many))
      (λ pair fits. ap (λ (many : ℕ). Some (many, pair.1)) (fits.1).0)
      (λ values pair fits is. ap (λ (it : ℕ × List V). it.1) (sym (some_is is)))

-- ---- common fields

from_bool-one : (flag : Bool) → from_bool flag ≤ 1
from_bool-one true = omega arith
from_bool-one false = omega arith

one_code : (may : Bool) (code : ℕ) → code ≤ from_bool may → from_bool (code == 1) ≡ code
one_code may zero within = refl
one_code may (suc zero) within = refl
one_code may (suc (suc code)) within = absurd (omega (arith, within, from_bool-one may))

from_bool-back : (value : Bool) → (from_bool value == 1) ≡ value
from_bool-back true = refl
from_bool-back false = refl

from_bool-most : (may : Bool) → from_bool may < 2 ^ 8
from_bool-most true = omega arith
from_bool-most false = omega arith

pub flag-exact : (may : Bool) → IsExact (flag may)
flag-exact may =
    made-exact (λ code. code == 1) (λ value. Some (from_bool value)) (number w8 0 (from_bool may))
    (number-exact w8 (2 ^ 8) 0 (from_bool may) wide8 (from_bool-most may))
    (λ code fits. ap Some (one_code may code fits.1))
    (λ value code fits is. ap (λ (it : ℕ). it == 1) (sym (some_is is)) ∙ from_bool-back value)

-- the pair of a code and a value is that of the value
pub coded_pair : {C V : Type 0} (code : V → C) (pair : C × V) → code pair.1 ≡ pair.0
    → Some (code pair.1, pair.1) ≡ Some pair
coded_pair code pair is = ap (λ it. Some (it, pair.1)) is

pub second_of : {C V : Type 0} (code : V → C) (value : V) (pair : C × V) → Some (code value, value) ≡ Some pair
    → pair.1 ≡ value
second_of {C = C} {V = V} code value pair is = ap (λ (it : C × V). it.1) (sym (some_is is))

there_form : {V : Type 0} (there : Bool) (form : Format V) → IsExact form
    → IsExact (either there (made Some (λ value. value) form) (nothing None))
there_form there form exact =
    either-exact there (made Some (λ value. value) form) (nothing None)
    (made-exact Some (λ value. value) form exact (λ found fits. refl) (λ value found fits is. sym is))
    (nothing-exact None)

there_is : {V : Type 0} (there : Bool) (form : Format V) (value : Option V)
    → (either there (made Some (λ value. value) form) (nothing None)).Fits value → is_some value ≡ there
there_is true form (Some value) fits = refl
there_is true form None fits = absurd fits
there_is false form value fits = ap is_some fits

pub optional-exact : {V : Type 0} (may : Bool) (form : Format V) → IsExact form → IsExact (optional may form)
optional-exact may form exact =
    let body = λ (there : Bool). either there (made Some (λ value. value) form) (nothing None) in
    made-exact (λ pair. pair.1) (λ value. Some (is_some value, value)) (both (flag may) body)
    (both-exact (flag may) body (flag-exact may) (λ there fits. there_form there form exact))
    (λ pair fits. coded_pair is_some pair (there_is pair.0 form pair.1 fits.1))
    (λ value pair fits is. second_of is_some value pair is)

pub tagged-exact : {V : Type 0} (is_code : ℕ → Bool) (code : V → ℕ) (body : ℕ → Format V)
    → ((tag : ℕ) → IsTrue (is_code tag) → IsExact (body tag))
    → ((tag : ℕ) (value : V) → IsTrue (is_code tag) → (body tag).Fits value → code value ≡ tag)
    → IsExact (tagged is_code code body)
tagged-exact is_code code body exact coded =
    let tag_form = tested is_code Range (number w8 0 255) in
    made-exact (λ pair. pair.1) (λ value. Some (code value, value)) (both tag_form body)
    (both-exact tag_form body
    (tested-exact is_code Range (number w8 0 255) (number-exact w8 (2 ^ 8) 0 255 wide8 (omega arith)))
    (λ tag fits. exact tag fits.1))
    (λ pair fits. coded_pair code pair (coded pair.0 pair.1 (fits.0).1 fits.1))
    (λ value pair fits is. second_of code value pair is)

pub digest-exact : IsExact digest_form
digest-exact =
    made-exact (λ content. record { 0 = content }) (λ digest. Some digest.0) (bytes 32) (bytes-exact 32)
    (λ found fits. refl)
    (λ digest found fits is. ap (λ (content : List ℕ). record { 0 = content }) (sym (some_is is)))

pub object-exact : IsExact object_form
object-exact = fields-exact _ _ _ (number-exact w16 (2 ^ 16) 0 (OBJECT_IDS - 1) wide16 (omega arith))
    (λ found fits. refl) (λ object. refl)

pub replica-exact : IsExact replica_form
replica-exact = fields-exact _ _ _ (number-exact w8 (2 ^ 8) 0 (REPLICA_IDS - 1) wide8 (omega arith))
    (λ found fits. refl) (λ replica. refl)

pub client-exact : IsExact client_form
client-exact = fields-exact _ _ _ (number-exact w16 (2 ^ 16) 1 LAST_CLIENT wide16 (omega arith))
    (λ found fits. refl) (λ client. refl)
