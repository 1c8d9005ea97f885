-- The format of states is exact.
use Rattle.std.proofs.Common.{◌≡◌, ◌==◌, ◌<◌, ℕ, zero, suc, List, true, Option, None, Some, refl, arith}
use Rattle.std.specs.Prelude.{IsTrue}
use Rattle.std.proofs.lemmas.Bool.Decides.{nat_tests}
use Rattle.std.specs.Int.{w8}
use Rattle.qu_base.specs.declared.bad_text.Why.TheVariants.{Order}
use Rattle.qu_base.specs.declared.party.ClientId.{ClientId}
use Rattle.qu_base.specs.declared.party.ObjectId.{ObjectId}
use Rattle.qu_base.specs.Format.{IsPrefixCode, IsExact, number, made, either, object_form, client_form}
use Rattle.qu_base.proofs.Formats.{both-exact, tested-exact, made-exact, either-exact, fields-exact, counted-exact, tagged-exact, digest-exact, object-exact, client-exact}
use Rattle.qu_base.proofs.PrefixCodes.{prefix_code}
use Rattle.qu_base.proofs.Reading.{given_exactly}
use Rattle.qu_stamp.proofs.Forms.{stamp_with-exact}
use Rattle.qu_objects.specs.declared.kind.Value.{Value}
use Rattle.qu_objects.specs.declared.kind.Value.TheVariants.{Counter, Blob, Dir}
use Rattle.qu_objects.specs.declared.limits.TheConstants.{KEPT_LIMIT, LINKS_LIMIT}
use Rattle.qu_base.specs.Texts.{content_form}
use Rattle.qu_base.proofs.TextForms.{word-exact}
use Rattle.kind_counter.specs.Counter.{counter_form}
use Rattle.kind_counter.specs.Laws.{counter-code}
use Rattle.kind_blob.specs.Laws.{blob-code}
use Rattle.kind_dir.specs.Dir.{dir_form}
use Rattle.kind_dir.specs.Laws.{dir-code}
use Rattle.qu_objects.specs.Formats.{is_after}
use Rattle.qu_objects.specs.States.{kind_code, counter_value, blob_value, dir_value, is_kind_code, value_body, value_form, is_later_client, row_form, after_row, kept_form, link_form, after_link, links_form, state_form}
use Rattle.qu_objects.proofs.Forms.{byte-exact, answer-exact}

-- ---- values

counter_back : (value : Value) (number : ℕ) → counter_value value ≡ Some number → Counter number ≡ value
counter_back (Counter other) number is = cc
counter_back (Blob other) number is = absurd cc
counter_back (Dir other) number is = absurd cc

blob_back : (value : Value) (content : List ℕ) → blob_value value ≡ Some content → Blob content ≡ value
blob_back (Counter other) content is = absurd cc
blob_back (Blob other) content is = cc
blob_back (Dir other) content is = absurd cc

dir_back : (value : Value) (entries : List (List ℕ × ℕ)) → dir_value value ≡ Some entries → Dir entries ≡ value
dir_back (Counter other) entries is = absurd cc
dir_back (Blob other) entries is = absurd cc
dir_back (Dir other) entries is = cc

value_body-exact : (code : ℕ) → IsExact (value_body code)
value_body-exact code =
    either-exact (code == 1) (made Counter counter_value counter_form)
    (either (code == 2) (made Blob blob_value content_form) (made Dir dir_value dir_form))
    (made-exact Counter counter_value counter_form counter-code.exact (λ number fits. refl)
    (λ value number fits is. counter_back value number is))
    (either-exact (code == 2) (made Blob blob_value content_form) (made Dir dir_value dir_form)
    (made-exact Blob blob_value content_form blob-code.exact (λ content fits. refl)
    (λ value content fits is. blob_back value content is))
    (made-exact Dir dir_value dir_form dir-code.exact (λ entries fits. refl)
    (λ value entries fits is. dir_back value entries is)))

beyond : (code : ℕ) → IsTrue (is_kind_code code) → 3 < code → ⊥
beyond code known above = grind (arith, nat_tests)

kind_coded : (code : ℕ) (value : Value) → IsTrue (is_kind_code code) → (value_body code).Fits value
    → kind_code value ≡ code
kind_coded zero value known fits = absurd (grind (arith, nat_tests))
kind_coded (suc zero) (Counter other) known fits = refl
kind_coded (suc zero) (Blob other) known fits = absurd fits
kind_coded (suc zero) (Dir other) known fits = absurd fits
kind_coded (suc (suc zero)) (Counter other) known fits = absurd fits
kind_coded (suc (suc zero)) (Blob other) known fits = refl
kind_coded (suc (suc zero)) (Dir other) known fits = absurd fits
kind_coded (suc (suc (suc zero))) (Counter other) known fits = absurd fits
kind_coded (suc (suc (suc zero))) (Blob other) known fits = absurd fits
kind_coded (suc (suc (suc zero))) (Dir other) known fits = refl
kind_coded (suc (suc (suc (suc code)))) value known fits =
    absurd (beyond (suc (suc (suc (suc code)))) known (omega arith))

pub value-exact : IsExact value_form
unfolding value_form
value-exact = tagged-exact is_kind_code kind_code value_body (λ code known. value_body-exact code) kind_coded

-- ---- what is kept of clients

row-exact : (before : Option ClientId) → IsExact (row_form before)
unfolding row_form
row-exact before =
    fields-exact _ _ _
    (both-exact _ _ (tested-exact (is_later_client before) Order client_form client-exact) (λ client fits.
    both-exact _ _ word-exact (λ number fits. both-exact _ _ digest-exact (λ act fits. answer-exact))))
    (λ fields fits. refl) (λ row. refl)

kept-exact : IsExact kept_form
unfolding kept_form row_form
kept-exact =
    counted-exact (row_form None).spell row_form after_row row-exact (λ before row. refl)
    (number w8 0 KEPT_LIMIT) None (byte-exact 0 KEPT_LIMIT (omega arith))

-- ---- links

link-exact : (before : Option ObjectId) → IsExact (link_form before)
unfolding link_form
link-exact before =
    fields-exact _ _ _
    (both-exact _ _ (tested-exact (is_after before) Order object_form object-exact) (λ object fits.
    stamp_with-exact true))
    (λ fields fits. refl) (λ link. refl)

links-exact : IsExact links_form
unfolding links_form link_form
links-exact =
    counted-exact (link_form None).spell link_form after_link link-exact (λ before link. refl)
    (number w8 0 LINKS_LIMIT) None (byte-exact 0 LINKS_LIMIT (omega arith))

-- ---- states

pub state-exact : IsExact state_form
unfolding state_form
state-exact =
    fields-exact _ _ _ (both-exact _ _ value-exact (λ value fits. both-exact _ _ kept-exact (λ kept fits. links-exact)))
    (λ fields fits. refl) (λ state. refl)

pub state-code : IsPrefixCode state_form
state-code = prefix_code state_form state-exact

pub ruleset state_laws = (given_exactly, state-exact)
