-- The formats of operations and of what they answer are exact.
use Rattle.std.proofs.Common.{◌≡◌, ℕ, zero, suc, ◌^◌, ◌<◌, ◌-◌, ◌==◌, ◌&&◌, Bool, List, Option, None, Some, refl, sym, ap, arith}
use Rattle.std.specs.Prelude.{IsTrue, nat_le}
use Rattle.std.proofs.lemmas.Bool.{leb-true}
use Rattle.std.proofs.lemmas.Bool.Decides.{nat_tests}
use Rattle.std.specs.Int.{w8}
use Rattle.qu_base.specs.declared.bad_text.Why.TheVariants.{Range, Order}
use Rattle.qu_base.specs.declared.party.ObjectId.{ObjectId}
use Rattle.qu_base.specs.Format.{object_form, Format, number, below, tested, made, IsExact}
use Rattle.qu_base.proofs.Formats.{some_is, object-exact, wide8, number-exact, both-exact, tested-exact, made-exact, either-exact, nothing-exact, counted-exact, tagged-exact}
use Rattle.qu_objects.specs.declared.act.Method.{Method}
use Rattle.qu_objects.specs.declared.act.Method.TheVariants.{Add, Take, Put, Append, Link, Unlink}
use Rattle.qu_objects.specs.declared.query.Ask.{Ask}
use Rattle.qu_objects.specs.declared.query.Ask.TheVariants.{Read, Cat, Find, All}
use Rattle.qu_base.specs.declared.kind.Item.{Item}
use Rattle.qu_base.specs.declared.kind.Item.TheVariants.{Number, Bytes, Entries}
use Rattle.qu_base.specs.Texts.{word_form, content_form, name_form, listing_form}
use Rattle.qu_base.proofs.TextForms.{word-exact, content-exact, name-exact, listing-exact}
use Rattle.qu_objects.specs.declared.answer.Answer.{Answer}
use Rattle.qu_objects.specs.declared.answer.Answer.TheVariants as answer
use Rattle.qu_objects.specs.declared.limits.TheConstants.{MOST_PARTS, LAST_METHOD, LAST_ASK, LAST_ITEM}
use Rattle.qu_objects.specs.RefusalNumber.{is_kind_refusal}
use Rattle.qu_objects.specs.Formats.{method_code, added, taken, put_there, appended, linked, link_to, entry_pair, unlinked, is_method_code, method_body, method_form, ask_code, name_asked, is_ask_code, ask_body, ask_form, item_code, item_number, item_bytes, item_entries, is_item_code, any_name, item_body, item_form, is_after, next_object, part_form, spelled_object, parts_form, act_form, query_form, part_refusal_form, items_form, answer_code, answered, refused_part, is_answer_code, answer_body, answer_form}

pub byte-exact : (least most : ℕ) → most < 2 ^ 8 → IsExact (number w8 least most)
byte-exact least most below = number-exact w8 (2 ^ 8) least most wide8 below

-- ---- methods, asks and items

added_back : (method : Method) (more : ℕ) → added method ≡ Some more → Add more ≡ method
added_back (Add other) more is = cc
added_back (Take other) more is = absurd cc
added_back (Put other) more is = absurd cc
added_back (Append other) more is = absurd cc
added_back (Link name number) more is = absurd cc
added_back (Unlink other) more is = absurd cc

taken_back : (method : Method) (fewer : ℕ) → taken method ≡ Some fewer → Take fewer ≡ method
taken_back (Add other) fewer is = absurd cc
taken_back (Take other) fewer is = cc
taken_back (Put other) fewer is = absurd cc
taken_back (Append other) fewer is = absurd cc
taken_back (Link name number) fewer is = absurd cc
taken_back (Unlink other) fewer is = absurd cc

put_back : (method : Method) (content : List ℕ) → put_there method ≡ Some content → Put content ≡ method
put_back (Add other) content is = absurd cc
put_back (Take other) content is = absurd cc
put_back (Put other) content is = cc
put_back (Append other) content is = absurd cc
put_back (Link name number) content is = absurd cc
put_back (Unlink other) content is = absurd cc

append_back : (method : Method) (more : List ℕ) → appended method ≡ Some more → Append more ≡ method
append_back (Add other) more is = absurd cc
append_back (Take other) more is = absurd cc
append_back (Put other) more is = absurd cc
append_back (Append other) more is = cc
append_back (Link name number) more is = absurd cc
append_back (Unlink other) more is = absurd cc

link_back : (method : Method) (entry : List ℕ × ℕ) → linked method ≡ Some entry → link_to entry ≡ method
link_back (Add other) entry is = absurd cc
link_back (Take other) entry is = absurd cc
link_back (Put other) entry is = absurd cc
link_back (Append other) entry is = absurd cc
link_back (Link name number) entry is = ap link_to (sym (some_is is))
link_back (Unlink other) entry is = absurd cc

unlink_back : (method : Method) (name : List ℕ) → unlinked method ≡ Some name → Unlink name ≡ method
unlink_back (Add other) name is = absurd cc
unlink_back (Take other) name is = absurd cc
unlink_back (Put other) name is = absurd cc
unlink_back (Append other) name is = absurd cc
unlink_back (Link other number) name is = absurd cc
unlink_back (Unlink other) name is = cc

pair-exact : IsExact entry_pair
pair-exact = both-exact name_form (λ name. word_form) name-exact (λ name fits. word-exact)

body-exact : (code : ℕ) → IsExact (method_body code)
body-exact code =
    either-exact (code == 1) _ _ (made-exact Add added word_form word-exact (λ more fits. refl)
    (λ method more fits is. added_back method more is))
    (either-exact (code == 2) _ _ (made-exact Take taken word_form word-exact (λ fewer fits. refl)
    (λ method fewer fits is. taken_back method fewer is))
    (either-exact (code == 3) _ _ (made-exact Put put_there content_form content-exact (λ content fits. refl)
    (λ method content fits is. put_back method content is))
    (either-exact (code == 4) _ _ (made-exact Append appended content_form content-exact (λ more fits. refl)
    (λ method more fits is. append_back method more is))
    (either-exact (code == 5) _ _ (made-exact link_to linked entry_pair pair-exact (λ entry fits. refl)
    (λ method entry fits is. link_back method entry is))
    (made-exact Unlink unlinked name_form name-exact (λ name fits. refl)
    (λ method name fits is. unlink_back method name is))))))

above_last : (least most code : ℕ) → IsTrue (nat_le least code && nat_le code most) → most < code → ⊥
above_last least most code known above = grind (arith, nat_tests)

method_coded : (code : ℕ) (method : Method) → IsTrue (is_method_code code) → (method_body code).Fits method
    → method_code method ≡ code
method_coded zero method known fits = absurd (grind (arith, nat_tests))
method_coded (suc zero) (Add other) known fits = refl
method_coded (suc zero) (Take other) known fits = absurd fits
method_coded (suc zero) (Put other) known fits = absurd fits
method_coded (suc zero) (Append other) known fits = absurd fits
method_coded (suc zero) (Link name number) known fits = absurd fits
method_coded (suc zero) (Unlink other) known fits = absurd fits
method_coded (suc (suc zero)) (Add other) known fits = absurd fits
method_coded (suc (suc zero)) (Take other) known fits = refl
method_coded (suc (suc zero)) (Put other) known fits = absurd fits
method_coded (suc (suc zero)) (Append other) known fits = absurd fits
method_coded (suc (suc zero)) (Link name number) known fits = absurd fits
method_coded (suc (suc zero)) (Unlink other) known fits = absurd fits
method_coded (suc (suc (suc zero))) (Add other) known fits = absurd fits
method_coded (suc (suc (suc zero))) (Take other) known fits = absurd fits
method_coded (suc (suc (suc zero))) (Put other) known fits = refl
method_coded (suc (suc (suc zero))) (Append other) known fits = absurd fits
method_coded (suc (suc (suc zero))) (Link name number) known fits = absurd fits
method_coded (suc (suc (suc zero))) (Unlink other) known fits = absurd fits
method_coded (suc (suc (suc (suc zero)))) (Add other) known fits = absurd fits
method_coded (suc (suc (suc (suc zero)))) (Take other) known fits = absurd fits
method_coded (suc (suc (suc (suc zero)))) (Put other) known fits = absurd fits
method_coded (suc (suc (suc (suc zero)))) (Append other) known fits = refl
method_coded (suc (suc (suc (suc zero)))) (Link name number) known fits = absurd fits
method_coded (suc (suc (suc (suc zero)))) (Unlink other) known fits = absurd fits
method_coded (suc (suc (suc (suc (suc zero))))) (Add other) known fits = absurd fits
method_coded (suc (suc (suc (suc (suc zero))))) (Take other) known fits = absurd fits
method_coded (suc (suc (suc (suc (suc zero))))) (Put other) known fits = absurd fits
method_coded (suc (suc (suc (suc (suc zero))))) (Append other) known fits = absurd fits
method_coded (suc (suc (suc (suc (suc zero))))) (Link name number) known fits = refl
method_coded (suc (suc (suc (suc (suc zero))))) (Unlink other) known fits = absurd fits
method_coded (suc (suc (suc (suc (suc (suc zero)))))) (Add other) known fits = absurd fits
method_coded (suc (suc (suc (suc (suc (suc zero)))))) (Take other) known fits = absurd fits
method_coded (suc (suc (suc (suc (suc (suc zero)))))) (Put other) known fits = absurd fits
method_coded (suc (suc (suc (suc (suc (suc zero)))))) (Append other) known fits = absurd fits
method_coded (suc (suc (suc (suc (suc (suc zero)))))) (Link name number) known fits = absurd fits
method_coded (suc (suc (suc (suc (suc (suc zero)))))) (Unlink other) known fits = refl
method_coded (suc (suc (suc (suc (suc (suc (suc code))))))) method known fits =
    absurd (above_last 1 LAST_METHOD (suc (suc (suc (suc (suc (suc (suc code))))))) known (omega arith))

pub method-exact : IsExact method_form
unfolding method_form
method-exact = tagged-exact is_method_code method_code method_body (λ code known. body-exact code) method_coded

find_back : (ask : Ask) (name : List ℕ) → name_asked ask ≡ Some name → Find name ≡ ask
find_back Read name is = absurd cc
find_back Cat name is = absurd cc
find_back (Find other) name is = cc
find_back All name is = absurd cc

ask_body-exact : (code : ℕ) → IsExact (ask_body code)
ask_body-exact code =
    either-exact (code == 1) _ _ (nothing-exact Read) (either-exact (code == 2) _ _ (nothing-exact Cat)
    (either-exact (code == 3) _ _ (made-exact Find name_asked name_form name-exact (λ name fits. refl)
    (λ ask name fits is. find_back ask name is))
    (nothing-exact All)))

ask_coded : (code : ℕ) (ask : Ask) → IsTrue (is_ask_code code) → (ask_body code).Fits ask → ask_code ask ≡ code
ask_coded zero ask known fits = absurd (grind (arith, nat_tests))
ask_coded (suc zero) ask known fits = ap ask_code fits
ask_coded (suc (suc zero)) ask known fits = ap ask_code fits
ask_coded (suc (suc (suc zero))) Read known fits = absurd fits
ask_coded (suc (suc (suc zero))) Cat known fits = absurd fits
ask_coded (suc (suc (suc zero))) (Find name) known fits = refl
ask_coded (suc (suc (suc zero))) All known fits = absurd fits
ask_coded (suc (suc (suc (suc zero)))) ask known fits = ap ask_code fits
ask_coded (suc (suc (suc (suc (suc code))))) ask known fits =
    absurd (above_last 1 LAST_ASK (suc (suc (suc (suc (suc code))))) known (omega arith))

pub ask-exact : IsExact ask_form
unfolding ask_form
ask-exact = tagged-exact is_ask_code ask_code ask_body (λ code known. ask_body-exact code) ask_coded

number_back : (item : Item) (value : ℕ) → item_number item ≡ Some value → Number value ≡ item
number_back (Number other) value is = cc
number_back (Bytes other) value is = absurd cc
number_back (Entries other) value is = absurd cc

bytes_back : (item : Item) (content : List ℕ) → item_bytes item ≡ Some content → Bytes content ≡ item
bytes_back (Number other) content is = absurd cc
bytes_back (Bytes other) content is = cc
bytes_back (Entries other) content is = absurd cc

entries_back : (item : Item) (entries : List (List ℕ × ℕ)) → item_entries item ≡ Some entries → Entries entries ≡ item
entries_back (Number other) entries is = absurd cc
entries_back (Bytes other) entries is = absurd cc
entries_back (Entries other) entries is = cc

item_body-exact : (code : ℕ) → IsExact (item_body code)
item_body-exact code =
    either-exact (code == 1) _ _ (made-exact Number item_number word_form word-exact (λ value fits. refl)
    (λ item value fits is. number_back item value is))
    (either-exact (code == 2) _ _ (made-exact Bytes item_bytes content_form content-exact (λ content fits. refl)
    (λ item content fits is. bytes_back item content is))
    (made-exact Entries item_entries (listing_form any_name) (listing-exact any_name) (λ entries fits. refl)
    (λ item entries fits is. entries_back item entries is)))

item_coded : (code : ℕ) (item : Item) → IsTrue (is_item_code code) → (item_body code).Fits item
    → item_code item ≡ code
item_coded zero item known fits = absurd (grind (arith, nat_tests))
item_coded (suc zero) (Number other) known fits = refl
item_coded (suc zero) (Bytes other) known fits = absurd fits
item_coded (suc zero) (Entries other) known fits = absurd fits
item_coded (suc (suc zero)) (Number other) known fits = absurd fits
item_coded (suc (suc zero)) (Bytes other) known fits = refl
item_coded (suc (suc zero)) (Entries other) known fits = absurd fits
item_coded (suc (suc (suc zero))) (Number other) known fits = absurd fits
item_coded (suc (suc (suc zero))) (Bytes other) known fits = absurd fits
item_coded (suc (suc (suc zero))) (Entries other) known fits = refl
item_coded (suc (suc (suc (suc code)))) item known fits =
    absurd (above_last 1 LAST_ITEM (suc (suc (suc (suc code)))) known (omega arith))

pub item-exact : IsExact item_form
unfolding item_form
item-exact = tagged-exact is_item_code item_code item_body (λ code known. item_body-exact code) item_coded

-- ---- parts

next-exact : (known : ObjectId → Bool) (before : Option ObjectId) → IsExact (next_object known before)
next-exact known before =
    tested-exact (is_after before) Order (tested known Range object_form)
    (tested-exact known Range object_form object-exact)

part-exact : {X : Type 0} (form : Format X) → IsExact form → (known : ObjectId → Bool) (before : Option ObjectId)
    → IsExact (part_form form known before)
part-exact form exact known before =
    both-exact (next_object known before) (λ object. form) (next-exact known before) (λ object fits. exact)

parts-exact : {X : Type 0} (form : Format X) → IsExact form → (known : ObjectId → Bool)
    → IsExact (parts_form form known)
parts-exact form exact known =
    counted-exact (spelled_object form) (part_form form known) (λ part. Some part.0) (part-exact form exact known)
    (λ before part. refl)
    (number w8 1 MOST_PARTS) None (byte-exact 1 MOST_PARTS (omega arith))

pub act-exact : (known : ObjectId → Bool) → IsExact (act_form known)
unfolding act_form
act-exact known = parts-exact method_form method-exact known

pub query-exact : (known : ObjectId → Bool) → IsExact (query_form known)
unfolding query_form
query-exact known = parts-exact ask_form ask-exact known

-- ---- answers

refusal-exact : IsExact part_refusal_form
refusal-exact =
    both-exact (below w8 MOST_PARTS) (λ at. tested is_kind_refusal Range (number w8 0 255))
    (byte-exact 0 (MOST_PARTS - 1) (omega arith))
    (λ at fits. tested-exact is_kind_refusal Range (number w8 0 255) (byte-exact 0 255 (omega arith)))

items-exact : IsExact items_form
items-exact =
    counted-exact {K = Unit {0}} item_form.spell (λ before. item_form) (λ item. tt) (λ before. item-exact)
    (λ before item. refl)
    (number w8 1 MOST_PARTS) tt (byte-exact 1 MOST_PARTS (omega arith))

answered_back : (given : Answer) (items : List Item) → answered given ≡ Some items → answer.Ok items ≡ given
answered_back (answer.Ok other) items is = cc
answered_back (answer.Refused at why) items is = absurd cc

refusal_back : (given : Answer) (refused : ℕ × ℕ) → refused_part given ≡ Some refused
    → answer.Refused refused.0 refused.1 ≡ given
refusal_back (answer.Ok items) refused is = absurd cc
refusal_back (answer.Refused at why) refused is = ap (λ (pair : ℕ × ℕ). answer.Refused pair.0 pair.1) (sym (some_is is))

answer_body-exact : (code : ℕ) → IsExact (answer_body code)
answer_body-exact code =
    either-exact (code == 0) (made answer.Ok answered items_form)
    (made (λ refused. answer.Refused refused.0 refused.1) refused_part part_refusal_form)
    (made-exact answer.Ok answered items_form items-exact (λ items fits. refl)
    (λ given items fits is. answered_back given items is))
    (made-exact (λ refused. answer.Refused refused.0 refused.1) refused_part part_refusal_form refusal-exact
    (λ refused fits. refl) (λ given refused fits is. refusal_back given refused is))

answer_coded : (code : ℕ) (given : Answer) → IsTrue (is_answer_code code) → (answer_body code).Fits given
    → answer_code given ≡ code
answer_coded zero (answer.Ok items) known fits = refl
answer_coded zero (answer.Refused at why) known fits = absurd fits
answer_coded (suc zero) (answer.Ok items) known fits = absurd fits
answer_coded (suc zero) (answer.Refused at why) known fits = refl
answer_coded (suc (suc code)) given known fits = absurd (omega (arith, leb-true (suc (suc code)) 1 known))

pub answer-exact : IsExact answer_form
unfolding answer_form
answer-exact = tagged-exact is_answer_code answer_code answer_body (λ code known. answer_body-exact code) answer_coded
