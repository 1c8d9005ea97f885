-- Two acts with one text are one act of one client and number.
use Rattle.std.proofs.Common.{◌≡◌, ℕ, ◌-◌, ◌^◌, ◌<◌, ◌≤◌, List, [], ◌∷◌, length, map, Option, None, Some, refl, sym, ap, arith}
use Rattle.std.specs.Prelude.{IsTrue, nat_lt, nat_le}
use Rattle.std.proofs.lemmas.Bool.{and_parts, leb-true, ltb-true}
use Rattle.std.specs.Int.{w16}
use Rattle.qu_base.specs.declared.limits.TheConstants.{OBJECT_IDS, CONTENT_LIMIT, NAME_LIMIT}
use Rattle.qu_base.specs.declared.party.ClientId.{ClientId}
use Rattle.qu_base.specs.declared.party.ObjectId.{ObjectId}
use Rattle.qu_base.specs.Format.{object_form, number, both, FitsFrom, IsExact}
use Rattle.qu_base.proofs.Formats.{some_is, wide16, number-exact, both-exact, made-exact}
use Rattle.qu_base.proofs.PrefixCodes.{one_spelling}
use Rattle.qu_objects.specs.declared.act.Method.{Method}
use Rattle.qu_objects.specs.declared.act.Method.TheVariants.{Add, Take, Put, Append, Link, Unlink}
use Rattle.qu_objects.specs.declared.query.Ask.{Ask}
use Rattle.qu_objects.specs.declared.query.Ask.TheVariants.{Read, Cat, Find, All}
use Rattle.qu_objects.specs.Parts.{is_object_from, are_objects_from, are_parts}
use Rattle.qu_base.specs.Texts.{word_form, content_form, name_form}
use Rattle.qu_base.proofs.TextForms.{word-exact}
use Rattle.qu_objects.specs.Formats.{method_form, ask_form, part_form, act_form}
use Rattle.qu_objects.specs.Digesting.{any_object, any_client, act_text_form, act_text, MethodFits, PartsFit, AskFits}
use Rattle.qu_objects.proofs.PartLaws.{parts_are, after_object, is_behind}
use Rattle.qu_objects.proofs.Forms.{act-exact}

client-exact : IsExact any_client
client-exact =
    made-exact (λ number. record { 0 = number }) (λ client. Some client.0) (number w16 0 (2 ^ 16 - 1))
    (number-exact w16 (2 ^ 16) 0 (2 ^ 16 - 1) wide16 (omega arith)) (λ found fits. refl)
    (λ client found fits is. ap (λ (number : ℕ). record { 0 = number }) (sym (some_is is)))

pub act_text-exact : IsExact act_text_form
unfolding act_text_form
act_text-exact =
    both-exact any_client (λ client. both word_form (λ number. act_form any_object)) client-exact
    (λ client fits. both-exact word_form (λ number. act_form any_object) word-exact
    (λ number fits. act-exact any_object))

-- ---- what has a spelling

content_fits : (content : List ℕ) → length content ≤ CONTENT_LIMIT → content_form.Fits content
unfolding content_form
content_fits content fits = ((omega arith, omega (arith, fits)), refl)

name_fits : (name : List ℕ) → length name ≤ NAME_LIMIT → name_form.Fits name
unfolding name_form
name_fits name fits = ((omega arith, omega (arith, fits)), refl)

pub method_fits : (method : Method) → MethodFits method → method_form.Fits method
unfolding method_form
method_fits (Add more) fits = (((omega arith, omega arith), refl), (omega arith, omega arith))
method_fits (Take fewer) fits = (((omega arith, omega arith), refl), (omega arith, omega arith))
method_fits (Put content) fits = (((omega arith, omega arith), refl), content_fits content fits)
method_fits (Append more) fits = (((omega arith, omega arith), refl), content_fits more fits)
method_fits (Link name number) fits =
    (((omega arith, omega arith), refl), (name_fits name fits.0, (omega arith, omega (arith, fits.1))))
method_fits (Unlink name) fits = (((omega arith, omega arith), refl), name_fits name fits)

pub ask_fits : (ask : Ask) → AskFits ask → ask_form.Fits ask
unfolding ask_form
ask_fits Read fits = (((omega arith, omega arith), refl), refl)
ask_fits Cat fits = (((omega arith, omega arith), refl), refl)
ask_fits (Find name) fits = (((omega arith, omega arith), refl), name_fits name fits)
ask_fits All fits = (((omega arith, omega arith), refl), refl)

object_fits : (object : ObjectId) → object.0 < OBJECT_IDS → object_form.Fits object
object_fits object below = (omega arith, omega arith)

each_fits : (before : Option ObjectId) (parts : List (ObjectId × Method))
    → IsTrue (are_objects_from (after_object before) (map (λ part. part.0) parts)) → PartsFit parts
    → FitsFrom (part_form method_form any_object) (λ part. Some part.0) before parts
unfolding are_objects_from
each_fits before [] rise fits = tt
each_fits before (part ∷ later) rise fits =
    let both = and_parts (is_object_from (after_object before) part.0) _ rise in
    let here = and_parts (nat_le (after_object before) (part.0).0) (nat_lt (part.0).0 OBJECT_IDS) both.0 in (
      (
        ((object_fits part.0 (ltb-true _ _ here.1), refl), is_behind before part.0 (leb-true _ _ here.0)),
        method_fits part.1 fits.0,
      ),
      each_fits (Some part.0) later both.1 fits.1,
    )

act_fits : (parts : List (ObjectId × Method)) → IsTrue (are_parts parts) → PartsFit parts
    → (act_form any_object).Fits parts
unfolding act_form
act_fits parts in_order fits =
    let are = parts_are parts in_order in ((are.some, are.few), (refl, each_fits None parts are.rise fits))

text_fits : (client : ClientId) (number : ℕ) (parts : List (ObjectId × Method)) → client.0 < 2 ^ 16
    → number < 2 ^ 64 → IsTrue (are_parts parts) → PartsFit parts
    → act_text_form.Fits (client, (number, parts))
unfolding act_text_form
text_fits client number parts is_client is_number in_order fits =
    ((omega arith, omega arith), ((omega arith, omega arith), act_fits parts in_order fits))

pub act_text-one : (client other : ClientId) (number turn : ℕ) (parts others : List (ObjectId × Method))
    → client.0 < 2 ^ 16 → other.0 < 2 ^ 16 → number < 2 ^ 64 → turn < 2 ^ 64
    → IsTrue (are_parts parts) → IsTrue (are_parts others) → PartsFit parts → PartsFit others
    → act_text client number parts ≡ act_text other turn others → (client ≡ other) × (number ≡ turn) × (parts ≡ others)
unfolding act_text
act_text-one client other number turn parts others is_client is_other is_number is_turn in_order others_in_order
    fits others_fit same =
    let one : (client, (number, parts)) ≡ (other, (turn, others)) =
    one_spelling act_text_form act_text-exact (client, (number, parts)) (other, (turn, others))
    (text_fits client number parts is_client is_number in_order fits)
    (text_fits other turn others is_other is_turn others_in_order others_fit) same in
    let V = ClientId × (ℕ × List (ObjectId × Method)) in
    (ap (λ (value : V). value.0) one, ap (λ (value : V). (value.1).0) one, ap (λ (value : V). (value.1).1) one)
