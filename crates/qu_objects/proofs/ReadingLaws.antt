-- What readers and writers stand on.
use Rattle.std.proofs.Common.{◌≡◌, ℕ, ◌<◌, Bool, true, false, ◌&&◌, List, [], ◌∷◌, length, map, Option, None, Some, Ok, refl, arith}
use Rattle.std.specs.Prelude.{IsTrue, nat_le}
use Rattle.std.proofs.lemmas.Bool.{lt-ltb, le-leb, false≢true}
use Rattle.qu_base.specs.declared.limits.TheConstants.{OBJECT_IDS, CONTENT_LIMIT, NAME_LIMIT}
use Rattle.qu_base.specs.declared.party.ObjectId.{ObjectId}
use Rattle.qu_base.specs.Cursor.{Front}
use Rattle.qu_base.specs.Format.{IsPrefixCode, object_form, Format, FitsFrom, AreBytes}
use Rattle.qu_base.proofs.PrefixCodes.{prefix_code}
use Rattle.qu_base.proofs.Reading.{given_exactly}
use Rattle.qu_base.specs.Texts.{content_form, name_form}
use Rattle.qu_objects.specs.declared.act.Method.{Method}
use Rattle.qu_objects.specs.declared.act.Method.TheVariants.{Add, Take, Put, Append, Link, Unlink}
use Rattle.qu_objects.specs.declared.query.Ask.{Ask}
use Rattle.qu_objects.specs.declared.query.Ask.TheVariants.{Read, Cat, Find, All}
use Rattle.qu_objects.specs.Parts.{are_objects_from, are_parts, is_sized_method, is_sized_ask, are_sized}
use Rattle.qu_objects.specs.Formats.{method_form, ask_form, item_form, part_form, parts_form, act_form, query_form, answer_form}
use Rattle.qu_objects.specs.Digesting.{act_text_form}
use Rattle.qu_objects.proofs.PartLaws.{after_object, is_from}
use Rattle.qu_objects.proofs.Forms.{method-exact, ask-exact, item-exact, act-exact, query-exact, answer-exact}
use Rattle.qu_objects.proofs.Text.{act_text-exact}
use Rattle.qu_objects.proofs.StateLaws.{state-code}

both_true : (a b : Bool) → IsTrue a → IsTrue b → IsTrue (a && b)
both_true true b first second = second
both_true false b first second = absurd (false≢true first)

object_below : (object : ObjectId) → object_form.Fits object → object.0 < OBJECT_IDS
object_below object fits = omega (arith, fits.1)

-- the objects of parts that fit rise
objects_rise : {X : Type 0} (form : Format X) (known : ObjectId → Bool) (before : Option ObjectId)
    (parts : List (ObjectId × X)) → FitsFrom (part_form form known) (λ part. Some part.0) before parts
    → IsTrue (are_objects_from (after_object before) (map (λ part. part.0) parts))
unfolding are_objects_from
objects_rise form known before [] fits = refl
objects_rise form known before (part ∷ later) fits =
    both_true _ _
    (both_true _ _ (le-leb _ _ (is_from before part.0 fits.0.0.1)) (lt-ltb _ _ (object_below part.0 fits.0.0.0.0)))
    (objects_rise form known (Some part.0) later fits.1)

pub in_order : {X : Type 0} (form : Format X) (known : ObjectId → Bool) (parts : List (ObjectId × X))
    → (parts_form form known).Fits parts → IsTrue (are_parts parts)
in_order form known parts fits =
    both_true _ _ (both_true _ _ (le-leb _ _ fits.0.0) (le-leb _ _ fits.0.1))
    (objects_rise form known None parts fits.1.1)

-- ---- what has a spelling is no longer than it may be

short_content : (content : List ℕ) → content_form.Fits content → IsTrue (nat_le (length content) CONTENT_LIMIT)
unfolding content_form
short_content content fits = le-leb _ _ (omega (arith, fits.0.1))

short_name : (name : List ℕ) → name_form.Fits name → IsTrue (nat_le (length name) NAME_LIMIT)
unfolding name_form
short_name name fits = le-leb _ _ (omega (arith, fits.0.1))

method_sized : (method : Method) → method_form.Fits method → IsTrue (is_sized_method method)
unfolding method_form
method_sized (Add more) fits = refl
method_sized (Take fewer) fits = refl
method_sized (Put content) fits = short_content content fits.1
method_sized (Append more) fits = short_content more fits.1
method_sized (Link name number) fits = short_name name fits.1.0
method_sized (Unlink name) fits = short_name name fits.1

ask_sized : (ask : Ask) → ask_form.Fits ask → IsTrue (is_sized_ask ask)
unfolding ask_form
ask_sized Read fits = refl
ask_sized Cat fits = refl
ask_sized (Find name) fits = short_name name fits.1
ask_sized All fits = refl

each_sized : {X : Type 0} (form : Format X) (test : X → Bool) (known : ObjectId → Bool)
    → ((it : X) → form.Fits it → IsTrue (test it)) → (before : Option ObjectId) (parts : List (ObjectId × X))
    → FitsFrom (part_form form known) (λ part. Some part.0) before parts → IsTrue (are_sized test parts)
each_sized form test known short before [] fits = refl
each_sized form test known short before (part ∷ later) fits =
    both_true _ _ (short part.1 fits.0.1) (each_sized form test known short (Some part.0) later fits.1)

sized : {X : Type 0} (form : Format X) (test : X → Bool) (known : ObjectId → Bool) (parts : List (ObjectId × X))
    → ((it : X) → form.Fits it → IsTrue (test it)) → (parts_form form known).Fits parts → IsTrue (are_sized test parts)
sized form test known parts short fits = each_sized form test known short None parts fits.1.1

-- the parts of an act that were read are in order
pub act_in_order : (known : ObjectId → Bool) (old new : Front) (parts : List (ObjectId × Method))
    → AreBytes old.rest → (act_form known).read old ≡ Ok (parts, new) → IsTrue (are_parts parts)
unfolding act_form
act_in_order known old new parts fit read =
    in_order method_form known parts ((act-exact known).found old new parts fit read).fits

pub act_sized : (known : ObjectId → Bool) (old new : Front) (parts : List (ObjectId × Method))
    → AreBytes old.rest → (act_form known).read old ≡ Ok (parts, new) → IsTrue (are_sized is_sized_method parts)
unfolding act_form
act_sized known old new parts fit read =
    sized method_form is_sized_method known parts method_sized ((act-exact known).found old new parts fit read).fits

pub query_sized : (known : ObjectId → Bool) (old new : Front) (parts : List (ObjectId × Ask))
    → AreBytes old.rest → (query_form known).read old ≡ Ok (parts, new) → IsTrue (are_sized is_sized_ask parts)
unfolding query_form
query_sized known old new parts fit read =
    sized ask_form is_sized_ask known parts ask_sized ((query-exact known).found old new parts fit read).fits

pub query_in_order : (known : ObjectId → Bool) (old new : Front) (parts : List (ObjectId × Ask))
    → AreBytes old.rest → (query_form known).read old ≡ Ok (parts, new) → IsTrue (are_parts parts)
unfolding query_form
query_in_order known old new parts fit read =
    in_order ask_form known parts ((query-exact known).found old new parts fit read).fits

pub ruleset act_laws = (given_exactly, act-exact, act_in_order, act_sized)

pub ruleset query_laws = (given_exactly, query-exact, query_in_order, query_sized)

pub ruleset answer_laws = (given_exactly, answer-exact)

-- ---- each is a prefix code

pub method-code : IsPrefixCode method_form
method-code = prefix_code method_form method-exact

pub ask-code : IsPrefixCode ask_form
ask-code = prefix_code ask_form ask-exact

pub item-code : IsPrefixCode item_form
item-code = prefix_code item_form item-exact

pub act-code : (known : ObjectId → Bool) → IsPrefixCode (act_form known)
act-code known = prefix_code (act_form known) (act-exact known)

pub query-code : (known : ObjectId → Bool) → IsPrefixCode (query_form known)
query-code known = prefix_code (query_form known) (query-exact known)

pub answer-code : IsPrefixCode answer_form
answer-code = prefix_code answer_form answer-exact

pub text-code : IsPrefixCode act_text_form
text-code = prefix_code act_text_form act_text-exact

pub ruleset code_laws = (method-code, ask-code, item-code, act-code, query-code, answer-code, text-code, state-code)
