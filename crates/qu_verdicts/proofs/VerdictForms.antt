-- The formats of refusals and of verdicts are exact.
use Rattle.std.proofs.Common.{◌≡◌, ℕ, zero, suc, ◌≤◌, ◌==◌, Bool, true, false, cond, List, None, Some, refl, sym, ap, subst, ◌∙◌, inl, inr, arith}
use Rattle.std.specs.Prelude.{IsTrue}
use Rattle.std.proofs.lemmas.Bool.{cases_Bool, eqb-true}
use Rattle.std.proofs.lemmas.Bool.Decides.{nat_tests}
use Rattle.std.specs.Int.{w8}
use Rattle.qu_base.specs.declared.party.ObjectId.{ObjectId}
use Rattle.qu_base.specs.Format.{IsPrefixCode, Format, number, both, FitsPart, made, either, object_form, IsExact}
use Rattle.qu_base.proofs.PrefixCodes.{prefix_code}
use Rattle.qu_base.proofs.Formats.{some_is, both-exact, made-exact, fields-exact, counted-exact, tagged-exact, object-exact}
use Rattle.qu_stamp.specs.declared.stamp.Stamp.{Stamp}
use Rattle.qu_stamp.specs.Formats.{stamp_form, object_from}
use Rattle.qu_stamp.proofs.Forms.{stamp_with-exact, object_from-exact}
use Rattle.qu_objects.specs.declared.limits.TheConstants.{MOST_PARTS}
use Rattle.qu_objects.specs.declared.answer.Answer.{Answer}
use Rattle.qu_base.specs.Texts.{word_form}
use Rattle.qu_objects.specs.Formats.{answer_form}
use Rattle.qu_base.proofs.TextForms.{word-exact}
use Rattle.qu_objects.proofs.Forms.{answer-exact, byte-exact}
use Rattle.qu_verdicts.specs.declared.refusal_number.TheConstants.{HISTORY_FULL, THIN, NEEDS, STALE, NOT_CURRENT, NOT_METHOD, SPENT, TIME_SPENT, UNKNOWN_OBJECT, SOUND}
use Rattle.qu_verdicts.specs.RefusalNumber.{refusal_number, is_refusal_number}
use Rattle.qu_verdicts.specs.declared.verdict.ClassCode.{ClassCode}
use Rattle.qu_verdicts.specs.declared.verdict.ClassCode.TheVariants as class
use Rattle.qu_verdicts.specs.declared.verdict.Refusal.{Refusal}
use Rattle.qu_verdicts.specs.declared.verdict.Refusal.TheVariants.{HistoryFull, Thin, Needs, Stale, NotCurrent, NotMethod, Spent, TimeSpent, UnknownObject, Sound}
use Rattle.qu_verdicts.specs.declared.verdict.Verdict.{Verdict}
use Rattle.qu_verdicts.specs.declared.verdict.Verdict.TheVariants.{Done, Told, Already, Mended, Refused}
use Rattle.qu_verdicts.specs.Verdict.{number_of_class}
use Rattle.qu_verdicts.specs.Formats.{class_numbered, class_form, refused_object, latest_told, class_refused, number_told, plain_refusal, plain_object, refusal_body, refusal_form, spelled_stamp, stamp_from, after_told, stamps_form, verdict_code, is_verdict_code, done, told, already, mended, refusal, answered_form, verdict_body, verdict_form}

-- ---- one of two formats, by a test

pub either-exact : {V : Type 0} (which : Bool) (first second : Format V) → IsExact first
    → (which ≡ false → IsExact second) → IsExact (either which first second)
either-exact true first second one two = one
either-exact false first second one two = two refl

-- what fits one of two formats fits the one that is chosen
pub either-fits : {V : Type 0} {P : Type 0} (which : Bool) (first second : Format V) (value : V)
    → (which ≡ true → first.Fits value → P) → (which ≡ false → second.Fits value → P)
    → (either which first second).Fits value → P
either-fits true first second value one two fits = one refl fits
either-fits false first second value one two fits = two refl fits

-- a value that is made of the part that was found
pub of_part : {V W : Type 0} (make : V → W) (part found : V) → Some part ≡ Some found → make found ≡ make part
of_part make part found is = ap make (sym (some_is is))

-- ---- refusals

class_back : (code : ℕ) → 2 ≤ code → code ≤ 6 → number_of_class (class_numbered code) ≡ code
class_back zero low high = absurd (omega arith)
class_back (suc zero) low high = absurd (omega arith)
class_back (suc (suc zero)) low high = refl
class_back (suc (suc (suc zero))) low high = refl
class_back (suc (suc (suc (suc zero)))) low high = refl
class_back (suc (suc (suc (suc (suc zero))))) low high = refl
class_back (suc (suc (suc (suc (suc (suc zero)))))) low high = refl
class_back (suc (suc (suc (suc (suc (suc (suc code))))))) low high = absurd (omega arith)

class_again : (class : ClassCode) → class_numbered (number_of_class class) ≡ class
class_again class.InlineMethod = refl
class_again class.Copy = refl
class_again class.InlineBarrier = refl
class_again class.Barrier = refl
class_again class.Needs = refl

class-exact : IsExact class_form
class-exact = fields-exact class_numbered number_of_class (number w8 2 6) (byte-exact 2 6 (omega arith))
    (λ code fits. class_back code fits.0 fits.1) class_again

latest_again : (refusal : Refusal) (found : ObjectId × Stamp) → latest_told refusal ≡ Some found
    → NotCurrent found.0 found.1 ≡ refusal
latest_again (NotCurrent object latest) found is = of_part (λ (pair : ObjectId × Stamp). NotCurrent pair.0 pair.1)
    (object, latest) found is
latest_again _ found is = absurd cc

class_told_again : (refusal : Refusal) (found : ObjectId × ClassCode) → class_refused refusal ≡ Some found
    → NotMethod found.0 found.1 ≡ refusal
class_told_again (NotMethod object class) found is =
    of_part (λ (pair : ObjectId × ClassCode). NotMethod pair.0 pair.1) (object, class) found is
class_told_again _ found is = absurd cc

number_again : (refusal : Refusal) (found : ObjectId × ℕ) → number_told refusal ≡ Some found
    → Spent found.0 found.1 ≡ refusal
number_again (Spent object number) found is =
    of_part (λ (pair : ObjectId × ℕ). Spent pair.0 pair.1) (object, number) found is
number_again _ found is = absurd cc

plain_again : (refusal : Refusal) → (refusal_number refusal == NOT_CURRENT) ≡ false
    → (refusal_number refusal == NOT_METHOD) ≡ false → (refusal_number refusal == SPENT) ≡ false
    → plain_refusal (refusal_number refusal) (refused_object refusal) ≡ refusal
plain_again (HistoryFull object) no22 no23 no24 = refl
plain_again (Thin object) no22 no23 no24 = refl
plain_again (Needs object) no22 no23 no24 = refl
plain_again (Stale object) no22 no23 no24 = refl
plain_again (NotCurrent object latest) no22 no23 no24 = absurd cc
plain_again (NotMethod object class) no22 no23 no24 = absurd cc
plain_again (Spent object number) no22 no23 no24 = absurd cc
plain_again (TimeSpent object) no22 no23 no24 = refl
plain_again (UnknownObject object) no22 no23 no24 = refl
plain_again (Sound object) no22 no23 no24 = refl

only_where : {A : Type 0} (test : Bool) (one other : A) → cond test (Some one) None ≡ Some other → (test ≡ true)
    × (one ≡ other)
only_where true one other is = (refl, some_is is)
only_where false one other is = absurd cc

-- a number that a refusal has, as one of the ten
at_number : (P : ℕ → Type 0) (code at : ℕ) → P at → ((code == at) ≡ false → P code) → P code
at_number P code at here there =
    elim (cases_Bool (code == at)) [
      | inl is ↦ subst P (sym (eqb-true code at is)) here
      | inr not ↦ there not
    ]

no_number : (code : ℕ) → IsTrue (is_refusal_number code) → (code == HISTORY_FULL) ≡ false → (code == THIN) ≡ false
    → (code == NEEDS) ≡ false → (code == STALE) ≡ false
    → (code == NOT_CURRENT) ≡ false → (code == NOT_METHOD) ≡ false → (code == SPENT) ≡ false
    → (code == TIME_SPENT) ≡ false → (code == UNKNOWN_OBJECT) ≡ false → (code == SOUND) ≡ false → ⊥
no_number code known no11 no13 no15 no16 no22 no23 no24 no25 no26 no27 = grind (arith, nat_tests)

plain_back : (code : ℕ) (object : ObjectId) → IsTrue (is_refusal_number code) → (code == NOT_CURRENT) ≡ false
    → (code == NOT_METHOD) ≡ false → (code == SPENT) ≡ false
    → plain_object code (plain_refusal code object) ≡ Some object
plain_back code object known no22 no23 no24 =
    let P : ℕ → Type 0 = λ it. plain_object it (plain_refusal it object) ≡ Some object in
    at_number P code HISTORY_FULL refl
    (λ no11. at_number P code THIN refl
    (λ no13. at_number P code NEEDS refl (λ no15. at_number P code STALE refl (λ no16.
    at_number P code TIME_SPENT refl
    (λ no25. at_number P code UNKNOWN_OBJECT refl (λ no26. at_number P code SOUND refl (λ no27.
    absurd (no_number code known no11 no13 no15 no16 no22 no23 no24 no25 no26 no27))))))))

plain-exact : (code : ℕ) → IsTrue (is_refusal_number code) → (code == NOT_CURRENT) ≡ false
    → (code == NOT_METHOD) ≡ false → (code == SPENT) ≡ false
    → IsExact (made (plain_refusal code) (plain_object code) object_form)
plain-exact code known no22 no23 no24 =
    made-exact (plain_refusal code) (plain_object code) object_form object-exact
    (λ object fits. plain_back code object known no22 no23 no24)
    (λ refusal object fits is.
    let parts = only_where (refusal_number refusal == code) (refused_object refusal) object is in
    let same_number : refusal_number refusal ≡ code = eqb-true _ _ parts.0 in
    ap (plain_refusal code) (sym parts.1) ∙ ap (λ (it : ℕ). plain_refusal it (refused_object refusal)) (sym same_number)
    ∙ plain_again refusal (ap (λ (it : ℕ). it == NOT_CURRENT) same_number ∙ no22)
    (ap (λ (it : ℕ). it == NOT_METHOD) same_number ∙ no23) (ap (λ (it : ℕ). it == SPENT) same_number ∙ no24))

refusal_body-exact : (code : ℕ) → IsTrue (is_refusal_number code) → IsExact (refusal_body code)
refusal_body-exact code known =
    either-exact (code == NOT_CURRENT) _ _
    (made-exact _ latest_told _ (both-exact object_form _ object-exact (λ object fits. stamp_with-exact true))
    (λ found fits. refl) (λ refusal found fits is. latest_again refusal found is))
    (λ no22. either-exact (code == NOT_METHOD) _ _
    (made-exact _ class_refused _ (both-exact object_form _ object-exact (λ object fits. class-exact))
    (λ found fits. refl) (λ refusal found fits is. class_told_again refusal found is))
    (λ no23. either-exact (code == SPENT) _ _
    (made-exact _ number_told _ (both-exact object_form _ object-exact (λ object fits. word-exact))
    (λ found fits. refl) (λ refusal found fits is. number_again refusal found is))
    (λ no24. plain-exact code known no22 no23 no24)))

latest_number : (form : Format (ObjectId × Stamp)) (refusal : Refusal) → FitsPart form (latest_told refusal)
    → refusal_number refusal ≡ 22
latest_number form (NotCurrent object latest) fits = refl
latest_number form _ fits = absurd fits

class_number : (form : Format (ObjectId × ClassCode)) (refusal : Refusal) → FitsPart form (class_refused refusal)
    → refusal_number refusal ≡ 23
class_number form (NotMethod object class) fits = refl
class_number form _ fits = absurd fits

spent_number : (form : Format (ObjectId × ℕ)) (refusal : Refusal) → FitsPart form (number_told refusal)
    → refusal_number refusal ≡ 24
spent_number form (Spent object number) fits = refl
spent_number form _ fits = absurd fits

fits_where : {A : Type 0} (form : Format A) (test : Bool) (part : A) → FitsPart form (cond test (Some part) None)
    → test ≡ true
fits_where form true part fits = refl
fits_where form false part fits = absurd fits

refusal_coded : (code : ℕ) (refusal : Refusal) → IsTrue (is_refusal_number code)
    → (refusal_body code).Fits refusal → refusal_number refusal ≡ code
refusal_coded code refusal known fits =
    either-fits (code == NOT_CURRENT) _ _ refusal
    (λ is here. latest_number (both object_form (λ object. stamp_form)) refusal here ∙ sym (eqb-true _ _ is))
    (λ no22. either-fits (code == NOT_METHOD) _ _ refusal
    (λ is here. class_number (both object_form (λ object. class_form)) refusal here ∙ sym (eqb-true _ _ is))
    (λ no23. either-fits (code == SPENT) _ _ refusal
    (λ is here. spent_number (both object_form (λ object. word_form)) refusal here ∙ sym (eqb-true _ _ is))
    (λ no24 here. eqb-true _ _ (fits_where object_form (refusal_number refusal == code) (refused_object refusal)
    here)))) fits

pub refusal-exact : IsExact refusal_form
unfolding refusal_form
refusal-exact = tagged-exact is_refusal_number refusal_number refusal_body refusal_body-exact refusal_coded

-- ---- verdicts

stamp_from-exact : (least : ℕ) → IsExact (stamp_from least)
stamp_from-exact least =
    both-exact (object_from least) _ (object_from-exact least) (λ object fits. stamp_with-exact true)

pub stamps-exact : IsExact stamps_form
unfolding stamps_form
stamps-exact =
    counted-exact spelled_stamp stamp_from after_told stamp_from-exact (λ least told. refl)
    (number w8 1 MOST_PARTS) 0 (byte-exact 1 MOST_PARTS (omega arith))

answered-exact : IsExact answered_form
answered-exact = both-exact stamps_form (λ stamps. answer_form) stamps-exact (λ stamps fits. answer-exact)

done_again : (verdict : Verdict) (found : List (ObjectId × Stamp) × Answer) → done verdict ≡ Some found
    → Done found.0 found.1 ≡ verdict
done_again (Done stamps answer) found is =
    of_part (λ (pair : List (ObjectId × Stamp) × Answer). Done pair.0 pair.1) (stamps, answer) found is
done_again _ found is = absurd cc

told_again : (verdict : Verdict) (found : List (ObjectId × Stamp) × Answer) → told verdict ≡ Some found
    → Told found.0 found.1 ≡ verdict
told_again (Told stamps answer) found is =
    of_part (λ (pair : List (ObjectId × Stamp) × Answer). Told pair.0 pair.1) (stamps, answer) found is
told_again _ found is = absurd cc

already_again : (verdict : Verdict) (found : Answer) → already verdict ≡ Some found → Already found ≡ verdict
already_again (Already answer) found is = of_part (λ (it : Answer). Already it) answer found is
already_again _ found is = absurd cc

mended_again : (verdict : Verdict) (found : ObjectId × Stamp) → mended verdict ≡ Some found
    → Mended found.0 found.1 ≡ verdict
mended_again (Mended object stamp) found is = of_part (λ (pair : ObjectId × Stamp). Mended pair.0 pair.1)
    (object, stamp) found is
mended_again _ found is = absurd cc

refused_again : (verdict : Verdict) (found : Refusal) → refusal verdict ≡ Some found → Refused found ≡ verdict
refused_again (Refused why) found is = of_part (λ (it : Refusal). Refused it) why found is
refused_again _ found is = absurd cc

verdict_body-exact : (code : ℕ) → IsExact (verdict_body code)
verdict_body-exact code =
    either-exact (code == 1) _ _ (made-exact _ done answered_form answered-exact (λ found fits. refl)
    (λ verdict found fits is. done_again verdict found is))
    (λ no1. either-exact (code == 2) _ _ (made-exact _ told answered_form answered-exact (λ found fits. refl)
    (λ verdict found fits is. told_again verdict found is))
    (λ no2. either-exact (code == 3) _ _ (made-exact Already already answer_form answer-exact (λ found fits. refl)
    (λ verdict found fits is. already_again verdict found is))
    (λ no3. either-exact (code == 4) _ _
    (made-exact _ mended _ (both-exact object_form _ object-exact (λ object fits. stamp_with-exact true))
    (λ found fits. refl) (λ verdict found fits is. mended_again verdict found is))
    (λ no4. made-exact Refused refusal refusal_form refusal-exact (λ found fits. refl)
    (λ verdict found fits is. refused_again verdict found is)))))

done_code : (form : Format (List (ObjectId × Stamp) × Answer)) (verdict : Verdict) → FitsPart form (done verdict)
    → verdict_code verdict ≡ 1
done_code form (Done stamps answer) fits = refl
done_code form _ fits = absurd fits

told_code : (form : Format (List (ObjectId × Stamp) × Answer)) (verdict : Verdict) → FitsPart form (told verdict)
    → verdict_code verdict ≡ 2
told_code form (Told stamps answer) fits = refl
told_code form _ fits = absurd fits

already_code : (form : Format Answer) (verdict : Verdict) → FitsPart form (already verdict) → verdict_code verdict ≡ 3
already_code form (Already answer) fits = refl
already_code form _ fits = absurd fits

mended_code : (form : Format (ObjectId × Stamp)) (verdict : Verdict) → FitsPart form (mended verdict)
    → verdict_code verdict ≡ 4
mended_code form (Mended object stamp) fits = refl
mended_code form _ fits = absurd fits

refused_code : (form : Format Refusal) (verdict : Verdict) → FitsPart form (refusal verdict) → verdict_code verdict ≡ 5
refused_code form (Refused why) fits = refl
refused_code form _ fits = absurd fits

last_code : (code : ℕ) → IsTrue (is_verdict_code code) → (code == 1) ≡ false → (code == 2) ≡ false
    → (code == 3) ≡ false → (code == 4) ≡ false → 5 ≡ code
last_code code known no1 no2 no3 no4 = grind (arith, nat_tests)

verdict_coded : (code : ℕ) (verdict : Verdict) → IsTrue (is_verdict_code code) → (verdict_body code).Fits verdict
    → verdict_code verdict ≡ code
verdict_coded code verdict known fits =
    either-fits (code == 1) _ _ verdict (λ is here. done_code answered_form verdict here ∙ sym (eqb-true _ _ is))
    (λ no1. either-fits (code == 2) _ _ verdict (λ is here. told_code answered_form verdict here
    ∙ sym (eqb-true _ _ is))
    (λ no2. either-fits (code == 3) _ _ verdict (λ is here. already_code answer_form verdict here
    ∙ sym (eqb-true _ _ is))
    (λ no3. either-fits (code == 4) _ _ verdict
    (λ is here. mended_code (both object_form (λ object. stamp_form)) verdict here ∙ sym (eqb-true _ _ is))
    (λ no4 here. refused_code refusal_form verdict here ∙ last_code code known no1 no2 no3 no4)))) fits

pub verdict-exact : IsExact verdict_form
unfolding verdict_form
verdict-exact = tagged-exact is_verdict_code verdict_code verdict_body (λ code known. verdict_body-exact code)
    verdict_coded

-- ---- each is a prefix code

pub refusal-code : IsPrefixCode refusal_form
refusal-code = prefix_code refusal_form refusal-exact

pub stamps-code : IsPrefixCode stamps_form
stamps-code = prefix_code stamps_form stamps-exact

pub verdict-code : IsPrefixCode verdict_form
verdict-code = prefix_code verdict_form verdict-exact

pub ruleset code_laws = (refusal-code, stamps-code, verdict-code)
