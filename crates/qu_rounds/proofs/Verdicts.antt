-- Identical verdicts are equal, where they tell an answer; only Done and Already fit an act.
use Rattle.std.proofs.Common.{◌≡◌, ◌⊎◌, true, List, Some, ap, ◌&&◌, ◌==◌, refl, sym, ◌∙◌, inl, inr}
use Rattle.std.proofs.lemmas.Bool.{false≢true, and_parts, and_from}
use Rattle.std.proofs.lemmas.Option.{none-some, same_Some}
use Rattle.std.specs.Bool.{Decides}
use Rattle.std.proofs.lemmas.Bool.Decides.{Decides-eqb}
use Rattle.std.proofs.lemmas.Slice.Eq.{slice_eq-Decides}
use Rattle.qu_base.specs.declared.party.ObjectId.{ObjectId}
use Rattle.qu_base.proofs.Numbered.{object_is}
use Rattle.qu_stamp.specs.declared.stamp.Stamp.{Stamp}
use Rattle.qu_stamp.specs.Stamp.{same_stamp}
use Rattle.qu_stamp.proofs.Order.{same_stamp-self, equal_by_same_stamp}
use Rattle.qu_objects.specs.declared.act.Method.{Method}
use Rattle.qu_objects.specs.declared.answer.Answer.{Answer}
use Rattle.qu_frames.specs.declared.frame.Body.TheVariants as body
use Rattle.qu_verdicts.specs.declared.verdict.Verdict.{Verdict}
use Rattle.qu_verdicts.specs.declared.verdict.Verdict.TheVariants as verdict
use Rattle.qu_verdicts.specs.Verdict.{same_verdict, same_object, same_stamps}
use Rattle.qu_objects.specs.Alike.{same_answer}
use Rattle.qu_verdicts.specs.declared.verdict.Verdict.TheVariants.{Done, Told, Already, Mended, Refused}
use Rattle.qu_client.specs.Verdicts.{fitting}
use Rattle.qu_machine.proofs.Equalities.{decides_answer}

-- ---- identical verdicts

decides_stamp : (a b : ObjectId × Stamp) → Decides (same_object a.0 b.0 && same_stamp a.1 b.1) (a ≡ b)
decides_stamp a b = (
  λ same.
      let parts : (((a.0).0 == (b.0).0) ≡ true) × (same_stamp a.1 b.1 ≡ true) = and_parts _ _ same in
      let object : a.0 ≡ b.0 = object_is a.0 b.0 ((Decides-eqb (a.0).0 (b.0).0).0 parts.0) in
      let stamp : a.1 ≡ b.1 = equal_by_same_stamp a.1 b.1 parts.1 in
      λ i. (object i, stamp i),
  λ same.
      and_from _ _ ((Decides-eqb (a.0).0 (b.0).0).1 (λ i. ((same i).0).0))
      (ap (λ (it : ObjectId × Stamp). same_stamp a.1 it.1) (sym same) ∙ same_stamp-self a.1),
)

equal_stamps : (stamps others : List (ObjectId × Stamp)) → same_stamps stamps others ≡ true → stamps ≡ others
equal_stamps stamps others same =
    let decides : Decides (same_stamps stamps others) (stamps ≡ others) =
    slice_eq-Decides decides_stamp stamps others _ refl in
    decides.0 same

pub equal_told : (verdict : Verdict) (stamps : List (ObjectId × Stamp)) (answer : Answer)
    → same_verdict verdict (Told stamps answer) ≡ true → verdict ≡ Told stamps answer
equal_told (Done others given) stamps answer same = absurd (false≢true same)
equal_told (Already given) stamps answer same = absurd (false≢true same)
equal_told (Mended object stamp) stamps answer same = absurd (false≢true same)
equal_told (Refused refusal) stamps answer same = absurd (false≢true same)
equal_told (Told others given) stamps answer same =
    let parts : (same_stamps others stamps ≡ true) × (same_answer given answer ≡ true) = and_parts _ _ same in
    let stamps_are : others ≡ stamps = equal_stamps others stamps parts.0 in
    let answer_is : given ≡ answer = (decides_answer given answer).0 parts.1 in
    λ i. Told (stamps_are i) (answer_is i)

pub equal_done : (verdict : Verdict) (stamps : List (ObjectId × Stamp)) (answer : Answer)
    → same_verdict verdict (Done stamps answer) ≡ true → verdict ≡ Done stamps answer
equal_done (Told others given) stamps answer same = absurd (false≢true same)
equal_done (Already given) stamps answer same = absurd (false≢true same)
equal_done (Mended object stamp) stamps answer same = absurd (false≢true same)
equal_done (Refused refusal) stamps answer same = absurd (false≢true same)
equal_done (Done others given) stamps answer same =
    let parts : (same_stamps others stamps ≡ true) × (same_answer given answer ≡ true) = and_parts _ _ same in
    let stamps_are : others ≡ stamps = equal_stamps others stamps parts.0 in
    let answer_is : given ≡ answer = (decides_answer given answer).0 parts.1 in
    λ i. Done (stamps_are i) (answer_is i)

pub equal_already : (verdict : Verdict) (answer : Answer)
    → same_verdict verdict (Already answer) ≡ true → verdict ≡ Already answer
equal_already (Done others given) answer same = absurd (false≢true same)
equal_already (Told others given) answer same = absurd (false≢true same)
equal_already (Mended object stamp) answer same = absurd (false≢true same)
equal_already (Refused refusal) answer same = absurd (false≢true same)
equal_already (Already given) answer same = ap Already ((decides_answer given answer).0 same)

-- ---- what fits an act

-- the verdict is Done with this answer
pub record IsDone (given : Verdict) (answer : Answer) : Type 0 where
  pub stamps : List (ObjectId × Stamp)
  pub is : given ≡ verdict.Done stamps answer

-- only Done and Already fit an act
pub fits_act : (act : List (ObjectId × Method)) (given : Verdict) (answer : Answer)
    → fitting (body.Act act) given ≡ Some answer → IsDone given answer ⊎ (given ≡ verdict.Already answer)
fits_act act (verdict.Done stamps told) answer fits = inl (record {
  stamps = stamps;
  is = ap (λ (it : Answer). verdict.Done stamps it) (same_Some told answer fits);
})
fits_act act (verdict.Already told) answer fits = inr (ap verdict.Already (same_Some told answer fits))
fits_act act (verdict.Told stamps told) answer fits = absurd (none-some answer fits)
fits_act act (verdict.Mended object stamp) answer fits = absurd (none-some answer fits)
fits_act act (verdict.Refused why) answer fits = absurd (none-some answer fits)
