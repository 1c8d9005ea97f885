-- What the client makes of identical verdicts Done: below a quorum it waits, and at a quorum the operation ends.
use Rattle.std.proofs.Common.{◌≡◌, ℕ, ◌+◌, ◌<◌, ◌≤◌, ◌==◌, Bool, true, false, cond, List, [], ◌∷◌, length, Some, refl, ap, ◌∙◌, arith}
use Rattle.std.specs.Prelude.{nat_le}
use Rattle.std.specs.List.{AllByRecursion}
use Rattle.std.proofs.lemmas.Bool.{and_from, le-leb, lt-leb}
use Rattle.std.proofs.lemmas.Bool.Decides.{nat_tests}
use Rattle.std.proofs.lemmas.List.{length-append}
use Rattle.std.proofs.lemmas.List.Sums.{sum_by-cons}
use Rattle.qu_base.specs.Bounds.{quorum}
use Rattle.qu_base.specs.declared.party.ObjectId.{ObjectId}
use Rattle.qu_base.specs.declared.party.ReplicaId.{ReplicaId}
use Rattle.qu_base.proofs.EachItem.{each_append}
use Rattle.qu_stamp.specs.declared.stamp.Stamp.{Stamp}
use Rattle.qu_stamp.specs.Stamp.{same_stamp}
use Rattle.qu_stamp.proofs.Order.{same_stamp-self}
use Rattle.qu_history.specs.declared.sealed.Sealed.{Sealed}
use Rattle.qu_objects.specs.declared.act.Method.{Method}
use Rattle.qu_objects.specs.declared.answer.Answer.{Answer}
use Rattle.qu_objects.specs.declared.op.Outcome.TheVariants as outcome
use Rattle.qu_machine.proofs.Equalities.{decides_answer}
use Rattle.qu_frames.specs.declared.frame.Body.TheVariants as body
use Rattle.qu_frames.specs.declared.frame.Frame.TheVariants as frame
use Rattle.qu_verdicts.specs.declared.verdict.Verdict.{Verdict}
use Rattle.qu_verdicts.specs.declared.verdict.Verdict.TheVariants as verdict
use Rattle.qu_verdicts.specs.Verdict.{same_stamps, same_verdict}
use Rattle.qu_client.specs.declared.state.ClientState.{ClientState}
use Rattle.qu_client.specs.declared.work.Counted.{Counted}
use Rattle.qu_client.specs.declared.work.Work.{Work}
use Rattle.qu_client.specs.State.{Stepped}
use Rattle.qu_question.specs.Kept.{keep_all}
use Rattle.qu_client.specs.Verdicts.{identical_verdicts, has_replied}
use Rattle.qu_client.specs.Work.{counts, is_asking, with_verdict}
use Rattle.qu_client.specs.Steps.{stays, ends, judged, client_on_frame}

-- a verdict Done is identical to itself
each_same : (stamps : List (ObjectId × Stamp)) → same_stamps stamps stamps ≡ true
each_same [] = refl
each_same (first ∷ later) =
    let on : ((first.0).0 == (first.0).0) ≡ true = grind (arith, nat_tests) in
    let at : same_stamp first.1 first.1 ≡ true = same_stamp-self first.1 in
    and_from _ _ (and_from _ _ on at) (each_same later)

same_done : (stamps : List (ObjectId × Stamp)) (answer : Answer)
    → same_verdict (verdict.Done stamps answer) (verdict.Done stamps answer) ≡ true
same_done stamps answer = and_from _ _ (each_same stamps) ((decides_answer answer answer).1 refl)

abbrev pub AllTell : Verdict → List Counted → Type 0
AllTell told replies = AllByRecursion (λ (counted : Counted). counted.verdict ≡ told) replies

identical_all : (told : Verdict) → same_verdict told told ≡ true → (replies : List Counted) → AllTell told replies
    → identical_verdicts told replies ≡ length replies
unfolding identical_verdicts
identical_all told self [] all = refl
identical_all told self (counted ∷ later) all =
    let here : same_verdict counted.verdict told ≡ true = ap (λ (it : Verdict). same_verdict it told) all.0 ∙ self in
    let one : identical_verdicts told (counted ∷ later) ≡ 1 + identical_verdicts told later =
    sum_by-cons (λ (it : Counted). cond (same_verdict it.verdict told) 1 0) counted later ∙
    ap (λ (test : Bool). cond test 1 0 + identical_verdicts told later) here in
    let rest : identical_verdicts told later ≡ length later = identical_all told self later all.1 in
    omega (arith, one, rest)

module _ (state : ClientState) (work : Work) (parts : List (ObjectId × Method)) (is_act : work.body ≡ body.Act parts)
    (asking : is_asking work.phase ≡ true) (under_way : state.work ≡ Some work)
    (stamps : List (ObjectId × Stamp)) (answer : Answer) (all : AllTell (verdict.Done stamps answer) work.replies)
    (replica : ReplicaId) (first : has_replied work.replies replica.0 ≡ false)
    (culled : List (ObjectId × ReplicaId)) (shown : List Sealed) (mac : List ℕ) where
  abbrev told : Verdict
  told = verdict.Done stamps answer

  abbrev kept : ClientState
  kept = record state { kept = keep_all work.number work.round shown state.kept }

  abbrev after : Work
  after = with_verdict work replica told culled

  abbrev step : Stepped
  step = client_on_frame state (frame.Reply replica state.me work.number work.round told culled shown mac)

  counts_here : counts work replica work.number work.round ≡ true
  counts_here =
      let number : (work.number == work.number) ≡ true = grind (arith, nat_tests) in
      let round : (work.round == work.round) ≡ true = grind (arith, nat_tests) in
      rw (asking, number, round, first) refl

  judged_so : step ≡ judged kept after told
  judged_so =
      let mine : ((state.me).0 == (state.me).0) ≡ true = grind (arith, nat_tests) in
      rw (mine, under_way, counts_here) refl

  length_after : length after.replies ≡ length work.replies + 1
  length_after = length-append work.replies (record { replica = replica; verdict = told; culled = culled } ∷ [])

  identical_after : identical_verdicts told after.replies ≡ length work.replies + 1
  identical_after =
      identical_all told (same_done stamps answer) after.replies
      (each_append (λ (counted : Counted). counted.verdict ≡ told) work.replies
      (record { replica = replica; verdict = told; culled = culled } ∷ []) all (refl, tt)) ∙
      length_after

  -- below a quorum the client waits for more
  pub waits_below : length work.replies + 1 < quorum state.keys.bounds → step ≡ stays
      (record kept { work = Some after })
  waits_below below =
      let few : nat_le (quorum state.keys.bounds) (identical_verdicts told after.replies) ≡ false =
      ap (nat_le (quorum state.keys.bounds)) identical_after ∙ lt-leb _ _ below in
      let wanting : nat_le (quorum state.keys.bounds) (length after.replies) ≡ false =
      ap (nat_le (quorum state.keys.bounds)) length_after ∙ lt-leb _ _ below in
      judged_so ∙ rw (is_act, few, wanting) refl

  -- at a quorum its operation is done
  pub ends_at : quorum state.keys.bounds ≤ length work.replies + 1 → step ≡ ends kept (outcome.Done answer)
  ends_at reached =
      let many : nat_le (quorum state.keys.bounds) (identical_verdicts told after.replies) ≡ true =
      ap (nat_le (quorum state.keys.bounds)) identical_after ∙ le-leb _ _ reached in
      judged_so ∙ rw (is_act, many) refl
