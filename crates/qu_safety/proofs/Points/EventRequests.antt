-- What an event hands to a party: one request at most, which belongs to one operation.
use Rattle.std.proofs.Common.{◌≡◌, ℕ, true, List, refl, sym, ap, subst, ◌∙◌, Result, Ok}
use Rattle.std.specs.Prelude.{◌==◌, ◌&&◌}
use Rattle.std.proofs.lemmas.Bool.{false≢true, and_parts, eqb-true}
use Rattle.qu_base.specs.declared.party.ClientId.{ClientId}
use Rattle.qu_base.specs.declared.party.ReplicaId.{ReplicaId}
use Rattle.qu_frames.specs.declared.frame.Frame.{Frame}
use Rattle.qu_frames.specs.declared.frame.Frame.TheVariants as frame
use Rattle.qu_frames.specs.declared.frame.Letter.{Letter}
use Rattle.qu_verdicts.specs.declared.verdict.Verdict.{Verdict}
use Rattle.qu_machine.specs.declared.record.OpRecord.{OpRecord}
use Rattle.qu_machine.specs.declared.record.Point.{Point}
use Rattle.qu_trace.specs.declared.trace.Trace.{Trace}
use Rattle.qu_safety.proofs.Points.OwnedPoints.{IsOperationPoint}
use Rattle.qu_points.specs.Points.{effect_of}
use Rattle.qu_claims.specs.Answers.{is_answer, answers}
use Rattle.qu_points.proofs.Operations.Recorded.{recorded_op}
use Rattle.qu_points.proofs.Taken.Taking.{effect_once}
use Rattle.qu_runs.proofs.Fits.Carrying.{tells_as}
use Rattle.qu_runs.proofs.Small.{same_point}
use Rattle.qu_claims.specs.Carried.{Tells}
use Rattle.qu_frames.specs.Decoding.{decoded}
use Rattle.qu_history.specs.declared.sealed.Sealed.{Sealed}
use Rattle.qu_base.specs.declared.bad_text.BadText.{BadText}
use Rattle.qu_base.proofs.Numbered.{client_is}

-- ---- answers

-- the letter is a reply to this round
pub record IsReplyIn (client : ClientId) (number round : ℕ) (letter : Letter) : Type 0 where
  pub replica : ReplicaId
  pub verdict : Verdict
  pub shown : List Sealed
  pub is_reply : Tells letter replica client number round verdict shown

reply_is : (letter : Letter) (replica : ReplicaId) (other client : ClientId) (replied number turn round : ℕ)
    (verdict : Verdict) (shown : List Sealed)
    → Tells letter replica other replied turn verdict shown → other ≡ client → replied ≡ number → turn ≡ round →
    IsReplyIn client number round letter
reply_is letter replica other client replied number turn round verdict shown is same_client same_number same_round =
    record {
      replica = replica;
      verdict = verdict;
      shown = shown;
      is_reply = tells_as letter replica other client
          replied number turn round verdict verdict shown same_client same_number same_round refl is;
    }

reply_in_read : (client : ClientId) (number round : ℕ) (letter : Letter) (read : Result Frame BadText)
    → decoded letter.text ≡ read → is_answer client number round read ≡ true → IsReplyIn client number round letter
reply_in_read client number round letter (Ok
    (frame.Reply replica other replied turn verdict culled shown mac)) is answer =
    let parts : ((other.0 == client.0) ≡ true) × ((replied == number && turn == round) ≡ true) = and_parts _ _ answer in
    let more : ((replied == number) ≡ true) × ((turn == round) ≡ true) = and_parts _ _ parts.1 in
    reply_is letter replica other client replied number turn round verdict shown
    (record { culled = culled; mac = mac; carries = is }) (client_is other client (eqb-true _ _ parts.0))
    (eqb-true _ _ more.0) (eqb-true _ _ more.1)
reply_in_read client number round letter _ is answer = absurd (false≢true answer)

pub reply_in : (client : ClientId) (number round : ℕ) (letter : Letter) → answers client number round letter ≡ true
    → IsReplyIn client number round letter
reply_in client number round letter answer = reply_in_read client number round letter (decoded letter.text) refl answer

-- ---- one point

-- an operation has one point
pub one_point : (trace : Trace) (first second : Point) → IsOperationPoint trace first → IsOperationPoint trace second
    → first.client
    ≡ second.client → first.number ≡ second.number → first ≡ second
one_point trace first second one two same_client same_number =
    let same : one.operation ≡ two.operation =
    recorded_op trace one.operation two.operation one.of_trace two.of_trace
    (ap (λ (it : ClientId). it.0) (one.client ∙ same_client ∙ sym two.client))
    (one.number ∙ same_number ∙ sym two.number) in
    let effect : effect_of trace two.operation first.event two.operation.op =
    subst (λ (it : OpRecord). effect_of trace it first.event it.op) same one.effect in
    same_point first second
    (effect_once trace two.operation first.event second.event two.operation.op effect two.effect)
    same_client same_number
    (sym one.op ∙ ap (λ (it : OpRecord). it.op) same ∙ two.op)
    (one.mark ∙ sym two.mark)
