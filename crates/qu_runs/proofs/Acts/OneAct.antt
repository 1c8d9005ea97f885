-- Where no two texts have one digest, two acts that were handled and have one digest are one.
use Rattle.std.proofs.Common.{◌≡◌, ℕ, List, Some, refl, sym, ap, ◌∙◌, arith}
use Rattle.std.specs.Prelude.{Contains}
use Rattle.std.proofs.lemmas.Option.{same_Some}
use Rattle.qu_base.specs.declared.party.ClientId.{ClientId}
use Rattle.qu_base.specs.declared.party.Digest.{Digest}
use Rattle.qu_base.specs.declared.party.ObjectId.{ObjectId}
use Rattle.qu_seal.specs.declared.constants.TheConstants.{ACT_TAG}
use Rattle.qu_seal.specs.Digesting.{digest_of}
use Rattle.qu_stamp.specs.declared.candidate.Candidate.{Candidate}
use Rattle.qu_objects.specs.declared.act.Method.{Method}
use Rattle.qu_objects.specs.Digesting.{act_text, act_digest}
use Rattle.qu_objects.proofs.Text.{act_text-one}
use Rattle.qu_frames.specs.declared.frame.Body.TheVariants as body
use Rattle.qu_trace.specs.declared.trace.Trace.{Trace}
use Rattle.qu_world.specs.Run.{IsRun}
use Rattle.qu_claims.specs.Handled.{Request, IsHandled, IsMadeFor}
use Rattle.qu_claims.specs.Digested.{Text, texts_of, digested, NoCollision}
use Rattle.qu_runs.specs.Plain.{ArePlain}
use Rattle.qu_runs.proofs.Acts.FitActs.{IsFit, fit}
use Rattle.qu_runs.proofs.Digests.DigestedTexts.{request_digested}

-- ---- its text was digested

abbrev text_of : ClientId → ℕ → List (ObjectId × Method) → Text
text_of client number parts = record { tag = ACT_TAG; bytes = act_text client number parts }

text_digested : (trace : Trace) (client : ClientId) (number : ℕ) (parts : List (ObjectId × Method))
    → IsHandled trace client number parts → Contains (digested trace) (text_of client number parts)
text_digested trace client number parts it =
    let request : Request = record { client = client; number = number; sets = it.sets; body = body.Act parts } in
    let among : Contains (texts_of (Some request)) (text_of client number parts) = (1, omega arith, refl) in
    request_digested trace it.entry (Some request) (text_of client number parts) it.of_trace it.handled among

-- ---- acts of one digest

same_digested : (client other : ClientId) (number turn : ℕ) (parts others : List (ObjectId × Method))
    → act_digest client number parts ≡ act_digest other turn others
    → digest_of ACT_TAG (act_text client number parts) ≡ digest_of ACT_TAG (act_text other turn others)
unfolding act_digest
same_digested client other number turn parts others same = ap (λ (it : Digest). it.0) same

-- handled acts with one digest are one
abbrev pub ActsAreOne : Trace → Type 0
ActsAreOne trace = (client other : ClientId) (number turn : ℕ) (parts others : List (ObjectId × Method))
    → IsHandled trace client number parts → IsHandled trace other turn others
    → act_digest client number parts ≡ act_digest other turn others → (client ≡ other) × (number ≡ turn)
    × (parts ≡ others)

pub acts_are_one : (trace : Trace) → IsRun trace → ArePlain trace → NoCollision trace → ActsAreOne trace
acts_are_one trace is_run have no_collision client other number turn parts others one two same =
    let first : IsFit client number parts = fit trace is_run have client number parts one in
    let second : IsFit other turn others = fit trace is_run have other turn others two in
    let texts : text_of client number parts ≡ text_of other turn others =
    no_collision (text_of client number parts) (text_of other turn others)
    (text_digested trace client number parts one) (text_digested trace other turn others two)
    (same_digested client other number turn parts others same) in
    act_text-one client other number turn parts others first.client second.client first.number second.number
    (first.parts).0 (second.parts).0 (first.parts).1 (second.parts).1
    (ap (λ (it : Text). it.bytes) texts)

-- a candidate was made for one act
pub one_made_for : (trace : Trace) → ActsAreOne trace → (candidate : Candidate) (client other : ClientId)
    (number turn : ℕ) (parts others : List (ObjectId × Method))
    → IsMadeFor trace candidate client number parts → IsMadeFor trace candidate other turn others
    → (client ≡ other) × (number ≡ turn) × (parts ≡ others)
one_made_for trace one candidate client other number turn parts others made besides =
    one client other number turn parts others made.handled besides.handled
    (same_Some _ _ (sym made.of_act ∙ besides.of_act))
