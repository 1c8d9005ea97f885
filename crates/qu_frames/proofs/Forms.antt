-- The formats of bodies and frames are exact.
use Rattle.std.proofs.Common.{◌≡◌, ℕ, ◌^◌, ◌-◌, ◌==◌, false, List, Option, None, Some, refl, sym, ap, ◌∙◌, arith}
use Rattle.std.specs.Prelude.{IsTrue}
use Rattle.std.proofs.lemmas.Bool.{eqb-true}
use Rattle.std.proofs.lemmas.Bool.Decides.{nat_tests}
use Rattle.std.specs.Int.{w8, w64}
use Rattle.qu_base.specs.declared.bad_text.Why.TheVariants.{Kind, Order, Range}
use Rattle.qu_base.specs.declared.party.ObjectId.{ObjectId}
use Rattle.qu_base.specs.declared.party.ReplicaId.{ReplicaId}
use Rattle.qu_base.specs.Format.{IsPrefixCode, Format, number, both, tested, FitsPart, object_form, replica_form, IsExact}
use Rattle.qu_base.proofs.Formats.{some_is, wide64, number-exact, bytes-exact, both-exact, tested-exact, made-exact, counted-exact, tagged-exact, object-exact, replica-exact, client-exact}
use Rattle.qu_base.proofs.PrefixCodes.{prefix_code}
use Rattle.qu_stamp.proofs.Forms.{stamp_with-exact}
use Rattle.qu_objects.specs.declared.act.Method.{Method}
use Rattle.qu_objects.specs.declared.query.Ask.{Ask}
use Rattle.qu_objects.specs.Formats.{is_one_of, act_form, query_form}
use Rattle.qu_base.proofs.TextForms.{word-exact}
use Rattle.qu_objects.proofs.Forms.{act-exact, query-exact, byte-exact}
use Rattle.qu_objects.proofs.StateLaws.{state-exact}
use Rattle.qu_history.proofs.Forms.{sets-exact, shown-exact}
use Rattle.qu_frames.specs.declared.frame.Body.{Body}
use Rattle.qu_frames.specs.declared.frame.Body.TheVariants as body
use Rattle.qu_frames.specs.declared.frame.Frame.{Frame}
use Rattle.qu_frames.specs.declared.frame.Frame.TheVariants.{Request, Reply, Fetch, Fetched}
use Rattle.qu_frames.specs.declared.limits.TheConstants.{LAST_ROUND, CULLED_LIMIT}
use Rattle.qu_frames.specs.Formats.{body_code, is_body_code, act_parts, ask_parts, body_of_code, body_form, round_form, is_after_pair, spelled_pair, pair_after, culled_form, RequestFields, request_fields, request_made, request_form, request_frame, ReplyFields, reply_fields, reply_of, reply_form, reply_frame, FetchFields, fetch_fields, fetch_of, fetch_form, fetch_frame, FetchedFields, fetched_fields, fetched_of, fetched_form, fetched_frame, frame_kind, is_version, is_frame_kind, frame_body, kind_form, frame_form, mend_target, target_form}
use Rattle.qu_verdicts.specs.Formats.{refusal_form, stamps_form, verdict_form}
use Rattle.qu_verdicts.proofs.VerdictForms.{either-exact, either-fits, of_part, refusal-exact, stamps-exact, verdict-exact}

-- ---- bodies

act_again : (asked : Body) (found : List (ObjectId × Method)) → act_parts asked ≡ Some found → body.Act found ≡ asked
act_again (body.Act parts) found is = of_part (λ (it : List (ObjectId × Method)). body.Act it) parts found is
act_again (body.Ask parts) found is = absurd cc
act_again (body.Mend target) found is = absurd cc

ask_again : (asked : Body) (found : List (ObjectId × Ask)) → ask_parts asked ≡ Some found → body.Ask found ≡ asked
ask_again (body.Act parts) found is = absurd cc
ask_again (body.Ask parts) found is = of_part (λ (it : List (ObjectId × Ask)). body.Ask it) parts found is
ask_again (body.Mend target) found is = absurd cc

mend_again : (asked : Body) (found : ObjectId) → mend_target asked ≡ Some found → body.Mend found ≡ asked
mend_again (body.Act parts) found is = absurd cc
mend_again (body.Ask parts) found is = absurd cc
mend_again (body.Mend target) found is = of_part (λ (it : ObjectId). body.Mend it) target found is

target-exact : (objects : List ObjectId) → IsExact (target_form objects)
target-exact objects = tested-exact (is_one_of objects) Range object_form object-exact

body_of_code-exact : (objects : List ObjectId) (code : ℕ) → IsExact (body_of_code objects code)
body_of_code-exact objects code =
    either-exact (code == 1) _ _ (made-exact body.Act act_parts _ (act-exact (is_one_of objects))
    (λ found fits. refl) (λ asked found fits is. act_again asked found is))
    (λ no1. either-exact (code == 2) _ _ (made-exact body.Ask ask_parts _ (query-exact (is_one_of objects))
    (λ found fits. refl) (λ asked found fits is. ask_again asked found is))
    (λ no2. made-exact body.Mend mend_target _ (target-exact objects) (λ found fits. refl)
    (λ asked found fits is. mend_again asked found is)))

act_code : (form : Format (List (ObjectId × Method))) (asked : Body) → FitsPart form (act_parts asked)
    → body_code asked ≡ 1
act_code form (body.Act parts) fits = refl
act_code form (body.Ask parts) fits = absurd fits
act_code form (body.Mend target) fits = absurd fits

ask_code : (form : Format (List (ObjectId × Ask))) (asked : Body) → FitsPart form (ask_parts asked)
    → body_code asked ≡ 2
ask_code form (body.Act parts) fits = absurd fits
ask_code form (body.Ask parts) fits = refl
ask_code form (body.Mend target) fits = absurd fits

mend_code : (form : Format ObjectId) (asked : Body) → FitsPart form (mend_target asked) → body_code asked ≡ 3
mend_code form (body.Act parts) fits = absurd fits
mend_code form (body.Ask parts) fits = absurd fits
mend_code form (body.Mend target) fits = refl

-- the last one of three codes
third_code : (code : ℕ) → IsTrue (is_body_code code) → (code == 1) ≡ false → (code == 2) ≡ false → 3 ≡ code
third_code code known no1 no2 = grind (arith, nat_tests)

body_coded : (objects : List ObjectId) (code : ℕ) (asked : Body) → IsTrue (is_body_code code)
    → (body_of_code objects code).Fits asked → body_code asked ≡ code
body_coded objects code asked known fits =
    either-fits (code == 1) _ _ asked (λ is here. act_code (act_form (is_one_of objects)) asked here
    ∙ sym (eqb-true _ _ is))
    (λ no1. either-fits (code == 2) _ _ asked (λ is here. ask_code (query_form (is_one_of objects)) asked here
    ∙ sym (eqb-true _ _ is))
    (λ no2 here. mend_code (target_form objects) asked here ∙ third_code code known no1 no2)) fits

pub body-exact : (objects : List ObjectId) → IsExact (body_form objects)
unfolding body_form
body-exact objects =
    tagged-exact is_body_code body_code (body_of_code objects) (λ code known. body_of_code-exact objects code)
    (body_coded objects)

-- ---- frames

round-exact : IsExact round_form
round-exact = byte-exact 1 LAST_ROUND (omega arith)

pair_after-exact : (before : Option (ObjectId × ReplicaId)) → IsExact (pair_after before)
pair_after-exact before =
    tested-exact (is_after_pair before) Order _
    (both-exact object_form (λ object. replica_form) object-exact (λ object fits. replica-exact))

pub culled-exact : IsExact culled_form
unfolding culled_form
culled-exact =
    counted-exact spelled_pair pair_after (λ pair. Some pair) pair_after-exact (λ before pair. refl)
    (number w8 0 CULLED_LIMIT) None (byte-exact 0 CULLED_LIMIT (omega arith))

request-exact : IsExact request_form
request-exact =
    both-exact _ _ client-exact
    (λ client fits. both-exact _ _ (number-exact w64 (2 ^ 64) 1 (2 ^ 64 - 1) wide64 (omega arith)) (λ number fits.
    both-exact _ _ round-exact
    (λ round fits. both-exact _ _ sets-exact
    (λ sets fits. both-exact _ _ (body-exact _) (λ asked fits. bytes-exact 32)))))

reply-exact : IsExact reply_form
reply-exact =
    both-exact _ _ replica-exact
    (λ replica fits. both-exact _ _ client-exact (λ client fits. both-exact _ _ word-exact (λ number fits.
    both-exact _ _ round-exact
    (λ round fits. both-exact _ _ verdict-exact (λ verdict fits. both-exact _ _ culled-exact (λ culled fits.
    both-exact _ _ (shown-exact replica) (λ shown fits. bytes-exact 32)))))))

fetch-exact : IsExact fetch_form
fetch-exact =
    both-exact _ _ replica-exact (λ replica fits. both-exact _ _ object-exact (λ object fits.
    both-exact _ _ (stamp_with-exact false) (λ stamp fits. bytes-exact 32)))

fetched-exact : IsExact fetched_form
fetched-exact =
    both-exact _ _ replica-exact (λ replica fits. both-exact _ _ object-exact (λ object fits.
    both-exact _ _ (stamp_with-exact false) (λ stamp fits.
    both-exact _ _ state-exact (λ state fits. bytes-exact 32))))

request_again : (frame : Frame) (found : RequestFields) → request_fields frame ≡ Some found → request_made found ≡ frame
request_again (Request client number round sets asked mac) found is =
    of_part request_made (client, (number, (round, (sets, (asked, mac))))) found is
request_again _ found is = absurd cc

reply_again : (frame : Frame) (found : ReplyFields) → reply_fields frame ≡ Some found → reply_of found ≡ frame
reply_again (Reply replica client number round verdict culled shown mac) found is =
    of_part reply_of (replica, (client, (number, (round, (verdict, (culled, (shown, mac))))))) found is
reply_again _ found is = absurd cc

fetch_again : (frame : Frame) (found : FetchFields) → fetch_fields frame ≡ Some found → fetch_of found ≡ frame
fetch_again (Fetch replica object stamp mac) found is = of_part fetch_of (replica, (object, (stamp, mac))) found is
fetch_again _ found is = absurd cc

fetched_again : (frame : Frame) (found : FetchedFields) → fetched_fields frame ≡ Some found
    → fetched_of found ≡ frame
fetched_again (Fetched replica object stamp state mac) found is =
    of_part fetched_of (replica, (object, (stamp, (state, mac)))) found is
fetched_again _ found is = absurd cc

pub request_frame-exact : IsExact request_frame
unfolding request_frame
request_frame-exact = made-exact request_made request_fields request_form request-exact (λ found fits. refl)
    (λ frame found fits is. request_again frame found is)

pub reply_frame-exact : IsExact reply_frame
unfolding reply_frame
reply_frame-exact = made-exact reply_of reply_fields reply_form reply-exact (λ found fits. refl)
    (λ frame found fits is. reply_again frame found is)

pub fetch_frame-exact : IsExact fetch_frame
unfolding fetch_frame
fetch_frame-exact = made-exact fetch_of fetch_fields fetch_form fetch-exact (λ found fits. refl)
    (λ frame found fits is. fetch_again frame found is)

pub fetched_frame-exact : IsExact fetched_frame
unfolding fetched_frame
fetched_frame-exact = made-exact fetched_of fetched_fields fetched_form fetched-exact (λ found fits. refl)
    (λ frame found fits is. fetched_again frame found is)

frame_body-exact : (kind : ℕ) → IsExact (frame_body kind)
frame_body-exact kind =
    either-exact (kind == 1) request_frame _ request_frame-exact
    (λ no1. either-exact (kind == 2) reply_frame _ reply_frame-exact
    (λ no2. either-exact (kind == 3) fetch_frame fetched_frame fetch_frame-exact (λ no3. fetched_frame-exact)))

request_kind : (form : Format RequestFields) (frame : Frame) → FitsPart form (request_fields frame)
    → frame_kind frame ≡ 1
request_kind form (Request client number round sets asked mac) fits = refl
request_kind form _ fits = absurd fits

reply_kind : (form : Format ReplyFields) (frame : Frame) → FitsPart form (reply_fields frame) → frame_kind frame ≡ 2
reply_kind form (Reply replica client number round verdict culled shown mac) fits = refl
reply_kind form _ fits = absurd fits

fetch_kind : (form : Format FetchFields) (frame : Frame) → FitsPart form (fetch_fields frame) → frame_kind frame ≡ 3
fetch_kind form (Fetch replica object stamp mac) fits = refl
fetch_kind form _ fits = absurd fits

fetched_kind : (form : Format FetchedFields) (frame : Frame) → FitsPart form (fetched_fields frame)
    → frame_kind frame ≡ 4
fetched_kind form (Fetched replica object stamp state mac) fits = refl
fetched_kind form _ fits = absurd fits

last_kind : (kind : ℕ) → IsTrue (is_frame_kind kind) → (kind == 1) ≡ false → (kind == 2) ≡ false
    → (kind == 3) ≡ false → 4 ≡ kind
last_kind kind known no1 no2 no3 = grind (arith, nat_tests)

frame_coded : (kind : ℕ) (frame : Frame) → IsTrue (is_frame_kind kind) → (frame_body kind).Fits frame
    → frame_kind frame ≡ kind
unfolding request_frame reply_frame fetch_frame fetched_frame
frame_coded kind frame known fits =
    either-fits (kind == 1) request_frame _ frame (λ is here. request_kind request_form frame here
    ∙ sym (eqb-true _ _ is))
    (λ no1. either-fits (kind == 2) reply_frame _ frame (λ is here. reply_kind reply_form frame here
    ∙ sym (eqb-true _ _ is))
    (λ no2. either-fits (kind == 3) fetch_frame fetched_frame frame (λ is here. fetch_kind fetch_form frame here
    ∙ sym (eqb-true _ _ is))
    (λ no3 here. fetched_kind fetched_form frame here ∙ last_kind kind known no1 no2 no3))) fits

second_is : {A B : Type 0} (one : A) (pair : A × B) (two : B) → Some (one, two) ≡ Some pair → pair.1 ≡ two
second_is {A = A} {B = B} one pair two is = ap (λ (it : A × B). it.1) (sym (some_is is))

pub kind-exact : IsExact kind_form
unfolding kind_form
kind-exact =
    made-exact (λ found. found.1) (λ frame. Some (frame_kind frame, frame))
    (both (tested is_frame_kind Kind (number w8 0 255)) frame_body)
    (both-exact _ frame_body (tested-exact is_frame_kind Kind (number w8 0 255) (byte-exact 0 255 (omega arith)))
    (λ kind fits. frame_body-exact kind))
    (λ found fits. ap (λ (kind : ℕ). Some (kind, found.1)) (frame_coded found.0 found.1 (fits.0).1 fits.1))
    (λ frame found fits is. second_is (frame_kind frame) found frame is)

pub frame-exact : IsExact frame_form
unfolding frame_form
frame-exact =
    made-exact (λ found. found.1) (λ frame. Some (1, frame))
    (both (tested is_version Kind (number w8 0 255)) (λ version. kind_form))
    (both-exact _ _ (tested-exact is_version Kind (number w8 0 255) (byte-exact 0 255 (omega arith)))
    (λ version fits. kind-exact))
    (λ found fits. ap (λ (version : ℕ). Some (version, found.1)) (sym (eqb-true found.0 1 (fits.0).1)))
    (λ frame found fits is. second_is 1 found frame is)

-- ---- each is a prefix code

pub body-code : (objects : List ObjectId) → IsPrefixCode (body_form objects)
body-code objects = prefix_code (body_form objects) (body-exact objects)

pub culled-code : IsPrefixCode culled_form
culled-code = prefix_code culled_form culled-exact

pub request-code : IsPrefixCode request_frame
request-code = prefix_code request_frame request_frame-exact

pub reply-code : IsPrefixCode reply_frame
reply-code = prefix_code reply_frame reply_frame-exact

pub fetch-code : IsPrefixCode fetch_frame
fetch-code = prefix_code fetch_frame fetch_frame-exact

pub fetched-code : IsPrefixCode fetched_frame
fetched-code = prefix_code fetched_frame fetched_frame-exact

pub frame-code : IsPrefixCode frame_form
frame-code = prefix_code frame_form frame-exact

pub ruleset code_laws = (
  body-code,
  culled-code,
  request-code,
  reply-code,
  fetch-code,
  fetched-code,
  frame-code,
)
