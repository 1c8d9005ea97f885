-- Acts of other parts, and queries, are asked for by other bytes.
use Rattle.std.proofs.Common.{◌≡◌, ℕ, true, List, ◌++◌, drop, get_or, refl, sym, ap, ◌∙◌, arith}
use Rattle.std.proofs.lemmas.Bool.{false≢true}
use Rattle.std.specs.Int.{w16, w64, to_be_bytes}
use Rattle.qu_base.specs.declared.party.ClientId.{ClientId}
use Rattle.qu_base.specs.declared.party.ObjectId.{ObjectId}
use Rattle.qu_objects.specs.declared.act.Method.{Method}
use Rattle.qu_objects.specs.declared.query.Ask.{Ask}
use Rattle.qu_objects.specs.declared.op.Op.{Op}
use Rattle.qu_objects.specs.declared.op.Op.TheVariants as op
use Rattle.qu_objects.specs.Digesting.{any_object, act_text_form, act_text}
use Rattle.qu_objects.specs.Formats.{act_form}
use Rattle.qu_objects.proofs.Text.{act_text-one}
use Rattle.qu_frames.specs.Formats.{body_form}
use Rattle.qu_claims.specs.Order.{op_bytes}
use Rattle.qu_points.specs.Points.{NamedAct, ActFits, asks}

-- the bytes of the parts stand behind one byte
body_rest : (parts : List (ObjectId × Method)) → drop 1 (op_bytes (op.Act parts)) ≡ (act_form any_object).spell parts
unfolding body_form act_form
body_rest parts = refl

abbrev nobody : ClientId
nobody = record { 0 = 0 }

text_is : (parts : List (ObjectId × Method)) → act_text nobody 0 parts
    ≡ to_be_bytes w16 0 ++ (to_be_bytes w64 0 ++ (act_form any_object).spell parts)
unfolding act_text act_text_form
text_is parts = refl

pub one_body : (first second : NamedAct) → ActFits first → ActFits second
    → op_bytes (op.Act first.2) ≡ op_bytes (op.Act second.2) → first.2 ≡ second.2
one_body first second fits others same =
    let spelled : (act_form any_object).spell first.2 ≡ (act_form any_object).spell second.2 =
    sym (body_rest first.2) ∙ ap (drop 1) same ∙ body_rest second.2 in
    (act_text-one nobody nobody 0 0 first.2 second.2 (omega arith) (omega arith) (omega arith) (omega arith)
    fits.0 others.0 fits.1 others.1
    (text_is first.2
    ∙ ap (λ (it : List ℕ). to_be_bytes w16 0 ++ (to_be_bytes w64 0 ++ it)) spelled ∙ sym (text_is second.2))).2

act_head : (parts : List (ObjectId × Method)) → get_or (op_bytes (op.Act parts)) 0 0 ≡ 1
unfolding body_form
act_head parts = refl

query_head : (parts : List (ObjectId × Ask)) → get_or (op_bytes (op.Query parts)) 0 0 ≡ 2
unfolding body_form
query_head parts = refl

-- a query is asked for by other bytes than an act
pub no_query : (what : Op) (parts : List (ObjectId × Method)) → asks what ≡ true
    → op_bytes what ≡ op_bytes (op.Act parts) → ⊥
no_query (op.Act act) parts query same = false≢true query
no_query (op.Query asked) parts query same =
    let heads : ◌≡◌ {A = ℕ} 2 1 = sym (query_head asked) ∙ ap (λ (it : List ℕ). get_or it 0 0) same ∙ act_head parts in
    omega arith
