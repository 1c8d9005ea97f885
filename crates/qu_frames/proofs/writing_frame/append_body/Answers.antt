use Rattle.std.proofs.Common.{◌≡◌, ℕ, List, ◌++◌, append_assoc, ap, ◌∙◌}
use Rattle.std.specs.Int.{w8, w16, to_be_bytes}
use Rattle.qu_base.specs.declared.party.ObjectId.{ObjectId}
use Rattle.qu_objects.specs.declared.act.Method.{Method}
use Rattle.qu_objects.specs.declared.query.Ask.{Ask}
use Rattle.qu_objects.specs.Formats.{is_one_of, act_form, query_form}
use Rattle.qu_frames.specs.declared.frame.Body.TheVariants as body
use Rattle.qu_frames.specs.Formats.{body_form}
use Rattle.qu_frames.proofs.writing_frame.append_body.Goals as goal

-- a code, and the parts behind it
act_pieces : (objects : List ObjectId) (parts : List (ObjectId × Method)) (start between end : List ℕ)
    → between ≡ start ++ to_be_bytes w8 1
    → end ≡ between ++ (act_form (is_one_of objects)).spell parts → end ≡ start ++ (body_form objects).spell
    (body.Act parts)
unfolding body_form
act_pieces objects parts start between end first second =
    second ∙ ap (λ (text : List ℕ). text ++ (act_form (is_one_of objects)).spell parts) first
    ∙ append_assoc start (to_be_bytes w8 1) ((act_form (is_one_of objects)).spell parts)

ask_pieces : (objects : List ObjectId) (parts : List (ObjectId × Ask)) (start between end : List ℕ)
    → between ≡ start ++ to_be_bytes w8 2
    → end ≡ between ++ (query_form (is_one_of objects)).spell parts → end ≡ start ++ (body_form objects).spell
    (body.Ask parts)
unfolding body_form
ask_pieces objects parts start between end first second =
    second ∙ ap (λ (text : List ℕ). text ++ (query_form (is_one_of objects)).spell parts) first
    ∙ append_assoc start (to_be_bytes w8 2) ((query_form (is_one_of objects)).spell parts)

mend_pieces : (objects : List ObjectId) (target : ObjectId) (start between end : List ℕ)
    → between ≡ start ++ to_be_bytes w8 3
    → end ≡ between ++ to_be_bytes w16 target.0 → end ≡ start ++ (body_form objects).spell (body.Mend target)
unfolding body_form
mend_pieces objects target start between end first second =
    second ∙ ap (λ (text : List ℕ). text ++ to_be_bytes w16 target.0) first
    ∙ append_assoc start (to_be_bytes w8 3) (to_be_bytes w16 target.0)

pub returns-in_ok-write_act-in-Act : goal.returns-in_ok-write_act-in-Act
returns-in_ok-write_act-in-Act c = λ objects.
    rw c.in-Act.is (act_pieces objects c.in-Act.act _ _ _ c.in_ok-u8-in-Act.ensures.ok
    (c.in_ok-write_act-in-Act.ensures.ok (is_one_of objects)))

pub returns-in_ok-write_query-in-Ask : goal.returns-in_ok-write_query-in-Ask
returns-in_ok-write_query-in-Ask c = λ objects.
    rw c.in-Ask.is (ask_pieces objects c.in-Ask.query _ _ _ c.in_ok-u8-in-Ask.ensures.ok
    (c.in_ok-write_query-in-Ask.ensures.ok (is_one_of objects)))

pub returns-in_ok-u16-in-Mend : goal.returns-in_ok-u16-in-Mend
returns-in_ok-u16-in-Mend c = λ objects.
    rw c.in-Mend.is (mend_pieces objects c.in-Mend.target _ _ _ c.in_ok-u8-in-Mend.ensures.ok
    c.in_ok-u16-in-Mend.ensures.ok)
