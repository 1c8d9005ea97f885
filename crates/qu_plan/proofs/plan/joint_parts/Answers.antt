-- A member joins with its part, or is covered; the first other one tells why there is no plan.
use Rattle.std.proofs.Common.{◌≡◌, ℕ, Bool, true, not, List, [], ◌∷◌, ◌++◌, get_or, take, Option, None, Some, refl, sym, subst, ap, inr, ◌∙◌}
use Rattle.std.specs.Prelude.{filter_map}
use Rattle.std.specs.List.{All, cons_option}
use Rattle.std.specs.Option.{option_map}
use Rattle.std.proofs.lemmas.Bool.{false≢true, false_from_ne_true, not_from_false, not_from_true}
use Rattle.std.proofs.lemmas.List.{append-nil}
use Rattle.std.proofs.lemmas.List.Elements.{All-push}
use Rattle.qu_base.specs.declared.party.ObjectId.{ObjectId}
use Rattle.qu_stamp.specs.declared.candidate.Candidate.{Candidate}
use Rattle.qu_history.specs.declared.sets.SetOf.{SetOf}
use Rattle.qu_history.specs.Sets.{entries_of}
use Rattle.qu_plan.specs.Copying.{is_covered, is_outstanding, plan_fail_at, joint_part}
use Rattle.qu_plan.specs.Linking.{Linking, linking}
use Rattle.qu_class.specs.Rows.{AreWellFormed}
use Rattle.qu_plan.proofs.Parts.{found_here, none_more, mapped_more, part_joins, part_lacks}
use Rattle.qu_plan.proofs.plan.joint_parts.Goals as goal
use Rattle.qu_plan.proofs.plan.joint_parts.Goals.{in-Some+in_ok-push, in_default+in_default-left_at}

abbrev none_here : ObjectId × ℕ
none_here = (record { 0 = 0 }, 0)

pub returns-in-Some-left_at-clause-failed : goal.returns-in-Some-left_at-clause-failed
returns-in-Some-left_at-clause-failed c =
    let bounds : ℕ = c.args.known.now.bounds in
    let sets : List SetOf = c.args.known.now.sets in
    let link : Linking = linking c.args.known.now.facts in
    let candidate : Candidate = c.args.candidate.now in
    let member : ObjectId × ℕ = get_or c.args.members.now c.loop-member.member-index none_here in
    let is_left : not (is_covered bounds sets link c.args.target candidate member) ≡ true =
    not_from_false (is_covered bounds sets link c.args.target candidate member)
    (false_from_ne_true (is_covered bounds sets link c.args.target candidate member)
    (λ is. false≢true (sym (c.in-Some-left_at.ensures.covered.1 is)))) in
    inr (ap (option_map (plan_fail_at bounds sets link c.args.target candidate))
    (found_here (is_outstanding bounds sets link c.args.target candidate) c.args.members.now c.loop-member.member-index
    none_here c.loop-member.invariant.none_left c.loop-member-test.true
    (part_lacks bounds sets link c.args.target candidate member (sym c.joint_part.ensures.value ∙ c.in_default.is)
    ∙ is_left))
    ∙ ap Some (sym c.in-Some-left_at.ensures.value))

pub loop-member-preserved : goal.loop-member-preserved
loop-member-preserved c =
    let bounds : ℕ = c.args.known.now.bounds in
    let sets : List SetOf = c.args.known.now.sets in
    let link : Linking = linking c.args.known.now.facts in
    let candidate : Candidate = c.args.candidate.now in
    let left : ObjectId × ℕ → Bool = is_outstanding bounds sets link c.args.target candidate in
    let part : ObjectId × ℕ → Option (ObjectId × Candidate) = joint_part bounds sets link candidate in
    let before : List (ObjectId × ℕ) = take c.loop-member.member-index c.args.members.now in
    let member : ObjectId × ℕ = get_or c.args.members.now c.loop-member.member-index none_here in
    let more = mapped_more part c.args.members.now c.loop-member.member-index none_here c.loop-member-test.true in
    let P : ObjectId × Candidate → Type 0 = λ it. AreWellFormed bounds (entries_of it.0 sets) in
    elim c.match-joint_part.branch [
      | in-Some+in_ok-push w ↦
          let is : part member ≡ Some w.in-Some.part = sym c.joint_part.ensures.value ∙ w.in-Some.is in
          record {
            none_left =
                none_more left c.args.members.now c.loop-member.member-index none_here
                c.loop-member.invariant.none_left c.loop-member-test.true
                (part_joins bounds sets link c.args.target candidate member w.in-Some.part is);
            value =
                w.joint-is ∙ w.in_ok-push.ensures.ok
                ∙ ap (λ (it : List (ObjectId × Candidate)). it ++ w.in-Some.part ∷ []) c.loop-member.invariant.value
                ∙ ap (λ (it : Option (ObjectId × Candidate)). filter_map part before ++ cons_option it []) (sym is)
                ∙ sym more;
            formed = subst (All P) (sym (w.joint-is ∙ w.in_ok-push.ensures.ok))
                (All-push P c.loop-member.joint w.in-Some.part c.loop-member.invariant.formed w.in-Some.ensures.formed);
          }
      | in_default+in_default-left_at w ↦
          let is : part member ≡ None = sym c.joint_part.ensures.value ∙ w.in_default.is in
          record {
            none_left =
                none_more left c.args.members.now c.loop-member.member-index none_here
                c.loop-member.invariant.none_left c.loop-member-test.true
                (part_lacks bounds sets link c.args.target candidate member is
                ∙ not_from_true (is_covered bounds sets link c.args.target candidate member)
                (w.in_default-left_at.ensures.covered.0 refl));
            value =
                w.joint-is ∙ c.loop-member.invariant.value ∙ sym (append-nil (filter_map part before))
                ∙ ap (λ (it : Option (ObjectId × Candidate)). filter_map part before ++ cons_option it []) (sym is)
                ∙ sym more;
            formed = subst (All P) (sym w.joint-is) c.loop-member.invariant.formed;
          }
    ]
