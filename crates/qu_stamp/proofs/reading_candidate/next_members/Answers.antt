use Rattle.std.proofs.Common.{ℕ, ◌+◌, ◌-◌, List, [], ◌∷◌, length, length-append, refl, sym, ap, ◌∙◌, arith}
use Rattle.qu_base.specs.declared.party.ObjectId.{ObjectId}
use Rattle.qu_base.specs.Format.{items_at, put_before}
use Rattle.qu_base.proofs.Lists.{items_more}
use Rattle.qu_stamp.specs.Formats.{member_form, after_member}
use Rattle.qu_stamp.proofs.reading_candidate.next_members.Goals as goal

pub loop-at-preserved : goal.loop-at-preserved
loop-at-preserved c =
    let member = c.in_ok-member.member in
    let so_far = c.loop-at.invariant in
    let fewer = c.args.count - (c.loop-at.at + 1) in
    let one_less = c.loop-at-test.true in (
      omega (arith, ap length c.push.ensures, length-append c.loop-at.members (member ∷ []), so_far.0),
      items_more member_form after_member c.loop-at.least ((member.0).0 + 1) (c.args.count - c.loop-at.at) fewer
          c.loop-at.text c.member_at.new.text c.loop-at.members member
          (items_at member_form after_member 0 c.args.count c.args.text.now) (omega (arith, one_less)) refl so_far.1
          c.in_ok-member.ensures.given
          ∙ ap (λ (members : List (ObjectId × ℕ)). put_before members
          (items_at member_form after_member ((member.0).0 + 1) fewer c.member_at.new.text)) (sym c.push.ensures),
    )
