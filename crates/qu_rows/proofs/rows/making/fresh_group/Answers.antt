-- Objects of an operation rise, and where none of their times is spent their candidates are a group.
use Rattle.std.proofs.Common.{◌≡◌, ℕ, Bool, true, false, List, Option, Some, IfSome, refl, sym, ap, subst, ◌∙◌, arith}
use Rattle.std.specs.Prelude.{◌↔◌}
use Rattle.std.proofs.lemmas.Bool.{false≢true}
use Rattle.qu_base.specs.declared.party.ObjectId.{ObjectId}
use Rattle.qu_stamp.specs.Group.{is_group}
use Rattle.qu_rows.proofs.FreshGroups.{alone_seen, others_seen, group_seen-whole}
use Rattle.qu_rows.proofs.rows.making.fresh_group.Goals as goal

made_where : (made whole : Bool) → ((made ≡ false) ↔ (whole ≡ false)) → whole ≡ true → made ≡ true
made_where true whole refused is = refl
made_where false whole refused is = absurd (false≢true (sym (refused.0 refl) ∙ is))

made_of : (found : Option (List (ObjectId × ℕ))) (group members : List (ObjectId × ℕ)) → found ≡ Some group
    → IfSome found (λ made. made ≡ members) → group ≡ members
made_of found group members is value =
    subst (λ (it : Option (List (ObjectId × ℕ))). IfSome it (λ made. made ≡ members)) is value

pub unwrap-requires : goal.unwrap-requires
unwrap-requires c =
    made_where _ _ c.new.ensures.refused
    (ap is_group
    (c.as_slice.ensures ∙ c.in_ok-members.ensures
    ∙ sym (others_seen c.args.asked.now c.args.seen.now (λ one. omega (arith, one, c.if-seen-eq1.false))))
    ∙ group_seen-whole c.args.asked.now c.args.seen.now c.requires.objects c.requires.in_time)

pub returns-then-seen-eq1 : goal.returns-then-seen-eq1
returns-then-seen-eq1 c =
    c.none.ensures ∙ sym (alone_seen c.args.asked.now c.args.seen.now (omega (arith, c.if-seen-eq1.true)))

pub returns : goal.returns
returns c =
    made_of _ _ _ c.unwrap.ensures c.new.ensures.value ∙ c.as_slice.ensures ∙ c.in_ok-members.ensures
    ∙ sym (others_seen c.args.asked.now c.args.seen.now (λ one. omega (arith, one, c.if-seen-eq1.false)))
