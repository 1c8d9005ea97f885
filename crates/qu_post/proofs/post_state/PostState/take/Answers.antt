use Rattle.std.proofs.Common.{◌≡◌, List, None, length, ap, subst, sym, ◌∙◌, arith}
use Rattle.std.specs.Vec.{with_items}
use Rattle.std.proofs.lemmas.List.{with_items_is}
use Rattle.qu_post.specs.declared.bags.Bag.{Bag}
use Rattle.qu_post.specs.Bags.{oldest_for, without_oldest}
use Rattle.qu_post.specs.PostState.{PostContent}
use Rattle.qu_post.proofs.BagLaws.{nothing_taken}
use Rattle.qu_post.proofs.PostLaws.{none_taken}
use Rattle.qu_post.proofs.post_state.PostState.take.Goals as goal

-- where no letter waits, no bag has changed
pub returns-in_err-taken-clause-post : goal.returns-in_err-taken-clause-post
returns-in_err-taken-clause-post c =
    let value = c.as_mut_slice.ensures.value in
    let none : oldest_for c.args.actor c.self.inside.bags.items ≡ None =
    subst (λ (bags : List Bag). oldest_for c.args.actor bags ≡ None) value
    (sym c.take_oldest.ensures.result ∙ c.in_err-taken.was) in
    let same : c.take_oldest.new.bags ≡ c.self.inside.bags.items =
    c.take_oldest.ensures.bags ∙ ap (λ (bags : List Bag). without_oldest c.args.actor bags) value
    ∙ nothing_taken c.args.actor c.self.inside.bags.items none in
    let long : length c.take_oldest.new.bags ≡ c.self.inside.bags.len = omega arith in
    let bags : (with_items c.self.inside.bags c.take_oldest.new.bags).items ≡ c.self.inside.bags.items =
    with_items_is c.self.inside.bags c.take_oldest.new.bags long ∙ same in
    let post : List Bag → PostContent = λ bags. record {
      journal = c.self.inside.journal.items;
      bags = bags;
      under_way = c.self.inside.under_way;
      given = c.self.inside.given;
    } in
    ap post bags ∙ c.self.view_is ∙ sym (none_taken c.args.actor c.args.self.now
    (subst (λ (it : PostContent). oldest_for c.args.actor it.bags ≡ None) c.self.view_is none))
