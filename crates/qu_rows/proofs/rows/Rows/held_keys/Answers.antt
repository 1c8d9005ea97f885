-- Where a time is spent, not all candidates are held.
use Rattle.std.proofs.Common.{◌≡◌, true, Bool, cond, Option, None, Some, Bor, refl, sym, ap, subst, ◌∙◌}
use Rattle.std.specs.Prelude.{is_some}
use Rattle.std.specs.Option.{option_copied}
use Rattle.std.proofs.lemmas.Bool.{false≢true}
use Rattle.qu_mends.specs.declared.seen.Seen.{Seen}
use Rattle.qu_rows.specs.State.{AreHistories}
use Rattle.qu_rows.specs.Rows.{fresh_keys}
use Rattle.qu_rows.proofs.Held.{none_held}
use Rattle.qu_rows.proofs.rows.Rows.held_keys.Goals as goal

found_copied : (found : Option (Bor Seen)) → is_some found ≡ true → is_some (option_copied found) ≡ true
found_copied None is = absurd (false≢true is)
found_copied (Some one) is = refl

pub returns-then-is_some : goal.returns-then-is_some
returns-then-is_some c =
    let own : AreHistories c.args.self.now = subst AreHistories c.self.view_is c.self.invariant in
    ap (λ (all : Bool). cond all (Some (fresh_keys c.args.asked.now c.args.seen.now)) None)
    (sym (none_held c.args.self.now c.args.asked.now c.args.seen.now own
    (ap is_some (sym c.first_spent.ensures.value) ∙ found_copied _ (sym c.is_some.ensures ∙ c.if-is_some.true))))
