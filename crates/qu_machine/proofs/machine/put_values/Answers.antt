use Rattle.std.proofs.Common.{◌≡◌, ◌∙◌, sym, length, min, rules, arith}
use Rattle.std.proofs.lemmas.Iterator.{YieldsList-from_slice, YieldsList-from_zip}
use Rattle.std.proofs.lemmas.Iterator.Adapters.{YieldsList-from_vec}
use Rattle.std.proofs.lemmas.Iterator.Consumers.{YieldsList-end}
use Rattle.std.proofs.lemmas.Slice.Zip.{length-zip}
use Rattle.qu_machine.proofs.NamedValues.{with_values_end}
use Rattle.qu_machine.proofs.machine.put_values.Goals as goal

pub returns : goal.returns
returns g c =
    let ended = YieldsList-end
    (YieldsList-from_zip (YieldsList-from_slice c.args.parts.now cc)
    (YieldsList-from_vec c.args.made (cc) (search rules)))
    c.loop-object.yielded _ c.loop-object.yielded_by _ c.next.new.self c.in-None.is c.next.ensures.steps in
    let size : length c.loop-object.yielded ≡ min (length c.args.parts.now) (length c.args.made) =
    ended.1 ∙ length-zip c.args.parts.now c.args.made in
    sym (c.loop-object.invariant.values ∙ with_values_end c.loop-object.values c.args.parts.now c.args.made
    (length c.loop-object.yielded) (grind arith))
