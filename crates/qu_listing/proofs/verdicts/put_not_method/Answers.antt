use Rattle.std.proofs.Common.{append_assoc, refl}
use Rattle.qu_listed.specs.Verdicts.{not_method_text}
use Rattle.qu_listing.proofs.verdicts.put_not_method.Goals as goal

pub returns : goal.returns
unfolding not_method_text
returns c =
    rw c.in_ok-push_str-2.ensures.bytes (rw c.in_ok-write.ensures.bytes
    (rw c.in_ok-push_str.ensures.bytes (rw c.class_word.ensures (simp append_assoc refl))))
