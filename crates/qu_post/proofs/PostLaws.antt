-- The post where no letter waits for a party.
use Rattle.std.proofs.Common.{◌≡◌, Option, None, ap}
use Rattle.std.specs.Prelude.{is_some, if◌then◌else◌}
use Rattle.qu_base.specs.declared.party.Party.{Party}
use Rattle.qu_frames.specs.declared.frame.Letter.{Letter}
use Rattle.qu_frames.specs.declared.input.LetterName.{LetterName}
use Rattle.qu_post.specs.Bags.{oldest_for, without_oldest}
use Rattle.qu_post.specs.PostState.{PostContent, with_letter_taken, with_step_begun}

pub none_taken : (who : Party) (post : PostContent) → oldest_for who post.bags ≡ None
    → with_letter_taken who post ≡ post
none_taken who post none =
    ap (λ (oldest : Option (LetterName × Letter)). if is_some oldest
    then with_step_begun (record post { bags = without_oldest who post.bags }) else post) none
