-- The far candidate is above the opening one.
use Rattle.std.proofs.Common.{◌≡◌, [], ◌∷◌, true, refl, ap, ◌∙◌}
use Rattle.qu_stamp.specs.Stamp.{opening_stamp, is_below, stamp_cmp}
use Rattle.qu_stamp.specs.Candidate.{opening}
use Rattle.qu_history.specs.History.{latest, last_from}
use Rattle.qu_history.proofs.Rising.{latest_is_last, is_history_opening}
use Rattle.qu_script.specs.Fake.{far_candidate}

opening_below : is_below opening_stamp far_candidate.stamp ≡ true
unfolding is_below stamp_cmp
opening_below = refl

pub far_above : is_below (latest (opening ∷ [])) far_candidate.stamp ≡ true
unfolding last_from
far_above =
    ap (λ stamp. is_below stamp far_candidate.stamp) (latest_is_last (opening ∷ []) is_history_opening)
    ∙ opening_below
