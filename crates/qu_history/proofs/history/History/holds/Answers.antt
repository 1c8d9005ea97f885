-- What stands at the place of the candidate's stamp is the candidate, or nothing in the history is.
use Rattle.std.proofs.Common.{rules, ◌≡◌, List, IsTrue, Some, sym, subst, ◌∙◌}
use Rattle.std.specs.Prelude.{slice_get}
use Rattle.qu_stamp.specs.declared.candidate.Candidate.{Candidate}
use Rattle.qu_stamp.specs.Candidate.{same}
use Rattle.qu_stamp.specs.Stamp.{same_stamp}
use Rattle.qu_history.specs.History.{is_history}
use Rattle.qu_history.proofs.ByStamp.{IsCut, held_there}
use Rattle.qu_history.proofs.history.History.holds.Goals as goal

pub returns-in-Some : goal.returns-in-Some
unfolding same_stamp
returns-in-Some c =
    let candidates : List Candidate = c.args.self.now.candidates in
    let history : IsTrue (is_history candidates) = search rules in
    let slice : c.as_slice.result.now ≡ candidates = search rules in
    let there : slice_get candidates c.count_below-below.result ≡ Some c.in-Some.held.now = search rules in
    let alike : c.eq.result ≡ same c.in-Some.held.now c.args.candidate.now = c.eq.ensures in
    alike ∙ sym (held_there c.args.candidate.now c.in-Some.held.now candidates c.count_below-below.result history
    (subst (λ (it : List Candidate). IsCut c.args.candidate.now it c.count_below-below.result) slice
    c.count_below-below.ensures) there)
