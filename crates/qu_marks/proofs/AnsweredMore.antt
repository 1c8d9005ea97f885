-- The rounds that the entries of a run answer, with one entry more.
use Rattle.std.proofs.Common.{◌≡◌, ℕ, ◌+◌, ◌<◌, List, [], ◌∷◌, ◌++◌, length, take, get_or, arith, sym, Some, ap, ◌∙◌}
use Rattle.std.specs.Prelude.{map, slice_get}
use Rattle.std.proofs.lemmas.List.{map-append, take_more}
use Rattle.std.proofs.lemmas.Option.{slice_get-get_or}
use Rattle.qu_runs.proofs.Small.{some_entry}
use Rattle.qu_trace.specs.declared.trace.Entry.{Entry}
use Rattle.qu_known.specs.declared.answers.Answered.{Answered}
use Rattle.qu_known.specs.Answers.{rounds_answered}

-- one entry more
pub answers_more : (entries : List Entry) (index : ℕ) (rounds : List Answered) (found new : List (List Answered))
    → index < length entries
    → ((entry : Entry) → slice_get entries index ≡ Some entry → rounds ≡ rounds_answered entry)
    → found ≡ map rounds_answered (take index entries) → new ≡ found ++ rounds ∷ []
    → new ≡ map rounds_answered (take (index + 1) entries)
answers_more entries index rounds found new below is before after =
    let default : Entry = some_entry entries (omega arith) in
    let here : Entry = get_or entries index default in
    let these : rounds ≡ rounds_answered here = is here (slice_get-get_or entries index default below) in
    after ∙ (λ i. before i ++ these i ∷ [])
    ∙ sym (ap (map rounds_answered) (take_more entries index default below)
    ∙ map-append rounds_answered (take index entries) (here ∷ []))
