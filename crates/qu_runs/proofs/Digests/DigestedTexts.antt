-- The texts of a handled request are digested.
use Rattle.std.proofs.Common.{◌≡◌, List, ◌++◌, sym, subst, Option}
use Rattle.std.specs.Prelude.{Contains}
use Rattle.std.specs.List.{flat_map}
use Rattle.std.proofs.lemmas.List.Elements.{Contains-append_left}
use Rattle.qu_trace.specs.declared.trace.Entry.{Entry}
use Rattle.qu_trace.specs.declared.trace.Trace.{Trace}
use Rattle.qu_claims.specs.Carried.{handed_by}
use Rattle.qu_claims.specs.Handled.{Request, handled_by}
use Rattle.qu_claims.specs.Digested.{Text, texts_of, handed_texts, sent_texts, texts_at, digested}
use Rattle.qu_runs.proofs.Small.{contains_mapped}

pub request_digested : (trace : Trace) (entry : Entry) (request : Option Request) (text : Text)
    → Contains trace.entries entry → handled_by trace entry.event ≡ request → Contains (texts_of request) text
    → Contains (digested trace) text
unfolding digested texts_at
request_digested trace entry request text of_trace handled among =
    let others : List Text =
    handed_texts trace.setup (handed_by trace.setup trace.entries entry.event) ++ flat_map sent_texts entry.letters in
    let here : Contains (texts_of (handled_by trace entry.event)) text =
    subst (λ (it : Option Request). Contains (texts_of it) text) (sym handled) among in
    contains_mapped (texts_at trace) trace.entries entry text of_trace
    (Contains-append_left (texts_of (handled_by trace entry.event)) others text here)
