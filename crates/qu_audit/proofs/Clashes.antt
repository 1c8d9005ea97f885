-- The earliest event that saw another text with the digest of one of some texts.
use Rattle.std.proofs.Common.{◌≡◌, ℕ, ◌+◌, ◌<◌, ◌≤◌, List, [], ◌∷◌, length, get_or, drop, Option, Some, sym, ap, ◌∙◌, inl, inr, arith}
use Rattle.std.specs.Prelude.{Contains}
use Rattle.std.proofs.lemmas.List.{drop_more, drop_all}
use Rattle.std.proofs.lemmas.List.Elements.{Contains-append_left, Contains-append_right, Contains-append_cases, Contains-push}
use Rattle.std.proofs.lemmas.Option.{none-some}
use Rattle.qu_base.specs.declared.party.Digest.{Digest}
use Rattle.qu_trace.specs.Earliest.{earlier_of, IsUpTo}
use Rattle.qu_trace.proofs.EarliestLaws.{earlier_cases, earlier_assoc, earlier_none, earlier_left, earlier_right}
use Rattle.qu_claims.specs.Digested.{Text}
use Rattle.qu_runs.proofs.Small.{only_one}
use Rattle.qu_audit.specs.declared.digests.Seen.{Seen}
use Rattle.qu_audit.specs.Digests.{clash, first_clash}

-- one text more
pub first_clash_more : (seen : Digest → Option Seen) (all : List Text) (index : ℕ) (default : Text)
    (so_far : Option ℕ) → index < length all
    → earlier_of (earlier_of so_far (clash seen (get_or all index default)))
    (first_clash seen (drop (index + 1) all)) ≡ earlier_of so_far (first_clash seen (drop index all))
unfolding first_clash
first_clash_more seen all index default so_far below =
    earlier_assoc so_far (clash seen (get_or all index default)) (first_clash seen (drop (index + 1) all)) ∙
    ap (λ (it : List Text). earlier_of so_far (first_clash seen it)) (sym (drop_more all index default below))

pub first_clash_end : (seen : Digest → Option Seen) (all : List Text) (index : ℕ) (so_far : Option ℕ)
    → length all ≤ index → earlier_of so_far (first_clash seen (drop index all)) ≡ so_far
unfolding first_clash
first_clash_end seen all index so_far past =
    ap (λ (it : List Text). earlier_of so_far (first_clash seen it)) (drop_all index all past) ∙ earlier_none so_far

-- a text that clashes
pub record HasClash (seen : Digest → Option Seen) (texts : List Text) (event : ℕ) : Type 0 where
  pub text : Text
  pub held : Contains texts text
  pub clashes : clash seen text ≡ Some event

clash_later : (seen : Digest → Option Seen) (first : Text) (later : List Text) (event : ℕ)
    → HasClash seen later event → HasClash seen (first ∷ later) event
clash_later seen first later event it =
    record {
      text = it.text;
      held = Contains-append_right (first ∷ []) later it.text it.held;
      clashes = it.clashes;
    }

pub clash_found : (seen : Digest → Option Seen) (texts : List Text) (event : ℕ) → first_clash seen texts ≡ Some event
    → HasClash seen texts event
unfolding first_clash
clash_found seen [] event is = absurd (none-some event is)
clash_found seen (first ∷ later) event is =
    elim (earlier_cases (clash seen first) (first_clash seen later) event is) [
      | inl here ↦ record {
        text = first;
        held = Contains-append_left (first ∷ []) later first (Contains-push [] first);
        clashes = here;
      }
      | inr there ↦ clash_later seen first later event (clash_found seen later event there)
    ]

pub clash_least : (seen : Digest → Option Seen) (texts : List Text) (text : Text) (event : ℕ) → Contains texts text
    → clash seen text ≡ Some event → IsUpTo (first_clash seen texts) event
unfolding first_clash
clash_least seen [] text event held clashes = absurd (omega (arith, held.1))
clash_least seen (first ∷ later) text event held clashes =
    elim (Contains-append_cases (first ∷ []) later text held) [
      | inl here ↦
          let same : first ≡ text = only_one first text here in
          earlier_left (clash seen first) (first_clash seen later) event
          (event, ap (clash seen) same ∙ clashes, omega arith)
      | inr there ↦ earlier_right (clash seen first) (first_clash seen later) event
          (clash_least seen later text event there clashes)
    ]
