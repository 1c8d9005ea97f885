-- The latest stamp and the orders of the entries of an object, and what is of class METHOD.
use Rattle.std.proofs.Common.{◌≡◌, ◌+◌, ◌<◌, ◌≤◌, ℕ, Bool, Option, List, [], ◌∷◌, ◌++◌, true, false, not, ◌&&◌, cond, leb, Some, None, refl, sym, ap, ◌∙◌, inl, inr, take, length, get_or, append-nil}
use Rattle.std.proofs.lemmas.Bool.{false≢true, cases_Bool}
use Rattle.std.specs.List.{filter, flat_map}
use Rattle.std.proofs.lemmas.List.{take_more}
use Rattle.std.proofs.lemmas.List.Concat.{flat_map-append}
use Rattle.std.proofs.lemmas.List.Sums.{count_by-le-length}
use Rattle.qu_stamp.specs.declared.stamp.Stamp.{Stamp}
use Rattle.qu_stamp.specs.declared.candidate.Candidate.{Candidate}
use Rattle.qu_stamp.specs.Stamp.{opening_stamp, same_stamp}
use Rattle.qu_base.specs.Bounds.{quorum, repair}
use Rattle.qu_history.specs.History.{ObjectHistory, greater_stamp, greatest_stamp, latest, holds}
use Rattle.qu_history.specs.Sets.{order_of, candidates_of, latest_of, greatest, object_candidate, if_method, method_at}
use Rattle.qu_history.proofs.Stamps.{latest-append}
use Rattle.qu_history.proofs.Greatest.{greatest_cases, holds-filter}

pub order_of_most : (candidate : Candidate) (entries : List ObjectHistory) → order_of candidate entries ≤ length entries
unfolding order_of
order_of_most candidate entries = count_by-le-length (λ (entry : ObjectHistory). holds candidate entry.candidates)
    entries

pub latest_of_none : latest_of [] ≡ opening_stamp
unfolding latest_of candidates_of greatest_stamp
latest_of_none = refl

-- the latest after one more entry
pub latest_of_more : (entries : List ObjectHistory) (index : ℕ) (entry : ObjectHistory) → index < length entries
    → latest_of (take (index + 1) entries) ≡ greater_stamp (latest_of (take index entries))
    (latest (get_or entries index entry).candidates)
unfolding latest_of candidates_of
latest_of_more entries index entry within =
    let here : ObjectHistory = get_or entries index entry in
    let each : ObjectHistory → List Candidate = λ (other : ObjectHistory). other.candidates in
    ap latest_of (take_more entries index entry within) ∙
    ap latest (flat_map-append each (take index entries) (here ∷ [])) ∙
    ap (λ more. latest (flat_map each (take index entries) ++ more)) (append-nil here.candidates) ∙
    latest-append (flat_map each (take index entries)) here.candidates

-- a search that sees one more
pub latest_of_next : (entries : List ObjectHistory) (index : ℕ) (stamp : Stamp) (entry : ObjectHistory)
    → index < length entries → stamp ≡ latest_of (take index entries) → entry ≡ get_or entries index entry
    → latest_of (take (index + 1) entries) ≡ greater_stamp stamp (latest entry.candidates)
latest_of_next entries index stamp entry within is_latest is_entry =
    latest_of_more entries index entry within ∙
    ap (λ before. greater_stamp before (latest (get_or entries index entry).candidates)) (sym is_latest) ∙
    ap (λ (other : ObjectHistory). greater_stamp stamp (latest other.candidates)) (sym is_entry)

-- what is of class METHOD has no barrier
pub if_method_found : (bounds : ℕ) (entries : List ObjectHistory) (found : Option Candidate) (candidate : Candidate)
    → if_method bounds entries found ≡ Some candidate → found ≡ Some candidate
unfolding if_method
if_method_found bounds entries None candidate given = given
if_method_found bounds entries (Some other) candidate given =
    elim (cases_Bool (same_stamp other.stamp (latest_of entries) && leb (quorum bounds) (order_of other entries))) [
      | inl passes ↦ sym (ap (λ test. cond test (Some other) None) passes) ∙ given
      | inr fails ↦ absurd (let no : None ≡ Some candidate = sym (ap (λ test. cond test (Some other) None) fails)
          ∙ given in cc)
    ]

plain_test : (barrier rest : Bool) → not barrier && rest ≡ true → barrier ≡ false
plain_test false rest passes = refl
plain_test true rest passes = absurd (false≢true passes)

pub method_at_plain : (bounds : ℕ) (entries : List ObjectHistory) (candidate : Candidate)
    → method_at bounds entries ≡ Some candidate → candidate.stamp.barrier ≡ false
unfolding method_at object_candidate
method_at_plain bounds entries candidate given =
    let test : Candidate → Bool = λ (other : Candidate). not other.stamp.barrier && leb (repair bounds)
    (order_of other entries) in
    let is_found : greatest (filter test (candidates_of entries)) ≡ Some candidate =
    if_method_found bounds entries (greatest (filter test (candidates_of entries))) candidate given in
    elim (greatest_cases (filter test (candidates_of entries))) [
      | inl none ↦ absurd (let no : Some candidate ≡ None = sym is_found ∙ none.0 in cc)
      | inr found ↦
          let equal : found.0 ≡ candidate = (let both : Some found.0 ≡ Some candidate = sym found.1 ∙ is_found in cc) in
          ap (λ (other : Candidate). other.stamp.barrier) (sym equal)
          ∙ plain_test (found.0).stamp.barrier (leb (repair bounds) (order_of found.0 entries))
          (holds-filter test found.0 (candidates_of entries) (found.2).held).1
    ]
