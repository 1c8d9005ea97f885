-- How texts are noted, one after the other.
use Rattle.std.proofs.Common.{◌≡◌, ℕ, ◌+◌, ◌<◌, Bool, true, false, cond, List, [], ◌∷◌, ◌++◌, length, take, get_or, Option, None, Some, refl, sym, ap, subst, ◌∙◌, inl, inr}
use Rattle.std.specs.Prelude.{◌⊎◌, is_some, IsSome, Contains}
use Rattle.std.proofs.lemmas.Bool.{false≢true, cases_Bool}
use Rattle.std.proofs.lemmas.List.{take_more}
use Rattle.std.proofs.lemmas.List.Elements.{Contains-append_left, Contains-append_right, Contains-append_cases, Contains-push}
use Rattle.std.proofs.lemmas.Option.{same_Some}
use Rattle.qu_base.specs.declared.party.Digest.{Digest}
use Rattle.qu_stamp.specs.Stamp.{same_digest}
use Rattle.qu_stamp.proofs.Order.{decides_digest}
use Rattle.qu_claims.specs.Digested.{Text}
use Rattle.qu_runs.proofs.Small.{only_one}
use Rattle.qu_audit.specs.declared.digests.Seen.{Seen}
use Rattle.qu_audit.specs.Digesting.{digest_of_text}
use Rattle.qu_audit.specs.Digests.{Notes}

abbrev Look : Type 0
Look = Digest → Option Seen

-- ---- no text, and several

is_some_from : (new : Look) (digest : Digest) (it : Seen) → new digest ≡ Some it → IsSome (new digest)
is_some_from new digest it found = ap is_some found

some_seen : (found : Option Seen) → IsSome found → (it : Seen) × (found ≡ Some it)
some_seen None is = absurd (false≢true is)
some_seen (Some it) is = (it, refl)

notes_kept_on : (old mid new : Look) (event : ℕ) (texts more : List Text) → Notes old mid event texts
    → Notes mid new event more → (text : Text) → Contains texts text → IsSome (new (digest_of_text text))
notes_kept_on old mid new event texts more first second text held =
    let it : (seen : Seen) × (mid (digest_of_text text) ≡ Some seen) =
    some_seen (mid (digest_of_text text)) (first.noted text held) in
    is_some_from new (digest_of_text text) it.0 (second.kept (digest_of_text text) it.0 it.1)

pub notes_both : (old mid new : Look) (event : ℕ) (texts more : List Text) → Notes old mid event texts
    → Notes mid new event more → Notes old new event (texts ++ more)
notes_both old mid new event texts more first second = record {
  kept = λ digest it found. second.kept digest it (first.kept digest it found);
  noted = λ text held. elim (Contains-append_cases texts more text held) [
    | inl here ↦ notes_kept_on old mid new event texts more first second text here
    | inr there ↦ second.noted text there
  ];
  told = λ digest it found. elim (second.told digest it found) [
    | inl before ↦ elim (first.told digest it before) [
      | inl older ↦ inl older
      | inr here ↦ inr (here.0, here.1, Contains-append_left texts more it.text here.2)
    ]
    | inr there ↦ inr (there.0, there.1, Contains-append_right texts more it.text there.2)
  ];
}

-- one text more of a list
pub notes_more : (old mid new : Look) (event : ℕ) (texts : List Text) (index : ℕ) (text : Text)
    → index < length texts → text ≡ get_or texts index text → Notes old mid event (take index texts)
    → Notes mid new event (text ∷ []) → Notes old new event (take (index + 1) texts)
notes_more old mid new event texts index text within at first second =
    let all : take (index + 1) texts ≡ take index texts ++ text ∷ [] =
    take_more texts index text within ∙ ap (λ (it : Text). take index texts ++ it ∷ []) (sym at) in
    subst (λ (it : List Text). Notes old new event it) (sym all)
    (notes_both old mid new event (take index texts) (text ∷ []) first second)

-- ---- one text

-- whose digest was not seen
module _ (old new : Look) (event : ℕ) (text copied : Text) (digest : Digest) (is : digest ≡ digest_of_text text)
    (same : copied ≡ text) (unseen : is_some (old digest) ≡ false)
    (updates : (key : Digest) → new key ≡ cond (same_digest digest key)
    (Some (record { event = event; text = copied })) (old key)) where
  abbrev added : Seen
  added = record { event = event; text = copied }

  at_key : (key : Digest) → same_digest digest key ≡ true → new key ≡ Some added
  at_key key alike = updates key ∙ ap (λ (it : Bool). cond it (Some added) (old key)) alike

  elsewhere : (key : Digest) → same_digest digest key ≡ false → new key ≡ old key
  elsewhere key other = updates key ∙ ap (λ (it : Bool). cond it (Some added) (old key)) other

  keeps : (key : Digest) (it : Seen) → old key ≡ Some it → new key ≡ Some it
  keeps key it found =
      elim (cases_Bool (same_digest digest key)) [
        | inl alike ↦
            let keys : digest ≡ key = (decides_digest digest key).0 alike in
            absurd (false≢true (sym unseen ∙ ap (λ (at : Digest). is_some (old at)) keys ∙ ap is_some found))
        | inr other ↦ elsewhere key other ∙ found
      ]

  notes_it : (other : Text) → Contains (text ∷ []) other → IsSome (new (digest_of_text other))
  notes_it other held =
      let keys : digest ≡ digest_of_text other = is ∙ ap digest_of_text (only_one text other held) in
      ap is_some (at_key (digest_of_text other) ((decides_digest digest (digest_of_text other)).1 keys))

  tells : (key : Digest) (it : Seen) → new key ≡ Some it → (old key ≡ Some it)
      ⊎ ((it.event ≡ event) × (key ≡ digest_of_text it.text) × Contains (text ∷ []) it.text)
  tells key it found =
      elim (cases_Bool (same_digest digest key)) [
        | inl alike ↦
            let seen : added ≡ it = same_Some added it (sym (at_key key alike) ∙ found) in
            let keys : digest ≡ key = (decides_digest digest key).0 alike in
            let texts : text ≡ it.text = sym same ∙ ap (λ (one : Seen). one.text) seen in
            inr (
              sym (ap (λ (one : Seen). one.event) seen),
              sym keys ∙ is ∙ ap digest_of_text texts,
              subst (λ (one : Text). Contains (text ∷ []) one) texts (Contains-push [] text),
            )
        | inr other ↦ inl (sym (elsewhere key other) ∙ found)
      ]

  pub notes_new : Notes old new event (text ∷ [])
  notes_new = record { kept = keeps; noted = notes_it; told = tells }
