-- What is seen of the digests of a run, event by event, and the first two texts that collide.
use Rattle.std.proofs.Common.{◌≡◌, ℕ, ◌+◌, ◌<◌, ◌≤◌, Bool, true, false, cond, List, Option, None, Some, refl, sym, ap, subst, ◌∙◌, inl, inr, arith}
use Rattle.std.specs.Prelude.{Contains}
use Rattle.std.proofs.lemmas.Bool.{false≢true, cases_Bool, cases_lt}
use Rattle.std.proofs.lemmas.Option.{none-some, same_Some}
use Rattle.qu_base.specs.declared.party.Digest.{Digest}
use Rattle.qu_base.proofs.Items.{some_found}
use Rattle.qu_seal.specs.Digesting.{digest_of}
use Rattle.qu_trace.specs.declared.trace.Trace.{Trace}
use Rattle.qu_trace.specs.Earliest.{IsUpTo}
use Rattle.qu_claims.specs.Digested.{Text}
use Rattle.qu_audit.specs.declared.digests.Digests.{Digests}
use Rattle.qu_audit.specs.declared.digests.Seen.{Seen}
use Rattle.qu_audit.specs.Answer.{texts_by, DoCollide, NoneCollideBefore, IsFirstCollision, UnforgedBefore}
use Rattle.qu_audit.specs.Digesting.{digest_of_text, same_text}
use Rattle.qu_audit.specs.Digests.{look, Notes, clash_with, clash, first_clash}
use Rattle.qu_audit.specs.Past.{WasSeen, Knows}
use Rattle.qu_audit.proofs.Clashes.{HasClash, clash_found, clash_least}
use Rattle.qu_audit.proofs.Equalities.{decides_text}

-- ---- one event more

module _ (trace : Trace) (count : ℕ) (old new : Digests) (knows : Knows trace count old)
    (notes : Notes (look old) (look new) (count + 1) (texts_by trace (count + 1))) where
  seen_within : (digest : Digest) (seen : Seen) → look new digest ≡ Some seen → seen.event ≤ count + 1
  seen_within digest seen found =
      elim (notes.told digest seen found) [
        | inl before ↦
            let within : seen.event ≤ count = knows.within digest seen before in
            omega arith
        | inr noted ↦
            let at : seen.event ≡ count + 1 = noted.0 in
            omega arith
      ]

  seen_digest : (digest : Digest) (seen : Seen) → look new digest ≡ Some seen → digest ≡ digest_of_text seen.text
  seen_digest digest seen found =
      elim (notes.told digest seen found) [
        | inl before ↦ knows.digest_is digest seen before
        | inr noted ↦ noted.1
      ]

  seen_at : (digest : Digest) (seen : Seen) → look new digest ≡ Some seen
      → Contains (texts_by trace seen.event) seen.text
  seen_at digest seen found =
      elim (notes.told digest seen found) [
        | inl before ↦ knows.at_event digest seen before
        | inr noted ↦ subst (λ (event : ℕ). Contains (texts_by trace event) seen.text) (sym noted.0) noted.2
      ]

  noted_now : (text : Text) → Contains (texts_by trace (count + 1)) text → WasSeen new (digest_of_text text) (count + 1)
  noted_now text held =
      let it : (seen : Seen) × (look new (digest_of_text text) ≡ Some seen) =
      some_found (look new (digest_of_text text)) (notes.noted text held) in
      record { seen = it.0; found = it.1; order = seen_within (digest_of_text text) it.0 it.1 }

  kept_seen : (digest : Digest) (event : ℕ) → WasSeen old digest event → WasSeen new digest event
  kept_seen digest event it =
      record { seen = it.seen; found = notes.kept digest it.seen it.found; order = it.order }

  known_more : (event : ℕ) (text : Text) → event ≤ count + 1 → Contains (texts_by trace event) text
      → WasSeen new (digest_of_text text) event
  known_more event text order held =
      elim (cases_lt count event) [
        | inl last ↦
            let at : event ≡ count + 1 = omega arith in
            subst (λ (it : ℕ). WasSeen new (digest_of_text text) it) (sym at)
            (noted_now text (subst (λ (it : ℕ). Contains (texts_by trace it) text) at held))
        | inr before ↦ kept_seen (digest_of_text text) event (knows.known event text before held)
      ]

  pub knows_more : Knows trace (count + 1) new
  knows_more = record { known = known_more; digest_is = seen_digest; at_event = seen_at; within = seen_within }

pub knows_nothing : (trace : Trace) (digests : Digests) → ((digest : Digest) → look digests digest ≡ None)
    → Knows trace 0 digests
knows_nothing trace digests none = record {
  known = λ event text order held. absurd (no_texts event text order held);
  digest_is = λ digest seen found. absurd (none-some seen (sym (none digest) ∙ found));
  at_event = λ digest seen found. absurd (none-some seen (sym (none digest) ∙ found));
  within = λ digest seen found. absurd (none-some seen (sym (none digest) ∙ found));
}
  where
    no_texts : (event : ℕ) (text : Text) → event ≤ 0 → ¬ (Contains (texts_by trace event) text)
    no_texts event text order held =
        let at : event ≡ 0 = omega arith in
        let none : Contains (texts_by trace 0) text =
        subst (λ (it : ℕ). Contains (texts_by trace it) text) at held in
        omega (arith, none.1)

-- ---- texts that collide

clash_some : (text : Text) (found : Option Seen) (event : ℕ) → clash_with text found ≡ Some event
    → (seen : Seen) × (found ≡ Some seen) × (seen.event ≡ event) × (same_text seen.text text ≡ false)
clash_some text None event is = absurd (none-some event is)
clash_some text (Some seen) event is =
    elim (cases_Bool (same_text seen.text text)) [
      | inl same ↦ absurd (none-some event (sym (ap (λ (it : Bool). cond it None (Some seen.event)) same) ∙ is))
      | inr other ↦ (
        seen,
        refl,
        same_Some seen.event event (sym (ap (λ (it : Bool). cond it None (Some seen.event)) other) ∙ is),
        other,
      )
    ]

-- a text that was seen is another one
clash_other : (text : Text) (found : Option Seen) (seen : Seen) → found ≡ Some seen
    → same_text seen.text text ≡ false → clash_with text found ≡ Some seen.event
clash_other text found seen is other =
    ap (clash_with text) is ∙ ap (λ (it : Bool). cond it None (Some seen.event)) other

module _ (trace : Trace) (count : ℕ) (digests : Digests) (knows : Knows trace (count + 1) digests)
    (none : NoneCollideBefore trace (count + 1)) where
  abbrev texts : List Text
  texts = texts_by trace (count + 1)

  -- what was seen of a text of an earlier event is this text
  seen_before : (event : ℕ) (text : Text) → event < count + 1 → Contains (texts_by trace event) text
      → (it : WasSeen digests (digest_of_text text) event) → same_text (it.seen).text text ≡ true
  seen_before event text before held it =
      elim (cases_Bool (same_text (it.seen).text text)) [
        | inl same ↦ same
        | inr other ↦
            let collide : DoCollide trace (it.seen).event event = record {
              order = it.order;
              one = (it.seen).text;
              other = text;
              at_first = knows.at_event (digest_of_text text) it.seen it.found;
              at_second = held;
              apart = λ equal. false≢true (sym other ∙ (decides_text (it.seen).text text).1 equal);
              same = ap (λ (digest : Digest). digest.0) (sym (knows.digest_is (digest_of_text text) it.seen it.found));
            } in
            absurd (none (it.seen).event event before collide)
      ]

  -- where two texts collide at this event, one of them clashes with what was seen, which is not later
  collision_clashes : (first : ℕ) → DoCollide trace first (count + 1) → IsUpTo (first_clash (look digests) texts) first
  collision_clashes first it =
      let was : WasSeen digests (digest_of_text it.one) first = knows.known first it.one it.order it.at_first in
      let same : digest_of_text it.one ≡ digest_of_text it.other = digests_are it.one it.other it.same in
      let found : look digests (digest_of_text it.other) ≡ Some was.seen = ap (look digests) (sym same) ∙ was.found in
      elim (cases_Bool (same_text (was.seen).text it.other)) [
        | inr other ↦ up_to first it.other was it.at_second
            (clash_other it.other (look digests (digest_of_text it.other)) was.seen found other)
        | inl alike ↦ elim (cases_Bool (same_text (was.seen).text it.one)) [
          | inl both ↦ absurd (it.apart (sym ((decides_text (was.seen).text it.one).0 both)
              ∙ (decides_text (was.seen).text it.other).0 alike))
          | inr other ↦ elim (cases_lt first (count + 1)) [
            | inl before ↦ absurd (false≢true (sym other ∙ seen_before first it.one before it.at_first was))
            | inr last ↦
                let order : first ≤ count + 1 = it.order in
                let at : first ≡ count + 1 = omega arith in
                up_to first it.one was (subst (λ (event : ℕ). Contains (texts_by trace event) it.one) at it.at_first)
                (clash_other it.one (look digests (digest_of_text it.one)) was.seen was.found other)
          ]
        ]
      ]
    where
      digests_are : (one other : Text) → digest_of one.tag one.bytes ≡ digest_of other.tag other.bytes
          → digest_of_text one ≡ digest_of_text other
      digests_are one other same = ap (λ (bytes : List ℕ). (let digest : Digest = record { 0 = bytes } in digest)) same

      up_to : (first : ℕ) (text : Text) {digest : Digest} (was : WasSeen digests digest first)
          → Contains texts text → clash (look digests) text ≡ Some (was.seen).event
          → IsUpTo (first_clash (look digests) texts) first
      up_to first text was held clashes =
          let least : IsUpTo (first_clash (look digests) texts) (was.seen).event =
          clash_least (look digests) texts text (was.seen).event held clashes in
          let order : (was.seen).event ≤ first = was.order in
          let before : least.0 ≤ (was.seen).event = least.2 in
          (least.0, least.1, omega arith)

  pub none_at : first_clash (look digests) texts ≡ None → NoneCollideBefore trace (count + 1 + 1)
  none_at nothing first second order it =
      elim (cases_lt second (count + 1)) [
        | inl before ↦ none first second before it
        | inr last ↦
            let at : second ≡ count + 1 = omega arith in
            let least : IsUpTo (first_clash (look digests) texts) first =
            collision_clashes first (subst (λ (event : ℕ). DoCollide trace first event) at it) in
            none-some least.0 (sym nothing ∙ least.1)
      ]

  earliest_at : (first : ℕ) → first_clash (look digests) texts ≡ Some first → (event : ℕ)
      → DoCollide trace event (count + 1) → first ≤ event
  earliest_at first is event it =
      let least : IsUpTo (first_clash (look digests) texts) event = collision_clashes event it in
      let same : first ≡ least.0 = same_Some first least.0 (sym is ∙ least.1) in
      let order : least.0 ≤ event = least.2 in
      omega arith

  collide_at : (first : ℕ) → first_clash (look digests) texts ≡ Some first → DoCollide trace first (count + 1)
  collide_at first is =
      let it : HasClash (look digests) texts first = clash_found (look digests) texts first is in
      let was = clash_some it.text (look digests (digest_of_text it.text)) first it.clashes in
      let within : (was.0).event ≤ count + 1 = knows.within (digest_of_text it.text) was.0 was.1 in
      let at : (was.0).event ≡ first = was.2 in
      record {
        order = omega arith;
        one = (was.0).text;
        other = it.text;
        at_first = subst (λ (event : ℕ). Contains (texts_by trace event) (was.0).text) at
            (knows.at_event (digest_of_text it.text) was.0 was.1);
        at_second = it.held;
        apart = λ equal. false≢true (sym was.3 ∙ (decides_text (was.0).text it.text).1 equal);
        same = ap (λ (digest : Digest). digest.0) (sym (knows.digest_is (digest_of_text it.text) was.0 was.1));
      }

  pub first_collision : (first : ℕ) → first_clash (look digests) texts ≡ Some first
      → UnforgedBefore trace (count + 1) → IsFirstCollision trace first (count + 1)
  first_collision first is unforged = record {
    collide = collide_at first is;
    earliest = earliest_at first is;
    none_before = none;
    unforged = unforged;
  }
