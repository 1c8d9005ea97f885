-- What the tests for equal parties, texts, HMACs and histories decide.
use Rattle.std.proofs.Common.{◌≡◌, ℕ, true, List, Option, None, Some, refl, ap}
use Rattle.std.specs.Prelude.{◌==◌, ◌&&◌, nat_eq}
use Rattle.std.specs.Bool.{Decides}
use Rattle.std.specs.Cmp.Lexicographic.{pointwise, bytes_decides}
use Rattle.std.proofs.lemmas.Bool.{false≢true, and_parts, and_from}
use Rattle.std.proofs.lemmas.Bool.Decides.{Decides-eqb}
use Rattle.qu_stamp.specs.Candidate.{same}
use Rattle.qu_stamp.proofs.Order.{decides_candidates}
use Rattle.qu_history.specs.History.{ObjectHistory}
use Rattle.qu_claims.specs.Digested.{Text}
use Rattle.qu_audit.specs.Digesting.{same_text}
use Rattle.qu_audit.specs.Forging.{same_history, same_mac}

pub decides_mac : (a b : Option (List ℕ)) → Decides (same_mac a b) (a ≡ b)
decides_mac None None = (λ same. refl, λ same. refl)
decides_mac None (Some b) = (λ same. absurd (false≢true same), λ same. absurd (cc))
decides_mac (Some a) None = (λ same. absurd (false≢true same), λ same. absurd (cc))
decides_mac (Some a) (Some b) = (λ same. ap Some ((bytes_decides a b).0 same), λ same. (bytes_decides a b).1 (cc))

pub decides_history : (a b : ObjectHistory) → Decides (same_history a b) (a ≡ b)
decides_history a b = (
  λ alike.
      let parts : ((a.object).0 == (b.object).0 ≡ true)
      × (((a.replica).0 == (b.replica).0 && pointwise same a.candidates b.candidates) ≡ true) = and_parts _ _ alike in
      let more : ((a.replica).0 == (b.replica).0 ≡ true) × (pointwise same a.candidates b.candidates ≡ true) =
      and_parts _ _ parts.1 in
      let objects : (a.object).0 ≡ (b.object).0 = (Decides-eqb (a.object).0 (b.object).0).0 parts.0 in
      let replicas : (a.replica).0 ≡ (b.replica).0 = (Decides-eqb (a.replica).0 (b.replica).0).0 more.0 in
      let candidates : a.candidates ≡ b.candidates = (decides_candidates a.candidates b.candidates).0 more.1 in
      λ i. record {
        object = record { 0 = objects i };
        replica = record { 0 = replicas i };
        candidates = candidates i;
      },
  λ equal. and_from _ _ ((Decides-eqb (a.object).0 (b.object).0).1 (ap (λ (it : ObjectHistory). (it.object).0) equal))
      (and_from _ _ ((Decides-eqb (a.replica).0 (b.replica).0).1 (ap (λ (it : ObjectHistory). (it.replica).0) equal))
      ((decides_candidates a.candidates b.candidates).1 (ap (λ (it : ObjectHistory). it.candidates) equal))),
)

pub decides_text : (a b : Text) → Decides (same_text a b) (a ≡ b)
decides_text a b = (
  λ same.
      let parts : (a.tag == b.tag ≡ true) × (pointwise nat_eq a.bytes b.bytes ≡ true) = and_parts _ _ same in
      let tags : a.tag ≡ b.tag = (Decides-eqb a.tag b.tag).0 parts.0 in
      let bytes : a.bytes ≡ b.bytes = (bytes_decides a.bytes b.bytes).0 parts.1 in
      λ i. record { tag = tags i; bytes = bytes i },
  λ equal. and_from _ _ ((Decides-eqb a.tag b.tag).1 (ap (λ (it : Text). it.tag) equal))
      ((bytes_decides a.bytes b.bytes).1 (ap (λ (it : Text). it.bytes) equal)),
)
