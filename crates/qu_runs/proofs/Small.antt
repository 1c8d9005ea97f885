-- Small lemmas that several files need: the first of a list, letters of entries, and equality of what has equal parts.
use Rattle.std.proofs.Common.{◌≡◌, ℕ, ◌<◌, ◌≤◌, List, [], ◌∷◌, length, sym, arith, inl, inr, subst}
use Rattle.std.specs.Prelude.{Contains}
use Rattle.std.specs.List.{All, flat_map}
use Rattle.std.proofs.lemmas.List.Elements.{All-head, Contains-push_cases, Contains-append_left, Contains-append_right, Contains-append_cases}
use Rattle.qu_base.specs.Bounds.{quorum, AreThresholds}
use Rattle.qu_base.proofs.ThresholdFacts.{are_thresholds}
use Rattle.qu_machine.specs.declared.record.Point.{Point}
use Rattle.qu_trace.specs.declared.trace.Entry.{Entry}
use Rattle.std.proofs.lemmas.List.Concat.{flat_map-cons}
use Rattle.qu_stamp.specs.declared.candidate.Candidate.{Candidate}

-- ---- the first of some

pub some_entry : (entries : List Entry) → 0 < length entries → Entry
some_entry [] some = absurd (omega arith)
some_entry (entry ∷ later) some = entry

pub some_member : (P : ℕ → Type 0) (members : List ℕ) → 1 ≤ length members → All P members → (member : ℕ) × P member
some_member P [] some all = absurd (omega arith)
some_member P (member ∷ later) some all = (member, All-head P member later all)

pub only_one : {X : Type 0} (first it : X) → Contains (first ∷ []) it → first ≡ it
only_one first it held =
    elim (Contains-push_cases [] first it held) [
      | inl none ↦ absurd (omega (arith, none.1))
      | inr same ↦ same
    ]

-- a quorum is more than the faulty replicas
pub quorum_outnumbers : (b : ℕ) → 1 ≤ b → b < quorum b
quorum_outnumbers b some =
    let thresholds : AreThresholds b = are_thresholds b some in
    omega arith

-- ---- equal parts

pub same_point : (first second : Point) → first.event ≡ second.event → first.client ≡ second.client
    → first.number ≡ second.number → first.op ≡ second.op → first.faulty ≡ second.faulty → first ≡ second
same_point first second event client number op faulty =
    λ i. record { event = event i; client = client i; number = number i; op = op i; faulty = faulty i }

pub contains_mapped : {X Y : Type 0} (f : X → List Y) (items : List X) (item : X) (it : Y) → Contains items item
    → Contains (f item) it → Contains (flat_map f items) it
contains_mapped f [] item it held inside = absurd (omega (arith, held.1))
contains_mapped f (first ∷ later) item it held inside =
    subst (λ all. Contains all it) (sym (flat_map-cons f first later))
    (elim (Contains-append_cases (first ∷ []) later item held) [
      | inl here ↦ Contains-append_left (f first) (flat_map f later) it
          (subst (λ one. Contains (f one) it) (sym (only_one first item here)) inside)
      | inr there ↦ Contains-append_right (f first) (flat_map f later) it (contains_mapped f later item it there inside)
    ])

pub same_candidate : (first second : Candidate) → first.stamp ≡ second.stamp → first.prior ≡ second.prior
    → first.group ≡ second.group → first ≡ second
same_candidate first second stamps priors groups =
    λ i. record { stamp = stamps i; prior = priors i; group = groups i }
