-- A run has one answer.
use Rattle.std.proofs.Common.{◌≡◌, ℕ, zero, suc, ◌+◌, ◌<◌, ◌≤◌, Option, None, Some, refl, ap, subst, ◌∙◌, inl, inr, arith}
use Rattle.std.specs.Prelude.{slice_get, Contains}
use Rattle.std.proofs.lemmas.Bool.{cases_lt}
use Rattle.qu_base.proofs.Items.{contains_at}
use Rattle.qu_trace.specs.declared.trace.Entry.{Entry}
use Rattle.qu_trace.specs.declared.trace.Trace.{Trace}
use Rattle.qu_claims.specs.Digested.{Text, texts_at, digested}
use Rattle.qu_claims.specs.Premises.{MeetsPremises}
use Rattle.qu_runs.proofs.Small.{contains_mapped}
use Rattle.qu_trace.specs.declared.premises.Premises.{Premises}
use Rattle.qu_trace.specs.declared.premises.Premises.TheVariants.{Hold, Forged, Collide}
use Rattle.qu_audit.specs.Answer.{texts_of_entry, texts_by, DoCollide, IsFirstForged, IsFirstCollision, IsAnswer}

-- ---- what the premises say of one event

text_of : (trace : Trace) (found : Option Entry) (text : Text) → Contains (texts_of_entry trace found) text
    → (entry : Entry) × (found ≡ Some entry) × Contains (texts_at trace entry) text
text_of trace None text held = absurd (omega (arith, held.1))
text_of trace (Some entry) text held = (entry, refl, held)

text_in : (trace : Trace) (event : ℕ) (text : Text) → Contains (texts_by trace event) text
    → Contains (digested trace) text
unfolding digested
text_in trace zero text held = absurd (omega (arith, held.1))
text_in trace (suc index) text held =
    let it = text_of trace (slice_get trace.entries index) text held in
    contains_mapped (texts_at trace) trace.entries it.0 text (contains_at trace.entries index it.0 it.1) it.2

no_forgery : (trace : Trace) (event : ℕ) → MeetsPremises trace → ¬ (IsFirstForged trace event)
no_forgery trace event meets it =
    it.forged (λ default. meets.unforged it.index default it.within)

no_collision : (trace : Trace) (first second : ℕ) → MeetsPremises trace → ¬ (IsFirstCollision trace first second)
no_collision trace first second meets it =
    let collide : DoCollide trace first second = it.collide in
    collide.apart (meets.no_collision collide.one collide.other (text_in trace first collide.one collide.at_first)
    (text_in trace second collide.other collide.at_second) collide.same)

-- ---- one answer

not_before : (trace : Trace) (one other : ℕ) (first : IsFirstForged trace one) (second : IsFirstForged trace other)
    → ¬ (first.index < second.index)
not_before trace one other first second order =
    first.forged (second.unforged_before first.index first.within order)

one_forgery : (trace : Trace) (one other : ℕ) → IsFirstForged trace one → IsFirstForged trace other → one ≡ other
one_forgery trace one other first second =
    elim (cases_lt first.index second.index) [
      | inl before ↦ absurd (not_before trace one other first second before)
      | inr order ↦ elim (cases_lt second.index first.index) [
        | inl after ↦ absurd (not_before trace other one second first after)
        | inr same ↦
            let at : one ≡ first.index + 1 = first.is_event in
            let too : other ≡ second.index + 1 = second.is_event in
            omega arith
      ]
    ]

not_both : (trace : Trace) (event first second : ℕ) → IsFirstForged trace event
    → ¬ (IsFirstCollision trace first second)
not_both trace event first second forged collides =
    elim (cases_lt forged.index second) [
      | inl before ↦ forged.forged (collides.unforged forged.index forged.within before)
      | inr after ↦
          let at : event ≡ forged.index + 1 = forged.is_event in
          forged.none_collide first second (omega arith) collides.collide
    ]

one_second : (trace : Trace) (first second other last : ℕ) → IsFirstCollision trace first second
    → IsFirstCollision trace other last → second ≡ last
one_second trace first second other last one two =
    elim (cases_lt second last) [
      | inl before ↦ absurd (two.none_before first second before one.collide)
      | inr order ↦ elim (cases_lt last second) [
        | inl after ↦ absurd (one.none_before other last after two.collide)
        | inr same ↦ omega arith
      ]
    ]

one_collision : (trace : Trace) (first other second : ℕ) → IsFirstCollision trace first second
    → IsFirstCollision trace other second → first ≡ other
one_collision trace first other second one two =
    let order : first ≤ other = one.earliest other two.collide in
    let back : other ≤ first = two.earliest first one.collide in
    omega arith

same_collision : (trace : Trace) (first second other last : ℕ) → IsFirstCollision trace first second
    → IsFirstCollision trace other last → Collide first second ≡ Collide other last
same_collision trace first second other last one two =
    let lasts : second ≡ last = one_second trace first second other last one two in
    let again : IsFirstCollision trace first last = subst (λ (it : ℕ). IsFirstCollision trace first it) lasts one in
    let firsts : first ≡ other = one_collision trace first other last again two in
    ap (λ (it : ℕ). Collide first it) lasts ∙ ap (λ (it : ℕ). Collide it last) firsts

pub answer_only : (trace : Trace) (one other : Premises) → IsAnswer trace one → IsAnswer trace other → one ≡ other
answer_only trace Hold Hold one two = refl
answer_only trace Hold (Forged event) one two = absurd (no_forgery trace event one two)
answer_only trace Hold (Collide first second) one two = absurd (no_collision trace first second one two)
answer_only trace (Forged event) Hold one two = absurd (no_forgery trace event two one)
answer_only trace (Forged event) (Forged other) one two =
    ap (λ (it : ℕ). Forged it) (one_forgery trace event other one two)
answer_only trace (Forged event) (Collide first second) one two = absurd (not_both trace event first second one two)
answer_only trace (Collide first second) Hold one two = absurd (no_collision trace first second two one)
answer_only trace (Collide first second) (Forged event) one two = absurd (not_both trace event first second two one)
answer_only trace (Collide first second) (Collide other last) one two =
    same_collision trace first second other last one two
