-- The correct parties of a setup have rising numbers, and none is left out.
use Rattle.std.proofs.Common.{◌≡◌, ℕ, zero, suc, ◌+◌, ◌<◌, ◌≤◌, Bool, true, false, cond, eqb, List, [], ◌∷◌, ◌++◌, map, refl, sym, ap, subst, ◌∙◌, arith, inl, inr}
use Rattle.std.specs.List.{AllByRecursion}
use Rattle.std.proofs.lemmas.Bool.{cases_Bool, eq-eqb, eqb-true, eqb-false}
use Rattle.std.proofs.lemmas.List.{map-append}
use Rattle.qu_base.specs.declared.party.ClientId.{ClientId}
use Rattle.qu_base.specs.declared.party.ReplicaId.{ReplicaId}
use Rattle.qu_base.specs.declared.party.Party.TheVariants as party
use Rattle.qu_trace.specs.Faulty.{is_faulty}
use Rattle.qu_trace.specs.declared.trace.Setup.{Setup}
use Rattle.qu_gather.specs.Correct.{replica_at, client_at, correct_replicas, correct_clients}

-- each number is above that before it, and the first is at least this one
unfoldable pub AscendsFrom : ℕ → List ℕ → Type 0
AscendsFrom low [] = Unit {0}
AscendsFrom low (number ∷ later) = (low ≤ number) × AscendsFrom (number + 1) later

abbrev pub AreBelow : ℕ → List ℕ → Type 0
AreBelow top numbers = AllByRecursion (λ (number : ℕ). number < top) numbers

ascend_push : (low top : ℕ) (numbers : List ℕ) → AscendsFrom low numbers → AreBelow top numbers → low ≤ top
    → AscendsFrom low (numbers ++ top ∷ [])
unfolding AscendsFrom
ascend_push low top [] rises below most = (most, tt)
ascend_push low top (number ∷ later) rises below most =
    (rises.0, ascend_push (number + 1) top later rises.1 below.1 (let here : number < top = below.0 in omega arith))

below_higher : (top above : ℕ) (numbers : List ℕ) → top ≤ above → AreBelow top numbers → AreBelow above numbers
below_higher top above [] most below = tt
below_higher top above (number ∷ later) most below =
    ((let here : number < top = below.0 in omega arith), below_higher top above later most below.1)

below_push : (top above : ℕ) (numbers : List ℕ) → AreBelow top numbers → top < above
    → AreBelow above (numbers ++ top ∷ [])
below_push top above [] below less = (less, tt)
below_push top above (number ∷ later) below less =
    ((let here : number < top = below.0 in omega arith), below_push top above later below.1 less)

-- they ascend, and are below this number
abbrev Fills : ℕ → List ℕ → Type 0
Fills top numbers = AscendsFrom 0 numbers × AreBelow top numbers

fills_push : (top : ℕ) (numbers : List ℕ) → Fills top numbers → Fills (suc top) (numbers ++ top ∷ [])
fills_push top numbers fills =
    (ascend_push 0 top numbers fills.0 fills.1 (omega arith), below_push top (suc top) numbers fills.1 (omega arith))

fills_more : (top : ℕ) (numbers : List ℕ) → Fills top numbers → Fills (suc top) numbers
fills_more top numbers fills = (fills.0, below_higher top (suc top) numbers (omega arith) fills.1)

-- ---- replicas

abbrev pub replica_numbers : List ReplicaId → List ℕ
replica_numbers names = map (λ (me : ReplicaId). me.0) names

replicas_fill : (setup : Setup) (count : ℕ) → Fills count (replica_numbers (correct_replicas setup count))
unfolding correct_replicas AscendsFrom
replicas_fill setup zero = (tt, tt)
replicas_fill setup (suc place) =
    elim (cases_Bool (is_faulty setup (party.Replica (replica_at place)))) [
      | inl faulty ↦ rw faulty
          (fills_more place (replica_numbers (correct_replicas setup place)) (replicas_fill setup place))
      | inr correct ↦ rw correct
          (subst (Fills (suc place))
          (sym (map-append (λ (me : ReplicaId). me.0) (correct_replicas setup place) (replica_at place ∷ [])))
          (fills_push place (replica_numbers (correct_replicas setup place)) (replicas_fill setup place)))
    ]

pub replicas_ascend : (setup : Setup) (count : ℕ) → AscendsFrom 0 (replica_numbers (correct_replicas setup count))
replicas_ascend setup count = (replicas_fill setup count).0

-- ---- clients

abbrev pub client_numbers : List ClientId → List ℕ
client_numbers names = map (λ (me : ClientId). me.0) names

clients_fill : (setup : Setup) (count : ℕ) → Fills (suc count) (client_numbers (correct_clients setup count))
unfolding correct_clients AscendsFrom
clients_fill setup zero = (tt, tt)
clients_fill setup (suc place) =
    let so_far : List ℕ = client_numbers (correct_clients setup place) in
    let number : place + 1 ≡ suc place = omega arith in
    elim (cases_Bool (is_faulty setup (party.Client (client_at place)))) [
      | inl faulty ↦ rw faulty (fills_more (suc place) so_far (clients_fill setup place))
      | inr correct ↦ rw correct
          (subst (Fills (suc (suc place)))
          (sym (map-append (λ (me : ClientId). me.0) (correct_clients setup place) (client_at place ∷ [])))
          (subst (λ (it : ℕ). Fills (suc (suc place)) (so_far ++ it ∷ [])) (sym number)
          (fills_push (suc place) so_far (clients_fill setup place))))
    ]

pub clients_ascend : (setup : Setup) (count : ℕ) → AscendsFrom 0 (client_numbers (correct_clients setup count))
clients_ascend setup count = (clients_fill setup count).0

-- whether a number is among these
unfoldable pub is_among : ℕ → List ℕ → Bool
is_among number [] = false
is_among number (it ∷ later) = cond (eqb it number) true (is_among number later)

among_more : (number : ℕ) (front back : List ℕ) → is_among number front ≡ true → is_among number (front ++ back) ≡ true
unfolding is_among
among_more number [] back there = absurd (no_true there)
  where
    no_true : false ≡ true → ⊥
    no_true is = cc
among_more number (it ∷ later) back there =
    elim (cases_Bool (eqb it number)) [
      | inl same ↦ rw same refl
      | inr other ↦ rw other (among_more number later back
          (ap (λ (test : Bool). cond test true (is_among number later)) (sym other) ∙ there))
    ]

among_last : (number last : ℕ) (front : List ℕ) → eqb last number ≡ true → is_among number (front ++ last ∷ []) ≡ true
unfolding is_among
among_last number last [] same = rw same refl
among_last number last (it ∷ later) same =
    elim (cases_Bool (eqb it number)) [
      | inl here ↦ rw here refl
      | inr other ↦ rw other (among_last number last later same)
    ]

-- each correct client is there
pub has_client : (setup : Setup) (count place : ℕ) → place < count
    → is_faulty setup (party.Client (client_at place)) ≡ false
    → is_among (place + 1) (client_numbers (correct_clients setup count)) ≡ true
unfolding correct_clients
has_client setup zero place below correct = absurd (omega arith)
has_client setup (suc last) place below correct =
    let so_far : List ℕ = client_numbers (correct_clients setup last) in
    let P : Bool → Type 0 = λ it. is_among (place + 1)
    (client_numbers (cond it (correct_clients setup last) (correct_clients setup last ++ client_at last ∷ [])))
    ≡ true in
    let pushed : client_numbers (correct_clients setup last ++ client_at last ∷ []) ≡ so_far ++ (last + 1) ∷ [] =
    map-append (λ (me : ClientId). me.0) (correct_clients setup last) (client_at last ∷ []) in
    elim (cases_Bool (eqb place last)) [
      | inl same ↦
          let is : place ≡ last = eqb-true place last same in
          let here : eqb (last + 1) (place + 1) ≡ true = eq-eqb (last + 1) (place + 1) (omega (arith, is)) in
          let good : is_faulty setup (party.Client (client_at last)) ≡ false =
          subst (λ (it : ℕ). is_faulty setup (party.Client (client_at it)) ≡ false) is correct in
          subst P (sym good) (ap (is_among (place + 1)) pushed ∙ among_last (place + 1) (last + 1) so_far here)
      | inr other ↦
          let apart : place ≡ last → ⊥ = eqb-false place last other in
          let less : place < last = omega (arith, apart, below) in
          let before : is_among (place + 1) so_far ≡ true = has_client setup last place less correct in
          elim (cases_Bool (is_faulty setup (party.Client (client_at last)))) [
            | inl faulty ↦ subst P (sym faulty) before
            | inr good ↦ subst P (sym good)
                (ap (is_among (place + 1)) pushed ∙ among_more (place + 1) so_far ((last + 1) ∷ []) before)
          ]
    ]
