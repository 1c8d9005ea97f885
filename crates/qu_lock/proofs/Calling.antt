-- The operations that kept steps began, with one step more.
use Rattle.std.proofs.Common.{◌≡◌, ℕ, zero, suc, ◌+◌, ◌-◌, ◌<◌, ◌≤◌, List, [], ◌∷◌, ◌++◌, take, drop, get_or, length, None, Some, refl, sym, ap, subst, ◌∙◌, append-nil, arith}
use Rattle.std.specs.Prelude.{slice_get}
use Rattle.std.proofs.lemmas.Bool.{eq-eqb, ne_eqb}
use Rattle.std.proofs.lemmas.Grind.{flat_map-append}
use Rattle.std.proofs.lemmas.List.{length-append, take_more, drop_more, drop_all}
use Rattle.std.proofs.lemmas.Option.{slice_get_within, get_or_from_slice_get}
use Rattle.qu_base.specs.declared.party.ClientId.{ClientId}
use Rattle.qu_objects.specs.declared.op.Op.{Op}
use Rattle.qu_frames.specs.declared.input.Input.{Input}
use Rattle.qu_frames.specs.declared.input.Input.TheVariants.{Frame, Tick, Invoke}
use Rattle.qu_replay.specs.declared.kept_step.KeptStep.{KeptStep}
use Rattle.qu_replay.specs.Operations.{begun_in, begun_operations}
use Rattle.qu_lock.specs.Calls.{calls_by, AreFirstCalls, IsNextCall}

pub begun_push : (steps : List KeptStep) (step : KeptStep)
    → begun_operations (steps ++ step ∷ []) ≡ begun_operations steps ++ begun_in step.input
unfolding begun_operations
begun_push steps step =
    flat_map-append (λ (it : KeptStep). begun_in it.input) steps (step ∷ [])
    ∙ ap (λ (it : List Op). begun_operations steps ++ it) (append-nil (begun_in step.input))

-- an operation begins in an invocation, and in no other step
pub begun_one : (input : Input) (op : Op) → input ≡ Invoke op → length (begun_in input) ≡ 1
begun_one input op is = ap (λ (it : Input). length (begun_in it)) is

pub begun_none : (input : Input) → ((op : Op) → input ≡ Invoke op → ⊥) → length (begun_in input) ≡ 0
begun_none (Frame name text) other = refl
begun_none Tick other = refl
begun_none (Invoke op) other = absurd (other op refl)

begun_in_one : (input : Input) → length (begun_in input) ≤ 1
begun_in_one (Frame name text) = omega arith
begun_in_one Tick = omega arith
begun_in_one (Invoke op) = omega arith

pub begun_most : (steps : List KeptStep) → length (begun_operations steps) ≤ length steps
unfolding begun_operations
begun_most [] = omega arith
begun_most (step ∷ later) =
    let rest : length (begun_operations later) ≤ length later = begun_most later in
    let one = begun_in_one step.input in
    let both = length-append (begun_in step.input) (begun_operations later) in
    omega (arith, rest, one, both)

-- ---- one step more

take_next : (calls : List Op) (place : ℕ) (op : Op) → slice_get calls place ≡ Some op
    → take (place + 1) calls ≡ take place calls ++ op ∷ []
take_next calls place op is =
    take_more calls place op (slice_get_within calls place op is)
    ∙ ap (λ (it : Op). take place calls ++ it ∷ []) (get_or_from_slice_get calls place op op is)

-- operations that are the first of the calls, with those that the next step begins
first_more : (calls begun : List Op) (steps : List KeptStep) (input : Input) → begun ≡ begun_operations steps
    → begun ≡ take (length begun) calls → IsNextCall calls steps input
    → begun ++ begun_in input ≡ take (length (begun ++ begun_in input)) calls
first_more calls begun steps (Frame name text) is first next =
    subst (λ (it : List Op). it ≡ take (length it) calls) (sym (append-nil begun)) first
first_more calls begun steps Tick is first next =
    subst (λ (it : List Op). it ≡ take (length it) calls) (sym (append-nil begun)) first
first_more calls begun steps (Invoke op) is first next =
    let here : slice_get calls (length begun) ≡ Some op =
    subst (λ (it : List Op). slice_get calls (length it) ≡ Some op) (sym is) next in
    let count : length (begun ++ op ∷ []) ≡ length begun + 1 = length-append begun (op ∷ []) in
    ap (λ (it : List Op). it ++ op ∷ []) first
    ∙ sym (take_next calls (length begun) op here)
    ∙ ap (λ (it : ℕ). take it calls) (sym count)

pub first_calls_push : (calls : List Op) (steps : List KeptStep) (step : KeptStep) → AreFirstCalls calls steps
    → IsNextCall calls steps step.input → AreFirstCalls calls (steps ++ step ∷ [])
first_calls_push calls steps step first next =
    subst (λ (it : List Op). it ≡ take (length it) calls) (sym (begun_push steps step))
    (first_more calls (begun_operations steps) steps step.input refl first next)

-- ---- the calls that are left

calls_here : (me : ClientId) (x : ClientId × Op) (later : List (ClientId × Op)) → (x.0).0 ≡ me.0
    → calls_by me (x ∷ later) ≡ x.1 ∷ calls_by me later
unfolding calls_by
calls_here me x later same = rw (eq-eqb (x.0).0 me.0 same) refl

calls_other : (me : ClientId) (x : ClientId × Op) (later : List (ClientId × Op)) → ((x.0).0 ≡ me.0 → ⊥)
    → calls_by me (x ∷ later) ≡ calls_by me later
unfolding calls_by
calls_other me x later other = rw (ne_eqb (x.0).0 me.0 other) refl

-- the first of the operations
get_first : (op : Op) (later : List Op) (left : ℕ) → left ≡ 0 → slice_get (op ∷ later) left ≡ Some op
get_first op later left is = ap (slice_get (op ∷ later)) is

-- one of the operations behind the first
get_later : (op : Op) (later : List Op) (left : ℕ) → 0 < left
    → slice_get (op ∷ later) left ≡ slice_get later (left - 1)
get_later op later zero behind = absurd (omega (arith, behind))
get_later op later (suc left) behind =
    let same : left ≡ suc left - 1 = omega arith in
    ap (slice_get later) same

module _ (me : ClientId) (calls : List (ClientId × Op)) (index left place : ℕ) (x : ClientId × Op)
    (within : index < length calls) (is : x ≡ get_or calls index x)
    (so_far : slice_get (calls_by me (drop index calls)) left ≡ slice_get (calls_by me calls) place) where
  from_here : drop index calls ≡ x ∷ drop (index + 1) calls
  from_here =
      drop_more calls index x within
      ∙ ap (λ (it : ClientId × Op). it ∷ drop (index + 1) calls) (sym is)

  own_call : (x.0).0 ≡ me.0 → calls_by me (drop index calls) ≡ x.1 ∷ calls_by me (drop (index + 1) calls)
  own_call same = ap (calls_by me) from_here ∙ calls_here me x (drop (index + 1) calls) same

  pub call_found : (x.0).0 ≡ me.0 → left ≡ 0 → Some x.1 ≡ slice_get (calls_by me calls) place
  call_found same none =
      sym (get_first x.1 (calls_by me (drop (index + 1) calls)) left none)
      ∙ sym (ap (λ (it : List Op). slice_get it left) (own_call same)) ∙ so_far

  pub call_passed : (x.0).0 ≡ me.0 → 0 < left
      → slice_get (calls_by me (drop (index + 1) calls)) (left - 1) ≡ slice_get (calls_by me calls) place
  call_passed same behind =
      sym (get_later x.1 (calls_by me (drop (index + 1) calls)) left behind)
      ∙ sym (ap (λ (it : List Op). slice_get it left) (own_call same)) ∙ so_far

  pub call_of_other : ((x.0).0 ≡ me.0 → ⊥)
      → slice_get (calls_by me (drop (index + 1) calls)) left ≡ slice_get (calls_by me calls) place
  call_of_other other =
      sym (ap (λ (it : List Op). slice_get it left)
      (ap (calls_by me) from_here ∙ calls_other me x (drop (index + 1) calls) other)) ∙ so_far

-- where none is left, there is no such call
pub no_call : (me : ClientId) (calls : List (ClientId × Op)) (index left place : ℕ) → length calls ≤ index
    → slice_get (calls_by me (drop index calls)) left ≡ slice_get (calls_by me calls) place
    → None ≡ slice_get (calls_by me calls) place
unfolding calls_by
no_call me calls index left place past so_far =
    sym (ap (λ (it : List (ClientId × Op)). slice_get (calls_by me it) left) (drop_all index calls past)) ∙ so_far

-- ---- the steps that are left

steps_left : (steps : List KeptStep) (index : ℕ) (step : KeptStep) → index < length steps
    → step ≡ get_or steps index step → drop index steps ≡ step ∷ drop (index + 1) steps
steps_left steps index step within is =
    drop_more steps index step within ∙ ap (λ (it : KeptStep). it ∷ drop (index + 1) steps) (sym is)

begun_by : (step : KeptStep) (later : List KeptStep)
    → length (begun_operations (step ∷ later)) ≡ length (begun_in step.input) + length (begun_operations later)
unfolding begun_operations
begun_by step later = length-append (begun_in step.input) (begun_operations later)

-- the operations of the steps that are left are those of the next step and of those behind it
pub begun_next : (steps : List KeptStep) (index : ℕ) (step : KeptStep) → index < length steps
    → step ≡ get_or steps index step
    → length (begun_operations (drop index steps))
    ≡ length (begun_in step.input) + length (begun_operations (drop (index + 1) steps))
begun_next steps index step within is =
    ap (λ (it : List KeptStep). length (begun_operations it)) (steps_left steps index step within is)
    ∙ begun_by step (drop (index + 1) steps)

pub none_left : (steps : List KeptStep) (index : ℕ) → length steps ≤ index
    → length (begun_operations (drop index steps)) ≡ 0
unfolding begun_operations
none_left steps index past =
    ap (λ (it : List KeptStep). length (begun_operations it)) (drop_all index steps past)
