-- How many operations each client began, as events are told one behind another.
use Rattle.std.proofs.Common.{◌≡◌, ℕ, ◌+◌, ◌<◌, ◌-◌, ◌≤◌, List, [], ◌∷◌, ◌++◌, length, map, cond, suc, zero, refl, ap, sym, ◌∙◌, arith, nat_eq, Option, Some, unwrap_or, slice_get, option_map, ◌⊎◌, inl, inr, false}
use Rattle.std.proofs.lemmas.Bool.{cases_eq, eq-eqb, ne_eqb}
use Rattle.std.proofs.lemmas.List.Sums.{sum_by-append, sum_by-cons, count_by-le-length}
use Rattle.std.proofs.lemmas.Option.{slice_get-map}
use Rattle.std.specs.declared.hash.FoldHasher.{FoldHasher}
use Rattle.std.specs.declared.hash.BuildHasherDefault.{BuildHasherDefault}
use Rattle.std.specs.HashMap.{get, HashMap}
use Rattle.std.specs.Map.{lookup}
use Rattle.qu_base.specs.declared.party.ClientId.{ClientId}
use Rattle.qu_objects.specs.declared.op.Op.{Op}
use Rattle.qu_frames.specs.declared.frame.Letter.{Letter}
use Rattle.qu_trace.specs.declared.event.Event.{Event}
use Rattle.qu_trace.specs.declared.event.Event.TheVariants.{Invoke, Deliver, Tick, Inject}
use Rattle.qu_trace.specs.declared.trace.Entry.{Entry}
use Rattle.qu_trace.specs.declared.trace.Setup.{Setup}
use Rattle.qu_trace.specs.Letters.{numbered}
use Rattle.qu_trace.specs.Operation.{invokes, begun_by}
use Rattle.qu_listing.specs.declared.so_far.Sent.{Sent}
use Rattle.qu_listing.specs.SoFar.{CountsCalls, calls_of, sent_of}

pub begun_few : (client : ClientId) (entries : List Entry) → begun_by client entries ≤ length entries
unfolding begun_by
begun_few client entries = count_by-le-length (λ (entry : Entry). invokes client entry.event) entries

begun_more : (client : ClientId) (earlier : List Entry) (entry : Entry)
    → begun_by client (earlier ++ entry ∷ []) ≡ begun_by client earlier + cond (invokes client entry.event) 1 0
unfolding begun_by
begun_more client earlier entry =
    let one : Entry → ℕ = λ (it : Entry). cond (invokes client it.event) 1 0 in
    let split = sum_by-append one earlier (entry ∷ []) in
    let last = sum_by-cons one entry [] in
    omega (arith, split, last)

-- behind the call of a client that is counted
pub counts_more : (earlier : List Entry) (entry : Entry) (who : ClientId) (op : Op)
    (old new : HashMap ℕ ℕ (BuildHasherDefault FoldHasher)) → entry.event ≡ Invoke who op → CountsCalls earlier old
    → ((key : ℕ) → get nat_eq new key ≡ cond (nat_eq who.0 key) (Some (begun_by who earlier + 1)) (get nat_eq old key))
    → CountsCalls (earlier ++ entry ∷ []) new
counts_more earlier entry who op old new is counts updates client = by (cases_eq client.0 who.0)
  where
    more : begun_by client (earlier ++ entry ∷ []) ≡ begun_by client earlier + cond (nat_eq client.0 who.0) 1 0
    more = begun_more client earlier entry
        ∙ ap (λ (event : Event). begun_by client earlier + cond (invokes client event) 1 0) is

    by : (client.0 ≡ who.0) ⊎ (client.0 ≡ who.0 → ⊥)
        → calls_of new client.0 ≡ begun_by client (earlier ++ entry ∷ [])
    by (inl same) =
        let one = eq-eqb client.0 who.0 same in
        let other = eq-eqb who.0 client.0 (sym same) in
        let told = updates client.0 in
        let begun : begun_by client earlier ≡ begun_by who earlier =
        ap (λ number. begun_by (record { 0 = number }) earlier) same in
        ap (λ (found : Option ℕ). unwrap_or found 0) (told ∙ ap
        (λ test. cond test (Some (begun_by who earlier + 1)) (get nat_eq old client.0)) other)
        ∙ ap (λ n. n + 1) (sym begun) ∙ sym (more ∙ ap (λ test. begun_by client earlier + cond test 1 0) one)
    by (inr other) =
        let one = ne_eqb client.0 who.0 other in
        let two = ne_eqb who.0 client.0 (λ same. other (sym same)) in
        let told = updates client.0 in
        let kept = ap (λ (found : Option ℕ). unwrap_or found 0) (told ∙ ap
        (λ test. cond test (Some (begun_by who earlier + 1)) (get nat_eq old client.0)) two) in
        let same = counts client in
        let at_end = more ∙ ap (λ test. begun_by client earlier + cond test 1 0) one in
        omega (arith, kept, same, at_end)

no_call : (client : ClientId) (event : Event) → ((who : ClientId) (op : Op) → event ≡ Invoke who op → ⊥)
    → invokes client event ≡ false
no_call client (Invoke who op) none = absurd (none who op refl)
no_call client (Deliver letter) none = refl
no_call client (Tick who) none = refl
no_call client (Inject to text) none = refl

-- behind any other event
pub counts_same : (earlier : List Entry) (entry : Entry) (calls : HashMap ℕ ℕ (BuildHasherDefault FoldHasher))
    → ((who : ClientId) (op : Op) → entry.event ≡ Invoke who op → ⊥) → CountsCalls earlier calls
    → CountsCalls (earlier ++ entry ∷ []) calls
counts_same earlier entry calls none counts client =
    let more = begun_more client earlier entry in
    let not = no_call client entry.event none in
    let at_end = more ∙ ap (λ test. begun_by client earlier + cond test 1 0) not in
    let same = counts client in
    omega (arith, same, at_end)

pub knows_no_call : (calls : HashMap ℕ ℕ (BuildHasherDefault FoldHasher)) → calls.entries ≡ [] → CountsCalls [] calls
unfolding begun_by
knows_no_call calls empty client = ap (λ entries. unwrap_or (lookup (nat_eq client.0) entries) 0) empty

-- what is known of the letter with a number
pub letter_known : (setup : Setup) (letters : List Letter) (sent : List Sent) (number : ℕ) → 0 < number
    → sent ≡ map (sent_of setup) letters
    → slice_get sent (number - 1) ≡ option_map (sent_of setup) (numbered letters number)
letter_known setup letters sent zero some is = absurd (omega (arith, some))
letter_known setup letters sent (suc number) some is =
    let e : suc number - 1 ≡ number = omega arith in
    rw e (rw is (slice_get-map (sent_of setup) letters number))
