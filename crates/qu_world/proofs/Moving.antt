-- A client that stands in the list and moved.
use Rattle.std.proofs.Common.{◌≡◌, ℕ, suc, ◌+◌, ◌<◌, List, length, get_or, Option, Some, None, refl, sym, ap, subst, ◌∙◌, arith}
use Rattle.std.specs.Prelude.{slice_get, slice_set, option_map, MatchOption}
use Rattle.std.proofs.lemmas.Option.{slice_get-get_or}
use Rattle.qu_base.specs.declared.party.ClientId.{ClientId}
use Rattle.qu_client.specs.declared.state.ClientState.{ClientState}
use Rattle.qu_client.specs.State.{Stepped}
use Rattle.qu_client.specs.declared.work.Work.{Work}
use Rattle.qu_world.specs.declared.parties.Made.{Made}
use Rattle.qu_world.specs.State.{numbered, with_numbered}
use Rattle.qu_world.specs.Step.{ended_as}
use Rattle.qu_world.specs.Parties.{ClientMoves, MakesNothing, Moves}

moves_at : (clients : List ClientState) (number index : ℕ) (state new : ClientState) (me : ClientId)
    (move : ClientState → Stepped) (made : Made)
    → number ≡ suc index → index < length clients → state ≡ get_or clients index state
    → new ≡ (move state).state → made.letters ≡ (move state).letters
    → made.ended ≡ ended_as me (option_map (λ (under_way : Work). under_way.number) state.work) (move state).ended
    → MatchOption (numbered clients number) (MakesNothing clients (slice_set clients index new) made)
    (λ found. (slice_set clients index new ≡ with_numbered clients number (move found).state)
    × (made.letters ≡ (move found).letters)
    × (made.ended ≡ ended_as me (option_map (λ (under_way : Work). under_way.number) found.work) (move found).ended))
moves_at clients number index state new me move made at within is new_is letters_are ended_is =
    let found : slice_get clients index ≡ Some state = slice_get-get_or clients index state within
    ∙ ap (λ (held : ClientState). Some held) (sym is) in
    rw at (rw found (ap (λ (held : ClientState). slice_set clients index held) new_is, letters_are, ended_is))

matched : (found : Option ClientState) (clients after : List ClientState) (me : ClientId) (number : ℕ)
    (move : ClientState → Stepped) (made : Made)
    → number ≡ me.0
    → MatchOption found (MakesNothing clients after made)
    (λ state. (after ≡ with_numbered clients number (move state).state) × (made.letters ≡ (move state).letters)
    × (made.ended ≡ ended_as me (option_map (λ (under_way : Work). under_way.number) state.work) (move state).ended))
    → MatchOption found (MakesNothing clients after made) (Moves clients after me move made)
matched None clients after me number move made is nothing = nothing
matched (Some state) clients after me number move made is facts =
    record {
      parties = subst (λ (n : ℕ). after ≡ with_numbered clients n (move state).state) is facts.0;
      letters = facts.1;
      ended = facts.2;
    }

-- the client with index one less than its number moved
pub client_moved : (clients : List ClientState) (me : ClientId) (index : ℕ) (state new : ClientState)
    (move : ClientState → Stepped) (made : Made)
    → me.0 ≡ index + 1 → index < length clients → state ≡ get_or clients index state
    → new ≡ (move state).state → made.letters ≡ (move state).letters
    → made.ended ≡ ended_as me (option_map (λ (under_way : Work). under_way.number) state.work) (move state).ended
    → ClientMoves clients (slice_set clients index new) me move made
client_moved clients me index state new move made at within is new_is letters_are ended_is =
    matched (numbered clients me.0) clients (slice_set clients index new) me me.0 move made refl
    (moves_at clients me.0 index state new me move made (omega arith) within is new_is letters_are ended_is)
