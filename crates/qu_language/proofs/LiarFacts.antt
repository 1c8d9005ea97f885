-- How many replicas the faulty parties are.
use Rattle.std.proofs.Common.{◌≡◌, ℕ, ◌+◌, ◌≤◌, ◌<◌, cond, List, [], ◌∷◌, ◌++◌, length, arith}
use Rattle.std.specs.Prelude.{count_by}
use Rattle.std.proofs.lemmas.List.{length_push}
use Rattle.std.proofs.lemmas.List.Sums.{count_by-le-length, sum_by_push}
use Rattle.qu_base.specs.declared.party.ClientId.{ClientId}
use Rattle.qu_base.specs.declared.party.Party.{Party}
use Rattle.qu_base.specs.declared.party.Party.TheVariants as party
use Rattle.qu_trace.specs.Faulty.{is_replica}

pub one_client_more : (liars : List Party) (me : ClientId)
    → count_by is_replica (liars ++ party.Client me ∷ []) ≡ count_by is_replica liars
one_client_more liars me =
    let pushed : count_by is_replica (liars ++ party.Client me ∷ []) ≡ count_by is_replica liars + 0 =
    sum_by_push (λ (it : Party). cond (is_replica it) 1 0) liars (party.Client me) in
    omega (arith, pushed)

pub one_party_more : (bounds : ℕ) (liars : List Party) (who : Party) → length liars < bounds
    → count_by is_replica (liars ++ who ∷ []) ≤ bounds
one_party_more bounds liars who room =
    omega (arith, count_by-le-length is_replica (liars ++ who ∷ []), length_push liars who)

pub ruleset liar_facts = (one_client_more, one_party_more)
