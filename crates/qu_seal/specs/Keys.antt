-- The keys of pairs of parties, and the HMACs made with them (Query/Update: authenticators, a list of HMACs,
-- one for each replica).
use Rattle.std.specs.Prelude.{ℕ, ◌/◌, ◌%◌, Bool, true, false, ◌&&◌, nat_eq, nat_lt, nat_le, if◌then◌else◌, List, [], ◌∷◌, ◌++◌, map}
use Rattle.std.specs.List.{range_with_len}
use Rattle.std.specs.Cmp.Lexicographic.{pointwise}
use Rattle.std.specs.Int.{w16, w64, to_be_bytes}
use Rattle.qu_base.specs.declared.party.Party.{Party}
use Rattle.qu_base.specs.declared.party.Party.TheVariants.{Replica, Client}
use Rattle.qu_base.specs.declared.party.ReplicaId.{ReplicaId}
use Rattle.qu_base.specs.declared.party.Digest.{Digest}
use Rattle.qu_base.specs.Bounds.{replicas}
use Rattle.qu_seal.specs.Authenticating.{hmac_of}

-- what a ring is derived from: a seed, the number of replicas that may lie, and how many clients there are
pub record Ring : Type 0 where
  pub seed : ℕ
  pub bounds : ℕ
  pub clients : ℕ

-- the parties of a ring
abbrev pub has_party : Ring → Party → Bool
has_party ring (Replica me) = nat_lt me.0 (replicas ring.bounds)
has_party ring (Client me) = nat_le 1 me.0 && nat_le me.0 ring.clients

-- two clients have no key
abbrev pub may_share : Party → Party → Bool
may_share (Replica me) other = true
may_share (Client me) (Replica other) = true
may_share (Client me) (Client other) = false

abbrev pub have_key : Ring → Party → Party → Bool
have_key ring me other = has_party ring me && (has_party ring other && may_share me other)

-- a party's code: 0 for a replica and 1 for a client, and its number
abbrev pub party_code : Party → List ℕ
party_code (Replica me) = 0 ∷ to_be_bytes w16 me.0
party_code (Client me) = 1 ∷ to_be_bytes w16 me.0

-- the order of codes by their bytes
abbrev pub is_first : Party → Party → Bool
is_first (Replica me) (Replica other) = nat_le me.0 other.0
is_first (Replica me) (Client other) = true
is_first (Client me) (Replica other) = false
is_first (Client me) (Client other) = nat_le me.0 other.0

-- the lower code stands first
abbrev pub pair_code : Party → Party → List ℕ
pair_code me other = if is_first me other then party_code me ++ party_code other else party_code other ++ party_code me

-- "qu-key" in ASCII
abbrev pub key_label : List ℕ
key_label = 113 ∷ 117 ∷ 45 ∷ 107 ∷ 101 ∷ 121 ∷ []

-- the key that a seed gives to a pair
abbrev pub pair_key : ℕ → Party → Party → List ℕ
pair_key seed me other = hmac_of (to_be_bytes w64 seed) (key_label ++ pair_code me other)

unfoldable pub key_of : Ring → Party → Party → List ℕ
key_of ring me other = pair_key ring.seed me other

-- the keys of pairs of replicas in a table, each at 16 times the number of the one and that of the other
abbrev pub key_at : ℕ → ℕ → List ℕ
key_at seed place = pair_key seed (Replica (record { 0 = place / 16 })) (Replica (record { 0 = place % 16 }))

unfoldable pub replica_keys : ℕ → List (List ℕ)
replica_keys seed = map (key_at seed) (range_with_len 0 256)

-- the HMAC of a digest that the first makes for the second
unfoldable pub seal_of : Ring → Party → Party → Digest → List ℕ
seal_of ring me other text = hmac_of (key_of ring me other) text.0

-- the HMAC is right, and its parties have a key
unfoldable pub verifies : Ring → Party → Party → Digest → List ℕ → Bool
verifies ring me other text mac = have_key ring me other && pointwise nat_eq mac (seal_of ring me other text)

-- an HMAC for each replica
unfoldable pub authenticator_of : Ring → ReplicaId → Digest → List (List ℕ)
authenticator_of ring me text = map (λ number. seal_of ring (Replica me) (Replica (record { 0 = number })) text)
    (range_with_len 0 (replicas ring.bounds))
