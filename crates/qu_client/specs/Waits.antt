-- How long a client rests: a random number of ticks, of a range that doubles with each round.
use Rattle.std.specs.Prelude.{ℕ, ◌+◌, ◌%◌, ◌^◌, min}
use Rattle.rand_pcg.specs.Lcg.{Lcg, started, increment_of}
use Rattle.rand_pcg.specs.Pcg.{multiplier_64, pcg32}
use Rattle.qu_base.specs.declared.party.ClientId.{ClientId}
use Rattle.qu_client.specs.declared.limits.TheConstants.{MOST_DOUBLINGS}

-- the words of a client: the generator PCG32 of the seed, on the client's own stream
abbrev pub wait_words : ℕ → ClientId → Lcg
wait_words seed client = started 64 multiplier_64 seed (increment_of 64 client.0)

-- the longest wait after the round
unfoldable pub longest : ℕ → ℕ
longest round = 2 ^ min round MOST_DOUBLINGS

-- the wait after the round that a word gives
abbrev pub wait_of : ℕ → ℕ → ℕ
wait_of round word = 1 + word % longest round

-- the wait after the round, and the words that are left
abbrev pub next_wait : ℕ → Lcg → ℕ × Lcg
next_wait round words = (wait_of round (pcg32 words).0, (pcg32 words).1)
