-- A version that other replicas are asked for: it is found at the last of so many identical answers.
use Rattle.std.specs.Prelude.{ℕ, ◌+◌, ◌==◌, Bool, not, ◌&&◌, nat_eq, if◌then◌else◌, List, [], ◌∷◌, ◌++◌}
use Rattle.std.specs.Cmp.Lexicographic.{pointwise}
use Rattle.qu_base.specs.declared.party.ReplicaId.{ReplicaId}
use Rattle.qu_waiting.specs.declared.vote.Vote.{Vote}
use Rattle.qu_waiting.specs.Tally.{has_voted, count_of}
use Rattle.qu_waiting.specs.declared.fetching.Fetch.{Fetch}
use Rattle.qu_waiting.specs.declared.fetching.Fetch.TheVariants.{Found, Still}

-- how many identical answers are needed, and what was answered
pub record Answers : Type 0 where
  pub need : ℕ
  pub votes : List (Vote (List ℕ))

abbrev pub same_bytes : List ℕ → List ℕ → Bool
same_bytes text other = pointwise nat_eq text other

-- how many replicas gave exactly this answer
abbrev pub identical_answers : List ℕ → Answers → ℕ
identical_answers text answers = count_of same_bytes text answers.votes

-- the answer is the first of its replica, and the last of the identical ones that are needed
abbrev pub completes : Answers → ReplicaId → List ℕ → Bool
completes answers replica text =
    not (has_voted replica answers.votes) && (identical_answers text answers + 1 == answers.need)

-- what the answer brings
abbrev pub fetched : Answers → ReplicaId → List ℕ → Fetch
fetched answers replica text = if completes answers replica text then Found text else Still

-- the answers with this one; only the first of a replica is kept
abbrev pub with_answer : Answers → ReplicaId → List ℕ → Answers
with_answer answers replica text =
    if has_voted replica answers.votes then answers
    else record answers { votes = answers.votes ++ record { replica = replica; value = text } ∷ [] }
