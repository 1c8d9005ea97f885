-- Of identical answers that are more than the faulty replicas, one is of a correct replica. So the answer that
-- completes a fetch is identical to one of a correct replica.
use Rattle.std.proofs.Common.{◌≡◌, ℕ, zero, suc, ◌+◌, ◌<◌, ◌≤◌, Bool, true, false, not, ◌&&◌, List, ◌∷◌, inl, inr, refl, sym, ap, ◌∙◌, arith}
use Rattle.std.specs.Prelude.{◌==◌}
use Rattle.std.specs.List.{All, Contains, list_any, Any}
use Rattle.std.proofs.lemmas.Bool.{false≢true, cases_lt, not-true, and_parts, and_from, or_left, or_right, eqb-true, eq-eqb}
use Rattle.std.proofs.lemmas.List.Elements.{All-contains, All-head}
use Rattle.std.proofs.lemmas.List.Folds.{Any-from_list_any}
use Rattle.qu_base.specs.declared.limits.TheConstants.{REPLICA_IDS}
use Rattle.qu_waiting.specs.declared.vote.Vote.{Vote}
use Rattle.qu_waiting.specs.Tally.{has_voted, is_for, replicas_for, count_of}
use Rattle.qu_waiting.proofs.Votes.{none_for}
use Rattle.qu_waiting.specs.Fetching.{Answers, same_bytes, identical_answers, completes}
use Rattle.qu_waiting.proofs.EqualBytes.{same_as_itself}
use Rattle.qu_claims.specs.Count.{count}
use Rattle.qu_chain.proofs.Counting.{bit, count-both, count-not, count-le, count-some, passing, Passing, bit, count-further}

by_bit : (test : Bool) → (test ≡ true → ⊥) → bit test ≡ 0
by_bit true never = absurd (never refl)
by_bit false never = refl

-- a test that nothing from n on passes counts no more than the numbers below n
counted_within : (m n : ℕ) (test : ℕ → Bool) → ((index : ℕ) → test index ≡ true → index < n)
    → count m test ≤ count n test
unfolding count
counted_within zero n test within = omega arith
counted_within (suc m) n test within =
    elim (cases_lt m n) [
      | inl below ↦ count-further test (suc m) n (omega arith)
      | inr beyond ↦
          let rest : count m test ≤ count n test = counted_within m n test within in
          let none : bit (test m) ≡ 0 =
          by_bit (test m) (λ passes. let is : m < n = within m passes in omega arith) in
          omega (arith, rest, none)
    ]

module _ {T : Type 0} (test : T → Bool) where
  -- replicas whose answer passes, as a count
  abbrev answers : List (Vote T) → ℕ → Bool
  answers votes number = list_any (is_for test number) votes

  as_count : (number : ℕ) (votes : List (Vote T)) → replicas_for test number votes ≡ count number (answers votes)
  unfolding replicas_for count
  as_count zero votes = refl
  as_count (suc number) votes =
      let rest : replicas_for test number votes ≡ count number (answers votes) = as_count number votes in
      ap (λ (more : ℕ). bit (answers votes number) + more) rest
      ∙ swap (bit (answers votes number)) (count number (answers votes))
    where
      swap : (a b : ℕ) → a + b ≡ b + a
      swap a b = omega arith

  pub record GoodVote (good : ℕ → Bool) (votes : List (Vote T)) : Type 0 where
    pub vote : Vote T
    pub among : Contains votes vote
    pub correct : good (vote.replica).0 ≡ true
    pub passes : test vote.value ≡ true

  pub good_voter : (n b : ℕ) (good : ℕ → Bool) (votes : List (Vote T))
      → All (λ (vote : Vote T). (vote.replica).0 < n) votes
      → count n (λ index. not (good index)) ≤ b → b + 1 ≤ replicas_for test REPLICA_IDS votes → GoodVote good votes
  good_voter n b good votes known few enough =
      let whole : replicas_for test REPLICA_IDS votes ≡ count REPLICA_IDS (answers votes) =
      as_count REPLICA_IDS votes in
      let inside : count REPLICA_IDS (answers votes) ≤ count n (answers votes) =
      counted_within REPLICA_IDS n (answers votes) voter_known in
      let both : count n (answers votes) + count n good
      ≤ count n (λ (index : ℕ). true) + count n (λ index. answers votes index && good index) =
      count-both n (answers votes) good (λ index. true) (λ index is. refl) (λ index is. refl) in
      let all : count n (λ (index : ℕ). true) ≤ n = count-le n (λ index. true) in
      let each : count n good + count n (λ index. not (good index)) ≡ n = count-not n good in
      let found : Passing n (λ index. answers votes index && good index) =
      passing n (λ index. answers votes index && good index)
      (omega (arith, whole, inside, both, all, each, few, enough)) in
      let parts : (answers votes found.index ≡ true) × (good found.index ≡ true) = and_parts _ _ found.passed in
      let any : Any (λ (vote : Vote T). is_for test found.index vote ≡ true) votes =
      Any-from_list_any (is_for test found.index) votes parts.0 in
      let tests : (((any.1).replica).0 == found.index ≡ true) × (test (any.1).value ≡ true) = and_parts _ _ any.4 in
      record {
        vote = any.1;
        among = (any.0, any.2, any.3);
        correct = ap good (eqb-true _ _ tests.0) ∙ parts.1;
        passes = tests.1;
      }
    where
      voter_known : (index : ℕ) → answers votes index ≡ true → index < n
      voter_known index is =
          let any : Any (λ (vote : Vote T). is_for test index vote ≡ true) votes =
          Any-from_list_any (is_for test index) votes is in
          let tests : (((any.1).replica).0 == index ≡ true) × (test (any.1).value ≡ true) = and_parts _ _ any.4 in
          let same : ((any.1).replica).0 ≡ index = eqb-true _ _ tests.0 in
          let below : ((any.1).replica).0 < n =
          All-contains (λ (vote : Vote T). (vote.replica).0 < n) votes any.1 known (any.0, any.2, any.3) in
          omega arith

-- a test that one number more passes counts one more
counts_more : (n place : ℕ) (first second : ℕ → Bool) → place < n → first place ≡ false → second place ≡ true
    → ((index : ℕ) → first index ≡ true → second index ≡ true) → count n first + 1 ≤ count n second
counts_more n place first second below before after follows =
    let is_place : (index : ℕ) → (index == place) ≡ true → second index ≡ true =
    λ index is. ap second (eqb-true index place is) ∙ after in
    let both : count n first + count n (λ index. index == place)
    ≤ count n second + count n (λ index. first index && (index == place)) =
    count-both n first (λ index. index == place) second follows is_place in
    let some : 1 ≤ count n (λ index. index == place) =
    count-some n (λ index. index == place) place below (eq-eqb place place refl) in
    elim (cases_lt 0 (count n (λ index. first index && (index == place)))) [
      | inl above ↦
          let found : Passing n (λ index. first index && (index == place)) =
          passing n (λ index. first index && (index == place)) (omega arith) in
          let parts : (first found.index ≡ true) × ((found.index == place) ≡ true) = and_parts _ _ found.passed in
          absurd (false≢true (sym before ∙ ap first (sym (eqb-true found.index place parts.1)) ∙ parts.0))
      | inr none ↦ omega (arith, both, some, none)
    ]

-- the vote of a replica that did not vote adds one, where it passes
pub one_vote_more : {T : Type 0} (test : T → Bool) (vote : Vote T) (votes : List (Vote T))
    → has_voted vote.replica votes ≡ false → (vote.replica).0 < REPLICA_IDS → test vote.value ≡ true
    → replicas_for test REPLICA_IDS votes + 1 ≤ replicas_for test REPLICA_IDS (vote ∷ votes)
one_vote_more test vote votes new below passes =
    let before : replicas_for test REPLICA_IDS votes ≡ count REPLICA_IDS (answers test votes) =
    as_count test REPLICA_IDS votes in
    let after : replicas_for test REPLICA_IDS (vote ∷ votes) ≡ count REPLICA_IDS (answers test (vote ∷ votes)) =
    as_count test REPLICA_IDS (vote ∷ votes) in
    let more : count REPLICA_IDS (answers test votes) + 1 ≤ count REPLICA_IDS (answers test (vote ∷ votes)) =
    counts_more REPLICA_IDS (vote.replica).0 (answers test votes) (answers test (vote ∷ votes)) below
    (none_for test vote.replica votes new)
    (or_left _ _ (and_from _ _ (eq-eqb (vote.replica).0 (vote.replica).0 refl) passes))
    (λ index is. or_right _ _ is) in
    omega (arith, before, after, more)

-- the answer that completes a fetch, where one more is needed than replicas are faulty
pub completing_voter : (n b : ℕ) (good : ℕ → Bool) (answered : Answers) (vote : Vote (List ℕ)) → n ≤ REPLICA_IDS
    → All (λ (vote : Vote (List ℕ)). (vote.replica).0 < n) (vote ∷ answered.votes)
    → count n (λ index. not (good index)) ≤ b → answered.need ≡ b + 1
    → completes answered vote.replica vote.value ≡ true
    → GoodVote (λ answer. same_bytes answer vote.value) good (vote ∷ answered.votes)
unfolding count_of
completing_voter n b good answered vote size known few need done =
    let test : List ℕ → Bool = λ answer. same_bytes answer vote.value in
    let parts : (not (has_voted vote.replica answered.votes) ≡ true)
    × ((identical_answers vote.value answered + 1 == answered.need) ≡ true) = and_parts _ _ done in
    let all : identical_answers vote.value answered + 1 ≡ answered.need = eqb-true _ _ parts.1 in
    let below : (vote.replica).0 < n =
    All-head (λ (vote : Vote (List ℕ)). (vote.replica).0 < n) vote answered.votes known in
    let more : identical_answers vote.value answered + 1 ≤ replicas_for test REPLICA_IDS (vote ∷ answered.votes) =
    one_vote_more test vote answered.votes (not-true _ parts.0) (omega (arith, below, size))
    (same_as_itself vote.value) in
    good_voter test n b good (vote ∷ answered.votes) known few (omega (arith, all, more, need))
