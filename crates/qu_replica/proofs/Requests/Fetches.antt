-- The letters that ask other replicas for a version, one replica after the other.
use Rattle.std.proofs.Common.{◌≡◌, ℕ, suc, ◌+◌, ◌-◌, ◌<◌, ◌≤◌, true, false, cond, List, [], ◌∷◌, ◌++◌, sym, ap, ◌∙◌, arith, append_assoc}
use Rattle.std.specs.Prelude.{◌==◌}
use Rattle.std.proofs.lemmas.List.{append-nil}
use Rattle.qu_base.specs.declared.party.ObjectId.{ObjectId}
use Rattle.qu_base.specs.declared.party.ReplicaId.{ReplicaId}
use Rattle.qu_seal.specs.Keys.{Ring}
use Rattle.qu_stamp.specs.declared.stamp.Stamp.{Stamp}
use Rattle.qu_frames.specs.declared.frame.Letter.{Letter}
use Rattle.qu_replica.specs.Step.{fetch_letter, fetches_from}

module _ (keys : Ring) (me : ReplicaId) (key : ObjectId × Stamp) (n replica : ℕ) (letters total : List Letter)
    (so_far : letters ++ fetches_from keys me key replica (n - replica) ≡ total) where
  one_more : replica < n → letters ++ cond (replica == me.0) (fetches_from keys me key (replica + 1)
      (n - (replica + 1)))
      (fetch_letter keys me key replica ∷ fetches_from keys me key (replica + 1) (n - (replica + 1))) ≡ total
  unfolding fetches_from
  one_more below =
      let many : n - replica ≡ suc (n - (replica + 1)) = omega arith in
      ap (λ (count : ℕ). letters ++ fetches_from keys me key replica count) (sym many) ∙ so_far

  -- the replica itself is passed over
  pub fetches_own : replica < n → (replica == me.0) ≡ true
      → letters ++ fetches_from keys me key (replica + 1) (n - (replica + 1)) ≡ total
  fetches_own below own =
      sym (ap (λ test. letters ++ cond test (fetches_from keys me key (replica + 1) (n - (replica + 1)))
      (fetch_letter keys me key replica ∷ fetches_from keys me key (replica + 1) (n - (replica + 1)))) own)
      ∙ one_more below

  -- another is asked
  pub fetches_other : replica < n → (replica == me.0) ≡ false → (letter : Letter) (grown : List Letter)
      → letter ≡ fetch_letter keys me key replica → grown ≡ letters ++ letter ∷ []
      → grown ++ fetches_from keys me key (replica + 1) (n - (replica + 1)) ≡ total
  fetches_other below other letter grown is grows =
      let rest : List Letter = fetches_from keys me key (replica + 1) (n - (replica + 1)) in
      ap (λ (front : List Letter). front ++ rest) (grows ∙ ap (λ (it : Letter). letters ++ it ∷ []) is)
      ∙ append_assoc letters (fetch_letter keys me key replica ∷ []) rest
      ∙ sym (ap (λ test. letters ++ cond test rest (fetch_letter keys me key replica ∷ rest)) other)
      ∙ one_more below

  -- after the last
  pub fetches_end : n ≤ replica → letters ≡ total
  unfolding fetches_from
  fetches_end past =
      let none : n - replica ≡ 0 = omega arith in
      sym (append-nil letters)
      ∙ ap (λ (count : ℕ). letters ++ fetches_from keys me key replica count) (sym none) ∙ so_far

pub ruleset fetches_on = (fetches_own, fetches_other, fetches_end)
