-- What holds of a round's request to each replica that is asked holds of all its letters.
use Rattle.std.proofs.Common.{◌≡◌, ℕ, zero, suc, ◌+◌, ◌<◌, true, arith}
use Rattle.std.specs.List.{All, AllByRecursion}
use Rattle.std.proofs.lemmas.Bool.{cond_both}
use Rattle.std.proofs.lemmas.List.Elements.{All-from_recursion}
use Rattle.qu_base.specs.declared.party.ClientId.{ClientId}
use Rattle.qu_base.specs.declared.party.Party.TheVariants as party
use Rattle.qu_seal.specs.Keys.{Ring}
use Rattle.qu_frames.specs.declared.frame.Letter.{Letter}
use Rattle.qu_frames.specs.Signing.{signed}
use Rattle.qu_client.specs.declared.whom.Whom.{Whom}
use Rattle.qu_client.specs.declared.work.Work.{Work}
use Rattle.qu_client.specs.Whom.{is_asked}
use Rattle.qu_client.specs.Rounds.{request_of, requests_from}
use Rattle.qu_client.proofs.Requesting.{request}

module _ (keys : Ring) (me : ClientId) (work : Work) (whom : Whom) (P : Letter → Type 0) where
  -- it holds of the request to each that is asked of so many replicas from this one on
  abbrev pub OfAsked : ℕ → ℕ → Type 0
  OfAsked replica count =
      (to : ℕ) → to < replica + count → is_asked keys.bounds whom to ≡ true
      → P (request to me (signed keys (party.Replica (record { 0 = to })) (request_of me work)))

  pub each_letter : (count replica : ℕ) → OfAsked replica count
      → AllByRecursion P (requests_from keys replica count me work whom)
  unfolding requests_from
  each_letter zero replica each = tt
  each_letter (suc count) replica each =
      let later : AllByRecursion P (requests_from keys (replica + 1) count me work whom) =
      each_letter count (replica + 1) (λ to below. each to (omega (arith, below))) in
      cond_both (is_asked keys.bounds whom replica) _ _ (AllByRecursion P)
      (λ asked. (each replica (omega arith) asked, later)) (λ _. later)

  pub all_letters : (count replica : ℕ) → OfAsked replica count → All P (requests_from keys replica count me work whom)
  all_letters count replica each = All-from_recursion P _ (each_letter count replica each)
