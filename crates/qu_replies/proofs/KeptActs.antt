-- What stands in a version where it says of an act that it was performed before.
use Rattle.std.proofs.Common.{◌≡◌, ℕ, Bool, true, ◌==◌, cond, List, [], ◌∷◌, length, IsTrue, Option, None, Some, inl, inr, refl, sym, ap, subst, ◌∙◌}
use Rattle.std.specs.Prelude.{if◌then◌else◌}
use Rattle.std.specs.List.{AllByRecursion}
use Rattle.std.proofs.lemmas.Bool.{cases_Bool, and_parts, eqb-true, false≢true}
use Rattle.std.proofs.lemmas.Option.{none-some, same_Some}
use Rattle.qu_base.specs.declared.party.ClientId.{ClientId}
use Rattle.qu_base.specs.declared.party.Digest.{Digest}
use Rattle.qu_base.specs.declared.party.ObjectId.{ObjectId}
use Rattle.qu_stamp.specs.Stamp.{same_digest}
use Rattle.qu_stamp.proofs.Order.{equal_by_same_act}
use Rattle.qu_objects.specs.declared.act.Method.{Method}
use Rattle.qu_objects.specs.declared.answer.Answer.{Answer}
use Rattle.qu_objects.specs.declared.state.KeptRow.{KeptRow}
use Rattle.qu_objects.specs.declared.state.ObjState.{ObjState}
use Rattle.qu_objects.specs.Parts.{are_parts}
use Rattle.qu_kept.specs.declared.repeats.Standing.TheVariants.{Already}
use Rattle.qu_kept.specs.Rows.{client_of, row_of}
use Rattle.qu_kept.specs.Standing.{is_of_act, is_repeated, told_again, told_by_first, first_spent, is_already, standing_of}
use Rattle.qu_kept.proofs.StandingLaws.{already_where}
use Rattle.qu_replies.specs.Replies.{Keeps, HoldsOfFirst}

-- the row that is found is the client's
of_client : (client : ClientId) (rows : List KeptRow) (row : KeptRow) → row_of client rows ≡ Some row
    → row.client ≡ client
of_client client [] row found = absurd (none-some row found)
of_client client (first ∷ later) row found =
    elim (cases_Bool (client_of first == client.0)) [
      | inl is ↦
          let here : first ≡ row =
          same_Some first row (sym (ap (λ (test : Bool). cond test (Some first) (row_of client later)) is) ∙ found) in
          let number : (first.client).0 ≡ client.0 = eqb-true _ _ is in
          ap (λ (it : KeptRow). it.client) (sym here) ∙ (λ i. record { 0 = number i })
      | inr not ↦
          of_client client later row
          (sym (ap (λ (test : Bool). cond test (Some first) (row_of client later)) not) ∙ found)
    ]

-- a digest by its test
equal_digest : (one other : Digest) → same_digest one other ≡ true → one ≡ other
equal_digest one other same = same_Some one other (equal_by_same_act (Some one) (Some other) same)

kept_row : (client : ClientId) (number : ℕ) (act : Digest) (answer : Answer) (row : KeptRow) → row.client ≡ client
    → row.number ≡ number → row.act ≡ act → row.answer ≡ answer
    → row ≡ record { client = client; number = number; act = act; answer = answer }
kept_row client number act answer row is_client is_number is_act is_answer =
    λ i. record { client = is_client i; number = is_number i; act = is_act i; answer = is_answer i }

-- the row of exactly this act
of_act : (number : ℕ) (act : Digest) (found : Option KeptRow) → is_of_act number act found ≡ true
    → (row : KeptRow) × (found ≡ Some row) × (row.number ≡ number) × (row.act ≡ act)
of_act number act None is = absurd (false≢true is)
of_act number act (Some row) is =
    let parts = and_parts (row.number == number) (same_digest row.act act) is in
    (row, refl, eqb-true row.number number parts.0, equal_digest row.act act parts.1)

module _ (client : ClientId) (number : ℕ) (act : Digest) where
  abbrev IsKept : ObjState → Type 0
  IsKept version = (kept : Answer) × Keeps client number act kept version

  -- a version whose row is that of the act keeps it with the row's answer
  kept_with : (version : ObjState) → is_of_act number act (row_of client version.kept) ≡ true → (row : KeptRow)
      → row_of client version.kept ≡ Some row → Keeps client number act row.answer version
  kept_with version is row found =
      let it = of_act number act (row_of client version.kept) is in
      let same : it.0 ≡ row = same_Some it.0 row (sym it.1 ∙ found) in
      found ∙ ap (λ (one : KeptRow). Some one)
      (kept_row client number act row.answer row (of_client client version.kept row found)
      (ap (λ (one : KeptRow). one.number) (sym same) ∙ it.2) (ap (λ (one : KeptRow). one.act) (sym same) ∙ it.3) refl)

  each_kept : (versions : List ObjState) → is_repeated client number act versions ≡ true
      → AllByRecursion IsKept versions
  each_kept [] repeated = tt
  each_kept (version ∷ later) repeated =
      let both = and_parts _ (is_repeated client number act later) repeated in
      let it = of_act number act (row_of client version.kept) both.0 in
      (((it.0).answer, kept_with version both.0 it.0 it.1), each_kept later both.1)

  told_from : (version : ObjState) (answer : Answer) (found : Option KeptRow) → row_of client version.kept ≡ found
      → is_of_act number act (row_of client version.kept) ≡ true → told_again found ≡ Already answer
      → Keeps client number act answer version
  told_from version answer None found is told = absurd cc
  told_from version answer (Some row) found is told =
      let same : row.answer ≡ answer = cc in
      subst (λ (it : Answer). Keeps client number act it version) same (kept_with version is row found)

  first_kept : (versions : List ObjState) (answer : Answer) → is_repeated client number act versions ≡ true
      → told_by_first client versions ≡ Already answer → HoldsOfFirst (Keeps client number act answer) versions
  first_kept [] answer repeated told = absurd cc
  first_kept (version ∷ later) answer repeated told =
      told_from version answer (row_of client version.kept) refl
      (and_parts _ (is_repeated client number act later) repeated).0 told

  -- of an act that was performed before, each version keeps an answer, and the first one that which is told
  pub kept_where : (parts : List (ObjectId × Method)) (versions : List ObjState) (answer : Answer)
      → IsTrue (are_parts parts) → length versions ≡ length parts
      → standing_of client number act parts versions ≡ Already answer
      → AllByRecursion IsKept versions × HoldsOfFirst (Keeps client number act answer) versions
  kept_where parts versions answer in_order fit already =
      let repeated : is_repeated client number act versions ≡ true =
      sym (already_where client number act parts versions in_order fit) ∙ ap is_already already in
      let told : told_by_first client versions ≡ Already answer =
      ap (λ (test : Bool). if test then told_by_first client versions else first_spent client number parts versions)
      (sym repeated) ∙ already in
      (each_kept versions repeated, first_kept versions answer repeated told)
