-- Along the priors of an object the numbers of each client's updates rise, since an update rests only upon versions
-- that keep none of its client's numbers from its own on, and a version keeps the number of its client. So no update is
-- done upon itself, whoever is faulty; and the rows of a version are those of updates on the way to it.
use Rattle.std.proofs.Common.{◌≡◌, ℕ, ◌<◌, ◌≤◌, true, Option, Some, refl, sym, ap, subst, ◌∙◌, arith, inl, inr}
use Rattle.std.proofs.lemmas.Bool.{cases_eq, false≢true}
use Rattle.std.proofs.lemmas.Option.{none-some, same_Some}
use Rattle.qu_base.specs.declared.party.ClientId.{ClientId}
use Rattle.qu_base.specs.declared.party.ObjectId.{ObjectId}
use Rattle.qu_base.proofs.Numbered.{client_is}
use Rattle.qu_stamp.specs.declared.candidate.Candidate.{Candidate}
use Rattle.qu_stamp.specs.Candidate.{opening}
use Rattle.qu_claims.specs.Setting.{IsAttested, IsAncestor}
use Rattle.qu_chain.specs.Laws.{Laws}
use Rattle.qu_chain.specs.Joint.{Joint}
use Rattle.qu_chain.proofs.Ancestry.{accepted_by_attested, attested-later}
use Rattle.qu_chain.proofs.Parents.{rests}
use Rattle.qu_objects.specs.declared.state.KeptRow.{KeptRow}
use Rattle.qu_objects.specs.declared.state.ObjState.{ObjState}
use Rattle.qu_kept.specs.Rows.{row_of}
use Rattle.qu_kept.specs.Standing.{IsLower}
use Rattle.qu_trace.specs.declared.trace.Trace.{Trace}
use Rattle.qu_claims.specs.RunSetting.{setting}
use Rattle.qu_claims.specs.Updates.{Update, IsOf, IsEverAccepted, NumbersRise}
use Rattle.qu_claims.specs.Values.{RestsOn, HasVersion}
use Rattle.qu_runs.proofs.Acts.OneAct.{ActsAreOne}
use Rattle.qu_values.proofs.Updating.UpdateFacts.{IsUnder, NoneIsRepeated}
use Rattle.qu_claims.specs.Truth.{IsAncestorOrSelf, IsWritten}
use Rattle.qu_values.proofs.Updating.Updates.{acts, opening_no_act, one_of, same_accepted}
use Rattle.qu_values.proofs.Versions.Values.{row_upon, IsUpdated, version_induction, version_cases, own_row, other_row, own_rest, own_prior, updated, not_opening, IsCopyOf, copied_row}
use Rattle.qu_stamp.specs.Stamp.{is_below}

-- a row of the client with a number from this one on
abbrev pub KeepsFrom : ClientId → ℕ → ObjState → Type 0
KeepsFrom client number state = (row : KeptRow) × (row_of client state.kept ≡ Some row) × (number ≤ row.number)

-- what is lower than a number is so of the row that is found
row_lower : (number : ℕ) (found : Option KeptRow) (row : KeptRow) → found ≡ Some row → IsLower number found
    → row.number < number
row_lower number found row is lower = subst (IsLower number) is lower

module _ (trace : Trace) (laws : Laws (setting trace)) (joint : Joint (setting trace)) (one_act : ActsAreOne trace)
  where
    -- ---- ancestors of a candidate with a base

    by_base : (object : ObjectId) (first candidate base : Candidate) → IsEverAccepted trace object first
        → IsEverAccepted trace object base → candidate.prior ≡ base.stamp → IsUnder trace object first candidate
        → IsAncestorOrSelf trace object first base
    by_base object first candidate base accepted base_accepted prior (IsAncestor.direct _ rests_on) =
        inl (same_accepted trace laws joint object first base accepted base_accepted (sym rests_on ∙ prior))
    by_base object first candidate base accepted base_accepted prior
        (IsAncestor.through between _ rests_on plain attested under) =
        let between_accepted : IsEverAccepted trace object between =
        accepted_by_attested (setting trace) laws.lasting (setting trace).last object between attested in
        let same : between ≡ base =
        same_accepted trace laws joint object between base between_accepted base_accepted (sym rests_on ∙ prior) in
        inr (subst (IsUnder trace object first) same under)

    -- the opening candidate rests on itself, so that only it is under it
    under_opening : (object : ObjectId) (first candidate : Candidate) → IsEverAccepted trace object first
        → IsEverAccepted trace object candidate → candidate ≡ opening → IsUnder trace object first candidate
        → first ≡ opening
    under_opening object first candidate accepted also begins (IsAncestor.direct _ rests_on) =
        let itself : candidate.prior ≡ candidate.stamp =
        ap (λ (it : Candidate). it.prior) begins ∙ ap (λ (it : Candidate). it.stamp) (sym begins) in
        same_accepted trace laws joint object first candidate accepted also (sym rests_on ∙ itself) ∙ begins
    under_opening object first candidate accepted also begins
        (IsAncestor.through between _ rests_on plain attested under) =
        let itself : candidate.prior ≡ candidate.stamp =
        ap (λ (it : Candidate). it.prior) begins ∙ ap (λ (it : Candidate). it.stamp) (sym begins) in
        let between_accepted : IsEverAccepted trace object between =
        accepted_by_attested (setting trace) laws.lasting (setting trace).last object between attested in
        let is_opening : between ≡ opening =
        same_accepted trace laws joint object between candidate between_accepted also (sym rests_on ∙ itself)
        ∙ begins in
        under_opening object first between accepted between_accepted is_opening under

    -- so it is made for no update
    none_up_to_opening : (object : ObjectId) (first candidate : Candidate) (update : Update)
        → IsEverAccepted trace object first → IsOf trace update object first
        → IsEverAccepted trace object candidate → candidate ≡ opening → IsAncestorOrSelf trace object first candidate
        → ⊥
    none_up_to_opening object first candidate update accepted is_of also begins (inl same) =
        opening_no_act trace first (same ∙ begins) (acts trace update object first is_of)
    none_up_to_opening object first candidate update accepted is_of also begins (inr under) =
        opening_no_act trace first (under_opening object first candidate accepted also begins under)
        (acts trace update object first is_of)

    -- ---- versions keep the numbers of what is under them

    -- the version of a candidate keeps the number of each update up to it, or a later one of its client
    abbrev pub KeepsAll : ObjectId → Candidate → ObjState → Type 0
    KeepsAll object candidate state = (first : Candidate) (update : Update) → IsEverAccepted trace object first
        → IsOf trace update object first → IsAncestorOrSelf trace object first candidate
        → KeepsFrom update.client update.number state

    module _ (object : ObjectId) (candidate : Candidate) (state : ObjState)
        (made : IsUpdated trace object candidate state) where
      abbrev base : Candidate
      base = made.bases object

      abbrev before : ObjState
      before = made.befores object

      up_to_base : (first : Candidate) → IsEverAccepted trace object first → IsUnder trace object first candidate
          → IsAncestorOrSelf trace object first base
      up_to_base first accepted under =
          by_base object first candidate base accepted (own_rest trace object candidate state made).base_accepted
          (own_prior trace object candidate state made) under

      -- what the version before keeps of the update's client is lower
      before_lower : (number : ℕ) → KeepsFrom (made.update).client number before → number < (made.update).number
      before_lower number it =
          let lower : (it.0).number < (made.update).number =
          row_lower (made.update).number (row_of (made.update).client before.kept) it.0 it.1
          (made.lower object (made.is_of).names) in
          let from : number ≤ (it.0).number = it.2 in
          omega (arith)

      -- what the version before keeps, that after keeps, or a later number
      still_keeps : (client : ClientId) (number : ℕ) → KeepsFrom client number before → KeepsFrom client number state
      still_keeps client number it =
          elim (cases_eq client.0 ((made.update).client).0) [
            | inl same ↦
                let clients : client ≡ (made.update).client = client_is client (made.update).client same in
                let higher : number < (made.update).number =
                before_lower number (subst (λ (who : ClientId). KeepsFrom who number before) clients it) in
                subst (λ (who : ClientId). KeepsFrom who number state) (sym clients) (
                  row_upon made.update made.befores,
                  own_row trace object candidate state made,
                  omega (arith, higher),
                )
            | inr apart ↦ (it.0, other_row trace object candidate state made client apart ∙ it.1, it.2)
          ]

      keeps_own : (first : Candidate) (update : Update) → IsOf trace update object first → first ≡ candidate
          → KeepsFrom update.client update.number state
      keeps_own first update is_of same =
          let updates : made.update ≡ update =
          one_of trace one_act made.update update object candidate made.is_of
          (subst (IsOf trace update object) same is_of) in
          subst (λ (it : Update). KeepsFrom it.client it.number state) updates (
            row_upon made.update made.befores,
            own_row trace object candidate state made,
            omega arith,
          )

      keeps_after : KeepsAll object base before → KeepsAll object candidate state
      keeps_after so_far first update accepted is_of (inl same) = keeps_own first update is_of same
      keeps_after so_far first update accepted is_of (inr under) =
          still_keeps update.client update.number
          (so_far first update accepted is_of (up_to_base first accepted under))

    -- a copy is of no update, and keeps what its base keeps
    keeps_copied : (object : ObjectId) (candidate : Candidate) (state : ObjState)
        (copy : IsCopyOf trace object candidate state) → KeepsAll object copy.base copy.before
        → KeepsAll object candidate state
    keeps_copied object candidate state copy so_far first update accepted is_of (inl same) =
        absurd (false≢true (sym copy.no_act ∙ ap (setting trace).is_act (sym same)
        ∙ acts trace update object first is_of))
    keeps_copied object candidate state copy so_far first update accepted is_of (inr under) =
        let it : KeepsFrom update.client update.number copy.before =
        so_far first update accepted is_of
        (by_base object first candidate copy.base accepted copy.base_accepted copy.prior under) in
        (it.0, copied_row trace object candidate state copy update.client ∙ it.1, it.2)

    pub keeps : (object : ObjectId) (candidate : Candidate) (state : ObjState)
        → HasVersion trace object candidate state → IsEverAccepted trace object candidate
        → KeepsAll object candidate state
    keeps object candidate state has accepted =
        version_induction trace (λ (on : ObjectId) (it : Candidate) (version : ObjState).
        IsEverAccepted trace on it → KeepsAll on it version)
        (λ on it version fresh also first update ever is_of up_to.
        absurd (none_up_to_opening on first it update ever is_of also fresh.is_opening up_to))
        (λ on it version copy so_far also. keeps_copied on it version copy (so_far copy.base_accepted))
        (λ on it version made so_far also.
        keeps_after on it version made
        (so_far on (made.is_of).names (own_rest trace on it version made).base_accepted))
        object candidate state has accepted

    -- ---- numbers rise

    -- accepted candidates of operations have a version
    abbrev pub AreStored : Type 0
    AreStored = (object : ObjectId) (candidate : Candidate) → IsEverAccepted trace object candidate
        → (setting trace).is_act candidate ≡ true → (state : ObjState) × HasVersion trace object candidate state

    rises_to : (object : ObjectId) (first second : Candidate) (update later : Update) (state : ObjState)
        → IsUpdated trace object second state → IsOf trace update object first → IsEverAccepted trace object first
        → IsOf trace later object second → IsUnder trace object first second → update.client ≡ later.client
        → update.number < later.number
    rises_to object first second update later state made is_of accepted is_later under clients =
        let updates : made.update ≡ later =
        one_of trace one_act made.update later object second made.is_of is_later in
        let own : update.client ≡ (made.update).client = clients ∙ ap (λ (it : Update). it.client) (sym updates) in
        let names = (made.is_of).names in
        let kept : KeepsFrom update.client update.number (made.befores object) =
        keeps object (made.bases object) (made.befores object) (made.has object names)
        (own_rest trace object second state made).base_accepted first update accepted is_of
        (up_to_base object second state made first accepted under) in
        subst (λ (it : Update). update.number < it.number) updates
        (before_lower object second state made update.number
        (subst (λ (who : ClientId). KeepsFrom who update.number (made.befores object)) own kept))

    pub numbers_rise : AreStored → NumbersRise trace
    numbers_rise stored object first second update later is_of accepted is_later also under clients =
        let is_act : (setting trace).is_act second ≡ true = acts trace later object second is_later in
        let it : (state : ObjState) × HasVersion trace object second state = stored object second also is_act in
        rises_to object first second update later it.0 (updated trace object second it.0 it.1 is_act) is_of accepted
        is_later under clients

    -- ---- rows are those of updates

    -- where accepted candidates of operations have no barrier
    module _ (plain_acts : (object : ObjectId) (candidate : Candidate) → IsEverAccepted trace object candidate
        → (setting trace).is_act candidate ≡ true → (setting trace).plain candidate ≡ true) where
      abbrev last : ℕ
      last = (setting trace).last

      -- what has a version has no barrier
      versioned_plain : (object : ObjectId) (candidate : Candidate) (state : ObjState)
          → HasVersion trace object candidate state → IsEverAccepted trace object candidate
          → (setting trace).plain candidate ≡ true
      versioned_plain object candidate state has accepted =
          elim (version_cases trace object candidate state has) [
            | inl fresh ↦ ap (setting trace).plain fresh.is_opening ∙ laws.opens
            | inr later ↦ elim (later) [
              | inl copy ↦ copy.plain
              | inr made ↦ plain_acts object candidate accepted (acts trace made.update object candidate made.is_of)
            ]
          ]

      -- the base of an accepted candidate that is not the opening one is attested
      base_attested : (object : ObjectId) (candidate lower : Candidate) → IsEverAccepted trace object candidate
          → (setting trace).plain candidate ≡ true → is_below candidate.prior candidate.stamp ≡ true
          → IsEverAccepted trace object lower → candidate.prior ≡ lower.stamp
          → IsAttested (setting trace) last object lower
      base_attested object candidate lower accepted plain below base_accepted prior =
          elim (rests (setting trace) laws joint last (omega arith) object lower candidate accepted plain base_accepted
          prior) [
            | inl opens ↦ absurd (not_opening candidate below opens.1)
            | inr on ↦
                let within : on.first.time < last = on.first.within in
                attested-later (setting trace) laws.lasting on.first.time last (omega arith) object lower on.attested
          ]

      -- what is up to the base is under the candidate
      on_base : (object : ObjectId) (candidate lower first : Candidate) → IsEverAccepted trace object candidate
          → (setting trace).plain candidate ≡ true → is_below candidate.prior candidate.stamp ≡ true
          → IsEverAccepted trace object lower → (setting trace).plain lower ≡ true → candidate.prior ≡ lower.stamp
          → IsAncestorOrSelf trace object first lower → IsUnder trace object first candidate
      on_base object candidate lower first accepted plain below base_accepted plain_base prior (inl same) =
          IsAncestor.direct candidate (prior ∙ ap (λ (it : Candidate). it.stamp) (sym same))
      on_base object candidate lower first accepted plain below base_accepted plain_base prior (inr under) =
          IsAncestor.through lower candidate prior plain_base
          (base_attested object candidate lower accepted plain below base_accepted prior) under

      abbrev AreWritten : ObjectId → Candidate → ObjState → Type 0
      AreWritten object candidate state = (client : ClientId) (row : KeptRow) → row_of client state.kept ≡ Some row
          → IsWritten trace object candidate client row

      -- what wrote a row of the base wrote it of what rests on the base
      written_under : (object : ObjectId) (lower candidate : Candidate) (client : ClientId) (row : KeptRow)
          → ((first : Candidate) → IsAncestorOrSelf trace object first lower → IsUnder trace object first candidate)
          → IsWritten trace object lower client row → IsWritten trace object candidate client row
      written_under object lower candidate client row under it = record {
        first = it.first;
        up_to = inr (under it.first it.up_to);
        accepted = it.accepted;
        update = it.update;
        is_of = it.is_of;
        of_client = it.of_client;
        of_number = it.of_number;
        of_act = it.of_act;
        its = it.its;
        has = it.has;
        keeps = it.keeps;
      }

      written_copied : (object : ObjectId) (candidate : Candidate) (state : ObjState)
          (copy : IsCopyOf trace object candidate state) → IsEverAccepted trace object candidate
          → AreWritten object copy.base copy.before → AreWritten object candidate state
      written_copied object candidate state copy accepted so_far client row found =
          written_under object copy.base candidate client row
          (λ first up_to.
          on_base object candidate copy.base first accepted copy.plain copy.below copy.base_accepted
          (versioned_plain object copy.base copy.before copy.has copy.base_accepted) copy.prior up_to)
          (so_far client row (sym (copied_row trace object candidate state copy client) ∙ found))

      module _ (object : ObjectId) (candidate : Candidate) (state : ObjState)
          (made : IsUpdated trace object candidate state) (has : HasVersion trace object candidate state)
          (accepted : IsEverAccepted trace object candidate) where
        abbrev rest : RestsOn trace object candidate object (made.bases object)
        rest = own_rest trace object candidate state made

        under_base : (first : Candidate) → IsAncestorOrSelf trace object first (made.bases object)
            → IsUnder trace object first candidate
        under_base first up_to =
            on_base object candidate (made.bases object) first accepted
            (versioned_plain object candidate state has accepted) made.below rest.base_accepted
            (versioned_plain object (made.bases object) (made.befores object) (made.has object (made.is_of).names)
            rest.base_accepted) (own_prior trace object candidate state made) up_to

        written_own : (client : ClientId) (row : KeptRow) → client ≡ (made.update).client
            → row_of client state.kept ≡ Some row → IsWritten trace object candidate client row
        written_own client row clients found =
            let is : row_upon made.update made.befores ≡ row =
            same_Some (row_upon made.update made.befores) row
            (sym (own_row trace object candidate state made)
            ∙ ap (λ (who : ClientId). row_of who state.kept) (sym clients) ∙ found) in
            record {
              first = candidate;
              up_to = inl refl;
              accepted = accepted;
              update = made.update;
              is_of = made.is_of;
              of_client = sym clients;
              of_number = ap (λ (it : KeptRow). it.number) is;
              of_act = ap (λ (it : KeptRow). it.act) (sym is);
              its = state;
              has = has;
              keeps = found;
            }

        written_before : (client : ClientId) (row : KeptRow) → IsWritten trace object (made.bases object) client row
            → IsWritten trace object candidate client row
        written_before client row it = written_under object (made.bases object) candidate client row under_base it

        written_after : AreWritten object (made.bases object) (made.befores object) → AreWritten object candidate state
        written_after so_far client row found =
            elim (cases_eq client.0 ((made.update).client).0) [
              | inl same ↦ written_own client row (client_is client (made.update).client same) found
              | inr apart ↦
                  written_before client row
                  (so_far client row (sym (other_row trace object candidate state made client apart) ∙ found))
            ]

      pub rows_are_true : (object : ObjectId) (candidate : Candidate) (state : ObjState)
          → HasVersion trace object candidate state → IsEverAccepted trace object candidate
          → AreWritten object candidate state
      rows_are_true object candidate state has accepted =
          version_induction trace (λ (on : ObjectId) (it : Candidate) (version : ObjState).
          HasVersion trace on it version → IsEverAccepted trace on it → AreWritten on it version)
          (λ on it version fresh given also client row found.
          absurd (none-some row (sym (ap (λ (one : ObjState). row_of client one.kept) fresh.fresh) ∙ found)))
          (λ on it version copy so_far given also.
          written_copied on it version copy also (so_far copy.has copy.base_accepted))
          (λ on it version made so_far given also.
          written_after on it version made given also
          (so_far on (made.is_of).names (made.has on (made.is_of).names)
          (own_rest trace on it version made).base_accepted))
          object candidate state has has accepted

-- an update whose number is below itself there is none
pub none_repeated : (trace : Trace) → NumbersRise trace → NoneIsRepeated trace
none_repeated trace rise update object first second one accepted two also under =
    let above : update.number < update.number =
    rise object first second update update one accepted two also under refl in
    omega (arith, above)
