-- What is decided is attested and without barrier, and is totally ordered on each object.
use Rattle.std.proofs.Common.{◌≡◌, ◌⊎◌, ℕ, ◌<◌, ◌≤◌, true, refl, sym, ap, ◌∙◌, subst, arith, inl, inr}
use Rattle.std.proofs.lemmas.Bool.{cases_Bool, false≢true}
use Rattle.qu_base.specs.declared.party.ObjectId.{ObjectId}
use Rattle.qu_stamp.specs.declared.candidate.Candidate.{Candidate}
use Rattle.qu_stamp.specs.Stamp.{is_below, same_stamp}
use Rattle.qu_stamp.proofs.Order.{is_below-self, equal_by_same_stamp}
use Rattle.qu_claims.specs.Setting.{Setting, IsAccepted, IsEstablished, IsAttested, IsAncestor}
use Rattle.qu_chain.specs.Laws.{Laws}
use Rattle.qu_claims.specs.Decided.{IsDecided}
use Rattle.qu_chain.specs.Joint.{Joint}
use Rattle.qu_chain.proofs.Ancestry.{accepted_by_attested, attested_by_established, attested-later, accepted_by_decided, ancestor-chain, some-later, one_candidate}
use Rattle.qu_chain.proofs.Established.{established_comparable}
use Rattle.qu_chain.proofs.Parents.{rests, ancestor-not_above}

-- a candidate without barrier that is attested
pub record IsSound (setting : Setting) (time : ℕ) (object : ObjectId) (candidate : Candidate) : Type 0 where
  pub plain : setting.plain candidate ≡ true
  pub attested : IsAttested setting time object candidate

-- the same candidate, or one an ancestor of the other
pub data OnPath (setting : Setting) (object : ObjectId) (first second : Candidate) : Type 0 where
  is_same : first ≡ second → OnPath setting object first second
  is_under : IsAncestor setting setting.last object first second → OnPath setting object first second
  is_above : IsAncestor setting setting.last object second first → OnPath setting object first second

-- an established candidate without barrier that this one is, or is an ancestor of
record Peak (setting : Setting) (object : ObjectId) (candidate : Candidate) : Type 0 where
  peak : Candidate
  plain : setting.plain peak ≡ true
  established : IsEstablished setting setting.last object peak
  reaches : (candidate ≡ peak) ⊎ IsAncestor setting setting.last object candidate peak

module _ (setting : Setting) (laws : Laws setting) (all : Joint setting) where
  sound_base : (time : ℕ) → time ≤ setting.last → (object : ObjectId) (candidate child : Candidate)
      → IsSound setting time object child → child.prior ≡ candidate.stamp
      → IsAccepted setting time object candidate → IsSound setting time object candidate
  sound_base time bound object candidate child sound prior accepted =
      let child_accepted : IsAccepted setting time object child =
      accepted_by_attested setting laws.lasting time object child sound.attested in
      elim (rests setting laws all time bound object candidate child child_accepted sound.plain
      (some-later setting laws.lasting time setting.last bound object candidate accepted) prior) [
        | inl both ↦ subst (IsSound setting time object) (sym both.0) sound
        | inr it ↦
            let within : it.first.time < time = it.first.within in
            record {
              plain = it.plain_base;
              attested =
                  attested-later setting laws.lasting it.first.time time (omega arith) object candidate it.attested;
            }
      ]

  -- what is decided is attested and without barrier
  pub decided_sound : (time : ℕ) → time ≤ setting.last → (object : ObjectId) (candidate : Candidate)
      → IsDecided setting time object candidate → IsSound setting time object candidate
  decided_sound time bound object candidate (IsDecided.established same plain established) =
      record {
        plain = plain;
        attested = attested_by_established setting laws.lasting time object candidate established;
      }
  decided_sound time bound object candidate (IsDecided.prior same child decided prior accepted) =
      sound_base time bound object candidate child (decided_sound time bound object child decided) prior accepted

  pub decided_plain : (time : ℕ) → time ≤ setting.last → (object : ObjectId) (candidate : Candidate)
      → IsDecided setting time object candidate → setting.plain candidate ≡ true
  decided_plain time bound object candidate decided = (decided_sound time bound object candidate decided).plain

  -- the accepted prior of what is decided is decided, whenever it was accepted
  pub decided_prior : (time : ℕ) → time ≤ setting.last → (object : ObjectId) (candidate child : Candidate)
      → IsAccepted setting setting.last object candidate → child.prior ≡ candidate.stamp
      → IsDecided setting time object child → IsDecided setting time object candidate
  decided_prior time bound object candidate child accepted prior decided =
      elim (rests setting laws all time bound object candidate child
      (accepted_by_decided setting laws.lasting time object child decided)
      (decided_plain time bound object child decided) accepted prior) [
        | inl both ↦ subst (IsDecided setting time object) (sym both.0) decided
        | inr it ↦
            let within : it.first.time < time = it.first.within in
            IsDecided.prior candidate child decided prior
            (some-later setting laws.lasting it.first.time time (omega arith) object candidate
            (accepted_by_attested setting laws.lasting it.first.time object candidate it.attested))
      ]

  -- and so is each accepted ancestor
  pub decided_down : (time : ℕ) → time ≤ setting.last → (object : ObjectId) (first second : Candidate)
      → IsAccepted setting setting.last object first → IsAncestor setting setting.last object first second
      → IsDecided setting time object second → IsDecided setting time object first
  decided_down time bound object first second accepted (IsAncestor.direct same prior) decided =
      decided_prior time bound object first second accepted prior decided
  decided_down time bound object first second accepted
      (IsAncestor.through between same prior plain attested ancestor) decided =
      decided_down time bound object first between accepted ancestor
      (decided_prior time bound object between second
      (accepted_by_attested setting laws.lasting setting.last object between attested) prior decided)

  -- what lies under a candidate with a decided base is that base or lies under it, and is decided
  pub decided_under : (time : ℕ) → time ≤ setting.last → (object : ObjectId) (first base child : Candidate)
      → IsDecided setting time object base → child.prior ≡ base.stamp
      → IsAccepted setting setting.last object first
      → IsAncestor setting setting.last object first child → IsDecided setting time object first
  decided_under time bound object first base child decided base_prior accepted (IsAncestor.direct same prior) =
      subst (IsDecided setting time object)
      (one_candidate setting laws.lasting all.one time setting.last bound (omega arith) object base first
      (accepted_by_decided setting laws.lasting time object base decided) accepted (sym base_prior ∙ prior)) decided
  decided_under time bound object first base child decided base_prior accepted
      (IsAncestor.through between same prior plain attested ancestor) =
      decided_down time bound object first between accepted ancestor
      (subst (IsDecided setting time object)
      (one_candidate setting laws.lasting all.one time setting.last bound (omega arith) object base between
      (accepted_by_decided setting laws.lasting time object base decided)
      (accepted_by_attested setting laws.lasting setting.last object between attested) (sym base_prior ∙ prior))
      decided)

  one : (object : ObjectId) (candidate other : Candidate)
      → IsAccepted setting setting.last object candidate → IsAccepted setting setting.last object other
      → candidate.stamp ≡ other.stamp → candidate ≡ other
  one object candidate other accepted other_accepted same =
      one_candidate setting laws.lasting all.one setting.last setting.last (omega arith) (omega arith) object
      candidate other
      accepted other_accepted same

  reach_base : (object : ObjectId) (candidate child peak : Candidate) → child.prior ≡ candidate.stamp
      → IsSound setting setting.last object child
      → (child ≡ peak) ⊎ IsAncestor setting setting.last object child peak
      → IsAncestor setting setting.last object candidate peak
  reach_base object candidate child peak prior sound (inl same) =
      subst (IsAncestor setting setting.last object candidate) same (IsAncestor.direct child prior)
  reach_base object candidate child peak prior sound (inr ancestor) =
      ancestor-chain setting setting.last object candidate child peak sound.plain sound.attested
      (IsAncestor.direct child prior) ancestor

  -- a decided candidate is established without barrier, or is an ancestor of one that is
  peak_of : (object : ObjectId) (candidate : Candidate) → IsDecided setting setting.last object candidate
      → Peak setting object candidate
  peak_of object candidate (IsDecided.established same plain established) =
      record { peak = candidate; plain = plain; established = established; reaches = inl refl }
  peak_of object candidate (IsDecided.prior same child decided prior accepted) =
      let found : Peak setting object child = peak_of object child decided in
      record {
        peak = found.peak;
        plain = found.plain;
        established = found.established;
        reaches = inr (reach_base object candidate child found.peak prior
            (decided_sound setting.last (omega arith) object child decided) found.reaches);
      }

  -- the second ancestor's derivation against a first one that rests directly on the common candidate
  path_direct : (object : ObjectId) (first second common : Candidate)
      → IsAccepted setting setting.last object first → IsAccepted setting setting.last object second
      → common.prior ≡ first.stamp
      → IsAncestor setting setting.last object second common → OnPath setting object first second
  path_direct object first second common accepted other_accepted prior (IsAncestor.direct same other_prior) =
      OnPath.is_same (one object first second accepted other_accepted (sym prior ∙ other_prior))
  path_direct object first second common accepted other_accepted prior
      (IsAncestor.through between same other_prior plain attested ancestor) =
      let is_first : between ≡ first =
      one object between first (accepted_by_attested setting laws.lasting setting.last object between attested) accepted
      (sym other_prior ∙ prior) in
      OnPath.is_above (subst (IsAncestor setting setting.last object second) is_first ancestor)

  -- and against one that goes through this candidate
  path_through : (object : ObjectId) (first second passed common : Candidate)
      → IsAccepted setting setting.last object passed → IsAccepted setting setting.last object second
      → common.prior ≡ passed.stamp → IsAncestor setting setting.last object first passed
      → (IsAncestor setting setting.last object second passed → OnPath setting object first second)
      → IsAncestor setting setting.last object second common → OnPath setting object first second
  path_through object first second passed common accepted other_accepted prior lower further
      (IsAncestor.direct same other_prior) =
      OnPath.is_under (subst (IsAncestor setting setting.last object first)
      (one object passed second accepted other_accepted (sym prior ∙ other_prior)) lower)
  path_through object first second passed common accepted other_accepted prior lower further
      (IsAncestor.through between same other_prior plain attested ancestor) =
      let is_passed : between ≡ passed =
      one object between passed (accepted_by_attested setting laws.lasting setting.last object between attested)
      accepted
      (sym other_prior ∙ prior) in
      further (subst (IsAncestor setting setting.last object second) is_passed ancestor)

  -- two accepted ancestors of one candidate are on one path
  path_of : (object : ObjectId) (first second common : Candidate)
      → IsAccepted setting setting.last object first → IsAccepted setting setting.last object second
      → IsAncestor setting setting.last object first common
      → IsAncestor setting setting.last object second common → OnPath setting object first second
  path_of object first second common accepted other_accepted (IsAncestor.direct same prior) ancestor =
      path_direct object first second common accepted other_accepted prior ancestor
  path_of object first second common accepted other_accepted
      (IsAncestor.through between same prior plain attested lower) ancestor =
      path_through object first second between common
      (accepted_by_attested setting laws.lasting setting.last object between attested) other_accepted prior lower
      (path_of object first second between accepted other_accepted lower) ancestor

  -- the same where each may be the common one
  path_under : (object : ObjectId) (first second common : Candidate)
      → IsAccepted setting setting.last object first → IsAccepted setting setting.last object second
      → (first ≡ common) ⊎ IsAncestor setting setting.last object first common
      → (second ≡ common) ⊎ IsAncestor setting setting.last object second common → OnPath setting object first second
  path_under object first second common accepted other_accepted (inl same) (inl also) = OnPath.is_same (same ∙ sym also)
  path_under object first second common accepted other_accepted (inl same) (inr ancestor) =
      OnPath.is_above (subst (IsAncestor setting setting.last object second) (sym same) ancestor)
  path_under object first second common accepted other_accepted (inr ancestor) (inl same) =
      OnPath.is_under (subst (IsAncestor setting setting.last object first) (sym same) ancestor)
  path_under object first second common accepted other_accepted (inr ancestor) (inr other_ancestor) =
      path_of object first second common accepted other_accepted ancestor other_ancestor

  -- what reaches a candidate reaches what that one is an ancestor of
  reach_over : (object : ObjectId) (candidate lower upper : Candidate)
      → setting.plain lower ≡ true → IsAttested setting setting.last object lower
      → (candidate ≡ lower) ⊎ IsAncestor setting setting.last object candidate lower
      → IsAncestor setting setting.last object lower upper
      → (candidate ≡ upper) ⊎ IsAncestor setting setting.last object candidate upper
  reach_over object candidate lower upper plain attested (inl same) ancestor =
      inr (subst (λ (it : Candidate). IsAncestor setting setting.last object it upper) (sym same) ancestor)
  reach_over object candidate lower upper plain attested (inr below) ancestor =
      inr (ancestor-chain setting setting.last object candidate lower upper plain attested below ancestor)

  path_by_peaks : (object : ObjectId) (first second : Candidate)
      → IsAccepted setting setting.last object first → IsAccepted setting setting.last object second
      → Peak setting object first → Peak setting object second → OnPath setting object first second
  path_by_peaks object first second accepted other_accepted it its =
      let attested : IsAttested setting setting.last object it.peak =
      attested_by_established setting laws.lasting setting.last object it.peak it.established in
      let its_attested : IsAttested setting setting.last object its.peak =
      attested_by_established setting laws.lasting setting.last object its.peak its.established in
      elim (cases_Bool (same_stamp it.peak.stamp its.peak.stamp)) [
        | inl alike ↦
            let same : it.peak ≡ its.peak =
            one object it.peak its.peak
            (accepted_by_attested setting laws.lasting setting.last object it.peak attested)
            (accepted_by_attested setting laws.lasting setting.last object its.peak its_attested)
            (equal_by_same_stamp it.peak.stamp its.peak.stamp alike) in
            path_under object first second its.peak accepted other_accepted
            (subst (λ (top : Candidate). (first ≡ top) ⊎ IsAncestor setting setting.last object first top) same
            it.reaches) its.reaches
        | inr different ↦
            elim (established_comparable setting laws object it.peak its.peak it.plain its.plain it.established
            its.established different) [
              | inl lower ↦
                  path_under object first second its.peak accepted other_accepted
                  (reach_over object first it.peak its.peak it.plain attested it.reaches lower.ancestor) its.reaches
              | inr lower ↦
                  path_under object first second it.peak accepted other_accepted it.reaches
                  (reach_over object second its.peak it.peak its.plain its_attested its.reaches lower.ancestor)
            ]
      ]

  -- of two decided candidates one is the other, or an ancestor of it
  pub decided_path : (object : ObjectId) (first second : Candidate)
      → IsDecided setting setting.last object first → IsDecided setting setting.last object second
      → OnPath setting object first second
  decided_path object first second decided other_decided =
      path_by_peaks object first second
      (accepted_by_decided setting laws.lasting setting.last object first decided)
      (accepted_by_decided setting laws.lasting setting.last object second other_decided)
      (peak_of object first decided) (peak_of object second other_decided)

  -- what is decided is totally ordered: the lower is an ancestor of the higher
  pub decided_order : (object : ObjectId) (first second : Candidate)
      → IsDecided setting setting.last object first → IsDecided setting setting.last object second
      → is_below first.stamp second.stamp ≡ true → IsAncestor setting setting.last object first second
  decided_order object first second decided other_decided below =
      elim (decided_path object first second decided other_decided) [
        | OnPath.is_same same ↦
            absurd (false≢true (sym (is_below-self second.stamp)
            ∙ ap (λ (it : Candidate). is_below it.stamp second.stamp) (sym same) ∙ below))
        | OnPath.is_under ancestor ↦ ancestor
        | OnPath.is_above ancestor ↦
            absurd (false≢true (sym (ancestor-not_above setting laws setting.last (omega arith) object second first
            (accepted_by_decided setting laws.lasting setting.last object first decided)
            (decided_plain setting.last (omega arith) object first decided) ancestor) ∙ below))
      ]
