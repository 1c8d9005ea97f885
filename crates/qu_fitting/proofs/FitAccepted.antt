-- What is accepted fits, and so does a version that is found among those that do.
use Rattle.std.proofs.Common.{◌≡◌, Bool, cond, List, [], ◌∷◌, Some, inl, inr, sym, ap, subst, ◌∙◌}
use Rattle.std.specs.Prelude.{IfSome}
use Rattle.std.proofs.lemmas.Bool.{cases_Bool}
use Rattle.std.proofs.lemmas.Option.{none-some, same_Some}
use Rattle.qu_base.specs.declared.party.ObjectId.{ObjectId}
use Rattle.qu_stamp.specs.declared.stamp.Stamp.{Stamp}
use Rattle.qu_stamp.specs.Formats.{stamp_form, prior_form, group_form}
use Rattle.qu_objects.specs.declared.state.ObjState.{ObjState}
use Rattle.qu_versions.specs.declared.stored.Stored.{Stored}
use Rattle.qu_versions.specs.Versions.{is_stored, version_at}
use Rattle.qu_mends.specs.declared.accepted.Accepted.{Accepted}
use Rattle.qu_fitting.specs.Fits.{VersionFits, VersionsFit}

pub record AcceptFits (accepted : Accepted) : Type 0 where
  pub stamp : stamp_form.Fits accepted.candidate.stamp
  pub prior : (prior_form accepted.candidate.stamp).Fits accepted.candidate.prior
  pub group : (group_form accepted.object accepted.candidate.stamp).Fits accepted.candidate.group
  pub version : IfSome accepted.state VersionFits

abbrev pub AcceptAllFit : List Accepted → Type 0
AcceptAllFit [] = Unit {0}
AcceptAllFit (accepted ∷ later) = AcceptFits accepted × AcceptAllFit later

-- a version that is found
pub version_fits : (object : ObjectId) (stamp : Stamp) (versions : List Stored) (version : ObjState)
    → VersionsFit versions → version_at object stamp versions ≡ Some version → VersionFits version
unfolding version_at
version_fits object stamp [] version fits found = absurd (none-some version found)
version_fits object stamp (first ∷ later) version fits found =
    elim (cases_Bool (is_stored object stamp first)) [
      | inl is ↦
          let here : first.state ≡ version =
          same_Some first.state version
          (sym (ap (λ (test : Bool). cond test (Some first.state) (version_at object stamp later)) is) ∙ found) in
          subst VersionFits here fits.0
      | inr not ↦
          version_fits object stamp later version fits.1
          (sym (ap (λ (test : Bool). cond test (Some first.state) (version_at object stamp later)) not) ∙ found)
    ]
