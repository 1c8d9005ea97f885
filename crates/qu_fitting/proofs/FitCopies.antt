-- The group of the candidates that are made on the objects of a group fits each of them.
use Rattle.std.proofs.Common.{◌≡◌, ℕ, ◌+◌, ◌==◌, Bool, true, false, cond, List, [], ◌∷◌, map, Some, refl, sym, ap, subst, ◌∙◌}
use Rattle.std.specs.List.{AllByRecursion, list_all}
use Rattle.qu_base.specs.declared.party.ObjectId.{ObjectId}
use Rattle.qu_stamp.specs.declared.stamp.Stamp.{Stamp}
use Rattle.qu_stamp.specs.Group.{is_group, listed_time}
use Rattle.qu_stamp.proofs.Forms.{alone_fits}
use Rattle.qu_history.specs.Sets.{latest_of}
use Rattle.qu_kept.specs.declared.remedy.Remedy.{Remedy}
use Rattle.qu_kept.specs.declared.remedy.Remedy.TheVariants.{Nothing, Shown, Fresh, Unshown, Unplanned, Outdated}
use Rattle.qu_mends.specs.Remedy.{has_time, fresh_member, made_group}
use Rattle.qu_mends.specs.Causes.{AddsPlain}
use Rattle.qu_mends.proofs.MadeGroups.{made_whole}
use Rattle.qu_mends.proofs.Members.{AreOf, AllAddPlain}
use Rattle.qu_rows.specs.Rows.{Asked, shown_of}
use Rattle.qu_rows.proofs.FreshGroups.{made_listed}
use Rattle.qu_fitting.proofs.FitStamps.{later_time}
use Rattle.qu_fitting.proofs.FitGroups.{group_fits}
use Rattle.qu_fitting.proofs.FitRepairs.{GroupFits}

-- what is made alone has no group
pub alone_made_fits : (object : ObjectId) (latest : Stamp) (remedy : Remedy) → GroupFits [] object latest remedy
alone_made_fits object latest Nothing = tt
alone_made_fits object latest (Shown candidate) = tt
alone_made_fits object latest (Fresh barrier prior) = λ stamp time kind. alone_fits object stamp
alone_made_fits object latest (Unshown member) = tt
alone_made_fits object latest (Unplanned other) = tt
alone_made_fits object latest (Outdated other) = tt

module _ (asked : Asked) where
  abbrev pub latest_on : ObjectId → Stamp
  latest_on object = latest_of (shown_of asked object)

  abbrev pub MadeFits : List (ObjectId × ℕ) → ObjectId × Remedy → Type 0
  MadeFits made mended = GroupFits made mended.0 (latest_on mended.0) mended.1

  none_made : (members : List (ObjectId × Remedy)) → AllByRecursion (MadeFits []) members
  none_made [] = tt
  none_made (mended ∷ later) = (alone_made_fits mended.0 (latest_on mended.0) mended.1, none_made later)

  abbrev IsListed : List (ObjectId × ℕ) → ObjectId × ℕ → Type 0
  IsListed made member = listed_time member.0 made ≡ Some ((latest_on member.0).time + 1)

  listed_fits : (made : List (ObjectId × ℕ)) → is_group made ≡ true → (object : ObjectId) (remedy : Remedy)
      → AddsPlain remedy → listed_time object made ≡ Some ((latest_on object).time + 1) → MadeFits made (object, remedy)
  listed_fits made is object Nothing never listed = tt
  listed_fits made is object (Shown candidate) plain listed = tt
  listed_fits made is object (Fresh barrier prior) plain listed = λ stamp time kind.
      group_fits object stamp made
      (ap (λ (it : ℕ). it == 0) time ∙ later_time (latest_on object).time) (kind ∙ plain) is
      (listed ∙ ap (λ (it : ℕ). Some it) (sym time))
  listed_fits made is object (Unshown other) never listed = tt
  listed_fits made is object (Unplanned other) never listed = tt
  listed_fits made is object (Outdated other) never listed = tt

  all_listed_fit : (made : List (ObjectId × ℕ)) → is_group made ≡ true → (group : List (ObjectId × ℕ))
      (members : List (ObjectId × Remedy)) → AreOf group members → AllAddPlain members
      → AllByRecursion (IsListed made) group → AllByRecursion (MadeFits made) members
  all_listed_fit made is [] [] of plain listed = tt
  all_listed_fit made is [] (mended ∷ more) of plain listed = absurd of
  all_listed_fit made is (member ∷ later) [] of plain listed = absurd of
  all_listed_fit made is (member ∷ later) (mended ∷ more) of plain listed = (
    listed_fits made is mended.0 mended.1 plain.0
        (subst (λ (it : ObjectId). listed_time it made ≡ Some ((latest_on it).time + 1)) (sym of.0) listed.0),
    all_listed_fit made is later more of.1 plain.1 listed.1,
  )

  pub made_groups_fit : (group : List (ObjectId × ℕ)) → is_group group ≡ true → (members : List (ObjectId × Remedy))
      → AreOf group members → AllAddPlain members → AllByRecursion (MadeFits (made_group asked.sets group)) members
  made_groups_fit group is members of plain = by_test (list_all (has_time asked.sets) group) refl
    where
      by_test : (timed : Bool) → list_all (has_time asked.sets) group ≡ timed
          → AllByRecursion (MadeFits (cond timed (map (fresh_member asked.sets) group) [])) members
      by_test true timed =
          all_listed_fit (map (fresh_member asked.sets) group) (made_whole asked.sets group is timed) group members of
          plain (made_listed asked group)
      by_test false spent = none_made members
