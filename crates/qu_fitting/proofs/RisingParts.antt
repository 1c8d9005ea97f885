-- The objects of the parts of a request rise.
use Rattle.std.proofs.Common.{◌≤◌, Bool, List, [], ◌∷◌, length, Option, None, Some, arith}
use Rattle.std.specs.List.{AllByRecursion}
use Rattle.qu_base.specs.declared.party.ObjectId.{ObjectId}
use Rattle.qu_base.specs.Format.{Format, FitsFrom}
use Rattle.qu_objects.specs.declared.limits.TheConstants.{MOST_PARTS}
use Rattle.qu_objects.specs.Formats.{part_form, parts_form}
use Rattle.qu_objects.proofs.PartLaws.{after_object, is_from}
use Rattle.qu_kept.proofs.EachObject.{objects_named}
use Rattle.qu_kept.proofs.RisingObjects.{RiseFrom}

-- as many as an answer has room for, of rising objects
pub record PartsRise {X : Type 0} (parts : List (ObjectId × X)) : Type 0 where
  pub some : 1 ≤ length parts
  pub few : length parts ≤ MOST_PARTS
  pub rise : RiseFrom 0 (objects_named parts)

module _ {X : Type 0} (form : Format X) (known : ObjectId → Bool) where
  objects_rise : (before : Option ObjectId) (parts : List (ObjectId × X))
      → FitsFrom (part_form form known) (λ part. Some part.0) before parts
      → RiseFrom (after_object before) (objects_named parts)
  objects_rise before [] fits = tt
  objects_rise before (part ∷ later) fits =
      (is_from before part.0 fits.0.0.1, fits.0.0.0.0.1, objects_rise (Some part.0) later fits.1)

  each_from : (before : Option ObjectId) (parts : List (ObjectId × X))
      → FitsFrom (part_form form known) (λ part. Some part.0) before parts
      → AllByRecursion (λ (part : ObjectId × X). form.Fits part.1) parts
  each_from before [] fits = tt
  each_from before (part ∷ later) fits = (fits.0.1, each_from (Some part.0) later fits.1)

  pub parts_rise : (parts : List (ObjectId × X)) → (parts_form form known).Fits parts → PartsRise parts
  parts_rise parts fits = record {
    some = fits.0.0;
    few = let most = fits.0.1 in omega (arith, most);
    rise = objects_rise None parts fits.1.1;
  }

  pub each_part : (parts : List (ObjectId × X)) → (parts_form form known).Fits parts
      → AllByRecursion (λ (part : ObjectId × X). form.Fits part.1) parts
  each_part parts fits = each_from None parts fits.1.1
