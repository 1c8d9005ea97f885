-- The links of a version fit their format, before an act or a copy and after it.
use Rattle.std.proofs.Common.{◌≡◌, ℕ, ◌+◌, ◌-◌, ◌<◌, ◌≤◌, true, not, List, [], ◌∷◌, length, map, Option, None, Some, refl, sym, ap, ◌∙◌, arith, ltb-true}
use Rattle.std.specs.Prelude.{◌==◌}
use Rattle.std.specs.List.{AllByRecursion}
use Rattle.std.proofs.lemmas.Bool.{cond_both, lt-ltb}
use Rattle.qu_base.specs.declared.limits.TheConstants.{OBJECT_IDS}
use Rattle.qu_base.specs.declared.party.ObjectId.{ObjectId}
use Rattle.qu_stamp.specs.declared.stamp.Stamp.{Stamp}
use Rattle.qu_stamp.specs.Formats.{stamp_form}
use Rattle.qu_objects.specs.declared.state.Link.{Link}
use Rattle.qu_objects.specs.Formats.{is_after}
use Rattle.qu_objects.specs.States.{link_form, links_form}
use Rattle.qu_kept.specs.Keyed.{Rising}
use Rattle.qu_kept.specs.Performing.{linked_object, links_to_others, with_links}
use Rattle.qu_kept.proofs.EachObject.{objects_named}
use Rattle.qu_kept.proofs.KeyedLaws.{all_with, rising_with, rising_within}
use Rattle.qu_kept.proofs.RisingForms.{IsAbove, none_before, rising_fits, all_read, rising_read}
use Rattle.qu_kept.proofs.RisingObjects.{IsNumbered}

-- a link to an object that has a number, under a stamp that fits
pub record LinkFits (link : Link) : Type 0 where
  pub object : IsNumbered link.object
  pub stamp : stamp_form.Fits link.stamp

-- such links by rising objects
pub record LinksRise (links : List Link) : Type 0 where
  pub each : AllByRecursion LinkFits links
  pub rising : Rising linked_object links

abbrev object_number : ObjectId → ℕ
object_number object = object.0

abbrev object_linked : Link → ObjectId
object_linked link = link.object

-- ---- as they are read

link_reads : (before : Option ObjectId) (link : Link) → (link_form before).Fits link → LinkFits link
unfolding link_form
link_reads before link fits = record { object = fits.0.0.1; stamp = fits.1 }

link_later : (before : Option ObjectId) (link : Link) → (link_form before).Fits link
    → IsAbove object_number object_linked before link
unfolding link_form
link_later before link fits it is =
    let after : is_after before link.object ≡ true = fits.0.1 in
    ltb-true _ _ (sym (ap (λ (one : Option ObjectId). is_after one link.object) is) ∙ after)

pub links-read : (links : List Link) → links_form.Fits links → LinksRise links
unfolding links_form
links-read links fits = record {
  each = all_read object_number object_linked link_form LinkFits link_reads None links fits.1.1;
  rising = rising_read object_number object_linked link_form link_later None links fits.1.1;
}

-- ---- as they are written

link_after : (before : Option ObjectId) (link : Link) → IsAbove object_number object_linked before link
    → is_after before link.object ≡ true
link_after None link above = refl
link_after (Some it) link above = lt-ltb it.0 (link.object).0 (above it refl)

link-fits : (before : Option ObjectId) (link : Link) → LinkFits link
    → IsAbove object_number object_linked before link → (link_form before).Fits link
unfolding link_form
link-fits before link fits above = (((omega arith, fits.object), link_after before link above), fits.stamp)

-- counted from 1
abbrev place_linked : Link → ℕ
place_linked link = linked_object link + 1

later_places : (link : Link) (links : List Link)
    → AllByRecursion (λ (other : Link). linked_object link < linked_object other) links
    → AllByRecursion (λ (other : Link). place_linked link < place_linked other) links
later_places link [] all = tt
later_places link (other ∷ later) all =
    let here : linked_object link < linked_object other = all.0 in
    (omega (arith, here), later_places link later all.1)

rising_places : (links : List Link) → Rising linked_object links → Rising place_linked links
unfolding Rising
rising_places [] rising = tt
rising_places (link ∷ later) rising = (later_places link later rising.0, rising_places later rising.1)

few_places : (links : List Link) → AllByRecursion LinkFits links
    → AllByRecursion (λ (link : Link). (0 < place_linked link) × (place_linked link ≤ OBJECT_IDS)) links
few_places [] all = tt
few_places (link ∷ later) all =
    let here : (link.object).0 ≤ OBJECT_IDS - 1 = (all.0).object in
    ((omega arith, omega (arith, here)), few_places later all.1)

pub links-fit : (links : List Link) → LinksRise links → links_form.Fits links
unfolding links_form
links-fit links fits =
    let few : 0 + length links ≤ OBJECT_IDS =
    rising_within place_linked 0 OBJECT_IDS links (omega arith) (rising_places links fits.rising)
    (few_places links fits.each) in (
      (omega arith, omega (arith, few)),
      (
        refl,
        rising_fits object_number object_linked link_form LinkFits link-fits None links fits.each fits.rising
            (none_before object_number object_linked links),
      ),
    )

-- ---- after an act or a copy

-- links to the other objects of an act or a group, under a stamp that fits
pub others_fit : {X : Type 0} (object : ObjectId) (stamp : Stamp) → stamp_form.Fits stamp
    → (parts : List (ObjectId × X)) → AllByRecursion IsNumbered (objects_named parts)
    → AllByRecursion LinkFits (links_to_others object stamp parts)
others_fit object stamp fits [] numbered = tt
others_fit {X} object stamp fits (part ∷ later) numbered =
    let others : AllByRecursion LinkFits (links_to_others object stamp later) =
    others_fit object stamp fits later numbered.1 in
    cond_both (not ((part.0).0 == object.0)) _ _
    (λ (parts : List (ObjectId × X)). AllByRecursion LinkFits (map (λ (it : ObjectId × X).
    let link : Link = record { object = it.0; stamp = stamp } in link) parts))
    (λ _. (record { object = numbered.0; stamp = fits }, others)) (λ _. others)

pub links_with : (new links : List Link) → AllByRecursion LinkFits new → LinksRise links
    → LinksRise (with_links new links)
links_with [] links all fits = fits
links_with (link ∷ later) links all fits =
    links_with later _ all.1 (record {
      each = all_with linked_object LinkFits link links all.0 fits.each;
      rising = rising_with linked_object link links fits.rising;
    })
