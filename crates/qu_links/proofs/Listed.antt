-- The list of links after an act or a copy has the own stamp to the other objects of the group, and else what it had.
use Rattle.std.proofs.Common.{◌≡◌, ◌⊎◌, Bool, true, false, not, cond, refl, sym, ap, ◌∙◌, inl, inr, List, [], ◌∷◌, Some}
use Rattle.std.specs.Prelude.{◌==◌, filter, map}
use Rattle.std.specs.Option.{option_map}
use Rattle.std.specs.List.{AllByRecursion}
use Rattle.std.proofs.lemmas.Bool.{false≢true, cases_eq, ne_eqb}
use Rattle.qu_base.specs.declared.party.ObjectId.{ObjectId}
use Rattle.qu_stamp.specs.declared.stamp.Stamp.{Stamp}
use Rattle.qu_stamp.specs.declared.candidate.Candidate.{Candidate}
use Rattle.qu_objects.specs.declared.state.Link.{Link}
use Rattle.qu_kept.specs.Keyed.{item_of, with_item}
use Rattle.qu_kept.specs.Performing.{linked_object, links_to_others, with_links}
use Rattle.qu_kept.proofs.KeyedLaws.{own_item, other_item}
use Rattle.qu_plan.specs.Copying.{Names}
use Rattle.qu_plan.specs.Linking.{link_in}
use Rattle.qu_claims.specs.Setting.{Setting}
use Rattle.qu_links.specs.Over.{LinksOver}

abbrev stamp_of : Link → Stamp
stamp_of link = link.stamp

-- each of these links has this stamp
abbrev AllOf : Stamp → List Link → Type 0
AllOf stamp news = AllByRecursion (λ (link : Link). link.stamp ≡ stamp) news

put_in : (link : Link) (links : List Link) (other : ObjectId) (stamp : Stamp) → link.stamp ≡ stamp
    → (link_in (with_item linked_object link links) other ≡ Some stamp)
    ⊎ (link_in (with_item linked_object link links) other ≡ link_in links other)
put_in link links other stamp same =
    elim (cases_eq other.0 (linked_object link)) [
      | inl here ↦
          inl (ap (λ n. option_map stamp_of (item_of linked_object n (with_item linked_object link links))) here
          ∙ ap (option_map stamp_of) (own_item linked_object link links)
          ∙ ap (λ (it : Stamp). Some it) same)
      | inr elsewhere ↦ inr (ap (option_map stamp_of) (other_item linked_object other.0 link links elsewhere))
    ]

put_own : (link : Link) (links : List Link) (other : ObjectId) (stamp : Stamp) → link.stamp ≡ stamp
    → (link.object).0 ≡ other.0 → link_in (with_item linked_object link links) other ≡ Some stamp
put_own link links other stamp same here =
    ap (λ n. option_map stamp_of (item_of linked_object n (with_item linked_object link links))) (sym here)
    ∙ ap (option_map stamp_of) (own_item linked_object link links)
    ∙ ap (λ (it : Stamp). Some it) same

either : (news links : List Link) (other : ObjectId) (stamp : Stamp) → AllOf stamp news
    → (link_in (with_links news links) other ≡ Some stamp)
    ⊎ (link_in (with_links news links) other ≡ link_in links other)
either [] links other stamp all = inr refl
either (link ∷ later) links other stamp all =
    elim (either later (with_item linked_object link links) other stamp all.1) [
      | inl own ↦ inl own
      | inr kept ↦ elim (put_in link links other stamp all.0) [
        | inl own ↦ inl (kept ∙ own)
        | inr same ↦ inr (kept ∙ same)
      ]
    ]

-- some link is to this object
abbrev LinksTo : List Link → ObjectId → Type 0
LinksTo [] other = ⊥
LinksTo (link ∷ later) other = ((link.object).0 ≡ other.0) ⊎ LinksTo later other

own : (news links : List Link) (other : ObjectId) (stamp : Stamp) → AllOf stamp news → LinksTo news other
    → link_in (with_links news links) other ≡ Some stamp
own [] links other stamp all never = absurd never
own (first ∷ later) links other stamp all (inl here) =
    elim (either later (with_item linked_object first links) other stamp all.1) [
      | inl found ↦ found
      | inr kept ↦ kept ∙ put_own first links other stamp all.0 here
    ]
own (first ∷ later) links other stamp all (inr there) =
    own later (with_item linked_object first links) other stamp all.1 there

module _ {X : Type 0} (object : ObjectId) (stamp : Stamp) where
  abbrev is_other : ObjectId × X → Bool
  is_other part = not ((part.0).0 == object.0)

  abbrev linked : ObjectId × X → Link
  linked part = record { object = part.0; stamp = stamp }

  all_linked : (parts : List (ObjectId × X)) → AllOf stamp (map linked (filter is_other parts))
  all_linked [] = tt
  all_linked (part ∷ later) = by (is_other part) (all_linked later)
    where
      by : (test : Bool) → AllOf stamp (map linked (filter is_other later))
          → AllOf stamp (map linked (cond test (part ∷ filter is_other later) (filter is_other later)))
      by true rest = (refl, rest)
      by false rest = rest

  others_linked : (parts : List (ObjectId × X)) (other : ObjectId) → not (other.0 == object.0) ≡ true
      → Names parts other → LinksTo (map linked (filter is_other parts)) other
  others_linked [] other apart never = absurd never
  others_linked (part ∷ later) other apart names =
      by (is_other part) refl names (others_linked later other apart)
    where
      by : (test : Bool) → is_other part ≡ test → Names (part ∷ later) other
          → (Names later other → LinksTo (map linked (filter is_other later)) other)
          → LinksTo (map linked (cond test (part ∷ filter is_other later) (filter is_other later))) other
      by true is (inl same) rest = inl (ap (λ (it : ObjectId). it.0) same)
      by true is (inr named) rest = inr (rest named)
      by false is (inl same) rest =
          absurd (false≢true (sym is ∙ ap (λ (it : ObjectId). not (it.0 == object.0)) same ∙ apart))
      by false is (inr named) rest = rest named

-- the kept list meets what is asked of links
pub listed-over : {X : Type 0} (setting : Setting) (object : ObjectId) (candidate : Candidate)
    (parts : List (ObjectId × X)) (links : List Link)
    → ((other : ObjectId) (stamp : Stamp) → setting.member candidate other ≡ Some stamp → Names parts other)
    → LinksOver setting object candidate (link_in links)
    (link_in (with_links (links_to_others object candidate.stamp parts) links))
listed-over setting object candidate parts links has = record {
  own = λ other stamp apart is_member.
      own (links_to_others object candidate.stamp parts) links other candidate.stamp
      (all_linked object candidate.stamp parts)
      (others_linked object candidate.stamp parts other
      (ap not (ne_eqb other.0 object.0 (λ same. apart (sym same)))) (has other stamp is_member));
  either = λ other.
      either (links_to_others object candidate.stamp parts) links other candidate.stamp
      (all_linked object candidate.stamp parts);
}
