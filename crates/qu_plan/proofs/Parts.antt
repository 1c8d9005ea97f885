-- The members of a group one by one: those that join are copied, and the first that is left tells why there is no plan.
use Rattle.std.proofs.Common.{◌≡◌, ◌<◌, ◌||◌, ◌+◌, ℕ, zero, suc, Bool, true, false, not, cond, List, [], ◌∷◌, ◌++◌, take, get_or, find, length, Option, Some, None, refl, sym, ap, ◌∙◌, arith}
use Rattle.std.specs.Prelude.{filter_map}
use Rattle.std.specs.List.{cons_option}
use Rattle.std.specs.Option.{option_or}
use Rattle.std.proofs.lemmas.List.{take_more}
use Rattle.std.proofs.lemmas.List.Elements.{filter_map-append}
use Rattle.std.proofs.lemmas.List.Folds.{find-append}
use Rattle.std.proofs.lemmas.Option.{none-some}
use Rattle.qu_base.specs.declared.party.ObjectId.{ObjectId}
use Rattle.qu_base.proofs.Items.{not_first}
use Rattle.qu_stamp.specs.declared.candidate.Candidate.{Candidate}
use Rattle.qu_history.specs.declared.sets.SetOf.{SetOf}
use Rattle.qu_plan.specs.Chosen.{chosen_on}
use Rattle.qu_plan.specs.Copying.{is_joined, is_covered, is_outstanding, joint_part}
use Rattle.qu_plan.specs.Linking.{Linking}

module _ {X : Type 0} (test : X → Bool) where
  -- the first that passes, where none before it does
  pub found_here : (items : List X) (index : ℕ) (default : X) → find test (take index items) ≡ None
      → index < length items → test (get_or items index default) ≡ true
      → find test items ≡ Some (get_or items index default)
  found_here [] index default none within passes = absurd (omega (arith, within))
  found_here (first ∷ later) zero default none within passes =
      ap (λ (it : Bool). cond it (Some first) (find test later)) passes
  found_here (first ∷ later) (suc index) default none within passes =
      let rest : (test first ≡ false) × (find test (take index later) ≡ None) =
      not_first (test first) first (find test (take index later)) none in
      ap (λ (it : Bool). cond it (Some first) (find test later)) rest.0
      ∙ found_here later index default rest.1 (omega (arith, within)) passes

  -- none passes still, where this one does not
  pub none_more : (items : List X) (index : ℕ) (default : X) → find test (take index items) ≡ None
      → index < length items → test (get_or items index default) ≡ false
      → find test (take (index + 1) items) ≡ None
  none_more items index default none within fails =
      ap (find test) (take_more items index default within)
      ∙ find-append test (take index items) (get_or items index default ∷ [])
      ∙ ap (λ (it : Option X). option_or it (find test (get_or items index default ∷ []))) none
      ∙ ap (λ (it : Bool). cond it (Some (get_or items index default)) None) fails

-- what is made of one item more
pub mapped_more : {X Y : Type 0} (part : X → Option Y) (items : List X) (index : ℕ) (default : X)
    → index < length items
    → filter_map part (take (index + 1) items)
    ≡ filter_map part (take index items) ++ cons_option (part (get_or items index default)) []
mapped_more part items index default within =
    ap (filter_map part) (take_more items index default within)
    ∙ filter_map-append part (take index items) (get_or items index default ∷ [])

module _ (bounds : ℕ) (sets : List SetOf) (link : Linking) (target : ObjectId) (candidate : Candidate)
    (member : ObjectId × ℕ) where
  abbrev left : Bool
  left = is_outstanding bounds sets link target candidate member

  -- a member with a part is not left
  pub part_joins : (part : ObjectId × Candidate) → joint_part bounds sets link candidate member ≡ Some part
      → left ≡ false
  part_joins part is = by (is_joined bounds sets link candidate member) is
    where
      by : (joins : Bool) → cond joins (Some (member.0, chosen_on bounds sets link member.0)) None ≡ Some part
          → not (joins || is_covered bounds sets link target candidate member) ≡ false
      by true is = refl
      by false is = absurd (none-some part is)

  -- and one without a part is, if it is not covered
  pub part_lacks : joint_part bounds sets link candidate member ≡ None
      → left ≡ not (is_covered bounds sets link target candidate member)
  part_lacks is = by (is_joined bounds sets link candidate member) is
    where
      by : (joins : Bool)
          → cond {A = Option (ObjectId × Candidate)} joins (Some (member.0, chosen_on bounds sets link member.0)) None
          ≡ None
          → not (joins || is_covered bounds sets link target candidate member)
          ≡ not (is_covered bounds sets link target candidate member)
      by true is =
          let part : ObjectId × Candidate = (member.0, chosen_on bounds sets link member.0) in
          absurd (none-some part (sym is))
      by false is = refl
