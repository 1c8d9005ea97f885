-- The objects that the replies of a round need are found number by number.
use Rattle.std.proofs.Common.{◌≡◌, ℕ, ◌+◌, Bool, true, false, cond, List, [], ◌∷◌, ◌++◌, append-nil, map, filter, sym, ap, ◌∙◌, arith}
use Rattle.std.specs.List.{range_with_len}
use Rattle.std.proofs.lemmas.List.FromFn.{filter_of_map_range_with_len_more}
use Rattle.qu_base.specs.declared.limits.TheConstants.{OBJECT_IDS}
use Rattle.qu_base.specs.declared.party.ObjectId.{ObjectId}
use Rattle.qu_client.specs.declared.work.Counted.{Counted}
use Rattle.qu_client.specs.Needed.{is_needed, numbered_object, needed_objects}

module _ (bounds : ℕ) (replies : List Counted) (number : ℕ) (objects : List ObjectId)
    (so_far : objects ≡ filter (is_needed bounds replies) (map numbered_object (range_with_len 0 number))) where
  next : filter (is_needed bounds replies) (map numbered_object (range_with_len 0 (number + 1)))
      ≡ objects ++ cond (is_needed bounds replies (numbered_object number)) (numbered_object number ∷ []) []
  next =
      filter_of_map_range_with_len_more (is_needed bounds replies) numbered_object 0 number number (omega arith)
      ∙ ap (λ (it : List ObjectId).
      it ++ cond (is_needed bounds replies (numbered_object number)) (numbered_object number ∷ []) []) (sym so_far)

  pub needed_more : (grown : List ObjectId) → is_needed bounds replies (numbered_object number) ≡ true
      → grown ≡ objects ++ numbered_object number ∷ []
      → grown ≡ filter (is_needed bounds replies) (map numbered_object (range_with_len 0 (number + 1)))
  needed_more grown is grows =
      grows
      ∙ sym (next ∙ ap (λ (test : Bool). objects ++ cond test (numbered_object number ∷ []) []) is)

  pub needed_less : (same : List ObjectId) → is_needed bounds replies (numbered_object number) ≡ false
      → same ≡ objects → same ≡ filter (is_needed bounds replies) (map numbered_object (range_with_len 0 (number + 1)))
  needed_less same is stays =
      stays
      ∙ sym (next ∙ ap (λ (test : Bool). objects ++ cond test (numbered_object number ∷ []) []) is ∙ append-nil objects)

  pub needed_all : number ≡ OBJECT_IDS → objects ≡ needed_objects bounds replies
  unfolding needed_objects
  needed_all whole =
      so_far ∙ ap (λ (it : ℕ). filter (is_needed bounds replies) (map numbered_object (range_with_len 0 it))) whole
