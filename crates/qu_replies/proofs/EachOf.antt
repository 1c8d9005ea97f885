-- What all of a list have, and its first one, and what is made of them.
use Rattle.std.proofs.Common.{List, [], ◌∷◌, map, IsTrue, refl, inl, inr}
use Rattle.std.specs.List.{AllByRecursion}
use Rattle.std.proofs.lemmas.Bool.{false≢true}
use Rattle.qu_base.specs.declared.party.ObjectId.{ObjectId}
use Rattle.qu_objects.specs.declared.act.Method.{Method}
use Rattle.qu_objects.specs.Parts.{are_parts}
use Rattle.qu_kept.proofs.EachObject.{objects_named}
use Rattle.qu_claims.specs.Parts.{Names}
use Rattle.qu_replies.specs.Replies.{HoldsOfFirst}

module _ {X Y : Type 0} (make : X → Y) where
  pub each_made : (P : Y → Type 0) (items : List X) → AllByRecursion (λ item. P (make item)) items
      → AllByRecursion P (map make items)
  each_made P [] all = tt
  each_made P (item ∷ later) all = (all.0, each_made P later all.1)

  pub each_of_made : (P : Y → Type 0) (items : List X) → AllByRecursion P (map make items)
      → AllByRecursion (λ item. P (make item)) items
  each_of_made P [] all = tt
  each_of_made P (item ∷ later) all = (all.0, each_of_made P later all.1)

  pub first_made : (P : Y → Type 0) (items : List X) → HoldsOfFirst (λ item. P (make item)) items
      → HoldsOfFirst P (map make items)
  first_made P [] first = first
  first_made P (item ∷ later) first = first

  pub first_of_made : (P : Y → Type 0) (items : List X) → HoldsOfFirst P (map make items)
      → HoldsOfFirst (λ item. P (make item)) items
  first_of_made P [] first = first
  first_of_made P (item ∷ later) first = first

-- what all have, and the first one too, gives a third of the first
pub first_also : {X : Type 0} (P Q R : X → Type 0) (items : List X) → ((item : X) → P item → Q item → R item)
    → AllByRecursion P items → HoldsOfFirst Q items → HoldsOfFirst R items
first_also P Q R [] also all first = absurd first
first_also P Q R (item ∷ later) also all first = also item all.0 first

pub first_weaker : {X : Type 0} (P Q : X → Type 0) → ((item : X) → P item → Q item) → (items : List X)
    → HoldsOfFirst P items → HoldsOfFirst Q items
first_weaker P Q weaker [] first = first
first_weaker P Q weaker (item ∷ later) first = weaker item first

pub all_first : (P : ObjectId → Type 0) (parts : List (ObjectId × Method)) → IsTrue (are_parts parts)
    → AllByRecursion P (objects_named parts) → HoldsOfFirst P (objects_named parts)
all_first P [] in_order all = absurd (false≢true in_order)
all_first P (part ∷ later) in_order all = all.0

pub all_named : (P : ObjectId → Type 0) (parts : List (ObjectId × Method))
    → ((object : ObjectId) → Names parts object → P object) → AllByRecursion P (objects_named parts)
all_named P [] gives = tt
all_named P (part ∷ later) gives =
    (gives part.0 (inl refl), all_named P later (λ object names. gives object (inr names)))
