-- What holds of each item of a list holds of each of what is made of the list.
use Rattle.std.proofs.Common.{◌≡◌, Bool, List, [], ◌∷◌, ◌++◌, cond}
use Rattle.std.specs.Prelude.{filter}
use Rattle.std.specs.List.{AllByRecursion}
use Rattle.std.proofs.lemmas.Bool.{cond_both}

pub each_weaker : {X : Type 0} (P Q : X → Type 0) (items : List X) → ((item : X) → P item → Q item)
    → AllByRecursion P items → AllByRecursion Q items
each_weaker P Q [] weaker each = tt
each_weaker P Q (item ∷ later) weaker each = (weaker item each.0, each_weaker P Q later weaker each.1)

pub each_append : {X : Type 0} (P : X → Type 0) (items more : List X) → AllByRecursion P items
    → AllByRecursion P more → AllByRecursion P (items ++ more)
each_append P [] more each others = others
each_append P (item ∷ later) more each others = (each.0, each_append P later more each.1 others)

pub each_push : {X : Type 0} (P : X → Type 0) (items : List X) (item : X) → AllByRecursion P items → P item
    → AllByRecursion P (items ++ item ∷ [])
each_push P items item each last = each_append P items (item ∷ []) each (last, tt)

pub each_kept : {X : Type 0} (P : X → Type 0) (test : X → Bool) (items : List X) → AllByRecursion P items
    → AllByRecursion P (filter test items)
each_kept P test [] each = tt
each_kept P test (item ∷ later) each =
    cond_both (test item) _ _ (AllByRecursion P) (λ _. (each.0, each_kept P test later each.1))
    (λ _. each_kept P test later each.1)
