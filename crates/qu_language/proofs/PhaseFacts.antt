-- Facts on the lines behind the first three.
use Rattle.std.proofs.Common.{◌≡◌, ℕ, Bool, true, false, cond, List, refl}
use Rattle.std.specs.Prelude.{codes}
use Rattle.std.specs.Str.{bytes_eq}
use Rattle.qu_language.specs.declared.line.Script.{Script}
use Rattle.qu_language.specs.Phase.{has_none, later_rule, body_rule}

neither : {X : Type 0} (one other : Bool) (x y z : X) → one ≡ false → other ≡ false → cond one x (cond other y z) ≡ z
neither false false x y z other_word some = refl
neither false true x y z other_word some = absurd cc
neither true other x y z other_word some = absurd cc

-- a line that is none of an object, behind one at least
pub body_is_later : (live : Bool) (script : Script) (number : ℕ) (word : List ℕ) (words : List (List ℕ))
    → bytes_eq word (codes "object") ≡ false → has_none script.setup.kinds ≡ false
    → body_rule live script number word words ≡ later_rule live script number word words
unfolding body_rule
body_is_later live script number word words other some =
    neither (bytes_eq word (codes "object")) (has_none script.setup.kinds) _ _ _ other some
