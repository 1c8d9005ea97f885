-- what stands before the number, the number, and what stands behind it
use Rattle.std.proofs.Common.{rules, ◌≡◌, ℕ, List, [], ◌∷◌, ◌++◌, ap, ◌∙◌, append_assoc}
use Rattle.std.specs.Prelude.{string_bytes, codes}
use Rattle.std.specs.Fmt.{decimal}
use Rattle.qu_gen.specs.Script.{numbers_of_setup, ended}
use Rattle.qu_gen.proofs.LineFacts.{line_closed}
use Rattle.qu_gen.proofs.script.put_numbers.Goals as goal

abbrev head : List ℕ
head = codes "bounds 1" ++ 10 ∷ codes "seed "

abbrev tail : List ℕ
tail = codes "clients 4" ++ 10 ∷ []

pub returns : goal.returns
unfolding ended numbers_of_setup
returns c =
    let written : string_bytes c.write.new.self
    ≡ string_bytes c.args.text.now ++ (head ++ (decimal c.args.number ++ 10 ∷ tail)) =
    rw c.in_ok-write.ensures.bytes (first_of (
      search rules,
      search (ap (λ rest. string_bytes c.args.text.now ++ rest)
          (append_assoc head (decimal c.args.number) (10 ∷ tail))),
      search (append_assoc),
      simp (append_assoc),
      grind (append_assoc),
    )) in
    written ∙ line_closed (string_bytes c.args.text.now) head (decimal c.args.number) tail
