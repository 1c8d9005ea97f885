-- The operations that clients of a script begin: one part or more, at most `MOST_PARTS`, with a `+` between each two.
use Rattle.std.specs.Prelude.{ℕ, zero, suc, ◌-◌, List, [], ◌∷◌, Result, Ok, Err, if◌then◌else◌, codes}
use Rattle.std.specs.Str.{bytes_eq}
use Rattle.qu_base.specs.declared.party.ObjectId.{ObjectId}
use Rattle.qu_objects.specs.declared.act.Method.TheVariants.{Add, Take, Put, Append, Link, Unlink}
use Rattle.qu_objects.specs.declared.query.Ask.TheVariants.{Read, Cat, Find, All}
use Rattle.qu_objects.specs.declared.limits.TheConstants.{MOST_PARTS}
use Rattle.qu_objects.specs.declared.op.Op.{Op}
use Rattle.qu_script_words.specs.declared.bad.BadKind.{BadKind}
use Rattle.qu_script_words.specs.declared.bad.BadKind.TheVariants.{OutOfOrder, UnknownWord}
use Rattle.qu_script_words.specs.Meaning.{then_good}
use Rattle.qu_script_words.specs.Rules.{number_rule, content_rule, name_rule, object_rule}
use Rattle.qu_script_words.specs.Words.{next_of_part, behind_plus, end_of}
use Rattle.qu_language.specs.declared.operation.Part.{Part}
use Rattle.qu_language.specs.declared.operation.Part.TheVariants.{Does, Asks}
use Rattle.qu_language.specs.declared.operation.Verb.{Verb}
use Rattle.qu_language.specs.declared.operation.Verb.TheVariants as verb
use Rattle.qu_language.specs.declared.parts.Parts.{Parts}
use Rattle.qu_language.specs.Parts.{no_parts, may_precede, are_below, with_part, op_of}

-- ---- verbs

-- the verb of a query
unfoldable pub ask_verb_rule : List ℕ → Result Verb BadKind
ask_verb_rule word =
    if bytes_eq word (codes "read") then Ok verb.Read
    else (if bytes_eq word (codes "cat") then Ok verb.Cat
    else (if bytes_eq word (codes "find") then Ok verb.Find
    else (if bytes_eq word (codes "list") then Ok verb.All else Err UnknownWord)))

-- a verb, of an update or of a query
unfoldable pub verb_rule : List ℕ → Result Verb BadKind
verb_rule word =
    if bytes_eq word (codes "add") then Ok verb.Add
    else (if bytes_eq word (codes "take") then Ok verb.Take
    else (if bytes_eq word (codes "put") then Ok verb.Put
    else (if bytes_eq word (codes "append") then Ok verb.Append
    else (if bytes_eq word (codes "link") then Ok verb.Link
    else (if bytes_eq word (codes "unlink") then Ok verb.Unlink else ask_verb_rule word)))))

-- ---- what stands behind the object

-- the next word of a part by a rule, and the words behind it
abbrev pub argument : {X : Type 0} → (List ℕ → Result X BadKind) → List (List ℕ) → Result (X × List (List ℕ)) BadKind
argument rule words =
    then_good (next_of_part words) (λ next. then_good (rule next.0) (λ said. Ok (said, next.1)))

-- `N`, `HEX`, `NAME`, `NAME N` or nothing, by the verb, and the words behind it
abbrev pub part_rule : Verb → List (List ℕ) → Result (Part × List (List ℕ)) BadKind
part_rule verb.Add words = then_good (argument number_rule words) (λ more. Ok (Does (Add more.0), more.1))
part_rule verb.Take words = then_good (argument number_rule words) (λ fewer. Ok (Does (Take fewer.0), fewer.1))
part_rule verb.Put words = then_good (argument content_rule words) (λ content. Ok (Does (Put content.0), content.1))
part_rule verb.Append words = then_good (argument content_rule words) (λ more. Ok (Does (Append more.0), more.1))
part_rule verb.Link words =
    then_good (argument name_rule words) (λ name.
    then_good (argument number_rule name.1) (λ number. Ok (Does (Link name.0 number.0), number.1)))
part_rule verb.Unlink words = then_good (argument name_rule words) (λ name. Ok (Does (Unlink name.0), name.1))
part_rule verb.Read words = Ok (Asks Read, words)
part_rule verb.Cat words = Ok (Asks Cat, words)
part_rule verb.Find words = then_good (argument name_rule words) (λ name. Ok (Asks (Find name.0), name.1))
part_rule verb.All words = Ok (Asks All, words)

-- ---- a part behind others: what is wrong with one of its words comes before what is wrong with those behind it

abbrev pub verb_behind : Parts → List ℕ → Result Verb BadKind
verb_behind parts word =
    then_good (verb_rule word) (λ verb. if may_precede parts verb then Ok verb else Err OutOfOrder)

abbrev pub object_behind : Parts → ℕ → List ℕ → Result ObjectId BadKind
object_behind parts objects word =
    then_good (object_rule objects word) (λ object. if are_below object parts then Ok object else Err OutOfOrder)

-- a verb and one of so many objects, and the words behind them
abbrev pub called_behind : Parts → ℕ → List (List ℕ) → Result ((Verb × ObjectId) × List (List ℕ)) BadKind
called_behind parts objects words =
    then_good (argument (verb_behind parts) words) (λ verb.
    then_good (argument (object_behind parts objects) verb.1) (λ object. Ok ((verb.0, object.0), object.1)))

-- a verb, an object, and what the verb needs: the parts with this one, and the words behind it
unfoldable pub part_behind : ℕ → Parts → List (List ℕ) → Result (Parts × List (List ℕ)) BadKind
part_behind objects parts words =
    then_good (called_behind parts objects words) (λ called.
    then_good (part_rule called.0.0 called.1) (λ part. Ok (with_part parts called.0.1 part.0, part.1)))

-- ---- operations

-- a part behind a `+`, if words are left
unfoldable pub joined_part : ℕ → Parts → List (List ℕ) → Result (Parts × List (List ℕ)) BadKind
joined_part objects parts [] = Ok (parts, [])
joined_part objects parts (word ∷ words) =
    then_good (behind_plus (word ∷ words)) (λ words. part_behind objects parts words)

-- all parts, where so many at most are left
unfoldable pub more_parts : ℕ → ℕ → Parts → List (List ℕ) → Result Parts BadKind
more_parts zero objects parts words = then_good (end_of words) (λ done. Ok parts)
more_parts (suc most) objects parts words =
    then_good (joined_part objects parts words) (λ next. more_parts most objects next.0 next.1)

-- the operation of all its parts
unfoldable pub op_rule : ℕ → List (List ℕ) → Result Op BadKind
op_rule objects words =
    then_good (part_behind objects no_parts words) (λ first.
    then_good (more_parts (MOST_PARTS - 1) objects first.0 first.1) (λ parts. Ok (op_of parts)))
