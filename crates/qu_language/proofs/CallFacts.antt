-- The calls of a script for threads are of correct clients of its setup.
use Rattle.std.proofs.Common.{◌≡◌, ℕ, ◌+◌, Bool, true, false, cond, List, [], ◌∷◌, ◌++◌, length, Result, Ok, Err, refl, subst, IfOk, ◌≤◌}
use Rattle.std.specs.Prelude.{nat_le, nat_lt, ◌&&◌, codes}
use Rattle.std.specs.Str.{bytes_eq}
use Rattle.std.proofs.lemmas.Bool.{leb-true, and_parts}
use Rattle.std.proofs.lemmas.List.{flat_map_more}
use Rattle.qu_base.specs.declared.limits.TheConstants.{LAST_CLIENT}
use Rattle.qu_base.specs.declared.party.ClientId.{ClientId}
use Rattle.qu_base.specs.declared.party.Party.TheVariants as party
use Rattle.qu_base.proofs.EachItem.{each_append}
use Rattle.qu_objects.specs.declared.op.Op.{Op}
use Rattle.qu_trace.specs.Faulty.{is_faulty}
use Rattle.qu_trace.specs.declared.trace.Setup.{Setup}
use Rattle.qu_script_words.specs.declared.bad.BadKind.{BadKind}
use Rattle.qu_script_words.specs.declared.bad.BadKind.TheVariants.{NoSuchActor, OverLimit, NotInLive, UnknownWord, OutOfOrder, ExpectedObject}
use Rattle.qu_script_words.specs.declared.bad.ScriptFail.{ScriptFail}
use Rattle.qu_script_words.specs.Meaning.{then_good, at_line, IsAsMeant}
use Rattle.qu_script_words.specs.Parties.{client_by_number, if_correct, correct_client_rule}
use Rattle.qu_script_words.specs.Rules.{number_rule}
use Rattle.qu_script_words.specs.Words.{ascii_word, next_of, words_in}
use Rattle.qu_language.specs.declared.limits.TheConstants.{MOST_CALLS}
use Rattle.qu_language.specs.declared.line.Line.{Line}
use Rattle.qu_language.specs.declared.line.Line.TheVariants.{Call}
use Rattle.qu_language.specs.declared.line.Script.{Script}
use Rattle.qu_language.specs.declared.phase.Phase.{Phase}
use Rattle.qu_language.specs.declared.phase.Phase.TheVariants.{NeedsBounds, NeedsSeed, NeedsClients, Body}
use Rattle.qu_language.specs.Called.{call_of, calls_said, MayCall, MayAllCall}
use Rattle.qu_language.specs.Event.{call_rule, live_rule, is_event_word}
use Rattle.qu_language.specs.Operation.{op_rule}
use Rattle.qu_language.specs.Phase.{has_none, opening_script, with_kind, with_liar, with_line, object_said, faulty_said, event_said, is_opening_word, later_rule, body_rule, said_rule, is_comment, comment_of, line_rule, end_rule}
use Rattle.qu_language.specs.Script.{lines_rule}
use Rattle.qu_language.specs.Setup.{object_line, faulty_line}

pub calls_more : (lines : List (ℕ × Line)) (line : ℕ × Line)
    → calls_said lines ++ call_of line.1 ≡ calls_said (lines ++ line ∷ [])
calls_more lines line = flat_map_more (λ (it : ℕ × Line). call_of it.1) [] lines line

-- ---- what holds of all that may be read

-- what a rule makes of all that may stand first holds of what is read
follows : {X Y E : Type 0} (P : Y → Type 0) (first : Result X E) (rule : X → Result Y E) (y : Y)
    → ((x : X) → first ≡ Ok x → rule x ≡ Ok y → P y) → then_good first rule ≡ Ok y → P y
follows P (Ok x) rule y each is = each x refl is
follows P (Err bad) rule y each is = absurd cc

either : {Y E : Type 0} (P : Y → Type 0) (test : Bool) (one other : Result Y E) (y : Y)
    → (test ≡ true → one ≡ Ok y → P y) → (test ≡ false → other ≡ Ok y → P y) → cond test one other ≡ Ok y → P y
either P true one other y holds fails is = holds refl is
either P false one other y holds fails is = fails refl is

same_ok : {Y E : Type 0} (found : Result Y E) (one other : Y) → found ≡ Ok one → found ≡ Ok other → one ≡ other
same_ok found one other is again = cc

abbrev given : {Y : Type 0} → Y → Result Y BadKind
given y = Ok y

abbrev refused : {Y : Type 0} → BadKind → Result Y BadKind
refused kind = Err kind

sure : {Y : Type 0} (P : Y → Type 0) (one y : Y) → P one → given one ≡ Ok y → P y
sure P one y holds is = subst P (same_ok (given one) one y refl is) holds

never : {Y : Type 0} (P : Y → Type 0) (kind : BadKind) (y : Y) → refused kind ≡ Ok y → P y
never P kind y is = absurd cc

-- ---- a correct client

not_faulty : (setup : Setup) (one me : ClientId) → 1 ≤ one.0 → one.0 ≤ setup.clients
    → if_correct setup (party.Client one) one ≡ Ok me → MayCall setup me
not_faulty setup one me first last is =
    either (MayCall setup) (is_faulty setup (party.Client one)) (refused NoSuchActor) (given one) me
    (λ lies wrong. never (MayCall setup) NoSuchActor me wrong)
    (λ right found.
    sure (MayCall setup) one me (record { from_one = first; among = last; does_not_lie = right }) found)
    is

abbrev client_at : ℕ → ClientId
client_at number = record { 0 = number }

-- the client with this number is one of the setup
is_among : (clients number : ℕ) (me : ClientId) → client_by_number clients number ≡ Ok me
    → (1 ≤ me.0) × (me.0 ≤ clients)
is_among clients number me is =
    let Among : ClientId → Type 0 = λ it. (1 ≤ it.0) × (it.0 ≤ clients) in
    either Among (nat_le 1 number && nat_le number LAST_CLIENT)
    (cond (nat_le number clients) (given (client_at number)) (refused NoSuchActor)) (refused OverLimit) me
    (λ within found.
    either Among (nat_le number clients) (given (client_at number)) (refused NoSuchActor) me
    (λ few there.
    sure Among (client_at number) me
    (leb-true _ _ (and_parts (nat_le 1 number) (nat_le number LAST_CLIENT) within).0, leb-true number clients few)
    there)
    (λ many wrong. never Among NoSuchActor me wrong) found)
    (λ over wrong. never Among OverLimit me wrong) is

correct_may : (setup : Setup) (word : List ℕ) (me : ClientId) → correct_client_rule setup word ≡ Ok me
    → MayCall setup me
correct_may setup word me is =
    follows (MayCall setup) (then_good (number_rule word) (client_by_number setup.clients))
    (λ one. if_correct setup (party.Client one) one) me
    (λ one found right.
    follows (λ (it : ClientId). MayCall setup me) (number_rule word) (client_by_number setup.clients) one
    (λ number read named.
    let among = is_among setup.clients number one named in not_faulty setup one me among.0 among.1 right) found)
    is

-- ---- a line

abbrev Callable : Setup → Line → Type 0
Callable setup line = MayAllCall setup (call_of line)

call_may : (setup : Setup) (words : List (List ℕ)) (line : Line) → call_rule setup words ≡ Ok line
    → Callable setup line
unfolding call_rule
call_may setup words line is =
    follows (Callable setup) (next_of words)
    (λ next.
    then_good (correct_client_rule setup next.0) (λ client.
    then_good (op_rule (length setup.kinds) next.1) (λ op. Ok (Call client op)))) line
    (λ next first rest.
    follows (Callable setup) (correct_client_rule setup next.0)
    (λ client. then_good (op_rule (length setup.kinds) next.1) (λ op. Ok (Call client op))) line
    (λ client named rest.
    follows (Callable setup) (op_rule (length setup.kinds) next.1) (λ op. Ok (Call client op)) line
    (λ op read made.
    sure (Callable setup) (Call client op) line (correct_may setup next.0 client named, tt) made) rest)
    rest) is

live_may : (setup : Setup) (count : ℕ) (verb : List ℕ) (words : List (List ℕ)) (line : Line)
    → live_rule setup count verb words ≡ Ok line → Callable setup line
unfolding live_rule
live_may setup count verb words line is =
    either (Callable setup) (bytes_eq verb (codes "call"))
    (cond (nat_lt count MOST_CALLS) (call_rule setup words) (refused OverLimit))
    (cond (is_event_word verb) (refused NotInLive) (refused UnknownWord)) line
    (λ calls found.
    either (Callable setup) (nat_lt count MOST_CALLS) (call_rule setup words) (refused OverLimit) line
    (λ few there. call_may setup words line there) (λ many wrong. never (Callable setup) OverLimit line wrong) found)
    (λ other found.
    either (Callable setup) (is_event_word verb) (refused NotInLive) (refused UnknownWord) line
    (λ event wrong. never (Callable setup) NotInLive line wrong)
    (λ unknown wrong. never (Callable setup) UnknownWord line wrong) found)
    is

-- ---- a script

abbrev Stands : Script → Type 0
Stands script = MayAllCall script.setup (calls_said script.lines)

line_stands : (script : Script) (number : ℕ) (line : Line) → Stands script → Callable script.setup line
    → Stands (with_line script number line)
line_stands script number line stands may =
    subst (MayAllCall script.setup) (calls_more script.lines (number, line))
    (each_append (λ (call : ClientId × Op). MayCall script.setup call.0) (calls_said script.lines) (call_of line) stands
    may)

none_stand : (setup : Setup) (lines : List (ℕ × Line)) → has_none lines ≡ true → MayAllCall setup (calls_said lines)
none_stand setup [] none = tt
none_stand setup (line ∷ lines) none = absurd cc

object_stands : (script next : Script) (words : List (List ℕ)) → object_said script words ≡ Ok next → Stands next
object_stands script next words is =
    either Stands (has_none script.setup.liars && has_none script.lines)
    (then_good (object_line (length script.setup.kinds) words) (λ kind. Ok (with_kind script kind)))
    (refused OutOfOrder) next
    (λ none found.
    follows Stands (object_line (length script.setup.kinds) words) (λ kind. Ok (with_kind script kind)) next
    (λ kind read made.
    sure Stands (with_kind script kind) next
    (none_stand (with_kind script kind).setup script.lines
    (and_parts (has_none script.setup.liars) (has_none script.lines) none).1) made) found)
    (λ some wrong. never Stands OutOfOrder next wrong) is

faulty_stands : (script next : Script) (words : List (List ℕ)) → faulty_said script words ≡ Ok next → Stands next
faulty_stands script next words is =
    either Stands (has_none script.lines)
    (then_good (faulty_line script.setup words) (λ who. Ok (with_liar script who))) (refused OutOfOrder) next
    (λ none found.
    follows Stands (faulty_line script.setup words) (λ who. Ok (with_liar script who)) next
    (λ who read made.
    sure Stands (with_liar script who) next (none_stand (with_liar script who).setup script.lines none) made) found)
    (λ some wrong. never Stands OutOfOrder next wrong) is

event_stands : (script next : Script) (number : ℕ) (word : List ℕ) (words : List (List ℕ)) → Stands script
    → event_said true script number word words ≡ Ok next → Stands next
event_stands script next number word words stands is =
    follows Stands (live_rule script.setup (length script.lines) word words)
    (λ line. Ok (with_line script number line)) next
    (λ line read made.
    sure Stands (with_line script number line) next
    (line_stands script number line stands
    (live_may script.setup (length script.lines) word words line read)) made)
    is

later_stands : (script next : Script) (number : ℕ) (word : List ℕ) (words : List (List ℕ)) → Stands script
    → later_rule true script number word words ≡ Ok next → Stands next
unfolding later_rule
later_stands script next number word words stands is =
    either Stands (bytes_eq word (codes "faulty")) (faulty_said script words)
    (cond (is_opening_word word) (refused OutOfOrder) (event_said true script number word words)) next
    (λ faulty found. faulty_stands script next words found)
    (λ other found.
    either Stands (is_opening_word word) (refused OutOfOrder) (event_said true script number word words) next
    (λ opens wrong. never Stands OutOfOrder next wrong)
    (λ event there. event_stands script next number word words stands there) found)
    is

body_stands : (script next : Script) (number : ℕ) (word : List ℕ) (words : List (List ℕ)) → Stands script
    → body_rule true script number word words ≡ Ok next → Stands next
unfolding body_rule
body_stands script next number word words stands is =
    either Stands (bytes_eq word (codes "object")) (object_said script words)
    (cond (has_none script.setup.kinds) (refused ExpectedObject) (later_rule true script number word words)) next
    (λ object found. object_stands script next words found)
    (λ other found.
    either Stands (has_none script.setup.kinds) (refused ExpectedObject) (later_rule true script number word words) next
    (λ none wrong. never Stands ExpectedObject next wrong)
    (λ some there. later_stands script next number word words stands there) found)
    is

-- ---- all lines

abbrev Stood : Phase → Type 0
Stood NeedsBounds = Unit {0}
Stood (NeedsSeed bounds) = Unit {0}
Stood (NeedsClients bounds seed) = Unit {0}
Stood (Body script) = Stands script

said_stands : (phase next : Phase) (number : ℕ) (word : List ℕ) (words : List (List ℕ)) → Stood phase
    → said_rule true phase number word words ≡ Ok next → Stood next
said_stands NeedsBounds next number word words stood is =
    follows Stood _ (λ bounds. given (NeedsSeed bounds)) next
    (λ bounds read made. sure Stood (NeedsSeed bounds) next tt made) is
said_stands (NeedsSeed bounds) next number word words stood is =
    follows Stood _ (λ seed. given (NeedsClients bounds seed)) next
    (λ seed read made. sure Stood (NeedsClients bounds seed) next tt made) is
said_stands (NeedsClients bounds seed) next number word words stood is =
    follows Stood _ (λ clients. given (Body (opening_script bounds seed clients))) next
    (λ clients read made. sure Stood (Body (opening_script bounds seed clients)) next tt made) is
said_stands (Body script) next number word words stood is =
    follows Stood (body_rule true script number word words) (λ script. given (Body script)) next
    (λ after read made.
    sure Stood (Body after) next (body_stands script after number word words stood read) made) is

line_stood : (phase next : Phase) (number : ℕ) (words : List (List ℕ)) → Stood phase
    → line_rule true phase number words ≡ Ok next → Stood next
unfolding line_rule
line_stood phase next number [] stood is = sure Stood phase next stood is
line_stood phase next number (word ∷ words) stood is =
    follows Stood (ascii_word word)
    (λ word.
    cond (is_comment word) (then_good (comment_of words) (λ done. Ok phase))
    (said_rule true phase number word words)) next
    (λ word read rest.
    either Stood (is_comment word) (then_good (comment_of words) (λ done. Ok phase))
    (said_rule true phase number word words) next
    (λ comment found.
    follows Stood (comment_of words) (λ done. given phase) next
    (λ done read made. sure Stood phase next stood made) found)
    (λ says there. said_stands phase next number word words stood there) rest)
    is

end_stands : (phase : Phase) (script : Script) → Stood phase → end_rule phase ≡ Ok script → Stands script
end_stands NeedsBounds script stood is = absurd cc
end_stands (NeedsSeed bounds) script stood is = absurd cc
end_stands (NeedsClients bounds seed) script stood is = absurd cc
end_stands (Body read) script stood is =
    either Stands (has_none read.setup.kinds) (refused ExpectedObject) (given read) script
    (λ none wrong. never Stands ExpectedObject script wrong) (λ some found. sure Stands read script stood found) is

at_line_ok : {X : Type 0} (number : ℕ) (found : Result X BadKind) (x : X) → at_line number found ≡ Ok x
    → found ≡ Ok x
at_line_ok number (Ok found) x is = cc
at_line_ok number (Err kind) x is = absurd cc

lines_stand : (phase : Phase) (number : ℕ) (texts : List (List ℕ)) (script : Script) → Stood phase
    → lines_rule true phase number texts ≡ Ok script → Stands script
unfolding lines_rule
lines_stand phase number [] script stood is =
    end_stands phase script stood (at_line_ok number (end_rule phase) script is)
lines_stand phase number (text ∷ texts) script stood is =
    follows Stands (at_line number (line_rule true phase number (words_in text)))
    (λ next. lines_rule true next (number + 1) texts) script
    (λ next read rest.
    lines_stand next (number + 1) texts script
    (line_stood phase next number (words_in text) stood
    (at_line_ok number (line_rule true phase number (words_in text)) next read)) rest)
    is

-- whatever is read of a script for threads
pub callable : (live : Bool) (texts : List (List ℕ)) (found : Result Script ScriptFail)
    → IsAsMeant (λ (script : Script). script) found (lines_rule live NeedsBounds 1 texts) → live ≡ true
    → IfOk found (λ (script : Script). MayAllCall script.setup (calls_said script.lines))
callable live texts (Ok script) meant is =
    lines_stand NeedsBounds 1 texts script tt
    (subst (λ (live : Bool). lines_rule live NeedsBounds 1 texts ≡ Ok script) is meant)
callable live texts (Err fail) meant is = tt
