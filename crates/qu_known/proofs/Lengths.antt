-- How long the spelling of a reply is at most: replies of few histories are short enough to be decoded.
use Rattle.std.proofs.Common.{◌≡◌, ℕ, ◌+◌, ◌*◌, ◌^◌, ◌≤◌, ◌==◌, Bool, true, false, List, [], ◌∷◌, ◌++◌, length, Option, None, Some, arith, length-append}
use Rattle.std.specs.List.{flat_map}
use Rattle.std.specs.Int.{Width, w8, w16, w64, byte_len, to_be_bytes}
use Rattle.std.proofs.Math.Nat.{suc-mul}
use Rattle.std.proofs.lemmas.Bool.Decides.{nat_tests}
use Rattle.std.proofs.lemmas.Nat.{mul-le}
use Rattle.qu_base.specs.declared.bad_text.Why.{Why}
use Rattle.qu_base.specs.declared.bad_text.Why.TheVariants.{Range, Order}
use Rattle.qu_base.specs.declared.party.ClientId.{ClientId}
use Rattle.qu_base.specs.declared.party.ObjectId.{ObjectId}
use Rattle.qu_base.specs.declared.party.ReplicaId.{ReplicaId}
use Rattle.qu_base.specs.Bounds.{is_replica_count}
use Rattle.qu_base.specs.Format.{Format, number, bytes, nothing, both, tested, FitsPart, spelled_part, made, either, FitsFrom, counted, flag, optional, tagged, digest_form, object_form, replica_form, client_form}
use Rattle.qu_base.proofs.Formats.{IsWide, wide8, wide16, wide64}
use Rattle.qu_stamp.specs.declared.stamp.Stamp.{Stamp}
use Rattle.qu_stamp.specs.declared.candidate.Candidate.{Candidate}
use Rattle.qu_stamp.specs.Formats.{least_client, most_client, stamp_client_form, stamp_with, stamp_form, next_stamp, object_from, member_form, spelled_member, after_member, may_be_size, members_form, group_form, basis_form, candidate_with, spelled_candidate}
use Rattle.qu_stamp.specs.declared.limits.TheConstants.{LAST_TIME}
use Rattle.qu_history.specs.declared.limits.TheConstants.{HISTORY_LIMIT, OBJECTS_LIMIT}
use Rattle.qu_history.specs.declared.sealed.Sealed.{Sealed}
use Rattle.qu_history.specs.History.{ObjectHistory}
use Rattle.qu_history.specs.Formats.{next_candidate, candidates_form, history_with, history_form, macs_form, sealed_with, sealed_form, sealed_from, object_after, shown_form}
use Rattle.qu_objects.specs.declared.answer.Answer.TheVariants as answer
use Rattle.qu_base.specs.declared.kind.Item.TheVariants.{Number, Bytes, Entries}
use Rattle.qu_base.specs.declared.limits.TheConstants.{CONTENT_LIMIT, NAME_LIMIT, ENTRIES_LIMIT}
use Rattle.qu_objects.specs.declared.limits.TheConstants.{MOST_PARTS}
use Rattle.qu_base.specs.Texts.{word_form, sized, content_form, name_form, named_form, after_name, spelled_name, listing_form}
use Rattle.qu_objects.specs.Formats.{is_item_code, item_code, item_number, item_bytes, item_entries, any_name, item_body, item_form, items_form, part_refusal_form, is_answer_code, answer_code, answer_body, answer_form}
use Rattle.qu_objects.specs.Formats as objects
use Rattle.qu_frames.specs.declared.limits.TheConstants.{TEXT_LIMIT, CULLED_LIMIT}
use Rattle.qu_frames.specs.declared.frame.Frame.TheVariants.{Reply}
use Rattle.qu_verdicts.specs.declared.refusal_number.TheConstants.{NOT_CURRENT, NOT_METHOD, SPENT}
use Rattle.qu_verdicts.specs.declared.verdict.Verdict.{Verdict}
use Rattle.qu_verdicts.specs.declared.verdict.Verdict.TheVariants.{Already, Refused}
use Rattle.qu_frames.specs.Formats.{spelled_pair, pair_after, culled_form, round_form, ReplyFields, reply_form, reply_frame, kind_form, frame_form}
use Rattle.qu_verdicts.specs.Formats.{latest_told, class_refused, number_told, plain_refusal, plain_object, refusal_body, refusal_form, stamp_from, spelled_stamp, after_told, stamps_form, answered_form, verdict_body, verdict_form}
use Rattle.qu_verdicts.specs.Formats as verdicts

-- each spelling has at most so many bytes
record IsShort {V : Type 0} (most : ℕ) (form : Format V) : Type 0 where
  within : (value : V) → form.Fits value → length (form.spell value) ≤ most

-- ---- formats of formats

shorter : {V : Type 0} (few most : ℕ) (form : Format V) → few ≤ most → IsShort few form → IsShort most form
shorter few most form less short = record { within = λ value fits. omega (arith, less, short.within value fits) }

number-short : (width : Width) (limit least most : ℕ) → IsWide width limit
    → IsShort (byte_len width) (number width least most)
number-short width limit least most wide = record { within = λ value fits. omega (arith, wide.size value) }

bytes-short : (count : ℕ) → IsShort count (bytes count)
bytes-short count = record { within = λ value fits. omega (arith, fits) }

nothing-short : {V : Type 0} (known : V) → IsShort 0 (nothing known)
nothing-short known = record { within = λ value fits. omega arith }

both-short : {V W : Type 0} (one two : ℕ) (first : Format V) (second : V → Format W) → IsShort one first
    → ((value : V) → IsShort two (second value)) → IsShort (one + two) (both first second)
both-short one two first second short_first short_second = record {
  within = λ pair fits. omega (
    arith,
    length-append (first.spell pair.0) ((second pair.0).spell pair.1),
    short_first.within pair.0 fits.0,
    (short_second pair.0).within pair.1 fits.1,
  );
}

tested-short : {V : Type 0} (most : ℕ) (test : V → Bool) (why : Why) (form : Format V) → IsShort most form
    → IsShort most (tested test why form)
tested-short most test why form short = record { within = λ value fits. short.within value fits.0 }

made-short : {V W : Type 0} (most : ℕ) (make : V → W) (part : W → Option V) (form : Format V) → IsShort most form
    → IsShort most (made make part form)
made-short {V = V} most make part form short = record { within = λ value fits. by (part value) fits }
  where
    by : (found : Option V) → FitsPart form found → length (spelled_part form found) ≤ most
    by None fits = absurd fits
    by (Some found) fits = short.within found fits

fields-short : {V W : Type 0} (most : ℕ) (make : V → W) (fields : W → V) (form : Format V) → IsShort most form
    → IsShort most (made make (λ value. Some (fields value)) form)
fields-short most make fields form short = made-short most make (λ value. Some (fields value)) form short

either-short : {V : Type 0} (most : ℕ) (which : Bool) (first second : Format V) → IsShort most first
    → IsShort most second → IsShort most (either which first second)
either-short most true first second short_first short_second = short_first
either-short most false first second short_first short_second = short_second

-- as many times the most of one item as there are items
items-short : {K V : Type 0} (size : ℕ) (spell : V → List ℕ) (item : K → Format V) (next : V → K)
    → ((key : K) (value : V) → (item key).Fits value → length (spell value) ≤ size)
    → (key : K) (values : List V) → FitsFrom item next key values
    → length (flat_map spell values) ≤ length values * size
items-short size spell item next short key [] fits = omega arith
items-short size spell item next short key (value ∷ later) fits =
    omega (
      arith,
      suc-mul (length later) size,
      length-append (spell value) (flat_map spell later),
      short key value fits.0,
      items-short size spell item next short (next value) later fits.1,
    )

counted-short : {K V : Type 0} (head most size : ℕ) (count : Format ℕ) (spell : V → List ℕ) (item : K → Format V)
    (next : V → K) (key : K) → IsShort head count → ((many : ℕ) → count.Fits many → many ≤ most)
    → ((key : K) (value : V) → (item key).Fits value → length (spell value) ≤ size)
    → IsShort (head + most * size) (counted count spell item next key)
counted-short head most size count spell item next key short_count few short = record {
  within = λ values fits. omega (
    arith,
    length-append (count.spell (length values)) (flat_map spell values),
    short_count.within (length values) fits.0,
    items-short size spell item next short key values fits.1.1,
    mul-le (length values) size most size (few (length values) fits.0) (omega arith),
  );
}

flag-short : (may : Bool) → IsShort 1 (flag may)
flag-short may = fields-short 1 _ _ _ (number-short w8 (2 ^ 8) 0 _ wide8)

optional-short : {V : Type 0} (most : ℕ) (may : Bool) (form : Format V) → IsShort most form
    → IsShort (1 + most) (optional may form)
optional-short most may form short =
    fields-short (1 + most) _ _ _
    (both-short 1 most (flag may) _ (flag-short may) (λ there.
    either-short most there _ _ (made-short most Some (λ value. value) form short)
    (shorter 0 most (nothing None) (omega arith) (nothing-short None))))

tagged-short : {V : Type 0} (most : ℕ) (is_code : ℕ → Bool) (code : V → ℕ) (body : ℕ → Format V)
    → ((tag : ℕ) → IsShort most (body tag)) → IsShort (1 + most) (tagged is_code code body)
tagged-short most is_code code body short =
    fields-short (1 + most) _ _ _
    (both-short 1 most _ body
    (tested-short 1 is_code Range _ (number-short w8 (2 ^ 8) 0 255 wide8)) short)

-- ---- fields

byte-short : (least most : ℕ) → IsShort 1 (number w8 least most)
byte-short least most = number-short w8 (2 ^ 8) least most wide8

two-short : (least most : ℕ) → IsShort 2 (number w16 least most)
two-short least most = number-short w16 (2 ^ 16) least most wide16

eight-short : (least most : ℕ) → IsShort 8 (number w64 least most)
eight-short least most = number-short w64 (2 ^ 64) least most wide64

digest-short : IsShort 32 digest_form
digest-short = fields-short 32 _ _ _ (bytes-short 32)

object-short : IsShort 2 object_form
object-short = fields-short 2 _ _ _ (two-short 0 _)

replica-short : IsShort 1 replica_form
replica-short = fields-short 1 _ _ _ (byte-short 0 _)

client-short : IsShort 2 client_form
client-short = fields-short 2 _ _ _ (two-short 1 _)

-- ---- stamps and histories

stamp_client-short : (time : ℕ) → IsShort 2 (stamp_client_form time)
stamp_client-short time = fields-short 2 _ _ _ (two-short (least_client time) (most_client time))

stamp-short : (may : Bool) → IsShort 76 (stamp_with may)
unfolding stamp_with
stamp-short may =
    fields-short 76 _ _ _
    (both-short 8 68 _ _ (eight-short 0 _) (λ time.
    both-short 1 67 _ _ (flag-short _) (λ barrier.
    both-short 2 65 _ _ (stamp_client-short time) (λ client.
    both-short 33 32 _ _ (optional-short 32 _ digest_form digest-short) (λ act.
    tested-short 32 _ Range digest_form digest-short)))))

few_members : (stamp : Stamp) (many : ℕ) → may_be_size stamp many ≡ true → many ≤ 4
few_members stamp many may = grind (arith, nat_tests)

member-short : (least : ℕ) (member : ObjectId × ℕ) → (member_form least).Fits member
    → length (spelled_member member) ≤ 10
unfolding member_form
member-short least member fits =
    (both-short 2 8 (object_from least) _ (tested-short 2 _ Order object_form object-short)
    (λ object. eight-short 1 LAST_TIME)).within member fits

group-short : (object : ObjectId) (stamp : Stamp) → IsShort 41 (group_form object stamp)
unfolding group_form members_form
group-short object stamp =
    tested-short 41 _ Range _
    (counted-short 1 4 10 (tested (may_be_size stamp) Range (number w8 0 255)) spelled_member member_form after_member 0
    (tested-short 1 _ Range _ (byte-short 0 255)) (λ many fits. few_members stamp many fits.1) member-short)

candidate_with-short : (object : ObjectId) (own : Format Stamp) → IsShort 76 own
    → IsShort 193 (candidate_with object own)
unfolding basis_form
candidate_with-short object own short =
    fields-short 193 _ _ _
    (both-short 76 117 own (basis_form object) short (λ stamp.
    both-short 76 41 _ _ (tested-short 76 _ Range stamp_form (stamp-short true)) (λ prior. group-short object stamp)))

next-short : (object : ObjectId) (before : Option Stamp) (candidate : Candidate)
    → (next_candidate object before).Fits candidate → length (spelled_candidate candidate) ≤ 193
unfolding next_candidate basis_form group_form members_form
next-short object None candidate fits =
    (candidate_with-short object (next_stamp None) (tested-short 76 _ Range stamp_form (stamp-short true))).within
    candidate fits
next-short object (Some before) candidate fits =
    (candidate_with-short object (next_stamp (Some before))
    (tested-short 76 _ Order stamp_form (stamp-short true))).within candidate fits

candidates-short : (object : ObjectId) → IsShort 197634 (candidates_form object)
unfolding candidates_form
candidates-short object =
    counted-short 2 1024 193 (number w16 1 HISTORY_LIMIT) spelled_candidate (next_candidate object)
    (λ candidate. Some candidate.stamp) None (two-short 1 _) (λ many fits. fits.1) (next-short object)

macs-short : IsShort 8161 macs_form
macs-short =
    counted-short {K = Unit {0}} 1 255 32 (tested is_replica_count Range (number w8 0 255)) (λ mac. mac)
    (λ before. bytes 32) (λ mac. tt) tt (tested-short 1 _ Range _ (byte-short 0 255)) (λ many fits. fits.0.1)
    (λ before mac fits. (bytes-short 32).within mac fits)

-- of an object and a replica of any formats of these sizes
history-short : (object : Format ObjectId) (replica : Format ReplicaId) → IsShort 2 object → IsShort 1 replica
    → IsShort 197637 (history_with object replica)
history-short object replica short_object short_replica =
    fields-short 197637 _ _ _
    (both-short 2 197635 object _ short_object (λ of. both-short 1 197634 replica _ short_replica
    (λ _. candidates-short of)))

sealed-short : (form : Format ObjectHistory) → IsShort 197637 form → IsShort 205798 (sealed_with form)
sealed-short form short = fields-short 205798 _ _ _ (both-short 197637 8161 form _ short (λ _. macs-short))

shown_by-short : (me : ReplicaId) (least : ℕ) (sealed : Sealed) → (sealed_from me least).Fits sealed
    → length (sealed_form.spell sealed) ≤ 205798
unfolding sealed_from sealed_form history_form
shown_by-short me least sealed fits =
    (sealed-short _
    (history-short (object_from least) (tested (λ (other : ReplicaId). other.0 == me.0) Range replica_form)
    (tested-short 2 _ Order object_form object-short) (tested-short 1 _ Range replica_form replica-short))).within
    sealed fits

shown-short : (me : ReplicaId) → IsShort 1646385 (shown_form me)
unfolding shown_form
shown-short me =
    counted-short 1 8 205798 (number w8 0 OBJECTS_LIMIT) sealed_form.spell (sealed_from me) object_after 0 (byte-short
    0 _)
    (λ many fits. fits.1) (shown_by-short me)

-- ---- verdicts

-- a length, and what is no longer than it may be
sized-short : (head most : ℕ) (count : Format ℕ) → IsShort head count → ((many : ℕ) → count.Fits many → many ≤ most)
    → IsShort (head + most) (sized count)
sized-short head most count short few = record {
  within = λ content fits. omega (
    arith,
    length-append (count.spell (length content)) content,
    short.within (length content) fits.0,
    few (length content) fits.0,
  );
}

name-short : IsShort 256 name_form
unfolding name_form
name-short = sized-short 1 255 (number w8 0 NAME_LIMIT) (byte-short 0 _) (λ many fits. fits.1)

content-short : IsShort 4098 content_form
unfolding content_form
content-short =
    sized-short 2 4096 (number w16 0 CONTENT_LIMIT) (two-short 0 _) (λ many fits. fits.1)

named-short : (before : Option (List ℕ)) (entry : List ℕ × ℕ) → (named_form any_name before).Fits entry
    → length (spelled_name entry) ≤ 264
unfolding named_form
named-short before entry fits =
    omega (
      arith,
      length-append (name_form.spell entry.0) (word_form.spell entry.1),
      name-short.within entry.0 ((fits.0).0).0,
      (eight-short 0 _).within entry.1 fits.1,
    )

listing-short : IsShort 67586 (listing_form any_name)
unfolding listing_form
listing-short =
    counted-short 2 256 264 (number w16 0 ENTRIES_LIMIT) spelled_name (named_form any_name) after_name None
    (two-short 0 _) (λ many fits. fits.1) named-short

item-short : IsShort 67587 item_form
unfolding item_form
item-short =
    tagged-short 67586 is_item_code item_code item_body (λ code.
    either-short 67586 (code == 1) _ _
    (made-short 67586 Number item_number word_form (shorter 8 67586 word_form (omega arith) (eight-short 0 _)))
    (either-short 67586 (code == 2) _ _
    (made-short 67586 Bytes item_bytes content_form (shorter 4098 67586 content_form (omega arith) content-short))
    (made-short 67586 Entries item_entries (listing_form any_name) listing-short)))

answer-short : IsShort 270350 answer_form
unfolding answer_form
answer-short =
    tagged-short 270349 is_answer_code answer_code answer_body (λ code.
    either-short 270349 _ _ _
    (made-short 270349 answer.Ok objects.answered items_form
    (counted-short {K = Unit {0}} 1 4 67587 (number w8 1 MOST_PARTS) item_form.spell (λ before. item_form) (λ item. tt)
    tt (byte-short 1 _) (λ many fits. fits.1) (λ before item fits. item-short.within item fits)))
    (made-short 270349 _ objects.refused_part part_refusal_form
    (shorter 2 270349 _ (omega arith)
    (both-short 1 1 _ _ (byte-short 0 _) (λ at. tested-short 1 _ Range _ (byte-short 0 255))))))

told-short : IsShort 78 (both object_form (λ object. stamp_form))
told-short = both-short 2 76 object_form _ object-short (λ object. stamp-short true)

refusal-short : IsShort 79 refusal_form
unfolding refusal_form
refusal-short =
    tagged-short 78 _ _ refusal_body (λ code.
    either-short 78 (code == NOT_CURRENT) _ _ (made-short 78 _ latest_told _ told-short)
    (either-short 78 (code == NOT_METHOD) _ _
    (made-short 78 _ class_refused _
    (shorter 3 78 _ (omega arith) (both-short 2 1 object_form _ object-short
    (λ object. fields-short 1 _ _ _ (byte-short 2 6)))))
    (either-short 78 (code == SPENT) _ _
    (made-short 78 _ number_told _
    (shorter 10 78 _ (omega arith) (both-short 2 8 object_form _ object-short (λ object. eight-short 0 _))))
    (made-short 78 (plain_refusal code) (plain_object code) object_form
    (shorter 2 78 object_form (omega arith) object-short)))))

stamps-short : IsShort 313 stamps_form
unfolding stamps_form
stamps-short =
    counted-short 1 4 78 (number w8 1 MOST_PARTS) spelled_stamp stamp_from after_told 0 (byte-short 1 _)
    (λ many fits. fits.1)
    (λ least told fits. (both-short 2 76 (object_from least) _ (tested-short 2 _ Order object_form object-short)
    (λ object. stamp-short true)).within told fits)

verdict-short : IsShort 270664 verdict_form
unfolding verdict_form
verdict-short =
    let answered : IsShort 270663 answered_form =
    both-short 313 270350 stamps_form _ stamps-short (λ stamps. answer-short) in
    tagged-short 270663 _ _ verdict_body (λ code.
    either-short 270663 (code == 1) _ _ (made-short 270663 _ verdicts.done answered_form answered)
    (either-short 270663 (code == 2) _ _ (made-short 270663 _ verdicts.told answered_form answered)
    (either-short 270663 (code == 3) _ _
    (made-short 270663 Already verdicts.already answer_form
    (shorter 270350 270663 answer_form (omega arith) answer-short))
    (either-short 270663 (code == 4) _ _
    (made-short 270663 _ verdicts.mended _ (shorter 78 270663 _ (omega arith) told-short))
    (made-short 270663 Refused verdicts.refusal refusal_form
    (shorter 79 270663 refusal_form (omega arith) refusal-short))))))

-- ---- replies

culled-short : IsShort 385 culled_form
unfolding culled_form
culled-short =
    counted-short 1 128 3 (number w8 0 CULLED_LIMIT) spelled_pair pair_after (λ pair. Some pair) None (byte-short 0 _)
    (λ many fits. fits.1)
    (λ before pair fits. (both-short 2 1 object_form _ object-short (λ object. replica-short)).within pair fits.0)

reply_form-short : IsShort 1917478 reply_form
reply_form-short =
    both-short 1 1917477 replica_form _ replica-short (λ replica.
    both-short 2 1917475 client_form _ client-short (λ client.
    both-short 8 1917467 word_form _ (eight-short 0 _) (λ number.
    both-short 1 1917466 round_form _ (byte-short 1 _) (λ round.
    both-short 270664 1646802 verdict_form _ verdict-short (λ verdict.
    both-short 385 1646417 culled_form _ culled-short (λ culled.
    both-short 1646385 32 (shown_form replica) _ (shown-short replica) (λ shown. bytes-short 32)))))))

-- so each reply is short enough to be decoded
pub reply-short : (replica : ReplicaId) (client : ClientId) (number round : ℕ) (verdict : Verdict)
    (culled : List (ObjectId × ReplicaId)) (shown : List Sealed) (mac : List ℕ)
    → frame_form.Fits (Reply replica client number round verdict culled shown mac)
    → length (frame_form.spell (Reply replica client number round verdict culled shown mac)) ≤ TEXT_LIMIT
unfolding frame_form kind_form reply_frame
reply-short replica client number round verdict culled shown mac fits =
    let fields : ReplyFields = (replica, (client, (number, (round, (verdict, (culled, (shown, mac))))))) in
    omega (
      arith,
      length-append (to_be_bytes w8 1) (to_be_bytes w8 2 ++ reply_form.spell fields),
      length-append (to_be_bytes w8 2) (reply_form.spell fields),
      reply_form-short.within fields fits.1.1,
    )
