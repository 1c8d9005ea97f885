-- What an update makes of a value with bytes has bytes, and so has what it answers, and what a question is told.
use Rattle.std.proofs.Common.{◌≡◌, ℕ, ◌+◌, ◌-◌, ◌^◌, ◌<◌, ◌≤◌, Bool, true, false, cond, nat_lt, nat_le, List, [], ◌∷◌, ◌++◌, length, Option, None, Some, refl, sym, subst, arith, ltb-true}
use Rattle.std.specs.Prelude.{IsTrue}
use Rattle.std.proofs.lemmas.Bool.{leb-true}
use Rattle.std.proofs.lemmas.Bool.Decides.{nat_tests}
use Rattle.qu_base.specs.declared.limits.TheConstants.{CONTENT_LIMIT, NAME_LIMIT, ENTRIES_LIMIT}
use Rattle.qu_base.specs.declared.kind.Item.{Item}
use Rattle.qu_base.specs.declared.kind.Item.TheVariants.{Number, Bytes, Entries}
use Rattle.qu_base.specs.declared.kind.Applied.{Applied}
use Rattle.qu_base.specs.declared.kind.Applied.TheVariants as made
use Rattle.qu_base.specs.declared.kind.Told.{Told}
use Rattle.qu_base.specs.declared.kind.Told.TheVariants as tells
use Rattle.qu_base.specs.Format.{FitsFrom}
use Rattle.qu_base.specs.Texts.{content_form, name_form, listing_form, named_form, after_name}
use Rattle.kind_counter.specs.declared.counter.CounterUpdate.{CounterUpdate}
use Rattle.kind_counter.specs.declared.counter.CounterUpdate.TheVariants as counter
use Rattle.kind_counter.specs.Counter.{counter_form, counter_applied, CounterUpdateFits}
use Rattle.kind_counter.specs.Laws.{counter-first, counter-changed}
use Rattle.kind_blob.specs.declared.blob.BlobUpdate.{BlobUpdate}
use Rattle.kind_blob.specs.declared.blob.BlobUpdate.TheVariants as blob
use Rattle.kind_blob.specs.Blob.{stored, blob_applied}
use Rattle.kind_blob.specs.Laws.{blob-first, blob-changed}
use Rattle.kind_dir.specs.declared.dir.DirUpdate.{DirUpdate}
use Rattle.kind_dir.specs.declared.dir.DirUpdate.TheVariants as dir
use Rattle.kind_dir.specs.declared.refusals.TheConstants.{BAD_NAME, FULL}
use Rattle.kind_dir.specs.Names.{is_good_name}
use Rattle.kind_dir.specs.Dir.{dir_form, is_name, linked_number, with_entry, changed, linked_if_new, unlinked_if_there, dir_applied, found, DirUpdateFits}
use Rattle.kind_dir.specs.Laws.{dir-first, dir-changed}
use Rattle.qu_objects.specs.declared.act.Method.{Method}
use Rattle.qu_objects.specs.declared.act.Method.TheVariants.{Add, Take, Put, Append, Link, Unlink}
use Rattle.qu_objects.specs.declared.query.Ask.{Ask}
use Rattle.qu_objects.specs.declared.query.Ask.TheVariants.{Read, Cat, Find, All}
use Rattle.qu_objects.specs.declared.kind.Value.{Value}
use Rattle.qu_objects.specs.declared.kind.Value.TheVariants.{Counter, Blob, Dir}
use Rattle.qu_objects.specs.declared.kind.KindName.{KindName}
use Rattle.qu_objects.specs.declared.kind.KindName.TheVariants as kind
use Rattle.qu_objects.specs.Kind.{fresh_value, of_kind, applied, value_told}
use Rattle.qu_objects.specs.Performing.{left_by}
use Rattle.qu_objects.specs.Digesting.{MethodFits}
use Rattle.qu_objects.specs.Formats.{method_form, item_form, any_name}
use Rattle.qu_objects.specs.RefusalNumber.{is_kind_refusal}
use Rattle.qu_objects.specs.States.{value_form}
use Rattle.qu_fitting.specs.Fits.{ValueFits}

pub refusal_within : (why : ℕ) → IsTrue (is_kind_refusal why) → why ≤ 255
refusal_within why is = grind (arith, nat_tests)

-- ---- updates and questions that have bytes

content_few : (content : List ℕ) → content_form.Fits content → length content ≤ CONTENT_LIMIT
unfolding content_form
content_few content fits = fits.0.1

name_few : (name : List ℕ) → name_form.Fits name → length name ≤ NAME_LIMIT
unfolding name_form
name_few name fits = fits.0.1

pub method_numbers : (method : Method) → method_form.Fits method → MethodFits method
unfolding method_form
method_numbers (Add more) fits = let high : more ≤ 2 ^ 64 - 1 = (fits.1).1 in omega (arith, high)
method_numbers (Take fewer) fits = let high : fewer ≤ 2 ^ 64 - 1 = (fits.1).1 in omega (arith, high)
method_numbers (Put content) fits = content_few content fits.1
method_numbers (Append more) fits = content_few more fits.1
method_numbers (Link name number) fits =
    (name_few name fits.1.0, let high : number ≤ 2 ^ 64 - 1 = (fits.1.1).1 in omega (arith, high))
method_numbers (Unlink name) fits = name_few name fits.1

-- ---- items

number_fits : (number : ℕ) → number ≤ 2 ^ 64 - 1 → item_form.Fits (Number number)
unfolding item_form
number_fits number within = (((omega arith, omega arith), refl), (omega arith, within))

bytes_fits : (content : List ℕ) → content_form.Fits content → item_form.Fits (Bytes content)
unfolding item_form
bytes_fits content fits = (((omega arith, omega arith), refl), fits)

entries_fits : (entries : List (List ℕ × ℕ)) → (listing_form any_name).Fits entries
    → item_form.Fits (Entries entries)
unfolding item_form
entries_fits entries fits = (((omega arith, omega arith), refl), fits)

-- names that a directory accepts are names
any_names : (before : Option (List ℕ)) (entries : List (List ℕ × ℕ))
    → FitsFrom (named_form is_good_name) after_name before entries
    → FitsFrom (named_form any_name) after_name before entries
unfolding named_form
any_names before [] fits = tt
any_names before (entry ∷ later) fits =
    (((((fits.0.0).0.0, refl), (fits.0.0).1), fits.0.1), any_names (Some entry.0) later fits.1)

listing_fits : (entries : List (List ℕ × ℕ)) → dir_form.Fits entries → (listing_form any_name).Fits entries
unfolding dir_form listing_form
listing_fits entries fits = (fits.0, (fits.1.0, any_names None entries fits.1.1))

-- ---- what each kind makes of a value, and tells

-- what is made of a value of a kind: the item has bytes, or the refusal one of the kinds' numbers
abbrev ItemFits : {V : Type 0} → Applied V → Type 0
ItemFits (made.Changed value item) = item_form.Fits item
ItemFits (made.Refused why) = IsTrue (is_kind_refusal why)

abbrev pub ToldFits : Told → Type 0
ToldFits (tells.Item item) = item_form.Fits item
ToldFits (tells.Refused why) = IsTrue (is_kind_refusal why)

either_fits : {V : Type 0} (test : Bool) (one other : Applied V) → (test ≡ true → ItemFits one)
    → (test ≡ false → ItemFits other) → ItemFits (cond test one other)
either_fits true one other first second = first refl
either_fits false one other first second = second refl

counter_item : (update : CounterUpdate) (number : ℕ) → CounterUpdateFits update → counter_form.Fits number
    → ItemFits (counter_applied update number)
unfolding counter_form
counter_item (counter.Add more) number numbers fits =
    either_fits (nat_lt (number + more) (2 ^ 64)) _ _
    (λ is. let below : number + more < 2 ^ 64 = ltb-true _ _ is in number_fits (number + more) (omega (arith, below)))
    (λ not_so. refl)
counter_item (counter.Take fewer) number numbers fits =
    either_fits (nat_lt number fewer) _ _ (λ is. refl)
    (λ not_so. number_fits (number - fewer) (omega (arith, fits.1)))

stored_item : (content : List ℕ) → ItemFits (stored content)
stored_item content =
    either_fits (nat_le (length content) CONTENT_LIMIT) _ _
    (λ is. let few : length content ≤ CONTENT_LIMIT = leb-true _ _ is in
    number_fits (length content) (omega (arith, few)))
    (λ not_so. refl)

blob_item : (update : BlobUpdate) (content : List ℕ) → ItemFits (blob_applied update content)
blob_item (blob.Put content) value = stored_item content
blob_item (blob.Append more) value = stored_item (value ++ more)

-- a directory that has bytes has few entries
few_entries : (entries : List (List ℕ × ℕ)) → dir_form.Fits entries → length entries ≤ ENTRIES_LIMIT
unfolding dir_form listing_form
few_entries entries fits = fits.0.1

-- how many entries there are after it is told, or a refusal
abbrev Counts : Applied (List (List ℕ × ℕ)) → Type 0
Counts (made.Changed after item) = item ≡ Number (length after)
Counts (made.Refused why) = IsTrue (is_kind_refusal why)

either_counts : (test : Bool) (one other : Applied (List (List ℕ × ℕ))) → Counts one → Counts other
    → Counts (cond test one other)
either_counts true one other first second = first
either_counts false one other first second = second

counts_new : (there : Option ℕ) (name : List ℕ) (number : ℕ) (entries : List (List ℕ × ℕ))
    → Counts (linked_if_new there name number entries)
counts_new (Some other) name number entries = refl
counts_new None name number entries =
    either_counts (nat_le ENTRIES_LIMIT (length entries)) (made.Refused FULL)
    (changed (with_entry name number entries)) refl refl

counts_there : (there : Option ℕ) (name : List ℕ) (entries : List (List ℕ × ℕ))
    → Counts (unlinked_if_there there name entries)
counts_there None name entries = refl
counts_there (Some number) name entries = refl

counts : (update : DirUpdate) (entries : List (List ℕ × ℕ)) → Counts (dir_applied update entries)
counts (dir.Link name number) entries =
    either_counts (is_good_name name) (linked_if_new (linked_number name entries) name number entries)
    (made.Refused BAD_NAME) (counts_new (linked_number name entries) name number entries) refl
counts (dir.Unlink name) entries = counts_there (linked_number name entries) name entries

by_count : (outcome : Applied (List (List ℕ × ℕ))) → Counts outcome
    → ((after : List (List ℕ × ℕ)) (item : Item) → outcome ≡ made.Changed after item → dir_form.Fits after)
    → ItemFits outcome
by_count (made.Changed after item) is fits =
    let few : length after ≤ ENTRIES_LIMIT = few_entries after (fits after item refl) in
    subst (λ (it : Item). item_form.Fits it) (sym is) (number_fits (length after) (omega (arith, few)))
by_count (made.Refused why) is fits = is

dir_item : (update : DirUpdate) (entries : List (List ℕ × ℕ)) → DirUpdateFits update → dir_form.Fits entries
    → ItemFits (dir_applied update entries)
dir_item update entries numbers fits =
    by_count (dir_applied update entries) (counts update entries)
    (λ after item is. dir-changed update entries after item numbers fits is)

either_found : (test : Bool) (number : ℕ) (rest : Option ℕ) → number ≤ 2 ^ 64 - 1 → ToldFits (found rest)
    → ToldFits (found (cond test (Some number) rest))
either_found true number rest within fits = number_fits number within
either_found false number rest within fits = fits

found_fits : (name : List ℕ) (before : Option (List ℕ)) (entries : List (List ℕ × ℕ))
    → FitsFrom (named_form is_good_name) after_name before entries → ToldFits (found (linked_number name entries))
unfolding named_form
found_fits name before [] fits = refl
found_fits name before (entry ∷ later) fits =
    either_found (is_name name entry.0) entry.1 (linked_number name later) (fits.0.1).1
    (found_fits name (Some entry.0) later fits.1)

found_in : (name : List ℕ) (entries : List (List ℕ × ℕ)) → dir_form.Fits entries
    → ToldFits (found (linked_number name entries))
unfolding dir_form listing_form
found_in name entries fits = found_fits name None entries fits.1.1

-- ---- values of all kinds

-- what is made of a value: it has bytes and so has the item, or the refusal is one of the kinds
abbrev pub IsFitting : Applied Value → Type 0
IsFitting (made.Changed after item) = ValueFits after × item_form.Fits item
IsFitting (made.Refused why) = IsTrue (is_kind_refusal why)

fitting_of : {V : Type 0} (wrap : V → Value) (Fits : V → Type 0) → ((it : V) → Fits it → ValueFits (wrap it))
    → (outcome : Applied V) → ItemFits outcome
    → ((after : V) (item : Item) → outcome ≡ made.Changed after item → Fits after)
    → IsFitting (of_kind wrap outcome)
fitting_of wrap Fits wraps (made.Changed after item) is fits = (wraps after (fits after item refl), is)
fitting_of wrap Fits wraps (made.Refused why) is fits = is

of_counter_fits : (number : ℕ) → counter_form.Fits number → ValueFits (Counter number)
unfolding value_form
of_counter_fits number fits = (((omega arith, omega arith), refl), fits)

of_blob_fits : (content : List ℕ) → content_form.Fits content → ValueFits (Blob content)
unfolding value_form
of_blob_fits content fits = (((omega arith, omega arith), refl), fits)

of_dir_fits : (entries : List (List ℕ × ℕ)) → dir_form.Fits entries → ValueFits (Dir entries)
unfolding value_form
of_dir_fits entries fits = (((omega arith, omega arith), refl), fits)

counter_fitting : (update : CounterUpdate) (number : ℕ) → CounterUpdateFits update → counter_form.Fits number
    → IsFitting (of_kind Counter (counter_applied update number))
counter_fitting update number numbers fits =
    fitting_of Counter counter_form.Fits of_counter_fits (counter_applied update number)
    (counter_item update number numbers fits)
    (λ after item is. counter-changed update number after item numbers fits is)

blob_fitting : (update : BlobUpdate) (content : List ℕ) → content_form.Fits content
    → IsFitting (of_kind Blob (blob_applied update content))
blob_fitting update content fits =
    fitting_of Blob content_form.Fits of_blob_fits (blob_applied update content) (blob_item update content)
    (λ after item is. blob-changed update content after item tt fits is)

dir_fitting : (update : DirUpdate) (entries : List (List ℕ × ℕ)) → DirUpdateFits update → dir_form.Fits entries
    → IsFitting (of_kind Dir (dir_applied update entries))
dir_fitting update entries numbers fits =
    fitting_of Dir dir_form.Fits of_dir_fits (dir_applied update entries) (dir_item update entries numbers fits)
    (λ after item is. dir-changed update entries after item numbers fits is)

pub applied_fits : (method : Method) (value : Value) → MethodFits method → ValueFits value
    → IsFitting (applied method value)
unfolding value_form
applied_fits (Add more) (Counter number) numbers fits = counter_fitting (counter.Add more) number numbers fits.1
applied_fits (Take fewer) (Counter number) numbers fits = counter_fitting (counter.Take fewer) number numbers fits.1
applied_fits (Put content) (Counter number) numbers fits = refl
applied_fits (Append more) (Counter number) numbers fits = refl
applied_fits (Link name other) (Counter number) numbers fits = refl
applied_fits (Unlink name) (Counter number) numbers fits = refl
applied_fits (Add more) (Blob content) numbers fits = refl
applied_fits (Take fewer) (Blob content) numbers fits = refl
applied_fits (Put other) (Blob content) numbers fits = blob_fitting (blob.Put other) content fits.1
applied_fits (Append more) (Blob content) numbers fits = blob_fitting (blob.Append more) content fits.1
applied_fits (Link name number) (Blob content) numbers fits = refl
applied_fits (Unlink name) (Blob content) numbers fits = refl
applied_fits (Add more) (Dir entries) numbers fits = refl
applied_fits (Take fewer) (Dir entries) numbers fits = refl
applied_fits (Put content) (Dir entries) numbers fits = refl
applied_fits (Append more) (Dir entries) numbers fits = refl
applied_fits (Link name number) (Dir entries) numbers fits =
    dir_fitting (dir.Link name number) entries numbers.1 fits.1
applied_fits (Unlink name) (Dir entries) numbers fits = dir_fitting (dir.Unlink name) entries tt fits.1

pub value_told-fits : (ask : Ask) (value : Value) → ValueFits value → ToldFits (value_told ask value)
unfolding value_form counter_form
value_told-fits Read (Counter number) fits = number_fits number (fits.1).1
value_told-fits Cat (Counter number) fits = refl
value_told-fits (Find name) (Counter number) fits = refl
value_told-fits All (Counter number) fits = refl
value_told-fits Read (Blob content) fits = refl
value_told-fits Cat (Blob content) fits = bytes_fits content fits.1
value_told-fits (Find name) (Blob content) fits = refl
value_told-fits All (Blob content) fits = refl
value_told-fits Read (Dir entries) fits = refl
value_told-fits Cat (Dir entries) fits = refl
value_told-fits (Find name) (Dir entries) fits = found_in name entries fits.1
value_told-fits All (Dir entries) fits = entries_fits entries (listing_fits entries fits.1)

-- a question leaves the value
pub left_fits : (value : Value) (told : Told) → ValueFits value → ToldFits told → IsFitting (left_by value told)
left_fits value (tells.Item item) fits is = (fits, is)
left_fits value (tells.Refused why) fits is = is

-- the first value of a kind has bytes
pub fresh_fits : (kind : KindName) → ValueFits (fresh_value kind)
fresh_fits kind.Counter = of_counter_fits 0 counter-first
fresh_fits kind.Blob = of_blob_fits [] blob-first
fresh_fits kind.Dir = of_dir_fits [] dir-first
