-- How an act of a client stands to what the versions of its objects keep of this client.
use Rattle.std.specs.Prelude.{ℕ, ◌<◌, ⊤, ◌==◌, Bool, true, false, ◌&&◌, nat_le, if◌then◌else◌, List, [], ◌∷◌, Option, None, Some}
use Rattle.std.specs.List.{list_all, AllByRecursion}
use Rattle.qu_base.specs.declared.party.ClientId.{ClientId}
use Rattle.qu_base.specs.declared.party.Digest.{Digest}
use Rattle.qu_base.specs.declared.party.ObjectId.{ObjectId}
use Rattle.qu_stamp.specs.Stamp.{same_digest}
use Rattle.qu_objects.specs.declared.act.Method.{Method}
use Rattle.qu_objects.specs.declared.state.KeptRow.{KeptRow}
use Rattle.qu_objects.specs.declared.state.ObjState.{ObjState}
use Rattle.qu_kept.specs.declared.repeats.Standing.{Standing}
use Rattle.qu_kept.specs.declared.repeats.Standing.TheVariants.{Fresh, Already, Spent}
use Rattle.qu_kept.specs.Rows.{row_of}

-- whether the row is that of exactly this act
abbrev pub is_of_act : ℕ → Digest → Option KeptRow → Bool
is_of_act number act None = false
is_of_act number act (Some row) = row.number == number && same_digest row.act act

-- the act is the client's last one of each object
abbrev pub is_repeated : ClientId → ℕ → Digest → List ObjState → Bool
is_repeated client number act states = list_all (λ state. is_of_act number act (row_of client state.kept)) states

-- what was answered is told by the row of the first object
abbrev pub told_again : Option KeptRow → Standing
told_again None = Fresh
told_again (Some row) = Already row.answer

abbrev pub told_by_first : ClientId → List ObjState → Standing
told_by_first client [] = Fresh
told_by_first client (state ∷ states) = told_again (row_of client state.kept)

-- a row with this number or a later one spends it, otherwise the later objects decide
abbrev pub spent_or : ℕ → ObjectId → Standing → Option KeptRow → Standing
spent_or number object later None = later
spent_or number object later (Some row) = if nat_le number row.number then Spent object row.number else later

-- the first object that keeps a number of the client which is at least this one
abbrev pub first_spent : ClientId → ℕ → List (ObjectId × Method) → List ObjState → Standing
first_spent client number [] states = Fresh
first_spent client number (part ∷ parts) [] = Fresh
first_spent client number (part ∷ parts) (state ∷ states) =
    spent_or number part.0 (first_spent client number parts states) (row_of client state.kept)

abbrev pub standing_of : ClientId → ℕ → Digest → List (ObjectId × Method) → List ObjState → Standing
standing_of client number act parts states =
    if is_repeated client number act states then told_by_first client states
    else first_spent client number parts states

-- every number that is kept of the client is below this one
abbrev pub IsLower : ℕ → Option KeptRow → Type 0
IsLower number None = ⊤
IsLower number (Some row) = row.number < number

abbrev pub AreLower : ClientId → ℕ → List ObjState → Type 0
AreLower client number states = AllByRecursion (λ state. IsLower number (row_of client state.kept)) states

abbrev pub is_already : Standing → Bool
is_already Fresh = false
is_already (Already answer) = true
is_already (Spent object number) = false
