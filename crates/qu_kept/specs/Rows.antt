-- What a version keeps of clients: for each of them at most one row, by rising clients.
use Rattle.std.specs.Prelude.{ℕ, ◌≤◌, ◌<◌, List, Option}
use Rattle.std.specs.List.{AllByRecursion}
use Rattle.qu_base.specs.declared.party.ClientId.{ClientId}
use Rattle.qu_objects.specs.declared.state.KeptRow.{KeptRow}
use Rattle.qu_kept.specs.Keyed.{item_of, with_item, Rising}

abbrev pub client_of : KeptRow → ℕ
client_of row = (row.client).0

-- the row of a client
abbrev pub row_of : ClientId → List KeptRow → Option KeptRow
row_of client rows = item_of client_of client.0 rows

-- with this row in place of its client's, or added to the others
abbrev pub with_row : KeptRow → List KeptRow → List KeptRow
with_row row rows = with_item client_of row rows

abbrev pub AreRising : List KeptRow → Type 0
AreRising rows = Rising client_of rows

-- the client of a row is one of so many, which are counted from 1
abbrev pub IsOfClients : ℕ → KeptRow → Type 0
IsOfClients clients row = (0 < client_of row) × (client_of row ≤ clients)

abbrev pub AreOfClients : ℕ → List KeptRow → Type 0
AreOfClients clients rows = AllByRecursion (IsOfClients clients) rows
