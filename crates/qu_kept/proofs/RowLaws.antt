-- Rows stay rows of clients, and are never more than there are clients.
use Rattle.std.proofs.Common.{ℕ, ◌+◌, ◌≤◌, length, arith}
use Rattle.std.specs.Prelude.{List}
use Rattle.qu_objects.specs.declared.state.KeptRow.{KeptRow}
use Rattle.qu_kept.specs.Rows.{client_of, with_row, AreRising, IsOfClients, AreOfClients}
use Rattle.qu_kept.proofs.KeyedLaws.{all_with, rising_with, rising_within}

pub rows_fit : (clients : ℕ) (row : KeptRow) (rows : List KeptRow) → AreRising rows → AreOfClients clients rows
    → IsOfClients clients row
    → AreOfClients clients (with_row row rows) × (length (with_row row rows) ≤ clients)
rows_fit clients row rows rising all is =
    let within : AreOfClients clients (with_row row rows) = all_with client_of (IsOfClients clients) row rows is all in
    let few : 0 + length (with_row row rows) ≤ clients =
    rising_within client_of 0 clients (with_row row rows) (omega arith) (rising_with client_of row rows rising)
    within in
    (within, omega (arith))
