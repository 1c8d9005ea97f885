-- A word that names no replica.
use Rattle.std.proofs.Common.{rules, sym}
use Rattle.qu_script_words.proofs.ListedFacts.{replicas_bad}
use Rattle.qu_script_words.proofs.listed.read_all_replicas.Goals as goal

pub returns-in_err-read_replica : goal.returns-in_err-read_replica
returns-in_err-read_replica c =
    let told = replicas_bad c.args.bounds.now c.words.replicas c.words.words c.next.new.self
    c.in_ok-next.field-0.now c.in_err-read_replica.field-0.0 (sym c.in_ok-next.ensures)
    (sym c.in_err-read_replica.ensures) in
    rw (sym c.words.invariant) (search (rules, told))
