-- There is a value for each part of the query.
use Rattle.std.proofs.Common.{◌≡◌, length, arith}
use Rattle.std.proofs.lemmas.List.{length-map}
use Rattle.qu_objects.specs.declared.state.ObjState.{ObjState}
use Rattle.qu_kept.specs.Performing.{values_of}
use Rattle.qu_rows.specs.Rows.{base_versions}
use Rattle.qu_rows.proofs.rows.Rows.row_told.Goals as goal

pub tell_all-requires : goal.tell_all-requires
tell_all-requires c =
    let counted : length (values_of (base_versions c.args.self.now c.args.seen.now))
    ≡ length (base_versions c.args.self.now c.args.seen.now) =
    length-map (base_versions c.args.self.now c.args.seen.now) (λ (it : ObjState). it.value) in
    grind (arith, c.in_ok-values.ensures, counted, c.requires.versions, c.requires.one_each)
