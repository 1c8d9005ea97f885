use Rattle.std.proofs.Common.{◌≡◌, ◌<◌, List, length, get_or, refl, ap, ◌∙◌, arith}
use Rattle.std.proofs.lemmas.Option.{slice_get_read}
use Rattle.qu_trace.specs.declared.trace.Entry.{Entry}
use Rattle.qu_trace.specs.declared.trace.Trace.{Trace}
use Rattle.qu_trace.proofs.DecodedLaws.{frame_of_entry}
use Rattle.qu_known.proofs.Filtered.{filtered_more}
use Rattle.qu_points.specs.Points.{act_at}
use Rattle.qu_points.proofs.acts.handled_acts.Goals as goal

pub add_act-requires-clause-frame : goal.add_act-requires-clause-frame
add_act-requires-clause-frame c =
    let entries = c.args.trace.now.entries in
    let index = c.loop-index.index in
    let entry = c.entry-item.result in
    let items : c.as_slice-entry-items.result.now ≡ entries =
    c.as_slice-entry-items.ensures ∙ ap (λ (run : Trace). run.entries) c.trace-run.ensures in
    let is : entry ≡ get_or entries index entry =
    c.entry-item.is ∙ ap (λ (it : List Entry). get_or it index entry) items in
    let within : index < length entries = omega (arith, c.loop-index-test.true, ap length items) in
    frame_of_entry entries index entry _ (slice_get_read entries (length entries) index entry refl within is)
    c.offered-frame.ensures

pub loop-index-preserved : goal.loop-index-preserved
loop-index-preserved c =
    let entries = c.args.trace.now.entries in
    let index = c.loop-index.index in
    let entry = c.entry-item.result in
    let items : c.as_slice-entry-items.result.now ≡ entries =
    c.as_slice-entry-items.ensures ∙ ap (λ (run : Trace). run.entries) c.trace-run.ensures in
    let is : entry ≡ get_or entries index entry =
    c.entry-item.is ∙ ap (λ (it : List Entry). get_or it index entry) items in
    let within : index < length entries = omega (arith, c.loop-index-test.true, ap length items) in
    filtered_more (act_at c.args.trace.now) entries index entry c.loop-index.acts c.add_act.new.acts
    within is c.loop-index.invariant c.in_ok-add_act.ensures
