use Rattle.std.proofs.lemmas.Result.{on_ok_weaker}
use Rattle.qu_frames.proofs.Pieces.{fetch_written, fetched_written}
use Rattle.qu_frames.proofs.writing_frame.append_fields.Goals as goal

pub returns-in-Fetch : goal.returns-in-Fetch
returns-in-Fetch c =
    let f = c.in-Fetch in
    rw f.is (on_ok_weaker c.append_version.result (fetch_written f.replica f.object f.stamp f.mac _ _)
    c.append_version.ensures)

pub returns-in_ok-append_version-in-Fetched : goal.returns-in_ok-append_version-in-Fetched
returns-in_ok-append_version-in-Fetched c =
    let f = c.in-Fetched in
    rw f.is (on_ok_weaker c.write_state.result (fetched_written f.replica f.object f.stamp f.state f.mac _ _ _
    c.in_ok-append_version-in-Fetched.ensures) c.write_state.ensures.ok)
