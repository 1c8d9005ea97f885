-- Bytes that are no frame show nothing.
use Rattle.std.proofs.Common.{◌≡◌, [], refl, sym}
use Rattle.std.specs.Prelude.{None, Result, Ok, Err}
use Rattle.std.proofs.lemmas.Option.{none-some}
use Rattle.qu_base.specs.declared.bad_text.BadText.{BadText}
use Rattle.qu_frames.specs.declared.frame.Frame.{Frame}
use Rattle.qu_trace.specs.Decoded.{frame_found}
use Rattle.qu_claims.specs.Handled.{shown_in}

pub none_shown : (found : Result Frame BadText) → frame_found found ≡ None → shown_in found ≡ []
none_shown (Ok it) is = absurd (none-some it (sym is))
none_shown (Err bad) is = refl
