-- What a letter tells, by the frame that it carries.
use Rattle.std.proofs.Common.{◌≡◌, refl, sym}
use Rattle.std.specs.Prelude.{None, Result, Ok, Err}
use Rattle.std.proofs.lemmas.Option.{none-some}
use Rattle.qu_base.specs.declared.bad_text.BadText.{BadText}
use Rattle.qu_frames.specs.declared.frame.Frame.{Frame}
use Rattle.qu_trace.specs.Decoded.{frame_found}
use Rattle.qu_trace.proofs.DecodedLaws.{decoded_to}
use Rattle.qu_claims.proofs.Handled.{none_shown}
use Rattle.qu_known.specs.Answers.{round_answered}

pub none_answered : (found : Result Frame BadText) → frame_found found ≡ None → round_answered found ≡ None
none_answered (Ok it) is = absurd (none-some it (sym is))
none_answered (Err bad) is = refl

pub ruleset told_laws = (decoded_to, none_shown, none_answered)
