-- What fits a frame's format asks for what an operation may ask for.
use Rattle.qu_frames.specs.declared.frame.Frame.{Frame}
use Rattle.qu_frames.specs.declared.frame.Frame.TheVariants as frame
use Rattle.qu_frames.specs.Formats.{frame_form, objects_in_sets}
use Rattle.qu_rows.specs.Allowed.{HasParts}
use Rattle.qu_fitting.proofs.Decoded.{body_has_parts}
use Rattle.qu_fitting.proofs.FitRequests.{request-fits}

pub fits_parts : (sent : Frame) → frame_form.Fits sent → HasParts sent
fits_parts (frame.Request client number round sets asks mac) fits =
    body_has_parts (objects_in_sets sets) asks (request-fits client number round sets asks mac fits).asked
fits_parts _ fits = tt
