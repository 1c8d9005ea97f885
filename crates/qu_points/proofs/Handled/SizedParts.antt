-- Parts that carry no more than they may, and whose numbers fit, fit.
use Rattle.std.proofs.Common.{List, [], ◌∷◌}
use Rattle.std.specs.Prelude.{IsTrue}
use Rattle.std.specs.List.{AllByRecursion}
use Rattle.std.proofs.lemmas.Bool.{and_parts, leb-true}
use Rattle.qu_base.specs.declared.party.ObjectId.{ObjectId}
use Rattle.qu_objects.specs.declared.act.Method.{Method}
use Rattle.qu_objects.specs.declared.act.Method.TheVariants.{Add, Take, Put, Append, Link, Unlink}
use Rattle.qu_objects.specs.Digesting.{MethodFits, PartsFit}
use Rattle.qu_objects.specs.Parts.{is_sized_method, are_sized}
use Rattle.qu_points.specs.Points.{NumbersFit}

method_fits : (method : Method) → IsTrue (is_sized_method method) → NumbersFit method → MethodFits method
method_fits (Add more) sized fits = fits
method_fits (Take fewer) sized fits = fits
method_fits (Put content) sized fits = leb-true _ _ sized
method_fits (Append more) sized fits = leb-true _ _ sized
method_fits (Link name number) sized fits = (leb-true _ _ sized, fits)
method_fits (Unlink name) sized fits = leb-true _ _ sized

pub parts_fit_if : (parts : List (ObjectId × Method)) → IsTrue (are_sized is_sized_method parts)
    → AllByRecursion (λ part. NumbersFit part.1) parts → PartsFit parts
parts_fit_if [] sized fit = tt
parts_fit_if (part ∷ later) sized fit =
    let both = and_parts (is_sized_method part.1) (are_sized is_sized_method later) sized in
    (method_fits part.1 both.0 fit.0, parts_fit_if later both.1 fit.1)
