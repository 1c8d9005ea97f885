use Rattle.std.proofs.Common.{◌++◌, length}
use Rattle.std.proofs.lemmas.List.{drop-replicate}
use Rattle.qu_seal.specs.declared.constants.TheConstants.{BLOCK}
use Rattle.qu_seal.proofs.authenticating.fill.Goals as goal

pub returns : goal.returns
returns c = λ i. c.copy_from_slice.ensures.after i ++ drop-replicate (length c.args.key.now) BLOCK 0 i
