-- The number by which texts name why an operation is not begun.
use Rattle.std.specs.Prelude.{ℕ, Option, None, Some}
use Rattle.qu_client.specs.declared.client.InvokeFail.{InvokeFail}
use Rattle.qu_client.specs.declared.client.InvokeFail.TheVariants.{Busy, NoMemory}
use Rattle.qu_client.specs.declared.refusal_number.TheConstants.{BUSY}

abbrev pub invoke_fail_number : InvokeFail → Option ℕ
invoke_fail_number Busy = Some BUSY
invoke_fail_number NoMemory = None
