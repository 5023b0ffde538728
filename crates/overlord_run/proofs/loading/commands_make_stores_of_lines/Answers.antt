use Rattle.overlord_run.proofs.SameStores.{same_stores}
use Rattle.overlord_run.proofs.loading.commands_make_stores_of_lines.Goals as goal

pub returns : goal.returns
returns c = same_stores
