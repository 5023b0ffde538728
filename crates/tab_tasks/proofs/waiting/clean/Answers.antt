use Rattle.std.proofs.Common.{rules}
use Rattle.std.specs.Map.{values_of}
use Rattle.std.proofs.lemmas.Fn.{filter_same}
use Rattle.tab_tasks.specs.Waiting.{waits_at}
use Rattle.tab_tasks.proofs.waiting.clean.Goals as goal

pub returns : goal.returns
returns c = filter_same _ (waits_at (values_of c.args.rows.now.entries)) _ (λ p b f' k. search rules) _ _ c.retain.ensures.filtered
