use Rattle.std.proofs.Common.{ap, ◌∙◌, ℕ, List}
use Rattle.std.specs.Prelude.{Option}
use Rattle.tests_runs.proofs.runs.fail_and_run.Goals as goal

pub run_lines-requires : goal.run_lines-requires
run_lines-requires c = λ pair. ap (λ (opened : ℕ → Option (List ℕ)). opened pair) c.fail.ensures.desk.opened ∙ c.requires pair
