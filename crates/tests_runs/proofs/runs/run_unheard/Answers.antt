use Rattle.std.proofs.Common.{ap, ◌∙◌, ℕ, List}
use Rattle.std.specs.Prelude.{Option}
use Rattle.tests_runs.proofs.runs.run_unheard.Goals as goal

pub run_lines-requires : goal.run_lines-requires
run_lines-requires c = λ pair. ap (λ (opened : ℕ → Option (List ℕ)). opened pair) c.take_at_most.ensures.desk.opened ∙ c.requires pair
