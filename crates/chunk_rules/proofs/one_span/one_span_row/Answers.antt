use Rattle.std.proofs.Common.{ap, ◌∙◌}
use Rattle.laws_unsound.specs.Rows.{first_clashing}
use Rattle.chunk_rules.specs.Lives.{are_apart, chunk_at}
use Rattle.row_search.proofs.Walking.{clashing_map}
use Rattle.chunk_rules.proofs.one_span.one_span_row.Goals as goal

pub returns : goal.returns
returns c rows ps cs is = c.in_ok-row.ensures ∙ (ap (λ xs. first_clashing c.args.before are_apart xs) is ∙ clashing_map c.args.before are_apart (chunk_at rows ps) cs)
