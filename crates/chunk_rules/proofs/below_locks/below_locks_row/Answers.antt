use Rattle.std.proofs.Common.{ap, sym, not, ◌&&◌, ◌∙◌}
use Rattle.std.specs.List.{list_any}
use Rattle.laws_unsound.specs.ChunkRows.{is_below}
use Rattle.laws_unsound.specs.Rows.{first_failing}
use Rattle.chunk_rules.specs.Lives.{chunk_at}
use Rattle.row_search.proofs.Walking.{failing_map}
use Rattle.chunk_rules.proofs.below_locks.below_locks_row.Goals as goal

pub returns : goal.returns
returns c rows ps cs is =
    c.first_failing.ensures
    ∙ (ap (λ xs. first_failing c.args.before (λ x. not (x.live && list_any (is_below x.chunk) c.args.locks.now)) xs) is ∙ failing_map c.args.before (λ x. x.live && list_any (is_below x.chunk) c.args.locks.now) (chunk_at rows ps) cs)
