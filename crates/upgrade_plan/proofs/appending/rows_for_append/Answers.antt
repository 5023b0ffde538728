use Rattle.std.proofs.Common.{List, ap, filter, map, not, ◌++◌, ◌∙◌}
use Rattle.std.proofs.lemmas.Result.{IfOk-weaker}
use Rattle.seg_names.specs.Ids.{same_id}
use Rattle.seg_names.specs.declared.seg_id.SegId.{SegId}
use Rattle.book_rows.specs.Append.{as_row}
use Rattle.book_rows.specs.declared.rows.PendingRow.{PendingRow}
use Rattle.book_rows.specs.declared.rows.SegmentRow.{SegmentRow}
use Rattle.upgrade_plan.proofs.Parting.{mapped_parts}
use Rattle.upgrade_plan.proofs.appending.rows_for_append.Goals as goal

pub returns : goal.returns
returns c =
    let root : SegId = c.args.root.now in
    let rows : List PendingRow → List SegmentRow = λ ps. map (as_row c.args.commit) (filter (λ p. same_id p.id root) ps) ++ map (as_row c.args.commit) (filter (λ p. not (same_id p.id root)) ps) in
    IfOk-weaker c.root_first.result _ _ (λ v e. e ∙ ap rows c.in_ok-found.ensures ∙ mapped_parts (as_row c.args.commit) (λ p. same_id p.root root) (λ p. same_id p.id root) (λ p. not (same_id p.id root)) c.args.pendings.now.pendings) c.root_first.ensures
