use Rattle.std.proofs.Common.{Bool, List, Option, Some, ap, cond, map, of_z, sym, to_z, w64, ℕ, ℤ, ◌∙◌, ◌≡◌}
use Rattle.std.proofs.lemmas.Int.{to_z-of_z}
use Rattle.std.specs.Option.{option_copied}
use Rattle.book_rows.specs.Reports.{kept, reported}
use Rattle.book_rows.specs.Sequences.{sequence_named}
use Rattle.book_rows.specs.declared.rows.Report.{Report}
use Rattle.book_rows.specs.declared.rows.SequenceRow.{SequenceRow}
use Rattle.tab_sequences.specs.Changes.{told_in}
use Rattle.tab_sequences.specs.declared.telling.Closing.{Closing}
use Rattle.sup_core.specs.Reports.{closed_reply, closing_after, closing_reply, offsets_fault, told_reply, rows_after}
use Rattle.sup_core.proofs.Told.{all_told, takes_report}
use Rattle.sup_core.proofs.reports.report.Goals as goal

pub returns-clause-reply : goal.returns-clause-reply
returns-clause-reply c =
    let us : List SequenceRow = c.args.sequences.now in
    let u : SequenceRow = c.in-Some.row.now in
    let new : Report = record { task = c.args.task.now.task; offsets = c.args.offsets.now } in
    let named : sequence_named c.args.task.now.group us ≡ Some u = sym c.named.ensures.row ∙ ap (λ o. option_copied o) c.in-Some.is in
    let reports : c.in_ok-reports.reports.items ≡ kept new u.reports = c.in_ok-reports.ensures ∙ ap (λ (rs : List Report). kept new rs) c.as_slice.ensures in
    let closing : c.in_ok-closing.closing ≡ closing_after u (kept new u.reports) c.args.clock =
    c.in_ok-closing.ensures
    ∙ (
    ap (λ (rs : List Report). closing_after u rs (to_z w64 (of_z w64 c.args.clock))) (c.as_slice-2.ensures.value ∙ reports)
    ∙ ap (λ (t : ℤ). closing_after u (kept new u.reports) t) (to_z-of_z w64 c.args.clock c.ranges.clock)
    ) in
    ap (λ (o : Option SequenceRow). told_reply o new c.args.clock) named
    ∙ (
    ap (λ (b : Bool). Some (cond b (closed_reply u) (closing_reply (closing_after u (kept new u.reports) c.args.clock)))) (sym c.is_closed.ensures ∙ c.if-is_closed.false)
    ∙ ap (λ r. Some r) (sym (c.in_ok-reply.ensures ∙ ap (λ (x : Option Closing). closing_reply x) closing))
    )

pub returns-clause-rows : goal.returns-clause-rows
returns-clause-rows c =
    let us : List SequenceRow = c.args.sequences.now in
    let u : SequenceRow = c.in-Some.row.now in
    let name : List ℕ = c.args.task.now.group in
    let new : Report = record { task = c.args.task.now.task; offsets = c.args.offsets.now } in
    let named : sequence_named name us ≡ Some u = sym c.named.ensures.row ∙ ap (λ o. option_copied o) c.in-Some.is in
    let reports : c.in_ok-reports.reports.items ≡ kept new u.reports = c.in_ok-reports.ensures ∙ ap (λ (rs : List Report). kept new rs) c.as_slice.ensures in
    let closing : c.in_ok-closing.closing ≡ closing_after u (kept new u.reports) c.args.clock =
    c.in_ok-closing.ensures
    ∙ (
    ap (λ (rs : List Report). closing_after u rs (to_z w64 (of_z w64 c.args.clock))) (c.as_slice-2.ensures.value ∙ reports)
    ∙ ap (λ (t : ℤ). closing_after u (kept new u.reports) t) (to_z-of_z w64 c.args.clock c.ranges.clock)
    ) in
    let takes = takes_report u.state c.args.begin (offsets_fault u c.args.offsets.now) (sym c.row_fault.ensures ∙ c.in_default-row_fault.is) (sym c.is_closed.ensures ∙ c.if-is_closed.false) in
    c.in_ok-tell.ensures.ok
    ∙ (
    ap (λ (rs : List Report). map (told_in name (Some rs) c.in_ok-closing.closing) us) (c.from_vec.ensures ∙ reports)
    ∙ (
    ap (λ (x : Option Closing). map (told_in name (Some (kept new u.reports)) x) us) closing
    ∙ (
    all_told name new c.args.clock us u c.named.ensures.distinct named takes
    ∙ sym
    (ap (λ (o : Option SequenceRow). rows_after o name new c.args.clock us) named
    ∙ ap (λ (b : Bool). cond b us (map (reported name new c.args.clock) us)) (sym c.is_closed.ensures ∙ c.if-is_closed.false))
    )
    )
    )
