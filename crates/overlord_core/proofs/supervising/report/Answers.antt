use Rattle.std.proofs.Common.{◌≡◌, IfOk, List, OnOk, Some, rules, subst, sym}
use Rattle.std.proofs.lemmas.Int.{to_z-of_z}
use mir.Val.{SFits}
use mir.Syntax.{w64}
use Rattle.book_rows.specs.Outcome as rules_of
use Rattle.book_rows.specs.Outcome.{running, task_of}
use Rattle.book_rows.specs.Sequences.{sequence_named}
use Rattle.book_rows.specs.SupSteps.{report_step}
use Rattle.book_rows.specs.declared.kinds.TaskStatus.TheVariants as Statuses
use Rattle.book_rows.specs.declared.rows.Book.{Book}
use Rattle.book_rows.specs.declared.rows.Offset.{Offset}
use Rattle.book_rows.specs.declared.rows.Report.{Report}
use Rattle.book_rows.specs.declared.rows.TaskRow.{TaskRow}
use Rattle.sup_core.specs.Reports.{told_reply, rows_after}
use Rattle.book_core.specs.Done.{IsDone}
use Rattle.book_core.proofs.Deciding.{run_is}
use Rattle.overlord_core.proofs.SupOutcomes.{report_comes}
use Rattle.overlord_core.proofs.supervising.report.Goals as goal

pub returns : goal.returns
returns c =
    let inside : Book = record {
      clock = c.core.inside.clock;
      last = c.core.inside.last;
      next_lock = c.core.inside.next_lock;
      tasks = c.core.inside.tasks;
      posses = c.core.inside.posses;
      chunks = c.core.inside.segments.chunks;
      segments = c.core.inside.segments.segments;
      pendings = c.core.inside.pendings.pendings;
      upgrades = c.core.inside.pendings.upgrades;
      publications = c.core.inside.streams.publications;
      offsets = c.core.inside.streams.offsets;
      supervisors = c.core.inside.supervisors.supervisors;
      sequences = c.core.inside.supervisors.sequences;
    } in
    let after : Book = record inside { supervisors = c.report-reported.new.self.supervisors; sequences = c.report-reported.new.self.sequences } in
    let t : TaskRow = c.in-Some.row.now in
    let offsets : List Offset = c.args.offsets.now in
    let told : Report = record { task = t.task; offsets = offsets } in
    let fits : SFits w64 c.core.inside.clock = search rules in
    let on : t.status ≡ Statuses.Running = search rules in
    let reply : IfOk c.report-reported.result (λ reply. told_reply (sequence_named t.group inside.sequences) told inside.clock ≡ Some reply) = simp to_z-of_z at c.report-reported.ensures.reply in
    let rows : OnOk c.report-reported.result (c.report-reported.new.self ≡ record c.core.inside.supervisors { sequences = rows_after (sequence_named t.group inside.sequences) t.group told inside.clock inside.sequences }) = simp to_z-of_z at c.report-reported.ensures.rows in
    let done : IfOk c.told_outcome.result (λ o. IsDone o after (report_step c.args.begin inside offsets t)) =
    report_comes c.args.begin inside t offsets c.report-reported.new.self c.report-reported.result c.told_outcome.result c.report-reported.ensures.passes reply rows c.report-reported.ensures.refused c.report-reported.ensures.err c.told_outcome.ensures in
    let rule : running (task_of c.args.task.now inside.tasks) inside (report_step c.args.begin inside offsets) ≡ report_step c.args.begin inside offsets t = run_is (task_of c.args.task.now inside.tasks) t inside (report_step c.args.begin inside offsets) c.in-Some.ensures.row on in
    subst (λ (x : Book). IfOk c.told_outcome.result (λ o. IsDone o after (running (task_of c.args.task.now x.tasks) x (report_step c.args.begin x offsets)))) c.core.view_is
    (subst (λ (s : rules_of.Outcome). IfOk c.told_outcome.result (λ o. IsDone o after s)) (sym rule) done)
