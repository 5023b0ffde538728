use Rattle.std.proofs.Common.{◌||◌, ◌∙◌, Bool, ap, map, subst, sym}
use Rattle.std.specs.Map.{values_of}
use Rattle.book_rows.specs.Kinds.{same_status}
use Rattle.book_rows.specs.TaskSteps.{status_set}
use Rattle.book_rows.specs.declared.kinds.TaskStatus.TheVariants as Statuses
use Rattle.tab_tasks.specs.Entries.{set_in}
use Rattle.tab_tasks.specs.Waiting.{AreListed}
use Rattle.tab_tasks.proofs.Kept.{kept_set_in, values_set_in}
use Rattle.tab_tasks.proofs.WaitingRows.{listed_set}
use Rattle.tab_tasks.proofs.tasks.Tasks.set_status.Goals as goal

pub invariant_of-self : goal.invariant_of-self
invariant_of-self c =
    let rows = c.self.inside.rows.entries in
    let waits : Bool = c.self.inside.is_back || same_status c.args.status Statuses.Waiting in
    let values = values_set_in c.args.task.now c.args.status rows c.self.invariant.0.own c.self.invariant.0.distinct in
    let listed = listed_set c.args.task.now c.args.status (values_of rows) c.self.inside.places.items c.self.inside.is_back c.self.invariant.1 in
    let set : AreListed (values_of (set_in c.args.task.now c.args.status rows)) c.self.inside.places.items waits = subst (λ ts. AreListed ts c.self.inside.places.items waits) (sym values) listed in
    let before : AreListed (values_of c.set_status_in.new.rows.entries) c.self.inside.places.items waits = rw c.set_status_in.ensures set in
    (rw c.set_status_in.ensures (kept_set_in c.args.task.now c.args.status rows c.self.invariant.0), rw c.is_back_after-self-inside.ensures (c.cleaned-self-inside.ensures waits before))

pub returns : goal.returns
returns c =
    rw c.set_status_in.ensures
    (values_set_in c.args.task.now c.args.status c.self.inside.rows.entries c.self.invariant.0.own c.self.invariant.0.distinct ∙ ap (map (status_set c.args.task.now c.args.status)) c.self.view_is)
