use Rattle.std.proofs.Common.{◌≡◌, ◌∙◌, List, ap, subst, sym, ℕ}
use Rattle.book_rows.specs.Outcome as rules_of
use Rattle.book_rows.specs.Sequences.{supervisor_of}
use Rattle.book_rows.specs.SupSteps.{supervised}
use Rattle.book_rows.specs.declared.replies.Reply.TheVariants as Replies
use Rattle.book_rows.specs.declared.rows.Book.{Book}
use Rattle.book_rows.specs.declared.rows.SupervisorRow.{SupervisorRow}
use Rattle.sup_core.specs.Supervising.{supervise_fault}
use Rattle.book_core.specs.Done.{IsDone}
use Rattle.book_core.specs.declared.outcomes.Outcome.{Outcome}
use Rattle.book_core.specs.Refused.{IsSupRefusal}
use Rattle.book_core.proofs.Refusing.{refusal_done}
use Rattle.overlord_core.proofs.SupOutcomes.{fault_is, supervise_refused, supervised_is}
use Rattle.overlord_core.proofs.supervising.supervised.Goals as goal

pub returns-in-Ok : goal.returns-in-Ok
returns-in-Ok c =
    let b : Book = c.args.core.now in
    let row : SupervisorRow = c.args.row in
    subst (λ (o : rules_of.Outcome). IsDone c.changed.result c.add_supervisor.new.core o) (sym (supervised_is b row (supervisor_of row.source b.supervisors) c.in-Ok.ensures.passes)) (record {
      reply = ap (λ (x : Outcome). x.reply) c.changed.ensures ∙ ap (λ (source : List ℕ). Replies.Supervise source) c.in_ok-source.ensures;
      changes = ap (λ (x : Outcome). x.changes) c.changed.ensures;
      book = c.in-Ok.ensures.row;
    })

pub returns-in_ok-sup_refusal-in-Err : goal.returns-in_ok-sup_refusal-in-Err
returns-in_ok-sup_refusal-in-Err c =
    let b : Book = c.args.core.now in
    let row : SupervisorRow = c.args.row in
    let refusal : IsSupRefusal row.source c.in-Err.fault c.in_ok-sup_refusal-in-Err.field-0 = subst (λ (source : List ℕ). IsSupRefusal source c.in-Err.fault c.in_ok-sup_refusal-in-Err.field-0) c.in_ok-source.ensures c.in_ok-sup_refusal-in-Err.ensures in
    let fault = fault_is (supervise_fault row.source b.supervisors) row.source c.in-Err.fault c.in_ok-sup_refusal-in-Err.field-0 c.in-Err.ensures.refused refusal in
    let rule : supervised (supervisor_of row.source b.supervisors) b row ≡ rules_of.refused b c.in_ok-sup_refusal-in-Err.field-0 = supervise_refused b row (supervisor_of row.source b.supervisors) c.in-Err.fault c.in_ok-sup_refusal-in-Err.field-0 fault refusal in
    subst (λ (x : Book). IsDone c.refused.result x (supervised (supervisor_of row.source b.supervisors) b row)) (sym c.in-Err.ensures.err)
    (subst (λ (o : rules_of.Outcome). IsDone c.refused.result b o) (sym rule) (refusal_done c.refused.result b c.in_ok-sup_refusal-in-Err.field-0 c.refused.ensures))
