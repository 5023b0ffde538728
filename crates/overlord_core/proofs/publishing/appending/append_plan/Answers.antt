use Rattle.std.proofs.Common.{◌≡◌, ◌∙◌, IfOk, Option, ap, length, subst, sym}
use Rattle.book_rows.specs.Append.{after_append}
use Rattle.book_rows.specs.Outcome.{fitted, unless}
use Rattle.book_rows.specs.Outcome as rules_of
use Rattle.book_rows.specs.PublishSteps.{commit_reply}
use Rattle.book_rows.specs.Publications.{Publish}
use Rattle.book_rows.specs.declared.kinds.PubKind.TheVariants as PubKinds
use Rattle.book_rows.specs.declared.replies.Refusal.{Refusal}
use Rattle.book_rows.specs.declared.rows.Book.{Book}
use Rattle.publish_rows.specs.Room.{append_tables}
use Rattle.overlord_core.specs.Commits.{append_outcome}
use Rattle.book_core.specs.Publishing.{publish_of}
use Rattle.overlord_core.proofs.publishing.appending.append_plan.Goals as goal

pub returns-in-Some : goal.returns-in-Some
returns-in-Some c =
    let b : Book = c.args.core.now in
    let p : Publish = publish_of c.args.publish.now in
    let rest : rules_of.Outcome = fitted append_tables b (after_append c.args.row.now p b) (commit_reply PubKinds.Append (length b.publications)) in
    ap (λ (o : Option Refusal). unless o b rest) (sym c.in-Some.is ∙ c.in_ok-fault.ensures)

pub returns-in-None : goal.returns-in-None
returns-in-None c =
    let b : Book = c.args.core.now in
    let p : Publish = publish_of c.args.publish.now in
    let rest : rules_of.Outcome = fitted append_tables b (after_append c.args.row.now p b) (commit_reply PubKinds.Append (length b.publications)) in
    subst (λ (o : Option Refusal). IfOk c.append_with_room.result (λ d. append_outcome d b ≡ unless o b rest)) (sym c.in-None.is ∙ c.in_ok-fault.ensures) (c.append_with_room.ensures c.args.row.now p c.requires.own)
