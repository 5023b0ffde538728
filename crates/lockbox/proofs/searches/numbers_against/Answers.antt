use Rattle.std.proofs.Common.{◌≡◌, IfOk, map, filter, subst, ◌∙◌}
use Rattle.book_rows.specs.Grant.{is_against, posses_after}
use Rattle.book_rows.specs.Lists.{ascending}
use Rattle.book_rows.specs.declared.rows.PosseRow.{PosseRow}
use Rattle.lock_posse.specs.Granting.{granted_row}
use Rattle.lockbox.proofs.Seen.{numbers_after}
use Rattle.lockbox.proofs.searches.numbers_against.Goals as goal

pub returns : goal.returns
returns c =
    let g = c.args.so_far.now in
    let rows : c.in_ok-numbers.numbers.items
    ≡ map (λ (p : PosseRow). p.number) (filter (λ p. is_against c.args.task.now c.args.want.now (granted_row g.revoked g.joins c.args.task.now.task p)) c.args.posses.now) =
    rw c.as_slice.ensures at c.in_ok-numbers.ensures in
    let made : c.in_ok-made.made.items ≡ map (λ (p : PosseRow). p.number) (filter (is_against c.args.task.now c.args.want.now) g.rows) =
    rw c.as_slice-3.ensures at c.in_ok-made.ensures in
    let all : c.in_ok-joined.field-0.items ≡ map (λ (p : PosseRow). p.number) (filter (is_against c.args.task.now c.args.want.now) (posses_after c.args.posses.now c.args.task.now.task g)) =
    rw (rows, made) at c.in_ok-joined.ensures ∙ numbers_after c.args.posses.now g c.args.task.now c.args.want.now in
    subst (λ ns. IfOk c.sorted.result (λ v. v.items ≡ ascending ns)) all c.sorted.ensures
