use Rattle.std.proofs.Common.{◌≡◌, ◌&&◌, sym, ap, ◌∙◌, rules}
use Rattle.std.specs.Option.{option_copied}
use Rattle.book_rows.specs.Locks.{least}
use Rattle.lock_posse.specs.Keys.{is_over}
use Rattle.lock_posse.proofs.LeastLemmas.{least_is, only_over}
use Rattle.lock_posse.proofs.table.Posses.least_over.Goals as goal

pub returns-in-Some : goal.returns-in-Some
returns-in-Some g c =
    let over = is_over c.args.source.now c.args.span in
    let test = g.T.LockTest.passes c.args.test.now in
    let found : option_copied c.least.result ≡ least test c.args.self.now =
    rw (← c.self.view_is) (c.least.ensures ∙ sym (least_is (λ p. over p && test p) c.self.inside.rows) ∙ ap (λ f. least f c.self.inside.rows) (only_over over test c.requires)) in
    search rules

pub returns-in-None : goal.returns-in-None
returns-in-None g c =
    let over = is_over c.args.source.now c.args.span in
    let test = g.T.LockTest.passes c.args.test.now in
    let found : option_copied c.least.result ≡ least test c.args.self.now =
    rw (← c.self.view_is) (c.least.ensures ∙ sym (least_is (λ p. over p && test p) c.self.inside.rows) ∙ ap (λ f. least f c.self.inside.rows) (only_over over test c.requires)) in
    search rules
