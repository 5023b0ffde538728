use Rattle.std.proofs.Common.{rules, ◌+◌, ◌<◌, ◌≡◌, ◌∙◌, List, ap, get_or, set, subst, sym, true, ℕ}
use Rattle.std.specs.List.{list_all}
use Rattle.book_rows.specs.Form.{keeps_form}
use Rattle.book_rows.specs.declared.commands.Command.{Command}
use Rattle.load_gen.specs.Blocks.{commands_of, hour_after}
use Rattle.load_gen.specs.Load.{IsOnTheWay, Load, no_hour}
use Rattle.load_gen.specs.declared.generator.Hour.{Hour}
use Rattle.load_gen.proofs.Forms.{block_kept}
use Rattle.load_gen.proofs.Hours.{at_hour, gone_on}
use Rattle.load_gen.proofs.generator.LoadGen.block.Goals as goal

pub invariant_of-self : goal.invariant_of-self
invariant_of-self c =
    let blocks : ℕ = c.self.inside.blocks in
    let number : ℕ = c.hour_of-number.result in
    let hours : List Hour = c.self.inside.hours.items in
    let few : blocks < 50000 = subst (λ (g : Load). g.blocks < 50000) (sym c.self.view_is) c.requires in
    let hour : c.hour_at-hour.result ≡ get_or hours number no_hour = search rules in
    let next : c.put_hour.new.hours.items ≡ set hours number (hour_after blocks (get_or hours number no_hour)) = c.put_hour.ensures ∙ ap (λ (h : Hour). set hours number h) (c.hour_after.ensures ∙ ap (hour_after blocks) hour) in
    subst (λ (l : List Hour). IsOnTheWay (blocks + 1) l) (sym next) (gone_on blocks number hours c.self.invariant few c.hour_of-number.ensures.below)

pub returns-clause-form : goal.returns-clause-form
returns-clause-form c =
    let blocks : ℕ = c.self.inside.blocks in
    let number : ℕ = c.hour_of-number.result in
    let hours : List Hour = c.self.inside.hours.items in
    let few : blocks < 50000 = subst (λ (g : Load). g.blocks < 50000) (sym c.self.view_is) c.requires in
    let hour : c.hour_at-hour.result ≡ get_or hours number no_hour = search rules in
    let commands : c.in_ok-commands.commands.items ≡ commands_of blocks number (get_or hours number no_hour) = c.in_ok-commands.ensures ∙ ap (commands_of blocks number) hour in
    subst (λ (l : List Command). list_all keeps_form l ≡ true) (sym commands) (block_kept blocks few number c.hour_of-number.ensures.below (get_or hours number no_hour) (at_hour blocks number hours c.self.invariant c.hour_of-number.ensures.below))
