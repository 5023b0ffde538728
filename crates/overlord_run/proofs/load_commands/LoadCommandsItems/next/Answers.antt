use Rattle.std.proofs.Common.{ap, sym, ◌++◌, ◌∙◌, ◌∷◌, ◌≡◌, []}
use Rattle.std.specs.Prelude.{option_to_list}
use Rattle.load_gen.specs.Load.{commands_from}
use Rattle.overlord_run.proofs.LoadForms.{given, none_ready}
use Rattle.overlord_run.proofs.load_commands.LoadCommandsItems.next.Goals as goal

pub returns-clause-some : goal.returns-clause-some
returns-clause-some c = λ item is.
    let ready = c.self.inside.ready.items in
    let more = commands_from c.self.inside.blocks c.self.inside.generator in
    let turned = c.reverse.new.self.items in
    let last : turned ≡ c.pop-2.new.self.items ++ item ∷ [] = c.pop-2.ensures.items ∙ ap (λ o. c.pop-2.new.self.items ++ option_to_list o) is in
    sym c.self.view_is ∙ (none_ready ready more (sym c.self.inside.ready.ok.0 ∙ c.in_default.ensures.cases.0) ∙ given c.self.inside.blocks c.self.inside.generator c.block.new.self c.in_ok-block.block.items turned c.pop-2.new.self.items item c.if-self-eq0.false c.in_ok-block.ensures.commands c.in_ok-block.ensures.next c.reverse.ensures.items last)
