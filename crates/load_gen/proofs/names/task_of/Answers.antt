use Rattle.std.proofs.Common.{◌≡◌, ◌∙◌, Err, List, ap, false, subst, sym, ℕ}
use Rattle.std.proofs.lemmas.Bool.{false≢true}
use Rattle.seg_names.specs.Names.{is_task_id}
use Rattle.seg_names.specs.declared.name.NameFault.{NameFault}
use Rattle.load_gen.specs.Draws.{name_of}
use Rattle.load_gen.proofs.BlockNames.{named_task}
use Rattle.load_gen.proofs.names.task_of.Goals as goal

pub unreachable-requires : goal.unreachable-requires
unreachable-requires c =
    let bad : is_task_id c.deref.result.now ≡ false = c.new.ensures.bad (c.in-Err-BadName.is ∙ ap (λ (f : NameFault). Err f) c.in-Err-BadName.field-0-is) in
    let text : c.deref.result.now ≡ name_of c.args.block = c.deref.ensures.value ∙ c.in_ok-text.ensures in
    false≢true (sym (subst (λ (t : List ℕ). is_task_id t ≡ false) text bad) ∙ named_task c.args.block c.requires)
