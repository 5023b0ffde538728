use Rattle.std.proofs.Common.{ap, ◌∙◌}
use Rattle.seg_names.specs.Ids.{same_id}
use Rattle.laws_unsound.specs.Rows.{lesser}
use Rattle.shape_rules.proofs.Repeated.{stepped}
use Rattle.shape_rules.proofs.once.least_repeated.Goals as goal

pub loop-entry-preserved : goal.loop-entry-preserved
loop-entry-preserved c =
    stepped same_id c.args.ids.items c.loop-entry.left.items c.pop.new.self.items c.loop-entry.later c.push.new.self c.in-Some.entry c.loop-entry.least c.lesser-least.result c.in-Some.ensures.items c.in_ok-push.ensures.ok
    (c.lesser-least.ensures ∙ ap (λ o. lesser o c.loop-entry.least) c.least_with.ensures) c.loop-entry.invariant
