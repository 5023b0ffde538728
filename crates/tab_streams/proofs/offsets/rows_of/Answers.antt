use Rattle.std.proofs.Common.{◌≡◌, ◌∙◌, [], ap, rules, sym}
use Rattle.std.proofs.lemmas.Result.{IfOk-weaker}
use Rattle.tab_streams.specs.ByName.{or_nothing}
use Rattle.tab_streams.proofs.OneSource.{rows_of_source}
use Rattle.tab_streams.proofs.offsets.rows_of.Goals as goal

pub returns-in-Some : goal.returns-in-Some
returns-in-Some c =
    IfOk-weaker c.rows.result _ _
    (λ v h. h ∙ rows_of_source c.args.source.now c.args.sources.now.entries c.len-sources.ensures.ordered c.in-Some.streams.now (ap or_nothing (sym c.in-Some.ensures.value)))
    c.rows.ensures

pub returns-in-None : goal.returns-in-None
returns-in-None c =
    let none : c.new.result.items ≡ [] = search rules in
    none
    ∙ rows_of_source c.args.source.now c.args.sources.now.entries c.len-sources.ensures.ordered [] (ap or_nothing (sym c.in-None.ensures.value))
