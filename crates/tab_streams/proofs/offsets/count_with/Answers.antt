use Rattle.std.proofs.Common.{◌∙◌, sym}
use Rattle.std.proofs.lemmas.Result.{IfOk-weaker}
use Rattle.tab_streams.specs.ByName.{all_rows}
use Rattle.tab_streams.proofs.Counting.{counted_new, counted_over}
use Rattle.tab_streams.proofs.offsets.count_with.Goals as goal

pub returns-in-Some : goal.returns-in-Some
returns-in-Some c = counted_over c.args.row.now (all_rows c.args.sources.now.entries) c.args.count c.in-Some.field-0 c.requires (sym c.stored_in.ensures ∙ c.in-Some.is)

pub returns-in-None : goal.returns-in-None
returns-in-None c =
    IfOk-weaker c.sum_of.result _ _ (λ n h. counted_new c.args.row.now (all_rows c.args.sources.now.entries) c.args.count n c.requires (sym c.stored_in.ensures ∙ c.in-None.is) h.0 h.1) c.sum_of.ensures

pub sum_of-requires : goal.sum_of-requires
sum_of-requires c = c.requires.few
