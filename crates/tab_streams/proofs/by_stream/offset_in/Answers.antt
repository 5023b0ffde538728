use Rattle.std.proofs.Common.{◌∙◌, List, ap}
use Rattle.book_rows.specs.declared.rows.Offset.{Offset}
use Rattle.tab_streams.specs.ByName.{offset_of, or_nothing}
use Rattle.tab_streams.proofs.by_stream.offset_in.Goals as goal

pub returns-in-Some : goal.returns-in-Some
returns-in-Some c = c.get-in-Some.ensures ∙ ap (λ (v : List Offset). offset_of c.args.partition v) (ap or_nothing c.in-Some.ensures.value)

pub returns-in-None : goal.returns-in-None
returns-in-None c = ap (λ (v : List Offset). offset_of c.args.partition v) (ap or_nothing c.in-None.ensures.value)
