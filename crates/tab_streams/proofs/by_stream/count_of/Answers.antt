use Rattle.std.proofs.Common.{◌∙◌, List, ap, length}
use Rattle.book_rows.specs.declared.rows.Offset.{Offset}
use Rattle.tab_streams.specs.ByName.{or_nothing}
use Rattle.tab_streams.proofs.by_stream.count_of.Goals as goal

pub returns-in-Some : goal.returns-in-Some
returns-in-Some c = c.count.ensures ∙ ap (λ (v : List Offset). length v) (ap or_nothing c.in-Some.ensures.value)

pub returns-in-None : goal.returns-in-None
returns-in-None c = ap (λ (v : List Offset). length v) (ap or_nothing c.in-None.ensures.value)
