use Rattle.std.proofs.Common.{Option, ap, sym, ◌∙◌}
use Rattle.iv_span.specs.Extent.{Extent}
use Rattle.seg_names.specs.Ids.{same_extent}
use Rattle.apart_spans.specs.Apart.{passes_at}
use Rattle.publish_core.proofs.ListedSpans.{listed_at}
use Rattle.publish_core.proofs.spans.is_listed.Goals as goal

pub returns-in-Some : goal.returns-in-Some
returns-in-Some c =
    c.is_same.ensures
    ∙ (
    ap (λ (o : Option Extent). passes_at (λ s. same_extent s c.args.span) o) c.in-Some.ensures
    ∙ sym (listed_at c.args.span c.args.spans.now c.place_of.result c.requires c.place_of.ensures)
    )

pub returns-in-None : goal.returns-in-None
returns-in-None c =
    ap (λ (o : Option Extent). passes_at (λ s. same_extent s c.args.span) o) c.in-None.ensures
    ∙ sym (listed_at c.args.span c.args.spans.now c.place_of.result c.requires c.place_of.ensures)
