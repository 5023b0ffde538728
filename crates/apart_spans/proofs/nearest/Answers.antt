use Rattle.std.proofs.Common.{Option, ap, not, sym, ◌&&◌, ◌∙◌}
use Rattle.iv_span.specs.Extent.{Extent, covers, overlap}
use Rattle.apart_spans.specs.Apart.{passes_at}
use Rattle.apart_spans.proofs.Deciding.{overlaps_at, straddles_at}
use Rattle.apart_spans.proofs.nearest.Goals as goal

pub returns-clause-overlaps : goal.returns-clause-overlaps
returns-clause-overlaps c =
    overlaps_at c.args.span c.place_of.result c.args.spans.now c.requires c.place_of.ensures
    ∙ ap (λ (o : Option Extent). passes_at (λ s. overlap s c.args.span) o) (sym c.span_at.ensures)

pub returns-clause-straddles : goal.returns-clause-straddles
returns-clause-straddles c =
    straddles_at c.args.span c.place_of.result c.args.spans.now c.requires c.place_of.ensures
    ∙ ap (λ (o : Option Extent). passes_at (λ s. overlap s c.args.span && not (covers s c.args.span)) o) (sym c.span_at.ensures)
