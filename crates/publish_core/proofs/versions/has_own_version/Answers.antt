use Rattle.std.proofs.Common.{Option, ap, sym, ◌&&◌, ◌∙◌}
use Rattle.std.specs.Ordering.{int_eq}
use Rattle.seg_names.specs.Ids.{same_extent}
use Rattle.book_rows.specs.Over.{Target}
use Rattle.apart_spans.specs.Apart.{passes_at}
use Rattle.publish_core.proofs.TargetPlaces.{versioned_at}
use Rattle.publish_core.proofs.versions.has_own_version.Goals as goal

pub returns-in-Some : goal.returns-in-Some
returns-in-Some c =
    c.is_version_of.ensures
    ∙ (
    ap (λ (o : Option Target). passes_at (λ x. same_extent x.span c.args.id.now.span && int_eq x.version c.args.id.now.version) o) c.in-Some.ensures
    ∙ sym (versioned_at c.args.id.now c.args.targets.now c.place_of.result c.requires c.place_of.ensures)
    )

pub returns-in-None : goal.returns-in-None
returns-in-None c =
    ap (λ (o : Option Target). passes_at (λ x. same_extent x.span c.args.id.now.span && int_eq x.version c.args.id.now.version) o) c.in-None.ensures
    ∙ sym (versioned_at c.args.id.now c.args.targets.now c.place_of.result c.requires c.place_of.ensures)
