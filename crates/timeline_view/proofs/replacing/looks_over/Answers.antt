use Rattle.std.proofs.Common.{List, ap, sym, subst, ◌∙◌, ◌≡◌}
use Rattle.std.specs.Prelude.{IfOk}
use Rattle.book_rows.specs.Lists.{gathered}
use Rattle.timeline_view.specs.Chunks.{covers_of}
use Rattle.timeline_view.specs.Contents.{AreAscending}
use Rattle.timeline_view.specs.Looks.{ends_over, look_in, look_on}
use Rattle.timeline_view.specs.Sweep.{AreStretches}
use Rattle.timeline_view.specs.declared.looks.Look.{Look}
use Rattle.timeline_view.proofs.Piecing.{stretches_ascend}
use Rattle.timeline_view.proofs.Tops.{alike_gathered, look_on_top}
use Rattle.timeline_view.proofs.replacing.looks_over.Goals as goal

pub looks_at-requires : goal.looks_at-requires
looks_at-requires c = subst AreAscending (sym c.deref-2.ensures.value) (stretches_ascend c.deref.result.now c.in_ok-stretches.stretches.items c.in_ok-stretches.ensures)

pub returns : goal.returns
returns c =
    let ps = c.in_ok-stretches.stretches.items in
    let covers : AreStretches (covers_of c.args.rows.now) ps = subst (λ cs. AreStretches cs ps) (c.deref.ensures.value ∙ c.in_ok-covers.ensures) c.in_ok-stretches.ensures in
    let ends = ends_over c.args.span c.args.rows.now in
    let same : gathered (look_in c.deref-2.result.now) c.in_ok-instants.instants.keys ≡ gathered (look_on (covers_of c.args.rows.now)) ends =
    ap (λ qs. gathered (look_in qs) c.in_ok-instants.instants.keys) c.deref-2.ensures.value
    ∙ ap (λ ts. gathered (look_in ps) ts) c.in_ok-instants.ensures
    ∙ alike_gathered (look_in ps) (look_on (covers_of c.args.rows.now)) ends (λ t i. look_on_top (covers_of c.args.rows.now) ps covers t) in
    subst (λ (ls : List Look). IfOk c.looks_at.result (λ looks. looks ≡ ls)) same c.looks_at.ensures
