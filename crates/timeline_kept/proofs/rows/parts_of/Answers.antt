use Rattle.std.proofs.Common.{[], ap, arith, length, subst, sym, take, ◌∙◌, ◌∷◌, ◌++◌, ◌<◌}
use Rattle.std.specs.List.Sorted.{IsPermutation}
use Rattle.std.proofs.lemmas.List.{take_all, take_more}
use Rattle.timeline_view.specs.Chunks.{AreIdsIn, HaveOneSource, IsPartOf, covers_of, is_in, named_ids}
use Rattle.timeline_view.specs.Sweep.{AreStretches}
use Rattle.timeline_view.proofs.ChunkIds.{chunk_ids, named_have_one}
use Rattle.timeline_view.proofs.Dressing.{stretch_proper}
use Rattle.timeline_kept.proofs.Dressed.{Dresses, dresses_all, dresses_more}
use Rattle.timeline_kept.proofs.rows.parts_of.Goals as goal

pub part_of-requires-clause-proper : goal.part_of-requires-clause-proper
part_of-requires-clause-proper c =
    let it = c.deref-stretch-items.result.now in
    let covers : AreStretches (covers_of c.args.rows.now) it = subst (λ cs. AreStretches cs it) (c.deref.ensures.value ∙ c.in_ok-covers.ensures) (subst (λ ps. AreStretches c.deref.result.now ps) (sym c.deref-stretch-items.ensures.value) c.in_ok-stretches.ensures) in
    stretch_proper (covers_of c.args.rows.now) it c.stretch-item.result c.loop-stretch.stretch-index (omega (arith, c.loop-stretch-test.true)) c.stretch-item.is covers

pub part_of-requires-clause-one : goal.part_of-requires-clause-one
part_of-requires-clause-one c =
    let ids = c.in_ok-ids.ids.items in
    subst HaveOneSource (sym c.deref-in-loop-stretch.ensures.value) (named_have_one c.args.rows.now c.requires.0 ids (subst (λ rows. IsPermutation (named_ids rows) ids) (sym c.requires.1) c.in_ok-ids.ensures.all))

pub loop-stretch-preserved : goal.loop-stretch-preserved
loop-stretch-preserved c =
    let it = c.deref-stretch-items.result.now in
    let i = c.loop-stretch.stretch-index in
    let p = c.stretch-item.result in
    let q = c.in_ok-part.part in
    let rows = c.args.rows.now in
    let ids = c.in_ok-ids.ids.items in
    let lt : i < length it = omega (arith, c.loop-stretch-test.true) in
    let part : IsPartOf rows p q = record {
      span_is = c.in_ok-part.ensures.span;
      version_is = c.in_ok-part.ensures.version;
      ids_are = chunk_ids rows p.top ids q.ids c.in_ok-ids.ensures.all (subst (λ xs. AreIdsIn (is_in p.top) xs q.ids) c.deref-in-loop-stretch.ensures.value c.in_ok-part.ensures.ids);
    } in
    subst (λ ps. Dresses rows ps c.push.new.self) (ap (λ x. take i it ++ x ∷ []) c.stretch-item.is ∙ sym (take_more it i p lt)) (dresses_more rows (take i it) c.loop-stretch.list c.push.new.self p q c.loop-stretch.invariant part c.in_ok-push.ensures.ok)

pub returns : goal.returns
returns c =
    let it = c.deref-stretch-items.result.now in
    let rows = c.args.rows.now in
    let all : Dresses rows it c.loop-stretch.list = subst (λ ps. Dresses rows ps c.loop-stretch.list) (take_all c.loop-stretch.stretch-index it (omega (arith, c.loop-stretch-test.false))) c.loop-stretch.invariant in
    let stretched : AreStretches (covers_of rows) it = subst (λ cs. AreStretches cs it) (c.deref.ensures.value ∙ c.in_ok-covers.ensures) (subst (λ ps. AreStretches c.deref.result.now ps) (sym c.deref-stretch-items.ensures.value) c.in_ok-stretches.ensures) in
    dresses_all rows it c.loop-stretch.list stretched all
