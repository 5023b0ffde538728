use Rattle.std.proofs.Common.{arith, ap, subst, sym, take, length, ◌∙◌, ◌∷◌, ◌++◌, ◌<◌, []}
use Rattle.std.specs.List.Sorted.{IsPermutation}
use Rattle.std.proofs.lemmas.List.{take_all, take_more}
use Rattle.book_rows.specs.Shown.{used_rows}
use Rattle.timeline_view.specs.Chunks.{AreIdsIn, ArePartsOf, HaveOneSource, IsPartOf, covers_of, is_in, named_ids}
use Rattle.timeline_view.specs.Sweep.{AreStretches}
use Rattle.timeline_view.proofs.ChunkIds.{chunk_ids, named_have_one, parts_push}
use Rattle.timeline_view.proofs.Dressing.{parts_are_timeline, stretch_proper}
use Rattle.timeline_view.proofs.chunk_parts.timeline.Goals as goal

pub part_of-requires-clause-proper : goal.part_of-requires-clause-proper
part_of-requires-clause-proper c =
    let it = c.deref-stretch-items.result.now in
    let covers : AreStretches (covers_of c.deref.result.now) it = subst (λ cs. AreStretches cs it) (c.deref-2.ensures.value ∙ c.in_ok-covers.ensures) (subst (λ ps. AreStretches c.deref-2.result.now ps) (sym c.deref-stretch-items.ensures.value) c.in_ok-stretches.ensures) in
    stretch_proper (covers_of c.deref.result.now) it c.stretch-item.result c.loop-stretch.stretch-index (omega (arith, c.loop-stretch-test.true)) c.stretch-item.is covers

pub part_of-requires-clause-one : goal.part_of-requires-clause-one
part_of-requires-clause-one c =
    let ids = c.in_ok-ids.ids.items in
    subst HaveOneSource (sym c.deref-in-loop-stretch.ensures.value)
    (named_have_one c.args.segments.now.segments c.args.source.now ids (subst (λ rows. IsPermutation (named_ids rows) ids) (c.deref-3.ensures.value ∙ c.in_ok-rows.ensures) c.in_ok-ids.ensures.all))

pub loop-stretch-preserved : goal.loop-stretch-preserved
loop-stretch-preserved c =
    let it = c.deref-stretch-items.result.now in
    let i = c.loop-stretch.stretch-index in
    let p = c.stretch-item.result in
    let q = c.in_ok-part_of.field-0 in
    let used = used_rows c.args.segments.now.segments c.args.source.now in
    let ids = c.in_ok-ids.ids.items in
    let lt : i < length it = omega (arith, c.loop-stretch-test.true) in
    let named : IsPermutation (named_ids used) ids = subst (λ rows. IsPermutation (named_ids rows) ids) (c.deref-3.ensures.value ∙ c.in_ok-rows.ensures) c.in_ok-ids.ensures.all in
    let part : IsPartOf used p q = record {
      span_is = c.in_ok-part_of.ensures.span;
      version_is = c.in_ok-part_of.ensures.version;
      ids_are = chunk_ids used p.top ids q.ids named (subst (λ xs. AreIdsIn (is_in p.top) xs q.ids) c.deref-in-loop-stretch.ensures.value c.in_ok-part_of.ensures.ids);
    } in
    subst (λ ps. ArePartsOf used ps c.push.new.self.items) (ap (λ x. take i it ++ x ∷ []) c.stretch-item.is ∙ sym (take_more it i p lt))
    (subst (λ qs. ArePartsOf used (take i it ++ p ∷ []) qs) (sym c.in_ok-push.ensures.items) (parts_push used (take i it) c.loop-stretch.parts.items p q c.loop-stretch.invariant part))

pub returns : goal.returns
returns c =
    let it = c.deref-stretch-items.result.now in
    let rows = c.args.segments.now.segments in
    let source = c.args.source.now in
    let all : ArePartsOf (used_rows rows source) it c.loop-stretch.parts.items = subst (λ ps. ArePartsOf (used_rows rows source) ps c.loop-stretch.parts.items) (take_all c.loop-stretch.stretch-index it (omega (arith, c.loop-stretch-test.false))) c.loop-stretch.invariant in
    let stretched : AreStretches (covers_of (used_rows rows source)) it = subst (λ cs. AreStretches cs it) (c.deref-2.ensures.value ∙ c.in_ok-covers.ensures ∙ ap covers_of (c.deref.ensures.value ∙ c.in_ok-rows.ensures)) (subst (λ ps. AreStretches c.deref-2.result.now ps) (sym c.deref-stretch-items.ensures.value) c.in_ok-stretches.ensures) in
    parts_are_timeline rows source c.requires it c.loop-stretch.parts.items stretched all
