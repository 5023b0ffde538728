use Rattle.std.proofs.Common.{List, arith, ap, take, subst, sym, ◌∙◌, ◌≡◌, false}
use Rattle.std.proofs.lemmas.List.{take_all}
use Rattle.seg_names.specs.declared.seg_id.SegId.{SegId}
use Rattle.timeline_view.specs.Chunks.{AreIdsIn, is_before, is_in, last_is}
use Rattle.timeline_view.proofs.ChunkIds.{found_before, none_after, none_before, one_found}
use Rattle.timeline_view.proofs.Places.{got}
use Rattle.timeline_view.proofs.chunk_parts.ids_in.Goals.{then-not-last_is+in_ok-twin+in_ok-push, else-not-last_is}
use Rattle.timeline_view.proofs.chunk_parts.ids_in.Goals as goal

pub loop-at-init : goal.loop-at-init
loop-at-init c =
    let ids = c.args.ids.now in
    let from = c.first_of-at.result in (
      subst (λ (xs : List SegId). AreIdsIn (is_in c.args.cover.now) (take from ids) xs) (sym c.new-found.ensures.items) (none_before c.args.cover.now ids c.requires.sorted c.requires.one from c.first_of-at.ensures),
      λ k d le lt. c.first_of-at.ensures.1 k d le lt,
    )

pub returns-then-not-is_in : goal.returns-then-not-is_in
returns-then-not-is_in c =
    let ids = c.args.ids.now in
    let id = c.id_at-id.result.now in
    let g = got ids c.loop-at.at id c.id_at-id.ensures in
    let later : is_before c.args.cover.now id ≡ false = subst (λ a. is_before c.args.cover.now a ≡ false) (sym g.1) (c.loop-at.invariant.1 c.loop-at.at id (omega arith) g.0) in
    none_after c.args.cover.now ids c.requires.sorted c.requires.one c.loop-at.found.items c.loop-at.at id g.0 g.1 later (sym c.is_in.ensures ∙ c.if-not-is_in.true) c.loop-at.invariant.0

pub loop-at-preserved : goal.loop-at-preserved
loop-at-preserved c =
    let ids = c.args.ids.now in
    let id = c.id_at-id.result.now in
    let g = got ids c.loop-at.at id c.id_at-id.ensures in
    let on = sym c.is_in.ensures ∙ c.if-not-is_in.false in (
      elim c.if-not-last_is.branch [
        | then-not-last_is+in_ok-twin+in_ok-push w ↦
            rw (w.found-is, w.in_ok-push.ensures.items, w.in_ok-twin.ensures) (one_found (is_in c.args.cover.now) ids c.requires.sorted c.loop-at.found.items c.loop-at.at id g.0 g.1 c.loop-at.invariant.0 on (ap (λ xs. last_is xs id) (sym c.deref.ensures.value) ∙ sym c.last_is.ensures ∙ w.if-not-last_is.true))
        | else-not-last_is w ↦
            rw w.found-is (found_before (is_in c.args.cover.now) ids c.requires.sorted c.loop-at.found.items c.loop-at.at id g.0 g.1 c.loop-at.invariant.0 (ap (λ xs. last_is xs id) (sym c.deref.ensures.value) ∙ sym c.last_is.ensures ∙ w.if-not-last_is.false))
      ],
      λ k d le lt. c.loop-at.invariant.1 k d (omega (arith, le)) lt,
    )

pub returns : goal.returns
returns c = subst (λ xs. AreIdsIn (is_in c.args.cover.now) xs c.loop-at.found.items) (take_all c.loop-at.at c.args.ids.now (omega (arith, c.loop-at-test.false))) c.loop-at.invariant.0
