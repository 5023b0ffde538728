use Rattle.std.proofs.Common.{List, ap, sym, ◌∙◌}
use Rattle.seg_names.specs.declared.seg_id.SegId.{SegId}
use Rattle.book_rows.specs.declared.replies.TimelinePart.{TimelinePart}
use Rattle.overlord_run.specs.Visible.{put_all}
use Rattle.overlord_run.proofs.PutIds.{all_seen, last_part, put_parts}
use Rattle.overlord_run.proofs.visible.ids_in.Goals as goal

pub loop-part-preserved : goal.loop-part-preserved
loop-part-preserved c =
    let left = c.pop.new.self.items in
    let seen = c.loop-part.seen.keys in
    ap (put_parts left) c.in_ok-put_ids.ensures
    ∙ (ap (λ (ids : List SegId). put_parts left (put_all ids seen)) c.into_vec.ensures ∙ (sym (last_part left c.in-Some.part seen) ∙ (ap (λ (ps : List TimelinePart). put_parts ps seen) (sym c.in-Some.ensures.items) ∙ c.loop-part.invariant)))

pub returns : goal.returns
returns c = all_seen c.loop-part.parts.items c.args.parts.items c.loop-part.seen.keys (sym c.loop-part.parts.ok.0 ∙ c.in_default.ensures.cases.0) c.loop-part.invariant
