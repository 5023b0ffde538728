use Rattle.std.proofs.lemmas.Result.{on_ok_weaker}
use Rattle.timeline_kept.specs.Sources.{kept_parts}
use Rattle.timeline_kept.proofs.Filling.{shown_rows}
use Rattle.timeline_kept.proofs.kept.KeptView.changed.Goals as goal

pub returns-clause-own : goal.returns-clause-own
returns-clause-own c =
    let parts = c.in_ok-parts_of.ensures c.args.source.now c.requires.used c.requires.one_span in
    rw (← c.self.view_is) (
    on_ok_weaker c.change_under.result
    (shown_rows c.args.spans.now c.args.rows.now c.args.source.now c.from_list-fresh.result (kept_parts c.self.inside.timelines.entries c.args.source.now) (kept_parts c.change_under.new.timelines.entries c.args.source.now) (rw c.from_list-fresh.ensures parts)) c.change_under.ensures.own
    )
