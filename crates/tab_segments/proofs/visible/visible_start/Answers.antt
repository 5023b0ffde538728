use Rattle.std.proofs.Common.{refl, ◌∙◌}
use Rattle.tab_segments.proofs.Greatest.{none_visible, place_visible}
use Rattle.tab_segments.proofs.visible.visible_start.Goals as goal

pub returns-in-Some : goal.returns-in-Some
returns-in-Some c =
    let own = c.newest_place.ensures.sound c.in-Some.place c.in-Some.is in
    c.row.ensures
    ∙ (
    own.1
    ∙ place_visible c.args.source.now c.args.around.start c.args.around c.args.entries.now.items c.newest_place.result c.in-Some.place own.0 c.requires.led (record { start = refl; end = c.start-start.ensures.ordered }) c.in-Some.is own.1 own.2 c.newest_place.ensures.newest
    )

pub returns-in-None : goal.returns-in-None
returns-in-None c =
    none_visible c.args.source.now c.args.around.start c.args.around c.args.entries.now.items c.newest_place.result (record { start = refl; end = c.start-start.ensures.ordered }) c.in-None.is c.newest_place.ensures.newest
