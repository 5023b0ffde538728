use Rattle.std.proofs.Common.{ap, map, sym, ◌∙◌}
use Rattle.book_rows.specs.Shown.{timeline_part}
use Rattle.timeline_kept.proofs.Placing.{parts_of_chunks}
use Rattle.timeline_kept.proofs.part_list.PartList.as_slice.Goals as goal

pub returns : goal.returns
returns c = c.as_slice.ensures.value ∙ sym (parts_of_chunks c.self.inside.parts.items c.self.inside.chunks.items c.self.invariant) ∙ ap (map timeline_part) c.self.view_is
