use Rattle.tab_segments.specs.Leading.{IsReal}
use Rattle.tab_segments.proofs.Led.{led_pushed}
use Rattle.tab_segments.proofs.Rows.{all_push, either, map_push}
use Rattle.tab_segments.specs.declared.entries.Entry.{Entry}
use Rattle.tab_segments.proofs.list.SegmentList.push.Goals as goal

pub invariant_of-self : goal.invariant_of-self
invariant_of-self c =
    let entry : Entry = record { row = c.args.row; leads = c.leads_chunk-leads.result } in
    let real : IsReal c.args.row.id.span = c.look_real.ensures in
    either c.push_entry.result c.push_entry.ensures.ok c.push_entry.ensures.err
    (λ e. (
      c.push_entry.ensures.indexed,
      rw e (led_pushed c.self.inside.entries.items entry c.self.invariant.1 c.leads_chunk-leads.ensures),
      rw e (all_push (λ d. IsReal d.row.id.span) c.self.inside.entries.items entry c.self.invariant.2 real),
    ))
    (λ e. (c.push_entry.ensures.indexed, rw e c.self.invariant.1, rw e c.self.invariant.2))
