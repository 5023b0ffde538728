use Rattle.std.proofs.Common.{◌+◌, ◌++◌, ap, vec_len, ◌∙◌}
use Rattle.std.specs.Map.{values_of}
use Rattle.row_table.specs.Table.{numbered_from, updated}
use Rattle.row_table.proofs.PushLemmas.{values_numbered}
use Rattle.row_table.proofs.UpdateLemmas.{below_each, shown_more, updated_values}
use Rattle.row_table.proofs.updates.apply_in.Goals as goal

pub update_each-requires-clause-shown : goal.update_each-requires-clause-shown
update_each-requires-clause-shown g c =
    shown_more g.U.Keyed.keys c.place_updates.new.keys.entries c.push_all_in.new.keys.entries c.in_ok-found.found.items c.push_all_in.ensures.more c.in_ok-found.ensures.shown

pub returns-clause-ok : goal.returns-clause-ok
returns-clause-ok g c =
    rw (c.update_each.ensures.rows, c.in_ok-push_all_in.ensures.ok, c.in_ok-found.ensures.placed)
    (updated_values g.U.Query.passes g.U.Update.after g.met.U.Update.stays c.args.updates.items c.args.rows.now.entries (numbered_from c.args.start c.args.made.items) c.len-count.ensures.ordered
    ∙ ap (λ rs. updated g.U.Query.passes g.U.Update.after c.args.updates.items (values_of c.args.rows.now.entries) ++ rs) (values_numbered c.args.start c.args.made.items))

pub returns-clause-below : goal.returns-clause-below
returns-clause-below g c =
    rw c.update_each.ensures.rows (below_each g.U.Query.passes g.U.Update.after (c.args.start + vec_len c.args.made) c.in_ok-found.found.items c.push_all_in.new.rows.entries c.in_ok-push_all_in.ensures.below)
