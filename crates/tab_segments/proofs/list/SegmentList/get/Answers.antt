use Rattle.std.proofs.Common.{◌≡◌, None, Some, slice_get, sym, rules}
use Rattle.tab_segments.proofs.Rows.{get_mapped, none_mapped}
use Rattle.tab_segments.proofs.list.SegmentList.get.Goals as goal

pub returns-in-Some : goal.returns-in-Some
returns-in-Some c =
    let got : slice_get c.self.inside.entries.items c.args.place ≡ Some c.in-Some.entry.now = search rules in
    rw (← c.self.view_is) (sym (get_mapped (λ e. e.row) c.self.inside.entries.items c.args.place c.in-Some.entry.now got))

pub returns-in-None : goal.returns-in-None
returns-in-None c =
    let got : slice_get c.self.inside.entries.items c.args.place ≡ None = search rules in
    rw (← c.self.view_is) (sym (none_mapped (λ e. e.row) c.self.inside.entries.items c.args.place got))
