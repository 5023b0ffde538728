use Rattle.std.proofs.Common.{◌∙◌, ap}
use Rattle.std.specs.Option.{option_map}
use Rattle.book_rows.specs.Ids.{is_listed}
use Rattle.tab_streams.specs.declared.keys.Entry.{Entry}
use Rattle.tab_streams.proofs.Repeats.{found_number}
use Rattle.tab_streams.proofs.publications.Publications.first_adding.Goals as goal

pub returns : goal.returns
returns c =
    rw (← c.self.view_is)
    (c.number_of.ensures ∙ (ap (λ o. option_map (λ (e : Entry). e.number) o) c.first.ensures ∙ found_number (λ m. is_listed m.adds c.args.id.now) 0 c.self.inside.entries c.self.invariant))
