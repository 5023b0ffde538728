use Rattle.std.proofs.Common.{◌∙◌, ap}
use Rattle.std.specs.Option.{option_map}
use Rattle.tab_streams.specs.declared.keys.Entry.{Entry}
use Rattle.tab_streams.proofs.Repeats.{repeated}
use Rattle.tab_streams.proofs.publications.Publications.first_repeated.Goals as goal

pub returns : goal.returns
returns c =
    rw (← c.self.view_is)
    (c.number_of.ensures
    ∙ (
    ap (λ o. option_map (λ (e : Entry). e.number) o) c.first.ensures
    ∙ repeated c.args.like.now c.counted_from-from.result c.self.inside.entries c.self.invariant c.counted_from-from.ensures.none c.counted_from-from.ensures.last
    ))
