use Rattle.std.proofs.Common.{◌∙◌, ◌≡◌, None, ap, refl, rules, sym}
use Rattle.std.specs.BTreeMap.{is_at}
use Rattle.std.specs.Map.{lookup}
use Rattle.tab_streams.specs.ByName.{all_rows, or_nothing}
use Rattle.tab_streams.proofs.NameSplit.{name_cmp}
use Rattle.tab_streams.proofs.StreamLaws.{cleared_nothing}
use Rattle.tab_streams.proofs.Writing.{none_left, removed_written}
use Rattle.tab_streams.proofs.offsets.remove_stream.Goals as goal

pub returns-in-Some-clause-rows : goal.returns-in-Some-clause-rows
returns-in-Some-clause-rows c =
    removed_written c.args.source.now c.args.stream.now c.args.sources.now.entries _ c.in-Some.streams.now c.remove.new.self c.get_mut.ensures.ordered c.remove.ensures.ordered (sym c.in-Some.ensures.value) (c.get_mut.follows.holds c.remove.new.self).0
    c.remove.ensures.removed

pub returns-in-Some-clause-last : goal.returns-in-Some-clause-last
returns-in-Some-clause-last c =
    λ on. ap or_nothing ((c.get_mut.follows.holds c.remove.new.self).3 (rw (← c.in-Some.ensures.value) refl)).1 ∙ none_left c.remove.new.self (sym c.is_empty.ensures ∙ on)

pub returns-clause-rows : goal.returns-clause-rows
returns-clause-rows c =
    let none : lookup (is_at (name_cmp c.args.source.now)) c.args.sources.now.entries ≡ None = search rules in
    ap (λ m. all_rows m.entries) c.get_mut.follows.holds-at-none ∙ cleared_nothing c.args.source.now c.args.stream.now c.args.sources.now.entries c.get_mut.ensures.ordered (ap or_nothing none)
