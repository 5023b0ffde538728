use Rattle.std.proofs.Common.{◌≡◌, None, ap, rules, subst, sym, OnErr, OnOk}
use Rattle.std.specs.BTreeMap.{is_at}
use Rattle.std.specs.Map.{lookup}
use Rattle.book_rows.specs.Offsets.{row_for, set_row}
use Rattle.tab_streams.specs.ByName.{all_rows}
use Rattle.tab_streams.proofs.Around.{Sources}
use Rattle.tab_streams.proofs.NameSplit.{name_cmp}
use Rattle.tab_streams.proofs.Writing.{nothing_under, set_written, unwritten}
use Rattle.tab_streams.proofs.offsets.set_in.Goals as goal

pub returns-in-Some-clause-ok : goal.returns-in-Some-clause-ok
returns-in-Some-clause-ok c =
    set_written c.set.result c.args.source c.args.stream c.args.sources.now.entries _ c.in-Some.streams.now c.set.new.self c.get_mut.ensures.ordered c.set.ensures.ordered (sym c.in-Some.ensures.value) (c.get_mut.follows.holds c.set.new.self).0 c.args.offset
    c.set.ensures.ok

pub returns-in-Some-clause-err : goal.returns-in-Some-clause-err
returns-in-Some-clause-err c =
    unwritten c.set.result c.args.source c.args.sources.now.entries _ c.in-Some.streams.now c.set.new.self (sym c.in-Some.ensures.value) (c.get_mut.follows.holds c.set.new.self).0 c.set.ensures.err

pub add_source-requires : goal.add_source-requires
add_source-requires c =
    let none : lookup (is_at (name_cmp c.args.source)) c.args.sources.now.entries ≡ None = search rules in
    nothing_under c.args.source c.args.sources.now.entries _ (ap (λ m. m.entries) c.get_mut.follows.holds-at-none) none

pub returns-clause-ok : goal.returns-clause-ok
returns-clause-ok c =
    subst (λ (xs : Sources). OnOk c.add_source.result (all_rows c.add_source.new.sources.entries ≡ set_row (row_for c.args.source c.args.stream c.args.offset) (all_rows xs))) (ap (λ m. m.entries) c.get_mut.follows.holds-at-none)
    c.add_source.ensures.ok

pub returns-clause-err : goal.returns-clause-err
returns-clause-err c =
    subst (λ (xs : Sources). OnErr c.add_source.result (all_rows c.add_source.new.sources.entries ≡ all_rows xs)) (ap (λ m. m.entries) c.get_mut.follows.holds-at-none) c.add_source.ensures.err
