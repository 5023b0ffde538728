use Rattle.std.proofs.Common.{◌≡◌, None, ap, rules, subst, sym, OnErr}
use Rattle.std.specs.BTreeMap.{is_at}
use Rattle.std.specs.Map.{lookup}
use Rattle.tab_streams.proofs.Around.{Streams}
use Rattle.tab_streams.proofs.NameSplit.{name_cmp}
use Rattle.tab_streams.proofs.Writing.{add_ok, write_err, write_ok}
use Rattle.tab_streams.proofs.by_stream.set.Goals as goal

pub returns-in-Some-clause-ok : goal.returns-in-Some-clause-ok
returns-in-Some-clause-ok c =
    write_ok c.set.result c.args.stream c.args.streams.now.entries _ c.in-Some.partitions.now c.set.new.self c.args.offset c.get_mut.ensures.ordered (sym c.in-Some.ensures.value) (c.get_mut.follows.holds c.set.new.self).0
    c.set.ensures.ok

pub returns-in-Some-clause-err : goal.returns-in-Some-clause-err
returns-in-Some-clause-err c =
    write_err c.set.result c.args.stream c.args.streams.now.entries _ c.in-Some.partitions.now c.set.new.self (sym c.in-Some.ensures.value) (c.get_mut.follows.holds c.set.new.self).0 c.set.ensures.err

pub returns-clause-ok : goal.returns-clause-ok
returns-clause-ok c =
    let none : lookup (is_at (name_cmp c.args.stream)) c.args.streams.now.entries ≡ None = search rules in
    add_ok c.add_stream.result c.args.stream c.args.streams.now.entries _ c.add_stream.new.streams.entries c.args.offset (ap (λ m. m.entries) c.get_mut.follows.holds-at-none) none c.add_stream.ensures.ok

pub returns-clause-err : goal.returns-clause-err
returns-clause-err c =
    subst (λ (xs : Streams). OnErr c.add_stream.result (c.add_stream.new.streams.entries ≡ xs)) (ap (λ m. m.entries) c.get_mut.follows.holds-at-none) c.add_stream.ensures.err
