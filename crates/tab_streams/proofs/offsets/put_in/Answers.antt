use Rattle.std.proofs.Common.{◌≡◌, List, None, ap, rules, subst, sym, ℕ, OnErr, OnOk}
use Rattle.std.specs.BTreeMap.{insert_entry, is_at}
use Rattle.std.specs.Map.{lookup}
use Rattle.book_rows.specs.Offsets.{reset_to}
use Rattle.tab_streams.specs.ByName.{all_rows}
use Rattle.tab_streams.proofs.Around.{Sources}
use Rattle.tab_streams.proofs.NameSplit.{name_cmp}
use Rattle.tab_streams.proofs.Writing.{nothing_under, reset_written, unwritten}
use Rattle.tab_streams.proofs.offsets.put_in.Goals as goal

pub returns-in-Some-clause-ok : goal.returns-in-Some-clause-ok
returns-in-Some-clause-ok c os made =
    reset_written c.put.result c.args.source.now c.args.stream.now c.args.sources.now.entries _ c.in-Some.streams.now c.put.new.self c.get_mut.ensures.ordered c.put.ensures.ordered (sym c.in-Some.ensures.value) (c.get_mut.follows.holds c.put.new.self).0
    c.args.partitions os made
    (subst (λ (n : List ℕ). OnOk c.put.result (c.put.new.self ≡ insert_entry name_cmp c.in-Some.streams.now n c.args.partitions)) c.in_ok-stream.ensures c.put.ensures.ok)

pub returns-in-Some-clause-err : goal.returns-in-Some-clause-err
returns-in-Some-clause-err c =
    unwritten c.put.result c.args.source.now c.args.sources.now.entries _ c.in-Some.streams.now c.put.new.self (sym c.in-Some.ensures.value) (c.get_mut.follows.holds c.put.new.self).0 c.put.ensures.err

pub put_source-requires : goal.put_source-requires
put_source-requires c =
    let none : lookup (is_at (name_cmp c.args.source.now)) c.args.sources.now.entries ≡ None = search rules in
    nothing_under c.args.source.now c.args.sources.now.entries _ (ap (λ m. m.entries) c.get_mut.follows.holds-at-none) none

pub returns-clause-ok : goal.returns-clause-ok
returns-clause-ok c os made =
    subst (λ (xs : Sources). OnOk c.put_source.result (all_rows c.put_source.new.sources.entries ≡ reset_to (all_rows xs) c.args.source.now c.args.stream.now os)) (ap (λ m. m.entries) c.get_mut.follows.holds-at-none)
    (subst (λ (n : List ℕ). OnOk c.put_source.result (all_rows c.put_source.new.sources.entries ≡ reset_to (all_rows c.get_mut.follows.lender-at-none.entries) c.args.source.now n os)) c.in_ok-stream.ensures (c.put_source.ensures.ok os made))

pub returns-clause-err : goal.returns-clause-err
returns-clause-err c =
    subst (λ (xs : Sources). OnErr c.put_source.result (all_rows c.put_source.new.sources.entries ≡ all_rows xs)) (ap (λ m. m.entries) c.get_mut.follows.holds-at-none) c.put_source.ensures.err
