use Rattle.std.proofs.Common.{◌∙◌, List, ap, ℕ}
use Rattle.std.specs.BTreeMap.{insert_entry}
use Rattle.tab_streams.proofs.NameSplit.{name_cmp}
use Rattle.tab_streams.proofs.Writing.{source_put}
use Rattle.tab_streams.proofs.offsets.put_source.Goals as goal

pub returns-clause-ok : goal.returns-clause-ok
returns-clause-ok c os made =
    source_put c.args.source.now c.args.stream c.args.sources.now.entries c.insert.new.self.entries c.put.new.self c.new-streams.result c.insert.ensures.was_ordered c.requires c.new-streams.ensures
    (c.in_ok-insert.ensures.entries ∙ ap (λ (n : List ℕ). insert_entry name_cmp c.args.sources.now.entries n c.put.new.self) c.in_ok-name.ensures) c.args.partitions os c.in_ok-put.ensures.ok made
