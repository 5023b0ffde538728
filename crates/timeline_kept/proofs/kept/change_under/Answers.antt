use Rattle.std.proofs.Common.{List, ap, rules, ℕ, ◌∙◌, ◌≡◌}
use Rattle.std.specs.Prelude.{Some}
use Rattle.std.specs.BTreeMap.{insert_entry, is_at}
use Rattle.std.specs.Map.{lookup}
use Rattle.std.proofs.lemmas.Result.{on_err_weaker, on_ok_weaker}
use Rattle.book_rows.specs.Shown.{ChunkPart}
use Rattle.timeline_kept.proofs.Naming.{inserted_elsewhere, name_cmp, written_back, written_elsewhere}
use Rattle.timeline_kept.proofs.kept.change_under.Goals as goal

pub returns-in-Some-clause-others : goal.returns-in-Some-clause-others
returns-in-Some-clause-others c = on_ok_weaker c.change.result
    (λ shown. written_elsewhere c.args.source.now c.args.timelines.now.entries (c.get_mut.follows.lender c.change.new.self).entries c.change.new.self (c.get_mut.follows.holds c.change.new.self).0) c.change.ensures.ok

pub returns-in-Some-clause-err : goal.returns-in-Some-clause-err
returns-in-Some-clause-err c =
    let found : lookup (is_at (name_cmp c.args.source.now)) c.args.timelines.now.entries ≡ Some c.in-Some.timeline.now = search rules in
    on_err_weaker c.change.result
    (λ same. written_back c.args.source.now c.args.timelines.now.entries (c.get_mut.follows.lender c.change.new.self).entries c.change.new.self c.in-Some.timeline.now found (c.get_mut.follows.holds c.change.new.self).0 same) c.change.ensures.err

pub returns-clause-others : goal.returns-clause-others
returns-clause-others c =
    let same : c.get_mut.follows.lender-at-none.entries ≡ c.args.timelines.now.entries = search rules in
    inserted_elsewhere c.args.source.now c.args.timelines.now.entries c.insert.new.self.entries c.change-2.new.self
    (c.in_ok-insert.ensures.entries
    ∙ ap (λ (es : List (List ℕ × List ChunkPart)). insert_entry name_cmp es c.in_ok-twin.field-0 c.change-2.new.self) same
    ∙ ap (λ (key : List ℕ). insert_entry name_cmp c.args.timelines.now.entries key c.change-2.new.self) c.in_ok-twin.ensures)
