use Rattle.std.proofs.Common.{◌≡◌, ◌<◌, ◌+◌, ◌∷◌, List, length, take, drop, get_or, sym, ap, arith, ◌∙◌}
use Rattle.std.proofs.lemmas.List.{at_drop_more, get_or-take, length-set, length-take-le}
use Rattle.std.proofs.lemmas.List.Edits.{map_over_more}
use Rattle.book_rows.specs.declared.rows.PosseRow.{PosseRow}
use Rattle.lock_posse.specs.Granting.{granted_row, member_lists}
use Rattle.lock_posse.proofs.Granted.{not_yet}
use Rattle.lock_posse.proofs.grants.change_first.Goals as goal

pub loop-at-preserved : goal.loop-at-preserved
loop-at-preserved c =
    let rows : List PosseRow = c.args.rows.now.items in
    let item : PosseRow = c.index_mut.result.now in
    let within : c.loop-at.at < length rows = omega arith in
    let long = length-take-le c.args.count rows c.requires in
    let within_front : c.loop-at.at < length (take c.args.count rows) = omega arith in
    record {
      long = length-set c.loop-at.rows.items c.loop-at.at c.change_row.new.row ∙ c.loop-at.invariant.long;
      done = λ task e.
          let done = c.loop-at.invariant.done task e in
          let f : PosseRow → PosseRow = granted_row c.args.granted.now.revoked c.args.granted.now.joins task in
          let rest : List PosseRow = drop (c.loop-at.at + 1) (take c.args.count rows) in
          let here : item ≡ get_or (take c.args.count rows) c.loop-at.at item =
          not_yet f rows c.loop-at.rows.items c.loop-at.at item within done.0 c.index_mut.ensures.value ∙ sym (get_or-take c.args.count rows c.loop-at.at item c.loop-at-test.true) in
          let first : c.loop-at.lists.items ≡ member_lists c.args.granted.now.joins task (item ∷ rest) =
          done.1
          ∙ (
          at_drop_more (member_lists c.args.granted.now.joins task) (take c.args.count rows) c.loop-at.at item within_front
          ∙ ap (λ p. member_lists c.args.granted.now.joins task (p ∷ rest)) (sym here)
          ) in
          let changed = c.change_row.ensures task rest first in (
            rw changed.0 (map_over_more f rows c.loop-at.rows.items c.loop-at.at item within done.0 c.index_mut.ensures.value),
            changed.1,
          );
    }
