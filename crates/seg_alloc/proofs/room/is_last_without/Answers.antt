use Rattle.std.proofs.Common.{Bool, List, ap, false, length, not, sym, true, ℕ, ◌&&◌, ◌∙◌, ◌≡◌}
use Rattle.std.specs.List.{list_any}
use Rattle.book_rows.specs.declared.rows.PendingRow.{PendingRow}
use Rattle.tab_pending.specs.Searches.{is_of_one}
use Rattle.seg_alloc.specs.Room.{is_last}
use Rattle.seg_alloc.proofs.Rooms.{last_without}
use Rattle.seg_alloc.proofs.room.is_last_without.Goals as goal

pub returns-then-is_last : goal.returns-then-is_last
returns-then-is_last c =
    let ps : List PendingRow = c.args.pendings.now.pendings in
    let ns : List ℕ = c.args.locks.now in
    let last : is_last (length ps) ≡ true = sym (c.is_last.ensures ∙ ap is_last c.count.ensures) ∙ c.if-is_last.true in
    ap not c.any_of.ensures ∙ (sym (ap (λ (b : Bool). b && not (list_any (is_of_one ns) ps)) last) ∙ last_without ns ps c.requires)

pub returns-else-is_last : goal.returns-else-is_last
returns-else-is_last c =
    let ps : List PendingRow = c.args.pendings.now.pendings in
    let ns : List ℕ = c.args.locks.now in
    let more : is_last (length ps) ≡ false = sym (c.is_last.ensures ∙ ap is_last c.count.ensures) ∙ c.if-is_last.false in
    c.if-is_last.false ∙ (sym (ap (λ (b : Bool). b && not (list_any (is_of_one ns) ps)) more) ∙ last_without ns ps c.requires)
