use Rattle.std.proofs.Common.{◌≡◌, true, false, sym, ◌∙◌}
use Rattle.book_rows.specs.Grant.{revoked_in}
use Rattle.book_rows.specs.Lists.{stands_in}
use Rattle.lock_posse.proofs.Granted.{listed_row, listed_rest, other_row, other_rest}
use Rattle.lock_posse.proofs.grants.change_row.Goals as goal

pub returns-else-is_listed : goal.returns-else-is_listed
returns-else-is_listed c =
    let revoked : c.revoke_listed.new.row ≡ revoked_in c.args.granted.now.revoked c.args.row.now = rw c.as_slice.ensures at c.revoke_listed.ensures in
    let off : stands_in c.args.granted.now.joins c.args.row.now.number ≡ false = rw (c.as_slice-2.ensures, revoked) at (sym c.is_listed.ensures ∙ c.if-is_listed.false) in
    λ task rest e. (
      revoked ∙ other_row c.args.granted.now.revoked c.args.granted.now.joins c.args.lists.now.items c.args.row.now task rest off,
      other_rest c.args.granted.now.revoked c.args.granted.now.joins c.args.lists.now.items c.args.row.now task rest off e,
    )

pub returns-then-is_listed : goal.returns-then-is_listed
returns-then-is_listed c =
    let revoked : c.revoke_listed.new.row ≡ revoked_in c.args.granted.now.revoked c.args.row.now = rw c.as_slice.ensures at c.revoke_listed.ensures in
    let on : stands_in c.args.granted.now.joins c.args.row.now.number ≡ true = rw (c.as_slice-2.ensures, revoked) at (sym c.is_listed.ensures ∙ c.if-is_listed.true) in
    λ task rest e. (
      rw (c.take_members.ensures.row, revoked) (listed_row c.args.granted.now.revoked c.args.granted.now.joins c.args.lists.now.items c.args.row.now task rest on e),
      c.take_members.ensures.lists ∙ listed_rest c.args.granted.now.revoked c.args.granted.now.joins c.args.lists.now.items c.args.row.now task rest on e,
    )
