use Rattle.std.proofs.Common.{◌≡◌, ◌++◌, length, take, drop, sym, ap, refl, ◌∙◌}
use Rattle.std.proofs.lemmas.List.{take_at, drop_at}
use Rattle.lock_posse.specs.Granting.{member_lists}
use Rattle.lock_posse.proofs.Granted.{granted_rows}
use Rattle.lock_posse.proofs.grants.change_rows.Goals as goal

pub returns-clause-ok : goal.returns-clause-ok
returns-clause-ok c =
    let count : length c.args.rows.now.items ≡ c.len-count.result = sym (c.len-count.ensures ∙ c.args.rows.now.ok.0) in
    let whole : c.append.new.self.items ≡ c.args.rows.now.items ++ c.args.granted.now.rows =
    c.in_ok-append.ensures.items ∙ ap (λ made. c.args.rows.now.items ++ made) (c.into_vec-made.ensures ∙ c.in_ok-twin.ensures) in
    let front : take c.len-count.result c.append.new.self.items ≡ c.args.rows.now.items = rw whole (take_at c.args.rows.now.items c.args.granted.now.rows c.len-count.result count) in
    let back : drop c.len-count.result c.append.new.self.items ≡ c.args.granted.now.rows = rw whole (drop_at c.args.rows.now.items c.args.granted.now.rows c.len-count.result count) in
    let lists : c.in_ok-lists.lists.items ≡ member_lists c.args.granted.now.joins c.args.task.now c.args.rows.now.items = rw (c.as_slice.ensures, c.deref.ensures.value) at c.in_ok-lists.ensures in
    rw (c.change_first.ensures c.args.task.now (rw front lists), front, back, granted_rows c.args.granted.now.revoked c.args.granted.now.joins c.args.task.now c.args.rows.now.items) refl
