use Rattle.std.proofs.Common.{◌≡◌, ◌+◌, ◌<◌, ◌^◌, ◌∙◌, Err, List, Result, ap, arith, nat_lt, rules, subst, sym, true}
use Rattle.std.proofs.lemmas.Bool.{lt-ltb}
use Rattle.book_rows.specs.declared.answers.Counters.{Counters}
use Rattle.book_rows.specs.declared.answers.GrantedLock.{GrantedLock}
use Rattle.book_rows.specs.declared.replies.Refusal.{Refusal}
use Rattle.book_rows.specs.declared.rows.PosseRow.{PosseRow}
use Rattle.book_rows.specs.declared.rows.TaskRow.{TaskRow}
use Rattle.book_rows.specs.declared.rows.Want.{Want}
use Rattle.lockbox.specs.Decided.{IsAnswer, lock_with_room}
use Rattle.lockbox.proofs.OneRequest.{decided_from, fault_with_room}
use Rattle.lockbox.proofs.deciding.decide_lock.Goals as goal

pub returns-in-Ok : goal.returns-in-Ok
returns-in-Ok c =
    let ps : List PosseRow = c.args.posses.now in
    let k : Counters = c.args.counters in
    let t : TaskRow = c.args.task.now in
    let w : Want = c.args.want.now in
    let low : k.next_lock + 1 < 2 ^ 64 = search rules in
    let few : nat_lt (k.next_lock + 1) (2 ^ 64) ≡ true = lt-ltb (k.next_lock + 1) (2 ^ 64) low in
    subst (λ (r : Result GrantedLock Refusal). IsAnswer c.with_room.result r)
    (sym (decided_from ps k t w c.nothing_granted-nothing.result c.nothing_granted-nothing.ensures few ∙ ap (lock_with_room ps t.task) c.in-Ok.ensures))
    (c.with_room.ensures t.task)

pub returns-in-Err : goal.returns-in-Err
returns-in-Err c =
    let ps : List PosseRow = c.args.posses.now in
    let k : Counters = c.args.counters in
    let t : TaskRow = c.args.task.now in
    let w : Want = c.args.want.now in
    let low : k.next_lock + 1 < 2 ^ 64 = search rules in
    let few : nat_lt (k.next_lock + 1) (2 ^ 64) ≡ true = lt-ltb (k.next_lock + 1) (2 ^ 64) low in
    subst (λ (r : Result GrantedLock Refusal). IsAnswer (Err c.in-Err.fault) r)
    (sym (decided_from ps k t w c.nothing_granted-nothing.result c.nothing_granted-nothing.ensures few))
    (fault_with_room c.in-Err.fault ps t.task _ c.in-Err.ensures)
