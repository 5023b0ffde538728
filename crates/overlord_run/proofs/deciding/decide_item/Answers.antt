use Rattle.std.proofs.Common.{◌≡◌, ◌++◌, OnOk, refl, sym, ◌∙◌, ap, subst}
use Rattle.std.proofs.lemmas.List.{append-nil}
use Rattle.std.specs.Prelude.{option_map}
use Rattle.machine_run.specs.Rules.{bytes_of}
use Rattle.machine_run.specs.LineItems.{LineItem, short}
use Rattle.overlord_run.specs.Held.{book_in}
use Rattle.overlord_rules.specs.OverlordRules.{reply_to, book_after, record_in}
use Rattle.machine_run.proofs.Exits.{on_ok}
use Rattle.overlord_run.proofs.LineTexts.{short_of, long_of}
use Rattle.overlord_run.proofs.deciding.decide_item.Goals as goal

pub returns-in-Some-clause-reply : goal.returns-in-Some-clause-reply
returns-in-Some-clause-reply c =
    let e : c.args.item.now ≡ short c.in-Some.line.now = short_of c.args.item.now c.in-Some.line.now (sym c.text.ensures ∙ ap (λ o. option_map (λ s. s.now) o) c.in-Some.is) in
    subst (λ (i : LineItem). OnOk c.decide_line.result (c.decide_line.new.replies.items ≡ c.args.replies.now.items ++ reply_to (book_in c.args.core.now) i)) (sym e) c.decide_line.ensures.reply

pub returns-in-Some-clause-body : goal.returns-in-Some-clause-body
returns-in-Some-clause-body c =
    let e : c.args.item.now ≡ short c.in-Some.line.now = short_of c.args.item.now c.in-Some.line.now (sym c.text.ensures ∙ ap (λ o. option_map (λ s. s.now) o) c.in-Some.is) in
    subst (λ (i : LineItem). OnOk c.decide_line.result (c.decide_line.new.body.items ≡ c.args.body.now.items ++ bytes_of (record_in (book_in c.args.core.now) i))) (sym e) c.decide_line.ensures.body

pub returns-in-Some-clause-next : goal.returns-in-Some-clause-next
returns-in-Some-clause-next c =
    let e : c.args.item.now ≡ short c.in-Some.line.now = short_of c.args.item.now c.in-Some.line.now (sym c.text.ensures ∙ ap (λ o. option_map (λ s. s.now) o) c.in-Some.is) in
    subst (λ (i : LineItem). OnOk c.decide_line.result (book_in c.decide_line.new.core ≡ book_after (book_in c.args.core.now) i)) (sym e) c.decide_line.ensures.next

pub returns-in-None-clause-reply : goal.returns-in-None-clause-reply
returns-in-None-clause-reply c =
    let e = (long_of c.args.item.now (sym c.text.ensures ∙ ap (λ o. option_map (λ s. s.now) o) c.in-None.is)).1 in
    subst (λ (i : LineItem). OnOk c.refuse_long.result (c.refuse_long.new.replies.items ≡ c.args.replies.now.items ++ reply_to (book_in c.args.core.now) i)) (sym e) c.refuse_long.ensures

pub returns-in-None-clause-body : goal.returns-in-None-clause-body
returns-in-None-clause-body c =
    let e = (long_of c.args.item.now (sym c.text.ensures ∙ ap (λ o. option_map (λ s. s.now) o) c.in-None.is)).1 in
    let body = c.args.body.now.items in
    on_ok (body ≡ body ++ bytes_of (record_in (book_in c.args.core.now) c.args.item.now)) c.refuse_long.result (subst (λ (i : LineItem). body ≡ body ++ bytes_of (record_in (book_in c.args.core.now) i)) (sym e) (sym (append-nil body)))

pub returns-in-None-clause-next : goal.returns-in-None-clause-next
returns-in-None-clause-next c =
    let e = (long_of c.args.item.now (sym c.text.ensures ∙ ap (λ o. option_map (λ s. s.now) o) c.in-None.is)).1 in
    let b = book_in c.args.core.now in
    on_ok (b ≡ book_after b c.args.item.now) c.refuse_long.result (subst (λ (i : LineItem). b ≡ book_after b i) (sym e) refl)
