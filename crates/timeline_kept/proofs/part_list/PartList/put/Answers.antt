use Rattle.std.proofs.Common.{[], ap, sym, ◌∙◌, ◌++◌, ◌∷◌}
use Rattle.std.proofs.lemmas.Result.{on_ok_weaker}
use Rattle.book_rows.specs.declared.replies.TimelinePart.{TimelinePart}
use Rattle.timeline_kept.specs.PartLists.{with_chunk}
use Rattle.timeline_kept.proofs.Placing.{put_behind, put_joined}
use Rattle.timeline_kept.proofs.part_list.PartList.put.Goals as goal

pub returns-then-agree : goal.returns-then-agree
returns-then-agree c =
    let l = with_chunk c.in-Some.last c.in-Some.last_chunk in
    let q = with_chunk c.args.part c.args.chunk in
    on_ok_weaker c.push-then-agree.result
    (λ e. e ∙ put_joined c.args.self.now c.pop.new.self l q (with_chunk c.lengthened.result c.in-Some.last_chunk) c.in-Some.ensures.some (sym c.agree.ensures ∙ c.if-agree.true) (ap (λ (p : TimelinePart). with_chunk p c.in-Some.last_chunk) c.lengthened.ensures)) c.push-then-agree.ensures.ok

pub returns : goal.returns
returns c =
    let l = with_chunk c.in-Some.last c.in-Some.last_chunk in
    let q = with_chunk c.args.part c.args.chunk in
    on_ok_weaker c.push-3.result (λ e. e ∙ ap (λ xs. xs ++ q ∷ []) c.in_ok-push.ensures.ok ∙ put_behind c.args.self.now c.pop.new.self l q c.in-Some.ensures.some (sym c.agree.ensures ∙ c.if-agree.false)) c.push-3.ensures.ok
