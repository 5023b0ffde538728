use Rattle.std.proofs.Common.{ap, cond, sym, ◌∙◌, ◌∷◌, ◌++◌, []}
use Rattle.book_rows.specs.Shown.{roots_agree}
use Rattle.laws_parts.proofs.Building.{put_at_end, push_both}
use Rattle.laws_parts.proofs.Determined.{roots_join}
use Rattle.timeline_view.specs.Contents.{put_root, root_joined}
use Rattle.timeline_view.proofs.root_parts.put_root.Goals as goal

pub lengthened-requires : goal.lengthened-requires
lengthened-requires c = roots_join.means_touch c.in-Some.last c.args.next (sym c.roots_agree.ensures ∙ c.if-roots_agree.true)

pub returns : goal.returns
returns c =
    c.in_ok-push-4.ensures.items
    ∙ ap (λ xs. xs ++ c.args.next ∷ []) c.in_ok-push-3.ensures.items
    ∙ push_both c.pop.new.self.items c.in-Some.last c.args.next
    ∙ sym (ap (λ xs. put_root xs c.args.next) c.in-Some.ensures.items ∙ put_at_end roots_agree root_joined c.pop.new.self.items c.in-Some.last c.args.next
    ∙ ap (λ b. c.pop.new.self.items ++ cond b (root_joined c.in-Some.last c.args.next ∷ []) (c.in-Some.last ∷ c.args.next ∷ [])) (sym c.roots_agree.ensures ∙ c.if-roots_agree.false))
