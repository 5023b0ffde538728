use Rattle.std.proofs.Common.{ap, cond, sym, ◌∙◌, ◌∷◌, ◌++◌, []}
use Rattle.timeline_view.specs.Sweep.{put_stretch, stretches_agree, stretch_joined}
use Rattle.laws_parts.proofs.Building.{put_at_end, push_both}
use Rattle.timeline_view.proofs.sweep.put_stretch.Goals as goal

pub returns : goal.returns
returns c =
    c.in_ok-push-4.ensures.items
    ∙ ap (λ xs. xs ++ c.args.next ∷ []) c.in_ok-push-3.ensures.items
    ∙ push_both c.pop.new.self.items c.in-Some.last c.args.next
    ∙ sym (ap (λ xs. put_stretch xs c.args.next) c.in-Some.ensures.items ∙ put_at_end stretches_agree stretch_joined c.pop.new.self.items c.in-Some.last c.args.next
    ∙ ap (λ b. c.pop.new.self.items ++ cond b (stretch_joined c.in-Some.last c.args.next ∷ []) (c.in-Some.last ∷ c.args.next ∷ [])) (sym c.stretches_agree.ensures ∙ c.if-stretches_agree.false))
