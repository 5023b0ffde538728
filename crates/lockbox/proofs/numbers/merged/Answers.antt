use Rattle.std.proofs.Common.{◌≡◌, IfOk, ap, subst, ◌∙◌}
use Rattle.book_rows.specs.Lists.{ascending}
use Rattle.lockbox.proofs.Merging.{merged_append}
use Rattle.lockbox.proofs.numbers.merged.Goals as goal

pub returns : goal.returns
returns c =
    subst (λ ns. IfOk c.sorted.result (λ v. v.items ≡ ns)) (ap ascending c.in_ok-joined.ensures ∙ merged_append c.args.front.items c.args.back.items) c.sorted.ensures
