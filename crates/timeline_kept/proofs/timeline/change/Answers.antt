use Rattle.std.proofs.Common.{ap, rules, subst, sym, ◌∙◌, ◌≡◌}
use Rattle.std.specs.Prelude.{None}
use Rattle.std.specs.Option.{option_copied}
use Rattle.iv_span.specs.Condensed.{IsCondensed}
use Rattle.timeline_kept.proofs.Filling.{no_first, unpatched}
use Rattle.timeline_kept.proofs.timeline.change.Goals as goal

pub returns-in_default-clause-ok : goal.returns-in_default-clause-ok
returns-in_default-clause-ok c =
    let none : c.first.result ≡ None = search rules in
    let empty = no_first c.deref.result.now (sym c.first.ensures.value ∙ ap option_copied none) in
    unpatched c.args.spans.now c.args.list.now c.args.fresh.now c.requires.list (subst (λ ps. IsCondensed c.args.spans.now ps) (sym c.deref.ensures.value ∙ empty) c.in_ok-pieces.ensures)
