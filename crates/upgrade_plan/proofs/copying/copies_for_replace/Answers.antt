use Rattle.std.proofs.Common.{◌+◌, ◌≡◌, List, ap, arith, filter, length, of_z, refl, to_z, w64, ◌∙◌, ℕ}
use Rattle.std.proofs.lemmas.Int.{to_z-of_z}
use Rattle.std.proofs.lemmas.List.{length-map}
use Rattle.book_rows.specs.Lists.{numbered}
use Rattle.book_rows.specs.Rewrite.{is_copied, is_taken_up, pending_copy, upgrade_copy}
use Rattle.book_rows.specs.declared.rows.PendingRow.{PendingRow}
use Rattle.book_rows.specs.declared.rows.UpgradeRow.{UpgradeRow}
use Rattle.upgrade_plan.specs.NewRows.{root_copy}
use Rattle.upgrade_plan.proofs.Counting.{all_fit, roots_fit}
use Rattle.upgrade_plan.proofs.Numbering.{numbered-map}
use Rattle.upgrade_plan.proofs.copying.copies_for_replace.Goals as goal

pub overflow_cast-next : goal.overflow_cast-next
overflow_cast-next c =
    let fit = roots_fit c.args.pendings.now.pendings c.args.pendings.now.upgrades c.args.posse c.args.source.now c.args.span c.args.version c.args.from c.args.commit c.requires c.in_ok-roots.roots.items c.in_ok-roots.ensures in
    omega (arith, fit)

pub overflow_add-next : goal.overflow_add-next
overflow_add-next c =
    let fit = roots_fit c.args.pendings.now.pendings c.args.pendings.now.upgrades c.args.posse c.args.source.now c.args.span c.args.version c.args.from c.args.commit c.requires c.in_ok-roots.roots.items c.in_ok-roots.ensures in
    omega (arith, fit)

pub root_copies-requires : goal.root_copies-requires
root_copies-requires c =
    let fit = roots_fit c.args.pendings.now.pendings c.args.pendings.now.upgrades c.args.posse c.args.source.now c.args.span c.args.version c.args.from c.args.commit c.requires c.in_ok-roots.roots.items c.in_ok-roots.ensures in
    omega (arith, fit)

pub pending_copies-requires : goal.pending_copies-requires
pending_copies-requires c =
    let fit = all_fit c.args.pendings.now.pendings c.args.pendings.now.upgrades c.args.posse c.args.source.now c.args.span c.args.version c.args.from c.args.commit c.requires c.in_ok-roots.roots.items c.in_ok-waiting.waiting.items c.in_ok-roots.ensures c.in_ok-waiting.ensures in
    omega (arith, fit)

pub returns : goal.returns
returns c =
    let source : List ℕ = c.args.source.now in
    let taken : List UpgradeRow = filter (is_taken_up c.args.posse c.args.span) c.args.pendings.now.upgrades in
    let copied : List PendingRow = filter (is_copied source c.args.span) c.args.pendings.now.pendings in
    let next : c.len.result ≡ length taken = let roots : length c.in_ok-roots.roots.items ≡ length taken = ap length c.in_ok-roots.ensures ∙ length-map _ _ in omega (arith, roots) in
    let version : to_z w64 (of_z w64 c.args.version) ≡ c.args.version = to_z-of_z w64 c.args.version c.ranges.version in
    let segments : c.from_vec.result ≡ numbered (upgrade_copy source c.args.span c.args.version c.args.commit) c.args.from taken =
    c.from_vec.ensures
    ∙ (
    c.in_ok-segments.ensures
    ∙ (
    ap (λ v. numbered (root_copy source c.args.span v c.args.commit) c.args.from c.in_ok-roots.roots.items) version
    ∙ (
    ap (λ roots. numbered (root_copy source c.args.span c.args.version c.args.commit) c.args.from roots) c.in_ok-roots.ensures
    ∙ numbered-map (root_copy source c.args.span c.args.version c.args.commit) (λ u. u.root) c.args.from taken
    )
    )
    ) in
    let pendings : c.from_vec-2.result ≡ numbered (pending_copy source c.args.span c.args.version) (c.args.from + length taken) copied =
    c.from_vec-2.ensures
    ∙ (
    c.in_ok-pendings.ensures
    ∙ (
    ap (λ v. numbered (pending_copy source c.args.span v) (c.args.from + c.len.result) c.in_ok-waiting.waiting.items) version
    ∙ (
    ap (λ waiting. numbered (pending_copy source c.args.span c.args.version) (c.args.from + c.len.result) waiting) c.in_ok-waiting.ensures
    ∙ ap (λ n. numbered (pending_copy source c.args.span c.args.version) (c.args.from + n) copied) next
    )
    )
    ) in
    rw (segments, pendings) refl
