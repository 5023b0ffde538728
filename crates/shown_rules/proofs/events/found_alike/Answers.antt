use Rattle.std.proofs.Common.{ap, map, refl, subst, [], ◌∙◌}
use Rattle.std.specs.Cmp.Lexicographic.{slice_cmp}
use Rattle.std.specs.List.Sorted.{IsPermutation}
use Rattle.std.specs.Ordering.{is_eq, on}
use Rattle.shown_rules.specs.Cuts.{with_ends}
use Rattle.shown_rules.specs.Founds.{found_cmp, found_of}
use Rattle.shown_rules.specs.Stages.{found}
use Rattle.shown_rules.proofs.Matching.{found_decides}
use Rattle.shown_rules.proofs.events.found_alike.Goals as goal

pub returns : goal.returns
returns c =
    let one = c.in_ok-one.one.items in
    let other = c.in_ok-other.other.items in
    found_decides c.args.left.now c.args.right.now (with_ends (with_ends [] c.args.left.now) c.args.right.now) one other c.are_same.result c.requires.left c.requires.right refl
    (subst (λ cs. IsPermutation (found cs c.args.left.now) (map found_of one)) c.in_ok-open.ensures c.in_ok-one.ensures.moved)
    (subst (λ cs. IsPermutation (found cs c.args.right.now) (map found_of other)) c.in_ok-again.ensures c.in_ok-other.ensures.moved)
    c.in_ok-one.ensures.sorted c.in_ok-other.ensures.sorted
    (c.are_same.ensures
    ∙ (ap (λ xs. is_eq (slice_cmp (on found_of found_cmp) xs c.as_slice-2.result.now)) c.as_slice.ensures.value
    ∙ ap (λ ys. is_eq (slice_cmp (on found_of found_cmp) one ys)) c.as_slice-2.ensures.value))
