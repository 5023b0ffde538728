use Rattle.std.proofs.Common.{◌≡◌, ◌∙◌, sym, ◌∷◌}
use Rattle.std.specs.List.Sorted.{IsPermutation}
use Rattle.std.proofs.lemmas.Result.{IfOk-weaker}
use Rattle.iv_span.specs.Condensed.{IsCondensed}
use Rattle.iv_span.proofs.Starts.{starts_rise, condensed_of}
use Rattle.iv_span.proofs.span.condense.Goals as goal

pub joined-requires : goal.joined-requires
joined-requires c =
    let same : c.sort.new.self.items ≡ c.in-Some.first.now ∷ c.in-Some.rest.now = sym c.deref.ensures.value ∙ c.in-Some.ensures.cases.0 in
    rw (← same) (starts_rise _ c.in_ok-sort.ensures.sorted)

pub returns-in-Some : goal.returns-in-Some
returns-in-Some c =
    let same : c.sort.new.self.items ≡ c.in-Some.first.now ∷ c.in-Some.rest.now = sym c.deref.ensures.value ∙ c.in-Some.ensures.cases.0 in
    let permutation : IsPermutation c.args.spans.now (c.in-Some.first.now ∷ c.in-Some.rest.now) = rw (← same, ← c.in_ok-sorted.ensures.items) c.in_ok-sort.ensures.permutation in
    IfOk-weaker c.joined.result (λ pieces. IsCondensed (c.in-Some.first.now ∷ c.in-Some.rest.now) pieces.items) _ (λ pieces h. condensed_of _ _ pieces.items permutation h) c.joined.ensures
