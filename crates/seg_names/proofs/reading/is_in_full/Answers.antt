use Rattle.std.proofs.Common.{◌≡◌, List, ℕ, ℤ, ap, subst, ◌∙◌, w64}
use Rattle.std.specs.Prelude.{bytes_eq}
use Rattle.std.proofs.lemmas.Int.{to_z-of_z}
use Rattle.iv_time.specs.Civil.{instant_text}
use Rattle.seg_names.proofs.reading.is_in_full.Goals as goal

pub returns : goal.returns
returns c =
    let written : c.write.result ≡ instant_text c.args.ms = subst (λ (m : ℤ). c.write.result ≡ instant_text m) (to_z-of_z w64 c.args.ms c.ranges.ms) c.write.ensures in
    c.eq.ensures ∙ ap (λ (t : List ℕ). bytes_eq t c.args.text.now) (c.as_slice.ensures ∙ written)
