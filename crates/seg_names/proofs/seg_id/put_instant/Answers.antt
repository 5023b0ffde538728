use Rattle.std.proofs.Common.{◌≡◌, List, ℕ, ℤ, [], ◌∷◌, ◌++◌, subst, ap₂, ◌∙◌, append_assoc, w64, rules}
use Rattle.std.proofs.lemmas.Int.{to_z-of_z}
use Rattle.iv_time.specs.Civil.{instant_text}
use Rattle.seg_names.specs.IdTexts.{instant_field}
use Rattle.seg_names.proofs.seg_id.put_instant.Goals as goal

pub returns : goal.returns
unfolding instant_field
returns c =
    let pushed : c.push.new.self.items ≡ c.args.out.now.items ++ 95 ∷ [] = search rules in
    let written : c.write.result ≡ instant_text c.args.ms = subst (λ (m : ℤ). c.write.result ≡ instant_text m) (to_z-of_z w64 c.args.ms c.ranges.ms) c.write.ensures in
    let put : c.extend_from_slice.new.self.items ≡ c.push.new.self.items ++ c.write.result = search rules in
    put ∙ ap₂ (λ (a b : List ℕ). a ++ b) pushed written ∙ append_assoc c.args.out.now.items (95 ∷ []) (instant_text c.args.ms)
