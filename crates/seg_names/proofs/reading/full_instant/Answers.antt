use Rattle.std.proofs.Common.{◌≡◌, ℤ, sym, subst, ◌∙◌, w64, rules}
use Rattle.std.specs.Prelude.{bytes_eq}
use Rattle.std.specs.Int.RustNames.{FitsSigned}
use Rattle.std.proofs.lemmas.Int.{to_z-of_z}
use Rattle.iv_time.specs.Civil.{instant_text}
use Rattle.seg_names.proofs.Instants.{full_fails}
use Rattle.seg_names.proofs.reading.full_instant.Goals as goal

pub returns-else-is_in_full-clause-read : goal.returns-else-is_in_full-clause-read
returns-else-is_in_full-clause-read c =
    let fits : FitsSigned w64 c.in-Ok.ms = search rules in
    let test : c.is_in_full.result ≡ bytes_eq (instant_text c.in-Ok.ms) c.args.text.now = subst (λ (m : ℤ). c.is_in_full.result ≡ bytes_eq (instant_text m) c.args.text.now) (to_z-of_z w64 c.in-Ok.ms fits) c.is_in_full.ensures in
    sym (full_fails c.args.text.now c.in-Ok.ms c.in-Ok.ensures.read (sym test ∙ c.if-is_in_full.false))
