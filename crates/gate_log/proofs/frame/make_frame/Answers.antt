use Rattle.std.proofs.Common.{◌≡◌, ◌-◌, ◌<◌, ◌^◌, ℕ, List, [], ◌∷◌, ◌++◌, length, take, drop, ap, ◌∙◌, subst, sym, arith, append_assoc, length-append, refl}
use Rattle.std.proofs.lemmas.List.{take_at, drop_at}
use Rattle.gate_log.specs.Numbers.{bytes_32}
use Rattle.gate_log.specs.Format.{frame_of}
use Rattle.gate_log.specs.Frame.{body_of, IsFrame}
use Rattle.gate_log.proofs.NumberBytes.{length-bytes_32}
use Rattle.gate_log.proofs.frame.make_frame.Goals as goal

body-frame_of : (body : List ℕ) → body_of (frame_of body) ≡ body
body-frame_of body =
    let front = bytes_32 (length body) in
    let split : frame_of body ≡ front ++ (body ++ 0 ∷ []) = append_assoc front body (0 ∷ []) in
    let size : length (frame_of body) - 5 ≡ length body = omega (arith, ap length split, length-append front (body ++ 0 ∷ []), length-append body (0 ∷ []), length-bytes_32 (length body)) in
    let rest : drop 4 (frame_of body) ≡ body ++ 0 ∷ [] = ap (λ (l : List ℕ). drop 4 l) split ∙ drop_at front (body ++ 0 ∷ []) 4 (length-bytes_32 (length body)) in
    (λ i. take (size i) (rest i)) ∙ take_at body (0 ∷ []) (length body) refl

is_frame : (items body : List ℕ) → items ≡ frame_of body → 0 < length body → length body < 2 ^ 32 → IsFrame items
is_frame items body is some fits =
    let same : body_of items ≡ body = ap body_of is ∙ body-frame_of body in
    record { framed = is ∙ ap frame_of (sym same); some = omega (arith, ap length same); fits = subst (λ (b : List ℕ). length b < 2 ^ 32) (sym same) fits }

pub invariant_of-result : goal.invariant_of-result
unfolding bytes_32
invariant_of-result c =
    let items : c.push.new.self.items ≡ frame_of c.args.body.now = grind arith in
    is_frame c.push.new.self.items c.args.body.now items c.requires.some c.requires.fits

pub returns : goal.returns
unfolding bytes_32
returns c =
    let items : c.push.new.self.items ≡ frame_of c.args.body.now = grind arith in
    ap body_of items ∙ body-frame_of c.args.body.now
