-- A piece that is filled bit by bit.
use Rattle.std.proofs.Common.{◌≡◌, ℕ, ◌+◌, ◌-◌, ◌≤◌, List, [], ◌++◌, length, take, drop, sym, ◌∙◌, ap, arith, append_assoc, length-drop, take-append-drop}
use Rattle.std.proofs.lemmas.List.{take_at, drop_at, drop_all, drop-drop, length-take-le, take_rest, take-take, drop-take, append-nil}
use borrow.Rule.Slice.PartMut.{put_mid}

take-add : (n k : ℕ) (l : List ℕ) → take (n + k) l ≡ take n l ++ take k (drop n l)
take-add n k l = sym (take-append-drop n (take (n + k) l)) ∙ (λ i. take-take n (n + k) l (omega arith) i ++ drop-take n k l i)

pub filled_more : (bytes first into piece : List ℕ) (done count : ℕ) → into ≡ take done bytes ++ drop done first → done ≤ length bytes → piece ≡ take count (drop done bytes) ++ drop count (take (length into - done) (drop done into))
    → put_mid done (length into - done) into piece ≡ take (done + count) bytes ++ drop (done + count) first
filled_more bytes first into piece done count is le then =
    let front : length (take done bytes) ≡ done = length-take-le done bytes le in
    let head : take done into ≡ take done bytes = ap (λ (l : List ℕ). take done l) is ∙ take_at (take done bytes) (drop done first) done front in
    let tail : drop done into ≡ drop done first = ap (λ (l : List ℕ). drop done l) is ∙ drop_at (take done bytes) (drop done first) done front in
    let rest : drop count (take (length into - done) (drop done into)) ≡ drop (done + count) first = ap (λ (l : List ℕ). drop count l) (take_rest into done ∙ tail) ∙ drop-drop count done first in
    let none : drop (length into - done) (drop done into) ≡ [] = drop_all (length into - done) (drop done into) (omega (arith, length-drop done into)) in
    let whole : piece ++ drop (length into - done) (drop done into) ≡ take count (drop done bytes) ++ drop (done + count) first = ap (λ (l : List ℕ). piece ++ l) none ∙ append-nil piece ∙ then ∙ ap (λ (l : List ℕ). take count (drop done bytes) ++ l) rest in
    (λ i. head i ++ whole i) ∙ sym (append_assoc (take done bytes) (take count (drop done bytes)) (drop (done + count) first)) ∙ ap (λ (l : List ℕ). l ++ drop (done + count) first) (sym (take-add done count bytes))
