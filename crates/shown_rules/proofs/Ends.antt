-- Between the ends of stages nothing changes: so what stays at these stays alike everywhere.
use Rattle.std.proofs.Common.{Bool, List, [], ap, cond, false, inl, inr, int_le, int_lt, refl, subst, sym, true, ℕ, ℤ, ◌&&◌, ◌++◌, ◌∙◌, ◌∷◌, ◌≡◌, ◌⊎◌, not, ◌||◌}
use Rattle.std.specs.Prelude.{bytes_eq}
use Rattle.std.specs.List.{list_all, list_any}
use Rattle.std.specs.Ordering.{int_eq}
use Rattle.std.proofs.lemmas.Bool.{and_from, and_parts, false≢true}
use Rattle.std.proofs.lemmas.Bool.Decides.{Decides-int_eq}
use Rattle.std.proofs.lemmas.Slice.Eq.{bytes_eq-Decides}
use Rattle.seg_names.specs.declared.seg_id.SegId.{SegId}
use Rattle.book_rows.specs.Lists.{In}
use Rattle.laws_chunks.proofs.Members.{In-left, In-right, any_In, count_alike, count_none}
use Rattle.laws_shown.proofs.Alike.{all_alike}
use Rattle.laws_shown.proofs.Cuts.{IsLastBefore, NoneBetween, has_alike, last_before}
use Rattle.shown_rules.specs.Cuts.{add_cut, same_cut, with_end, with_ends}
use Rattle.shown_rules.specs.Stages.{Stage, StayAlike, closes, gives, is_open_by, stays, within}

-- ---- the ends are among the cuts

pub cut_means : (c d : List ℕ × ℤ) → same_cut c d ≡ true → c ≡ d
cut_means c d on =
    let two = and_parts (bytes_eq c.0 d.0) (int_eq c.1 d.1) on in
    both ((bytes_eq-Decides c.0 d.0).0 two.0) ((Decides-int_eq c.1 d.1).0 two.1) where
      both : c.0 ≡ d.0 → c.1 ≡ d.1 → c ≡ d
      both e f = λ i. (e i, f i)

pub cut_itself : (c : List ℕ × ℤ) → same_cut c c ≡ true
cut_itself c = and_from (bytes_eq c.0 c.0) (int_eq c.1 c.1) ((bytes_eq-Decides c.0 c.0).1 refl) ((Decides-int_eq c.1 c.1).1 refl)

add_kept : (cs : List (List ℕ × ℤ)) (c d : List ℕ × ℤ) → In d cs → In d (add_cut cs c)
add_kept cs c d i = by (list_any (same_cut c) cs) where
  by : (b : Bool) → In d (cond b cs (cs ++ c ∷ []))
  by true = i
  by false = In-left d cs (c ∷ []) i

add_has : (cs : List (List ℕ × ℤ)) (c : List ℕ × ℤ) → In c (add_cut cs c)
add_has cs c = by (list_any (same_cut c) cs) refl where
  by : (b : Bool) → list_any (same_cut c) cs ≡ b → In c (cond b cs (cs ++ c ∷ []))
  by true e = let w = any_In (same_cut c) cs e in subst (λ (d : List ℕ × ℤ). In d cs) (sym (cut_means c w.0 w.2)) w.1
  by false e = In-right c cs (c ∷ []) (inl refl)

abbrev pub HasEnds : List (List ℕ × ℤ) → Stage → Type 0
HasEnds cs x = In (x.source, x.start) cs × In (x.source, x.end) cs

end_kept : (cs : List (List ℕ × ℤ)) (x : Stage) (d : List ℕ × ℤ) → In d cs → In d (with_end cs x)
end_kept cs x d i = add_kept (add_cut cs (x.source, x.start)) (x.source, x.end) d (add_kept cs (x.source, x.start) d i)

end_has : (cs : List (List ℕ × ℤ)) (x : Stage) → HasEnds (with_end cs x) x
end_has cs x = (add_kept (add_cut cs (x.source, x.start)) (x.source, x.end) (x.source, x.start) (add_has cs (x.source, x.start)), add_has (add_cut cs (x.source, x.start)) (x.source, x.end))

pub ends_kept : (xs : List Stage) (cs : List (List ℕ × ℤ)) (d : List ℕ × ℤ) → In d cs → In d (with_ends cs xs)
ends_kept [] cs d i = i
ends_kept (x ∷ xs) cs d i = ends_kept xs (with_end cs x) d (end_kept cs x d i)

pub ends_have : (xs : List Stage) (cs : List (List ℕ × ℤ)) (x : Stage) → In x xs → HasEnds (with_ends cs xs) x
ends_have [] cs x i = absurd i
ends_have (y ∷ ys) cs x (inl e) = rw e (let h = end_has cs y in (ends_kept ys (with_end cs y) (y.source, y.start) h.0, ends_kept ys (with_end cs y) (y.source, y.end) h.1))
ends_have (y ∷ ys) cs x (inr i) = ends_have ys (with_end cs y) x i

-- ---- the instants of one source

abbrev instants : List ℕ → List (List ℕ × ℤ) → List ℤ
instants source [] = []
instants source (c ∷ cs) = cond (bytes_eq c.0 source) (c.1 ∷ instants source cs) (instants source cs)

instant_In : (source : List ℕ) (t : ℤ) (cs : List (List ℕ × ℤ)) → In (source, t) cs → In t (instants source cs)
instant_In source t [] i = absurd i
instant_In source t (c ∷ cs) (inl e) = here (bytes_eq c.0 source) ((bytes_eq-Decides c.0 source).1 (sym (ap (λ (d : List ℕ × ℤ). d.0) e))) where
  here : (b : Bool) → b ≡ true → In t (cond b (c.1 ∷ instants source cs) (instants source cs))
  here true h = inl (ap (λ (d : List ℕ × ℤ). d.1) e)
  here false h = absurd (false≢true h)
instant_In source t (c ∷ cs) (inr i) = behind (bytes_eq c.0 source) (instant_In source t cs i) where
  behind : (b : Bool) → In t (instants source cs) → In t (cond b (c.1 ∷ instants source cs) (instants source cs))
  behind true j = inr j
  behind false j = j

In_instant : (source : List ℕ) (t : ℤ) (cs : List (List ℕ × ℤ)) → In t (instants source cs) → In (source, t) cs
In_instant source t [] i = absurd i
In_instant source t (c ∷ cs) i = by (bytes_eq c.0 source) refl i (λ j. In_instant source t cs j) where
  by : (b : Bool) → bytes_eq c.0 source ≡ b → In t (cond b (c.1 ∷ instants source cs) (instants source cs)) → (In t (instants source cs) → In (source, t) cs) → In (source, t) (c ∷ cs)
  by true e (inl same) rest = inl (pair (sym ((bytes_eq-Decides c.0 source).0 e)) same) where
    pair : source ≡ c.0 → t ≡ c.1 → (source, t) ≡ c
    pair f g = λ k. (f k, g k)
  by true e (inr j) rest = inr (rest j)
  by false e j rest = inr (rest j)

-- ---- what stays depends on which stages have the instant

pub stays_alike : (xs : List Stage) (c d : List ℕ × ℤ) (a : SegId) → ((x : Stage) → In x xs → within x c ≡ within x d) → stays xs c a ≡ stays xs d a
stays_alike xs c d a h = count_alike (λ x. gives a x.root && (within x c && list_all (is_open_by x.rank c) xs)) (λ x. gives a x.root && (within x d && list_all (is_open_by x.rank d) xs)) xs
    (λ x i. rw (h x i, all_alike (is_open_by x.rank c) (is_open_by x.rank d) xs (λ y j. ap (λ (b : Bool). not (closes y.root && b) || int_le x.rank y.rank) (h y j))) refl)

stays_nowhere : (xs : List Stage) (c : List ℕ × ℤ) (a : SegId) → ((x : Stage) → In x xs → within x c ≡ false) → stays xs c a ≡ 0
stays_nowhere xs c a h = count_none (λ x. gives a x.root && (within x c && list_all (is_open_by x.rank c) xs)) xs (λ x i. low (gives a x.root) (within x c) (list_all (is_open_by x.rank c) xs) (h x i)) where
  low : (g w l : Bool) → w ≡ false → (g && (w && l)) ≡ false
  low true w l e = rw e refl
  low false w l e = refl

module _ (cs : List (List ℕ × ℤ)) (source : List ℕ) (t : ℤ) where
  -- before all instants of the source
  within_none : (x : Stage) → HasEnds cs x → ((u : ℤ) → In u (instants source cs) → int_le u t ≡ false) → within x (source, t) ≡ false
  within_none x ends none = by (bytes_eq x.source source) refl where
    by : (b : Bool) → bytes_eq x.source source ≡ b → (b && (int_le x.start t && int_lt t x.end)) ≡ false
    by false e = refl
    by true e = rw (none x.start (instant_In source x.start cs (subst (λ (s : List ℕ). In (s, x.start) cs) ((bytes_eq-Decides x.source source).0 e) ends.0))) refl

  -- at the last of them
  within_last : (u : ℤ) (x : Stage) → HasEnds cs x → NoneBetween (instants source cs) t u → within x (source, t) ≡ within x (source, u)
  within_last u x ends none = by (bytes_eq x.source source) refl where
    by : (b : Bool) → bytes_eq x.source source ≡ b → (b && (int_le x.start t && int_lt t x.end)) ≡ (b && (int_le x.start u && int_lt u x.end))
    by false e = refl
    by true e = has_alike (record { start = x.start; end = x.end }) t u (none x.start (among x.start ends.0)) (none x.end (among x.end ends.1)) where
      among : (v : ℤ) → In (x.source, v) cs → In v (instants source cs)
      among v i = instant_In source v cs (subst (λ (s : List ℕ). In (s, v) cs) ((bytes_eq-Decides x.source source).0 e) i)

-- where the cuts have the ends of all stages, what stays alike at these does everywhere
pub cuts_decide : (xs ys : List Stage) (cs : List (List ℕ × ℤ)) → ((x : Stage) → In x xs → HasEnds cs x) → ((y : Stage) → In y ys → HasEnds cs y)
    → ((c : List ℕ × ℤ) (a : SegId) → In c cs → stays xs c a ≡ stays ys c a) → StayAlike xs ys
cuts_decide xs ys cs has_xs has_ys at c a = by (last_before (instants c.0 cs) c.1) where
  by : ((x : ℤ) → In x (instants c.0 cs) → int_le x c.1 ≡ false) ⊎ ((u : ℤ) × IsLastBefore (instants c.0 cs) c.1 u) → stays xs c a ≡ stays ys c a
  by (inl none) =
      stays_nowhere xs c a (λ x i. within_none cs c.0 c.1 x (has_xs x i) none)
      ∙ sym (stays_nowhere ys c a (λ y i. within_none cs c.0 c.1 y (has_ys y i) none))
  by (inr l) =
      stays_alike xs c (c.0, l.0) a (λ x i. within_last cs c.0 c.1 l.0 x (has_xs x i) l.1.none_between)
      ∙ (at (c.0, l.0) a (In_instant c.0 l.0 cs l.1.among)
      ∙ sym (stays_alike ys c (c.0, l.0) a (λ y i. within_last cs c.0 c.1 l.0 y (has_ys y i) l.1.none_between)))
