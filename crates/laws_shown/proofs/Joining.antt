-- Parts that touch and agree are joined: what is right of each part at each of its instants is right of the joined ones, which have the same instants.
use Rattle.std.proofs.Common.{Bool, List, [], arith, cond, false, inl, inr, int_le, int_lt, refl, subst, sym, true, ℤ, ◌∷◌, ◌≡◌}
use Rattle.std.proofs.lemmas.Bool.{and_from, and_parts, cases_Bool}
use Rattle.std.proofs.lemmas.Int.{ints}
use Rattle.iv_span.specs.Extent.{Extent, has}
use Rattle.book_rows.specs.Lists.{In}
use Rattle.laws_chunks.proofs.Spans.{not_lt_le}

-- how parts are joined from the last on
pub record IsJoin {X : Type 0} (span : X → Extent) (agrees : X → X → Bool) (merge : X → X → X) (join : X → List X → List X) (joins : List X → List X) : Type 0 where
  pub alone : (p : X) → join p [] ≡ p ∷ []
  pub next : (p q : X) (qs : List X) → join p (q ∷ qs) ≡ cond (agrees p q) (merge p q ∷ qs) (p ∷ q ∷ qs)
  pub none : joins [] ≡ []
  pub more : (p : X) (ps : List X) → joins (p ∷ ps) ≡ join p (joins ps)
  pub touch : (p q : X) → agrees p q ≡ true → (span p).end ≡ (span q).start
  pub merged : (p q : X) → span (merge p q) ≡ record { start = (span p).start; end = (span q).end }

-- what is right of one of two parts that agree is right of both together
pub record DoesMerge {X : Type 0} (agrees : X → X → Bool) (merge : X → X → X) (Right : X → ℤ → Type 0) : Type 0 where
  pub left : (p q : X) (t : ℤ) → agrees p q ≡ true → Right p t → Right (merge p q) t
  pub right : (p q : X) (t : ℤ) → agrees p q ≡ true → Right q t → Right (merge p q) t

le_lt_lt : (a b c d : ℤ) → int_lt a b ≡ true → b ≡ c → int_le c d ≡ true → int_lt a d ≡ true
le_lt_lt a b c d h e k = through a c d (subst (λ (x : ℤ). int_lt a x ≡ true) e h) k where
  through : (a c d : ℤ) → int_lt a c ≡ true → int_le c d ≡ true → int_lt a d ≡ true
  through a c d h k = grind (arith, ints)

le_le_le : (a b c d : ℤ) → int_le a b ≡ true → b ≡ c → int_le c d ≡ true → int_le a d ≡ true
le_le_le a b c d h e k = through a c d (subst (λ (x : ℤ). int_le a x ≡ true) e h) k where
  through : (a c d : ℤ) → int_le a c ≡ true → int_le c d ≡ true → int_le a d ≡ true
  through a c d h k = grind (arith, ints)

module _ {X : Type 0} {span : X → Extent} {agrees : X → X → Bool} {merge : X → X → X} {join : X → List X → List X} {joins : List X → List X} (j : IsJoin span agrees merge join joins) where
  -- ---- what is right

  module _ (Right : X → ℤ → Type 0) (m : DoesMerge agrees merge Right) where
    merged_right : (p q : X) → agrees p q ≡ true → ((t : ℤ) → has (span p) t ≡ true → Right p t) → ((t : ℤ) → has (span q) t ≡ true → Right q t) → (t : ℤ) → has (span (merge p q)) t ≡ true → Right (merge p q) t
    merged_right p q on here there t h =
        let both = and_parts (int_le (span p).start t) (int_lt t (span q).end) (subst (λ (s : Extent). has s t ≡ true) (j.merged p q) h) in
        elim (cases_Bool (int_lt t (span p).end)) [
          | inl low ↦ m.left p q t on (here t (and_from (int_le (span p).start t) (int_lt t (span p).end) both.0 low))
          | inr off ↦ m.right p q t on (there t (and_from (int_le (span q).start t) (int_lt t (span q).end) (subst (λ (x : ℤ). int_le x t ≡ true) (j.touch p q on) (not_lt_le t (span p).end off)) both.1))
        ]

    join_right : (p : X) (ps : List X) → ((t : ℤ) → has (span p) t ≡ true → Right p t) → ((q : X) → In q ps → (t : ℤ) → has (span q) t ≡ true → Right q t) → (x : X) → In x (join p ps) → (t : ℤ) → has (span x) t ≡ true → Right x t
    join_right p [] here there x i = one (subst (λ (xs : List X). In x xs) (j.alone p) i) where
      one : In x (p ∷ []) → (t : ℤ) → has (span x) t ≡ true → Right x t
      one (inl e) = subst (λ (y : X). (t : ℤ) → has (span y) t ≡ true → Right y t) (sym e) here
      one (inr k) = absurd k
    join_right p (q ∷ qs) here there x i = go (agrees p q) refl (subst (λ (xs : List X). In x xs) (j.next p q qs) i) where
      go : (b : Bool) → agrees p q ≡ b → In x (cond b (merge p q ∷ qs) (p ∷ q ∷ qs)) → (t : ℤ) → has (span x) t ≡ true → Right x t
      go true on (inl e) = subst (λ (y : X). (t : ℤ) → has (span y) t ≡ true → Right y t) (sym e) (merged_right p q on here (there q (inl refl)))
      go true on (inr k) = there x (inr k)
      go false off (inl e) = subst (λ (y : X). (t : ℤ) → has (span y) t ≡ true → Right y t) (sym e) here
      go false off (inr k) = there x k

    pub joins_right : (ps : List X) → ((q : X) → In q ps → (t : ℤ) → has (span q) t ≡ true → Right q t) → (x : X) → In x (joins ps) → (t : ℤ) → has (span x) t ≡ true → Right x t
    joins_right [] h x i = absurd (subst (λ (xs : List X). In x xs) j.none i)
    joins_right (p ∷ ps) h x i = join_right p (joins ps) (h p (inl refl)) (joins_right ps (λ q k. h q (inr k))) x (subst (λ (xs : List X). In x xs) (j.more p ps) i)

  -- ---- the instants

  join_proper : (p : X) (ps : List X) → int_le (span p).start (span p).end ≡ true → ((q : X) → In q ps → int_le (span q).start (span q).end ≡ true) → (x : X) → In x (join p ps) → int_le (span x).start (span x).end ≡ true
  join_proper p [] here there x i = one (subst (λ (xs : List X). In x xs) (j.alone p) i) where
    one : In x (p ∷ []) → int_le (span x).start (span x).end ≡ true
    one (inl e) = subst (λ (y : X). int_le (span y).start (span y).end ≡ true) (sym e) here
    one (inr k) = absurd k
  join_proper p (q ∷ qs) here there x i = go (agrees p q) refl (subst (λ (xs : List X). In x xs) (j.next p q qs) i) where
    both : agrees p q ≡ true → int_le (span (merge p q)).start (span (merge p q)).end ≡ true
    both on = subst (λ (s : Extent). int_le s.start s.end ≡ true) (sym (j.merged p q)) (le_le_le (span p).start (span p).end (span q).start (span q).end here (j.touch p q on) (there q (inl refl)))

    go : (b : Bool) → agrees p q ≡ b → In x (cond b (merge p q ∷ qs) (p ∷ q ∷ qs)) → int_le (span x).start (span x).end ≡ true
    go true on (inl e) = subst (λ (y : X). int_le (span y).start (span y).end ≡ true) (sym e) (both on)
    go true on (inr k) = there x (inr k)
    go false off (inl e) = subst (λ (y : X). int_le (span y).start (span y).end ≡ true) (sym e) here
    go false off (inr k) = there x k

  pub joins_proper : (ps : List X) → ((q : X) → In q ps → int_le (span q).start (span q).end ≡ true) → (x : X) → In x (joins ps) → int_le (span x).start (span x).end ≡ true
  joins_proper [] h x i = absurd (subst (λ (xs : List X). In x xs) j.none i)
  joins_proper (p ∷ ps) h x i = join_proper p (joins ps) (h p (inl refl)) (joins_proper ps (λ q k. h q (inr k))) x (subst (λ (xs : List X). In x xs) (j.more p ps) i)

  -- a part of the list has the instant
  abbrev pub HasPart : List X → ℤ → Type 0
  HasPart ps t = (x : X) × In x ps × (has (span x) t ≡ true)

  join_covers : (p : X) (ps : List X) (t : ℤ) → int_le (span p).start (span p).end ≡ true → ((q : X) → In q ps → int_le (span q).start (span q).end ≡ true) → HasPart (p ∷ ps) t → HasPart (join p ps) t
  join_covers p [] t here there w = subst (λ (xs : List X). HasPart xs t) (sym (j.alone p)) w
  join_covers p (q ∷ qs) t here there w = subst (λ (xs : List X). HasPart xs t) (sym (j.next p q qs)) (go (agrees p q) refl w.1 w.2) where
    whole : int_le (span p).start t ≡ true → int_lt t (span q).end ≡ true → has (span (merge p q)) t ≡ true
    whole low high = subst (λ (s : Extent). has s t ≡ true) (sym (j.merged p q)) (and_from (int_le (span p).start t) (int_lt t (span q).end) low high)

    from_left : agrees p q ≡ true → has (span p) t ≡ true → has (span (merge p q)) t ≡ true
    from_left on h = let both = and_parts (int_le (span p).start t) (int_lt t (span p).end) h in whole both.0 (le_lt_lt t (span p).end (span q).start (span q).end both.1 (j.touch p q on) (there q (inl refl)))

    from_right : agrees p q ≡ true → has (span q) t ≡ true → has (span (merge p q)) t ≡ true
    from_right on h = let both = and_parts (int_le (span q).start t) (int_lt t (span q).end) h in whole (le_le_le (span p).start (span p).end (span q).start t here (j.touch p q on) both.0) both.1

    go : (b : Bool) → agrees p q ≡ b → In w.0 (p ∷ q ∷ qs) → has (span w.0) t ≡ true → HasPart (cond b (merge p q ∷ qs) (p ∷ q ∷ qs)) t
    go false off i h = (w.0, i, h)
    go true on (inl e) h = (merge p q, inl refl, from_left on (subst (λ (x : X). has (span x) t ≡ true) e h))
    go true on (inr (inl e)) h = (merge p q, inl refl, from_right on (subst (λ (x : X). has (span x) t ≡ true) e h))
    go true on (inr (inr k)) h = (w.0, inr k, h)

  pub joins_cover : (ps : List X) (t : ℤ) → ((q : X) → In q ps → int_le (span q).start (span q).end ≡ true) → HasPart ps t → HasPart (joins ps) t
  joins_cover [] t h w = absurd w.1
  joins_cover (p ∷ ps) t h w = subst (λ (xs : List X). HasPart xs t) (sym (j.more p ps))
      (join_covers p (joins ps) t (h p (inl refl)) (joins_proper ps (λ q k. h q (inr k))) (into (λ i k. joins_cover ps t (λ q l. h q (inr l)) (w.0, i, k)) w.1 w.2)) where
        into : (In w.0 ps → has (span w.0) t ≡ true → HasPart (joins ps) t) → In w.0 (p ∷ ps) → has (span w.0) t ≡ true → HasPart (p ∷ joins ps) t
        into rest (inl e) k = (w.0, inl e, k)
        into rest (inr i) k = (let v = rest i k in (v.0, inr v.1, v.2))
