-- A list of parts that is built from the first piece on: each piece's part is put behind it, or joined to its last part.
use Rattle.std.proofs.Common.{Bool, List, [], ap, arith, cond, false, inl, inr, int_le, int_lt, not, refl, subst, sym, true, ℤ, ◌∙◌, ◌∷◌, ◌++◌, ◌≡◌, ◌⊎◌}
use Rattle.std.specs.Prelude.{None, Option, Some}
use Rattle.std.proofs.lemmas.Bool.{and_from, and_parts, cases_Bool}
use Rattle.std.proofs.lemmas.Int.{ints}
use Rattle.iv_span.specs.Extent.{Extent, has}
use Rattle.book_rows.specs.Lists.{In, list_links}
use Rattle.laws_chunks.proofs.Spans.{le_itself, not_lt_le}
use Rattle.laws_parts.specs.Parts.{AreBuilt, AreParts, HasInstant, goes_on, put_last}
use Rattle.laws_parts.proofs.Unique.{none_not_some, not_both}

pub push_both : {X : Type 0} (ps : List X) (p q : X) → (ps ++ p ∷ []) ++ q ∷ [] ≡ ps ++ p ∷ q ∷ []
push_both [] p q = refl
push_both (x ∷ ps) p q = ap (λ zs. x ∷ zs) (push_both ps p q)

-- putting at the end of a list with a last part
pub put_at_end : {X : Type 0} (agrees : X → X → Bool) (merge : X → X → X) (ps : List X) (p q : X) → put_last agrees merge (ps ++ p ∷ []) q ≡ ps ++ cond (agrees p q) (merge p q ∷ []) (p ∷ q ∷ [])
put_at_end agrees merge [] p q = refl
put_at_end agrees merge (x ∷ []) p q = refl
put_at_end agrees merge (x ∷ y ∷ ps) p q = ap (λ zs. x ∷ zs) (put_at_end agrees merge (y ∷ ps) p q)

module _ {X V : Type 0} (span : X → Extent) (body : X → V) (agrees : X → X → Bool) (merge : X → X → X) where
  -- how two parts that touch and agree are joined
  pub record DoJoin : Type 0 where
    pub touch : (p q : X) → (span p).end ≡ (span q).start → body p ≡ body q → agrees p q ≡ true
    pub means_touch : (p q : X) → agrees p q ≡ true → (span p).end ≡ (span q).start
    pub means_body : (p q : X) → agrees p q ≡ true → body p ≡ body q
    pub merged_span : (p q : X) → span (merge p q) ≡ record { start = (span p).start; end = (span q).end }
    pub merged_body : (p q : X) → body (merge p q) ≡ body p

module _ {X V : Type 0} {span : X → Extent} {body : X → V} {agrees : X → X → Bool} {merge : X → X → X} (j : DoJoin span body agrees merge) where
  abbrev put : List X → X → List X
  put ps q = put_last agrees merge ps q

  -- what stands in the list afterwards
  record IsJoined (x q : X) (ps : List X) : Type 0 where
    with : X
    among : In with ps
    on : agrees with q ≡ true
    is : x ≡ merge with q

  put_back : (ps : List X) (q x : X) → In x (put ps q) → In x ps ⊎ ((x ≡ q) ⊎ IsJoined x q ps)
  put_back [] q x (inl e) = inr (inl e)
  put_back [] q x (inr i) = absurd i
  put_back (p ∷ []) q x i = go (agrees p q) refl i where
    go : (b : Bool) → agrees p q ≡ b → In x (cond b (merge p q ∷ []) (p ∷ q ∷ [])) → In x (p ∷ []) ⊎ ((x ≡ q) ⊎ IsJoined x q (p ∷ []))
    go true on (inl e) = inr (inr (record { with = p; among = inl refl; on = on; is = e }))
    go true on (inr k) = absurd k
    go false off (inl e) = inl (inl e)
    go false off (inr (inl e)) = inr (inl e)
    go false off (inr (inr k)) = absurd k
  put_back (p ∷ r ∷ ps) q x (inl e) = inl (inl e)
  put_back (p ∷ r ∷ ps) q x (inr i) = more (put_back (r ∷ ps) q x i) where
    more : In x (r ∷ ps) ⊎ ((x ≡ q) ⊎ IsJoined x q (r ∷ ps)) → In x (p ∷ r ∷ ps) ⊎ ((x ≡ q) ⊎ IsJoined x q (p ∷ r ∷ ps))
    more (inl k) = inl (inr k)
    more (inr (inl e)) = inr (inl e)
    more (inr (inr w)) = inr (inr (record { with = w.with; among = inr w.among; on = w.on; is = w.is }))

  put_kept : (ps : List X) (q x : X) → In x ps → In x (put ps q) ⊎ ((agrees x q ≡ true) × In (merge x q) (put ps q))
  put_kept [] q x i = absurd i
  put_kept (p ∷ []) q x (inl e) = go (agrees p q) refl where
    go : (b : Bool) → agrees p q ≡ b → In x (cond b (merge p q ∷ []) (p ∷ q ∷ [])) ⊎ ((agrees x q ≡ true) × In (merge x q) (cond b (merge p q ∷ []) (p ∷ q ∷ [])))
    go true on = inr (subst (λ (y : X). agrees y q ≡ true) (sym e) on, inl (ap (λ (y : X). merge y q) e))
    go false off = inl (inl e)
  put_kept (p ∷ []) q x (inr i) = absurd i
  put_kept (p ∷ r ∷ ps) q x (inl e) = inl (inl e)
  put_kept (p ∷ r ∷ ps) q x (inr i) = more (put_kept (r ∷ ps) q x i) where
    more : In x (put (r ∷ ps) q) ⊎ ((agrees x q ≡ true) × In (merge x q) (put (r ∷ ps) q)) → In x (p ∷ put (r ∷ ps) q) ⊎ ((agrees x q ≡ true) × In (merge x q) (p ∷ put (r ∷ ps) q))
    more (inl k) = inl (inr k)
    more (inr w) = inr (w.0, inr w.1)

  put_here : (ps : List X) (q : X) → In q (put ps q) ⊎ ((p : X) × In p ps × (agrees p q ≡ true) × In (merge p q) (put ps q))
  put_here [] q = inl (inl refl)
  put_here (p ∷ []) q = go (agrees p q) refl where
    go : (b : Bool) → agrees p q ≡ b → In q (cond b (merge p q ∷ []) (p ∷ q ∷ [])) ⊎ ((x : X) × In x (p ∷ []) × (agrees x q ≡ true) × In (merge x q) (cond b (merge p q ∷ []) (p ∷ q ∷ [])))
    go true on = inr (p, inl refl, on, inl refl)
    go false off = inl (inr (inl refl))
  put_here (p ∷ r ∷ ps) q = more (put_here (r ∷ ps) q) where
    more : In q (put (r ∷ ps) q) ⊎ ((x : X) × In x (r ∷ ps) × (agrees x q ≡ true) × In (merge x q) (put (r ∷ ps) q)) → In q (p ∷ put (r ∷ ps) q) ⊎ ((x : X) × In x (p ∷ r ∷ ps) × (agrees x q ≡ true) × In (merge x q) (p ∷ put (r ∷ ps) q))
    more (inl k) = inl (inr k)
    more (inr w) = inr (w.0, inr w.1, w.2, inr w.3)

  -- what comes before the last part isn't touched by the join
  same_before : (x p q : X) → agrees p q ≡ true → goes_on span agrees x p ≡ true → goes_on span agrees x (merge p q) ≡ true
  same_before x p q on h = let both = and_parts (int_le (span x).end (span p).start) (not (agrees x p)) h in
      and_from (int_le (span x).end (span (merge p q)).start) (not (agrees x (merge p q))) (subst (λ (s : Extent). int_le (span x).end s.start ≡ true) (sym (j.merged_span p q)) both.0) (apart (cases_Bool (agrees x (merge p q))) both.1) where
        apart : (agrees x (merge p q) ≡ true) ⊎ (agrees x (merge p q) ≡ false) → not (agrees x p) ≡ true → not (agrees x (merge p q)) ≡ true
        apart (inr off) n = ap not off
        apart (inl same) n = absurd (not_both (agrees x p) (j.touch x p (j.means_touch x (merge p q) same ∙ ap (λ (s : Extent). s.start) (j.merged_span p q)) (j.means_body x (merge p q) same ∙ j.merged_body p q)) n)

  put_links : (ps : List X) (q : X) → list_links (goes_on span agrees) ps ≡ true → ((p : X) → In p ps → int_le (span p).end (span q).start ≡ true) → list_links (goes_on span agrees) (put ps q) ≡ true
  put_links [] q links low = refl
  put_links (p ∷ []) q links low = go (agrees p q) refl where
    go : (b : Bool) → agrees p q ≡ b → list_links (goes_on span agrees) (cond b (merge p q ∷ []) (p ∷ q ∷ [])) ≡ true
    go true on = refl
    go false off = and_from (goes_on span agrees p q) true (and_from (int_le (span p).end (span q).start) (not (agrees p q)) (low p (inl refl)) (ap not off)) refl
  put_links (p ∷ r ∷ []) q links low = go (agrees r q) refl (and_parts (goes_on span agrees p r) true links).0 (put_links (r ∷ []) q refl (λ x i. low x (inr i))) where
    go : (b : Bool) → agrees r q ≡ b → goes_on span agrees p r ≡ true → list_links (goes_on span agrees) (cond b (merge r q ∷ []) (r ∷ q ∷ [])) ≡ true → list_links (goes_on span agrees) (p ∷ cond b (merge r q ∷ []) (r ∷ q ∷ [])) ≡ true
    go true on first rest = and_from (goes_on span agrees p (merge r q)) true (same_before p r q on first) refl
    go false off first rest = and_from (goes_on span agrees p r) (list_links (goes_on span agrees) (r ∷ q ∷ [])) first rest
  put_links (p ∷ r ∷ s ∷ ps) q links low =
      let both = and_parts (goes_on span agrees p r) (list_links (goes_on span agrees) (r ∷ s ∷ ps)) links in
      and_from (goes_on span agrees p r) (list_links (goes_on span agrees) (put (r ∷ s ∷ ps) q)) both.0 (put_links (r ∷ s ∷ ps) q both.1 (λ x i. low x (inr i)))

  module _ (given : ℤ → Option V) where
    pub nothing_yet : (c : ℤ) → ((t : ℤ) → int_lt t c ≡ true → given t ≡ None) → AreBuilt span body agrees given c []
    nothing_yet c h = record { linked = refl; proper = λ p i. absurd i; right = λ p t i k. absurd i; low = λ p i. absurd i; covers = λ t v lt k. absurd (none_not_some (given t) v (h t lt) k) }

    le_lt_le : (a b c : ℤ) → int_le a b ≡ true → int_lt b c ≡ true → int_le a c ≡ true
    le_lt_le a b c h k = grind (arith, ints)

    -- a piece in which nothing is given
    pub built_empty : (c d : ℤ) (ps : List X) → int_lt c d ≡ true → ((t : ℤ) → has (record { start = c; end = d }) t ≡ true → given t ≡ None) → AreBuilt span body agrees given c ps → AreBuilt span body agrees given d ps
    built_empty c d ps lt none w = record {
      linked = w.linked;
      proper = w.proper;
      right = w.right;
      low = λ p i. le_lt_le (span p).end c d (w.low p i) lt;
      covers = λ t v before h. elim (cases_Bool (int_lt t c)) [
        | inl on ↦ w.covers t v on h
        | inr off ↦ absurd (none_not_some (given t) v (none t (and_from (int_le c t) (int_lt t d) (not_lt_le t c off) before)) h)
      ];
    }

    -- the same where there may be no instant between the two cuts
    pub built_same : (c d : ℤ) (ps : List X) → c ≡ d → AreBuilt span body agrees given c ps → AreBuilt span body agrees given d ps
    built_same c d ps e w = subst (λ (x : ℤ). AreBuilt span body agrees given x ps) e w

    -- a piece with one part
    pub built_part : (c d : ℤ) (ps : List X) (q : X) → int_lt c d ≡ true → span q ≡ record { start = c; end = d } → ((t : ℤ) → has (record { start = c; end = d }) t ≡ true → given t ≡ Some (body q)) → AreBuilt span body agrees given c ps → AreBuilt span body agrees given d (put_last agrees merge ps q)
    built_part c d ps q lt is part w = record {
      linked = put_links ps q w.linked (λ p i. subst (λ (s : Extent). int_le (span p).end s.start ≡ true) (sym is) (w.low p i));
      proper = λ x i. proper_by x (put_back ps q x i);
      right = λ x t i h. right_by x t (put_back ps q x i) h;
      low = λ x i. low_by x (put_back ps q x i);
      covers = λ t v before h. elim (cases_Bool (int_lt t c)) [
        | inl on ↦ kept t (w.covers t v on h)
        | inr off ↦ new t (put_here ps q) (and_from (int_le c t) (int_lt t d) (not_lt_le t c off) before)
      ];
    } where
      proper_q : int_lt (span q).start (span q).end ≡ true
      proper_q = subst (λ (s : Extent). int_lt s.start s.end ≡ true) (sym is) lt

      end_q : int_le (span q).end d ≡ true
      end_q = subst (λ (s : Extent). int_le s.end d ≡ true) (sym is) (le_itself d)

      in_q : (t : ℤ) → has (span q) t ≡ true → given t ≡ Some (body q)
      in_q t h = part t (subst (λ (s : Extent). has s t ≡ true) is h)

      longer : (a b c d : ℤ) → int_lt a b ≡ true → b ≡ c → int_lt c d ≡ true → int_lt a d ≡ true
      longer a b c d h e k = through a c d (subst (λ (x : ℤ). int_lt a x ≡ true) e h) k where
        through : (a c d : ℤ) → int_lt a c ≡ true → int_lt c d ≡ true → int_lt a d ≡ true
        through a c d h k = grind (arith, ints)

      proper_by : (x : X) → In x ps ⊎ ((x ≡ q) ⊎ IsJoined x q ps) → int_lt (span x).start (span x).end ≡ true
      proper_by x (inl i) = w.proper x i
      proper_by x (inr (inl e)) = subst (λ (y : X). int_lt (span y).start (span y).end ≡ true) (sym e) proper_q
      proper_by x (inr (inr m)) = subst (λ (y : X). int_lt (span y).start (span y).end ≡ true) (sym m.is)
          (subst (λ (s : Extent). int_lt s.start s.end ≡ true) (sym (j.merged_span m.with q)) (longer (span m.with).start (span m.with).end (span q).start (span q).end (w.proper m.with m.among) (j.means_touch m.with q m.on) proper_q))

      low_by : (x : X) → In x ps ⊎ ((x ≡ q) ⊎ IsJoined x q ps) → int_le (span x).end d ≡ true
      low_by x (inl i) = le_lt_le (span x).end c d (w.low x i) lt
      low_by x (inr (inl e)) = subst (λ (y : X). int_le (span y).end d ≡ true) (sym e) end_q
      low_by x (inr (inr m)) = subst (λ (y : X). int_le (span y).end d ≡ true) (sym m.is) (subst (λ (s : Extent). int_le s.end d ≡ true) (sym (j.merged_span m.with q)) end_q)

      right_by : (x : X) (t : ℤ) → In x ps ⊎ ((x ≡ q) ⊎ IsJoined x q ps) → has (span x) t ≡ true → given t ≡ Some (body x)
      right_by x t (inl i) h = w.right x t i h
      right_by x t (inr (inl e)) h = subst (λ (y : X). given t ≡ Some (body y)) (sym e) (in_q t (subst (λ (y : X). has (span y) t ≡ true) e h))
      right_by x t (inr (inr m)) h = subst (λ (y : X). given t ≡ Some (body y)) (sym m.is) (at (and_parts (int_le (span m.with).start t) (int_lt t (span q).end) whole)) where
        whole : has (record { start = (span m.with).start; end = (span q).end }) t ≡ true
        whole = subst (λ (s : Extent). has s t ≡ true) (j.merged_span m.with q) (subst (λ (y : X). has (span y) t ≡ true) m.is h)

        at : (int_le (span m.with).start t ≡ true) × (int_lt t (span q).end ≡ true) → given t ≡ Some (body (merge m.with q))
        at both = elim (cases_Bool (int_lt t (span m.with).end)) [
          | inl on ↦ w.right m.with t m.among (and_from (int_le (span m.with).start t) (int_lt t (span m.with).end) both.0 on) ∙ ap Some (sym (j.merged_body m.with q))
          | inr off ↦ in_q t (and_from (int_le (span q).start t) (int_lt t (span q).end) (subst (λ (x : ℤ). int_le x t ≡ true) (j.means_touch m.with q m.on) (not_lt_le t (span m.with).end off)) both.1)
              ∙ ap Some (sym (j.merged_body m.with q ∙ j.means_body m.with q m.on))
        ]

      in_merged_left : (p : X) (t : ℤ) → agrees p q ≡ true → has (span p) t ≡ true → has (span (merge p q)) t ≡ true
      in_merged_left p t on h = let both = and_parts (int_le (span p).start t) (int_lt t (span p).end) h in
          subst (λ (s : Extent). has s t ≡ true) (sym (j.merged_span p q)) (and_from (int_le (span p).start t) (int_lt t (span q).end) both.0 (longer t (span p).end (span q).start (span q).end both.1 (j.means_touch p q on) proper_q))

      in_merged_right : (p : X) (t : ℤ) → In p ps → agrees p q ≡ true → has (span q) t ≡ true → has (span (merge p q)) t ≡ true
      in_merged_right p t i on h = let both = and_parts (int_le (span q).start t) (int_lt t (span q).end) h in
          subst (λ (s : Extent). has s t ≡ true) (sym (j.merged_span p q)) (and_from (int_le (span p).start t) (int_lt t (span q).end) (before (span p).start (span p).end (span q).start t (w.proper p i) (j.means_touch p q on) both.0) both.1) where
            before : (a b c d : ℤ) → int_lt a b ≡ true → b ≡ c → int_le c d ≡ true → int_le a d ≡ true
            before a b c d h e k = through a c d (subst (λ (x : ℤ). int_lt a x ≡ true) e h) k where
              through : (a c d : ℤ) → int_lt a c ≡ true → int_le c d ≡ true → int_le a d ≡ true
              through a c d h k = grind (arith, ints)

      kept : (t : ℤ) → HasInstant span ps t → HasInstant span (put ps q) t
      kept t (p, i, h) = go (put_kept ps q p i) where
        go : In p (put ps q) ⊎ ((agrees p q ≡ true) × In (merge p q) (put ps q)) → HasInstant span (put ps q) t
        go (inl k) = (p, k, h)
        go (inr m) = (merge p q, m.1, in_merged_left p t m.0 h)

      new : (t : ℤ) → In q (put ps q) ⊎ ((p : X) × In p ps × (agrees p q ≡ true) × In (merge p q) (put ps q)) → has (record { start = c; end = d }) t ≡ true → HasInstant span (put ps q) t
      new t (inl k) h = (q, k, subst (λ (s : Extent). has s t ≡ true) (sym is) h)
      new t (inr m) h = (merge m.0 q, m.3, in_merged_right m.0 t m.1 m.2 (subst (λ (s : Extent). has s t ≡ true) (sym is) h))

    -- at the last cut nothing is given any more
    pub built_all : (c : ℤ) (ps : List X) → ((t : ℤ) → int_le c t ≡ true → given t ≡ None) → AreBuilt span body agrees given c ps → AreParts span body agrees given ps
    built_all c ps none w = record {
      linked = w.linked;
      proper = w.proper;
      right = w.right;
      covers = λ t v h. elim (cases_Bool (int_lt t c)) [
        | inl on ↦ w.covers t v on h
        | inr off ↦ absurd (none_not_some (given t) v (none t (not_lt_le t c off)) h)
      ];
    }
