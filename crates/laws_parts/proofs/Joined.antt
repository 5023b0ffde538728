-- Parts of pieces between cuts, joined from the last on, show what is given at each instant.
use Rattle.std.proofs.Common.{Bool, List, [], ap, arith, cond, false, inl, inr, int_le, int_lt, not, refl, subst, sym, true, ℤ, ◌++◌, ◌∙◌, ◌∷◌, ◌≡◌, ◌⊎◌}
use Rattle.std.specs.Prelude.{None, Option, Some}
use Rattle.std.proofs.lemmas.Bool.{and_from, and_parts, cases_Bool}
use Rattle.std.proofs.lemmas.Int.{ints}
use Rattle.iv_span.specs.Extent.{Extent, has}
use Rattle.book_rows.specs.Lists.{In, gathered, list_links}
use Rattle.book_rows.specs.Spans.{pieces}
use Rattle.laws_chunks.proofs.Spans.{le_itself, le_le, lt_is_le, not_lt_le}
use Rattle.laws_shown.proofs.Joining.{IsJoin}
use Rattle.laws_shown.proofs.Pieces.{Ascend, IsInPiece}
use Rattle.laws_parts.specs.Parts.{AreParts, HasInstant, goes_on}
use Rattle.laws_parts.proofs.Building.{DoJoin}
use Rattle.laws_parts.proofs.Unique.{none_not_some, not_both}

lt_lt : (a b c d : ℤ) → int_lt a b ≡ true → b ≡ c → int_lt c d ≡ true → int_lt a d ≡ true
lt_lt a b c d h e k = grind (arith, ints)

lt_then : (t b c d : ℤ) → int_lt t b ≡ true → b ≡ c → int_lt c d ≡ true → int_lt t d ≡ true
lt_then t b c d h e k = grind (arith, ints)

le_then : (a b c t : ℤ) → int_lt a b ≡ true → b ≡ c → int_le c t ≡ true → int_le a t ≡ true
le_then a b c t h e k = grind (arith, ints)

-- a piece doesn't start before the first cut
starts_from : (d : ℤ) (cs : List ℤ) → Ascend (d ∷ cs) → (x : Extent) → In x (pieces (d ∷ cs)) → int_le d x.start ≡ true
starts_from d [] h x i = absurd i
starts_from d (c ∷ cs) h x (inl is) = rw is (le_itself d)
starts_from d (c ∷ cs) h x (inr i) = le_le d c x.start (lt_is_le d c h.0.0) (starts_from c cs h.1 x i)

module _ {X V : Type 0} {span : X → Extent} {body : X → V} {agrees : X → X → Bool} {merge : X → X → X} {join : X → List X → List X} {joins : List X → List X} (d : DoJoin span body agrees merge) (j : IsJoin span agrees merge join joins) (given : ℤ → Option V) where
  -- the parts show what is given in the pieces
  record AreOf (es : List Extent) (ps : List X) : Type 0 where
    linked : list_links (goes_on span agrees) ps ≡ true
    proper : (p : X) → In p ps → int_lt (span p).start (span p).end ≡ true
    right : (p : X) (t : ℤ) → In p ps → has (span p) t ≡ true → given t ≡ Some (body p)
    start_is : (p : X) → In p ps → (e : Extent) × In e es × ((span p).start ≡ e.start)
    covers : (e : Extent) (t : ℤ) (v : V) → In e es → has e t ≡ true → given t ≡ Some v → HasInstant span ps t

  -- nothing is given in the piece, and it has no part
  abbrev pub GivesNone : Extent → List X → Type 0
  GivesNone e ps = (ps ≡ []) × ((t : ℤ) → has e t ≡ true → given t ≡ None)

  -- the piece has one part, which is given throughout
  pub record GivesOne (e : Extent) (ps : List X) : Type 0 where
    pub part : X
    pub alone : ps ≡ part ∷ []
    pub span_is : span part ≡ e
    pub right : (t : ℤ) → has e t ≡ true → given t ≡ Some (body part)

  abbrev pub Gives : Extent → List X → Type 0
  Gives e ps = GivesNone e ps ⊎ GivesOne e ps

  pub gives_none : (e : Extent) → ((t : ℤ) → has e t ≡ true → given t ≡ None) → Gives e []
  gives_none e none = inl (refl, none)

  pub gives_one : (e : Extent) (p : X) → span p ≡ e → ((t : ℤ) → has e t ≡ true → given t ≡ Some (body p)) → Gives e (p ∷ [])
  gives_one e p is right = inr (record { part = p; alone = refl; span_is = is; right = right })

  add_none : (e : Extent) (es : List Extent) (ps : List X) → ((t : ℤ) → has e t ≡ true → given t ≡ None) → AreOf es ps → AreOf (e ∷ es) ps
  add_none e es ps none w = record {
    linked = w.linked;
    proper = w.proper;
    right = w.right;
    start_is = λ p i. let s = w.start_is p i in (s.0, inr s.1, s.2);
    covers = covers;
  } where
    covers : (x : Extent) (t : ℤ) (v : V) → In x (e ∷ es) → has x t ≡ true → given t ≡ Some v → HasInstant span ps t
    covers x t v (inl is) h g = absurd (none_not_some (given t) v (none t (subst (λ (y : Extent). has y t ≡ true) is h)) g)
    covers x t v (inr i) h g = w.covers x t v i h g

  module _ (p : X) (es : List Extent) (proper_p : int_lt (span p).start (span p).end ≡ true) (after : (x : Extent) → In x es → int_le (span p).end x.start ≡ true) (right_p : (t : ℤ) → has (span p) t ≡ true → given t ≡ Some (body p)) where
    alone : AreOf es [] → AreOf (span p ∷ es) (p ∷ [])
    alone w = record { linked = refl; proper = proper; right = right; start_is = start_is; covers = covers } where
      proper : (x : X) → In x (p ∷ []) → int_lt (span x).start (span x).end ≡ true
      proper x (inl is) = rw is proper_p
      proper x (inr i) = absurd i

      right : (x : X) (t : ℤ) → In x (p ∷ []) → has (span x) t ≡ true → given t ≡ Some (body x)
      right x t (inl is) h = rw is (right_p t (subst (λ (y : X). has (span y) t ≡ true) is h))
      right x t (inr i) h = absurd i

      start_is : (x : X) → In x (p ∷ []) → (e : Extent) × In e (span p ∷ es) × ((span x).start ≡ e.start)
      start_is x (inl is) = (span p, inl refl, ap (λ (y : X). (span y).start) is)
      start_is x (inr i) = absurd i

      covers : (e : Extent) (t : ℤ) (v : V) → In e (span p ∷ es) → has e t ≡ true → given t ≡ Some v → HasInstant span (p ∷ []) t
      covers e t v (inl is) h g = (p, inl refl, subst (λ (y : Extent). has y t ≡ true) is h)
      covers e t v (inr i) h g = absurd (w.covers e t v i h g).1

    module _ (q : X) (qs : List X) (w : AreOf es (q ∷ qs)) where
      before : int_le (span p).end (span q).start ≡ true
      before = let s = w.start_is q (inl refl) in subst (λ (t : ℤ). int_le (span p).end t ≡ true) (sym s.2) (after s.0 s.1)

      apart : agrees p q ≡ false → AreOf (span p ∷ es) (p ∷ q ∷ qs)
      apart off = record {
        linked = and_from (goes_on span agrees p q) (list_links (goes_on span agrees) (q ∷ qs)) (and_from (int_le (span p).end (span q).start) (not (agrees p q)) before (ap not off)) w.linked;
        proper = proper;
        right = right;
        start_is = start_is;
        covers = covers;
      } where
        proper : (x : X) → In x (p ∷ q ∷ qs) → int_lt (span x).start (span x).end ≡ true
        proper x (inl is) = rw is proper_p
        proper x (inr i) = w.proper x i

        right : (x : X) (t : ℤ) → In x (p ∷ q ∷ qs) → has (span x) t ≡ true → given t ≡ Some (body x)
        right x t (inl is) h = rw is (right_p t (subst (λ (y : X). has (span y) t ≡ true) is h))
        right x t (inr i) h = w.right x t i h

        start_is : (x : X) → In x (p ∷ q ∷ qs) → (e : Extent) × In e (span p ∷ es) × ((span x).start ≡ e.start)
        start_is x (inl is) = (span p, inl refl, ap (λ (y : X). (span y).start) is)
        start_is x (inr i) = let s = w.start_is x i in (s.0, inr s.1, s.2)

        covers : (e : Extent) (t : ℤ) (v : V) → In e (span p ∷ es) → has e t ≡ true → given t ≡ Some v → HasInstant span (p ∷ q ∷ qs) t
        covers e t v (inl is) h g = (p, inl refl, subst (λ (y : Extent). has y t ≡ true) is h)
        covers e t v (inr i) h g = let m = w.covers e t v i h g in (m.0, inr m.1, m.2)

      together : agrees p q ≡ true → AreOf (span p ∷ es) (merge p q ∷ qs)
      together on = record { linked = linked qs w.linked; proper = proper; right = right; start_is = start_is; covers = covers } where
        touch : (span p).end ≡ (span q).start
        touch = d.means_touch p q on

        proper_q : int_lt (span q).start (span q).end ≡ true
        proper_q = w.proper q (inl refl)

        joined : Extent
        joined = record { start = (span p).start; end = (span q).end }

        next : (r : X) → goes_on span agrees q r ≡ true → goes_on span agrees (merge p q) r ≡ true
        next r h = let both = and_parts (int_le (span q).end (span r).start) (not (agrees q r)) h in
            and_from (int_le (span (merge p q)).end (span r).start) (not (agrees (merge p q) r)) (subst (λ (e : Extent). int_le e.end (span r).start ≡ true) (sym (d.merged_span p q)) both.0) (off both.1 (cases_Bool (agrees (merge p q) r))) where
              off : not (agrees q r) ≡ true → (agrees (merge p q) r ≡ true) ⊎ (agrees (merge p q) r ≡ false) → not (agrees (merge p q) r) ≡ true
              off n (inr h) = ap not h
              off n (inl h) = absurd (not_both (agrees q r) (d.touch q r (ap (λ (e : Extent). e.end) (sym (d.merged_span p q)) ∙ d.means_touch (merge p q) r h) (sym (d.means_body p q on) ∙ sym (d.merged_body p q) ∙ d.means_body (merge p q) r h)) n)

        linked : (rs : List X) → list_links (goes_on span agrees) (q ∷ rs) ≡ true → list_links (goes_on span agrees) (merge p q ∷ rs) ≡ true
        linked [] links = refl
        linked (r ∷ rs) links = let both = and_parts (goes_on span agrees q r) (list_links (goes_on span agrees) (r ∷ rs)) links in
            and_from (goes_on span agrees (merge p q) r) (list_links (goes_on span agrees) (r ∷ rs)) (next r both.0) both.1

        proper : (x : X) → In x (merge p q ∷ qs) → int_lt (span x).start (span x).end ≡ true
        proper x (inl is) = subst (λ (e : Extent). int_lt e.start e.end ≡ true) (sym (ap span is ∙ d.merged_span p q)) (lt_lt (span p).start (span p).end (span q).start (span q).end proper_p touch proper_q)
        proper x (inr i) = w.proper x (inr i)

        in_joined : (t : ℤ) → has joined t ≡ true → given t ≡ Some (body p)
        in_joined t h = let both = and_parts (int_le (span p).start t) (int_lt t (span q).end) h in elim (cases_Bool (int_lt t (span p).end)) [
          | inl here ↦ right_p t (and_from (int_le (span p).start t) (int_lt t (span p).end) both.0 here)
          | inr off ↦ w.right q t (inl refl) (and_from (int_le (span q).start t) (int_lt t (span q).end) (subst (λ (x : ℤ). int_le x t ≡ true) touch (not_lt_le t (span p).end off)) both.1) ∙ ap Some (sym (d.means_body p q on))
        ]

        right : (x : X) (t : ℤ) → In x (merge p q ∷ qs) → has (span x) t ≡ true → given t ≡ Some (body x)
        right x t (inl is) h = in_joined t (subst (λ (e : Extent). has e t ≡ true) (ap span is ∙ d.merged_span p q) h) ∙ ap Some (sym (ap body is ∙ d.merged_body p q))
        right x t (inr i) h = w.right x t (inr i) h

        start_is : (x : X) → In x (merge p q ∷ qs) → (e : Extent) × In e (span p ∷ es) × ((span x).start ≡ e.start)
        start_is x (inl is) = (span p, inl refl, ap (λ (e : Extent). e.start) (ap span is ∙ d.merged_span p q))
        start_is x (inr i) = let s = w.start_is x (inr i) in (s.0, inr s.1, s.2)

        has_merged : (t : ℤ) → has joined t ≡ true → HasInstant span (merge p q ∷ qs) t
        has_merged t h = (merge p q, inl refl, subst (λ (e : Extent). has e t ≡ true) (sym (d.merged_span p q)) h)

        from_p : (t : ℤ) → has (span p) t ≡ true → has joined t ≡ true
        from_p t h = let both = and_parts (int_le (span p).start t) (int_lt t (span p).end) h in and_from (int_le (span p).start t) (int_lt t (span q).end) both.0 (lt_then t (span p).end (span q).start (span q).end both.1 touch proper_q)

        from_q : (t : ℤ) → has (span q) t ≡ true → has joined t ≡ true
        from_q t h = let both = and_parts (int_le (span q).start t) (int_lt t (span q).end) h in and_from (int_le (span p).start t) (int_lt t (span q).end) (le_then (span p).start (span p).end (span q).start t proper_p touch both.0) both.1

        moved : (t : ℤ) → HasInstant span (q ∷ qs) t → HasInstant span (merge p q ∷ qs) t
        moved t (x, (inl is), h) = has_merged t (from_q t (subst (λ (y : X). has (span y) t ≡ true) is h))
        moved t (x, (inr i), h) = (x, inr i, h)

        covers : (e : Extent) (t : ℤ) (v : V) → In e (span p ∷ es) → has e t ≡ true → given t ≡ Some v → HasInstant span (merge p q ∷ qs) t
        covers e t v (inl is) h g = has_merged t (from_p t (subst (λ (y : Extent). has y t ≡ true) is h))
        covers e t v (inr i) h g = moved t (w.covers e t v i h g)

    add_part : (ps : List X) → AreOf es ps → AreOf (span p ∷ es) (join p ps)
    add_part [] w = subst (λ (xs : List X). AreOf (span p ∷ es) xs) (sym (j.alone p)) (alone w)
    add_part (q ∷ qs) w = subst (λ (xs : List X). AreOf (span p ∷ es) xs) (sym (j.next p q qs)) (go (agrees p q) refl) where
      go : (b : Bool) → agrees p q ≡ b → AreOf (span p ∷ es) (cond b (merge p q ∷ qs) (p ∷ q ∷ qs))
      go true on = together q qs w on
      go false off = apart q qs w off

  add : (e : Extent) (es : List Extent) (new ps : List X) → int_lt e.start e.end ≡ true → ((x : Extent) → In x es → int_le e.end x.start ≡ true) → Gives e new → AreOf es (joins ps) → AreOf (e ∷ es) (joins (new ++ ps))
  add e es new ps proper after (inl none) w = subst (λ (xs : List X). AreOf (e ∷ es) (joins (xs ++ ps))) (sym none.0) (add_none e es (joins ps) none.1 w)
  add e es new ps proper after (inr one) w =
      subst (λ (xs : List X). AreOf (e ∷ es) (joins (xs ++ ps))) (sym one.alone)
      (subst (λ (xs : List X). AreOf (e ∷ es) xs) (sym (j.more one.part ps))
      (subst (λ (x : Extent). AreOf (x ∷ es) (join one.part (joins ps))) one.span_is
      (add_part one.part es
      (subst (λ (x : Extent). int_lt x.start x.end ≡ true) (sym one.span_is) proper)
      (λ x i. subst (λ (y : Extent). int_le y.end x.start ≡ true) (sym one.span_is) (after x i))
      (λ t h. one.right t (subst (λ (y : Extent). has y t ≡ true) one.span_is h))
      (joins ps) w)))

  nothing : AreOf [] (joins [])
  nothing = subst (λ (xs : List X). AreOf [] xs) (sym j.none) (record { linked = refl; proper = λ p i. absurd i; right = λ p t i h. absurd i; start_is = λ p i. absurd i; covers = λ e t v i h g. absurd i })

  joined_from : (f : Extent → List X) (c : ℤ) (cs : List ℤ) → Ascend (c ∷ cs) → ((e : Extent) → In e (pieces (c ∷ cs)) → Gives e (f e)) → AreOf (pieces (c ∷ cs)) (joins (gathered f (pieces (c ∷ cs))))
  joined_from f c [] up gives = nothing
  joined_from f c (x ∷ cs) up gives =
      add (record { start = c; end = x }) (pieces (x ∷ cs)) (f (record { start = c; end = x })) (gathered f (pieces (x ∷ cs))) up.0.0 (starts_from x cs up.1) (gives (record { start = c; end = x }) (inl refl)) (joined_from f x cs up.1 (λ e i. gives e (inr i)))

  joined : (f : Extent → List X) (cs : List ℤ) → Ascend cs → ((e : Extent) → In e (pieces cs) → Gives e (f e)) → AreOf (pieces cs) (joins (gathered f (pieces cs)))
  joined f [] up gives = nothing
  joined f (c ∷ cs) up gives = joined_from f c cs up gives

  -- where each instant at which something is given is in a piece
  pub joined_are_parts : (f : Extent → List X) (cs : List ℤ) → Ascend cs → ((e : Extent) → In e (pieces cs) → Gives e (f e)) → ((t : ℤ) (v : V) → given t ≡ Some v → IsInPiece cs t) → AreParts span body agrees given (joins (gathered f (pieces cs)))
  joined_are_parts f cs up gives inside = let w = joined f cs up gives in record {
    linked = w.linked;
    proper = w.proper;
    right = w.right;
    covers = λ t v g. let m = inside t v g in w.covers m.piece t v m.among m.inside g;
  }
