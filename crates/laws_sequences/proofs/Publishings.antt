-- That each published sequence has one publication, and other sequences none, under changes of sequences and publications.
use Rattle.std.proofs.Common.{◌≡◌, ℕ, ◌+◌, Bool, true, false, cond, List, [], ◌∷◌, ◌++◌, map, Some, None, Option, refl, sym, ◌∙◌, ap, subst, arith, inl, inr, ◌⊎◌, bytes_eq}
use Rattle.std.proofs.lemmas.Bool.{cases_Bool, false≢true}
use Rattle.book_rows.specs.Kinds.{is_unpublished, same_state}
use Rattle.book_rows.specs.Lists.{In, count}
use Rattle.book_rows.specs.Names.{begins_with, sup_prefix}
use Rattle.book_rows.specs.SequenceRules.{IsGroupOfSequence, IsPublishedOnce, has_ranges_of, is_of_sequence, is_published}
use Rattle.book_rows.specs.Sequences.{is_closed, is_named, name_of, published}
use Rattle.book_rows.specs.declared.kinds.SeqState.{SeqState}
use Rattle.book_rows.specs.declared.kinds.SeqState.TheVariants as States
use Rattle.book_rows.specs.declared.rows.Publication.{Publication}
use Rattle.book_rows.specs.declared.rows.Ranges.{Ranges}
use Rattle.book_rows.specs.declared.rows.SequenceRow.{SequenceRow}
use Rattle.laws_locks.proofs.Lists.{In-append, In-left, In-map, map_In}
use Rattle.laws_locks.proofs.TaskRows.{bytes_differ}
use Rattle.laws_offsets.proofs.Lists.{same_text, text_same}
use Rattle.laws_sequences.specs.Links.{ArePublished}
use Rattle.laws_sequences.proofs.Counts.{KeepsKeys}
use Rattle.laws_sequences.proofs.Replicas.{name_kept}

-- ---- counts

module _ {X : Type 0} where
  count_push : (p : X → Bool) (xs : List X) (y : X) → count p (xs ++ y ∷ []) ≡ count p xs + cond (p y) 1 0
  count_push p [] y = elim (p y) as (λ b. cond b (1 + 0) 0 ≡ 0 + cond b 1 0) [ true ↦ refl | false ↦ refl ]
  count_push p (x ∷ xs) y = rw (count_push p xs y) (elim (p x) as (λ b. cond b (1 + (count p xs + cond (p y) 1 0)) (count p xs + cond (p y) 1 0) ≡ cond b (1 + count p xs) (count p xs) + cond (p y) 1 0) [ true ↦ more (count p xs) (cond (p y) 1 0) | false ↦ refl ]) where
    more : (a b : ℕ) → 1 + (a + b) ≡ (1 + a) + b
    more a b = omega arith

  pub none_counted : (p : X → Bool) (xs : List X) → ((x : X) → In x xs → p x ≡ false) → count p xs ≡ 0
  none_counted p [] h = refl
  none_counted p (x ∷ xs) h = rw (h x (inl refl)) (none_counted p xs (λ y i. h y (inr i)))

  pub one_counted : (p : X → Bool) (x : X) (xs : List X) → In x xs → p x ≡ true → count p xs ≡ 0 → ⊥
  one_counted p x [] i e c = absurd i
  one_counted p x (y ∷ ys) (inl same) e c = let on : p y ≡ true = rw (← same) e in never (count p ys) (rw on at c) where
    never : (n : ℕ) → 1 + n ≡ 0 → ⊥
    never n h = omega arith
  one_counted p x (y ∷ ys) (inr i) e c = one_counted p x ys i e (rest (p y) (count p ys) c) where
    rest : (b : Bool) (n : ℕ) → cond b (1 + n) n ≡ 0 → n ≡ 0
    rest true n h = omega arith
    rest false n h = h

-- ---- states

not_published : (st : SeqState) → is_unpublished st ≡ true → same_state st States.Published ≡ false
not_published States.Reading e = refl
not_published States.Paused e = refl
not_published States.Closed e = refl
not_published States.Published e = absurd (false≢true e)
not_published States.Abandoned e = absurd (false≢true e)

-- where only unpublished ones change, to a state that isn't published
pub unpublished_stays : (h : Bool) (x st : SeqState) → same_state x States.Published ≡ false → (h ≡ true → is_unpublished st ≡ true) → same_state (cond h x st) States.Published ≡ same_state st States.Published
unpublished_stays false x st off f = refl
unpublished_stays true x st off f = off ∙ sym (not_published st (f refl))

-- where only unpublished ones change, a published one isn't changed
pub published_unchanged : (h : Bool) (st : SeqState) → (h ≡ true → is_unpublished st ≡ true) → same_state st States.Published ≡ true → h ≡ false
published_unchanged false st f e = refl
published_unchanged true st f e = absurd (false≢true (sym (not_published st (f refl)) ∙ e))

closed_is_unpublished : (st : SeqState) → same_state st States.Closed ≡ true → same_state st States.Published ≡ false
closed_is_unpublished States.Reading e = refl
closed_is_unpublished States.Paused e = refl
closed_is_unpublished States.Closed e = refl
closed_is_unpublished States.Published e = absurd (false≢true e)
closed_is_unpublished States.Abandoned e = refl

-- ---- changes of sequences

pub record KeepsPublished (f : SequenceRow → SequenceRow) : Type 0 where
  pub keys : KeepsKeys f
  pub state : (u : SequenceRow) → is_published (f u) ≡ is_published u
  pub starts : (u : SequenceRow) → (f u).starts ≡ u.starts
  pub ends : (u : SequenceRow) → is_published u ≡ true → (f u).ends ≡ u.ends

-- one that has a publication is published
has_publication : (pubs : List Publication) (u : SequenceRow) (m : Publication) → IsPublishedOnce pubs u → In m pubs → is_of_sequence u m ≡ true → is_published u ≡ true
has_publication pubs u m h i e = by_state (is_published u) h.once where
  by_state : (b : Bool) → count (is_of_sequence u) pubs ≡ cond b 1 0 → b ≡ true
  by_state true c = refl
  by_state false c = absurd (one_counted (is_of_sequence u) m pubs i e c)

ranges_alike : (f : SequenceRow → SequenceRow) → KeepsPublished f → (u : SequenceRow) → is_published u ≡ true → (ranges : Option Ranges) → has_ranges_of u ranges ≡ true → has_ranges_of (f u) ranges ≡ true
ranges_alike f k u p None e = e
ranges_alike f k u p (Some r) e = rw (k.starts u, k.ends u p) e

once_moved : (f : SequenceRow → SequenceRow) → KeepsPublished f → (pubs : List Publication) (u : SequenceRow) → IsPublishedOnce pubs u → IsPublishedOnce pubs (f u)
once_moved f k pubs u h = record {
  once = subst (λ name. count (λ (m : Publication). bytes_eq m.group name) pubs ≡ cond (is_published (f u)) 1 0) (sym (name_kept f k.keys u)) (h.once ∙ ap (λ b. cond b 1 0) (sym (k.state u)));
  ranges = λ m i e. ranges_alike f k u (has_publication pubs u m h i (here m e)) m.ranges (h.ranges m i (here m e));
} where
  here : (m : Publication) → is_of_sequence (f u) m ≡ true → is_of_sequence u m ≡ true
  here m e = subst (λ name. bytes_eq m.group name ≡ true) (name_kept f k.keys u) e

group_moved : (f : SequenceRow → SequenceRow) → KeepsKeys f → (us : List SequenceRow) (group : List ℕ) → IsGroupOfSequence us group → IsGroupOfSequence (map f us) group
group_moved f k us group h = record { sequence = f h.sequence; among = map_In f h.sequence us h.among; group_is = h.group_is ∙ sym (name_kept f k h.sequence) }

pub published_map : (f : SequenceRow → SequenceRow) → KeepsPublished f → (pubs : List Publication) (us : List SequenceRow) → ArePublished pubs us → ArePublished pubs (map f us)
published_map f k pubs us h = record {
  each = λ u i. (
      let from = In-map f u us i in
      subst (λ (v : SequenceRow). IsPublishedOnce pubs v) (sym from.2) (once_moved f k pubs from.0 (h.each from.0 from.1)));
  groups = λ m i e. group_moved f k.keys us m.group (h.groups m i e);
}

-- a sequence more, of a name that no other has
pub published_push : (pubs : List Publication) (us : List SequenceRow) (new : SequenceRow) → is_published new ≡ false → ((v : SequenceRow) → In v us → name_of v ≡ name_of new → ⊥) → ArePublished pubs us → ArePublished pubs (us ++ new ∷ [])
published_push pubs us new off apart h = record {
  each = λ u i. by_place u (In-append u us (new ∷ []) i);
  groups = λ m i e. (let g = h.groups m i e in record { sequence = g.sequence; among = In-left g.sequence us (new ∷ []) g.among; group_is = g.group_is });
} where
  none : (m : Publication) → In m pubs → is_of_sequence new m ≡ false
  none m i = elim (cases_Bool (is_of_sequence new m)) [
    | inr away ↦ away
    | inl on ↦
        let named : m.group ≡ name_of new = same_text m.group (name_of new) on in
        let g = h.groups m i (rw named refl) in
        absurd (apart g.sequence g.among (sym g.group_is ∙ named))
  ]

  fresh : IsPublishedOnce pubs new
  fresh = record { once = none_counted (is_of_sequence new) pubs none ∙ ap (λ b. cond b 1 0) (sym off); ranges = λ m i e. absurd (false≢true (sym (none m i) ∙ e)) }

  by_place : (u : SequenceRow) → In u us ⊎ In u (new ∷ []) → IsPublishedOnce pubs u
  by_place u (inl i) = h.each u i
  by_place u (inr (inl same)) = subst (λ (v : SequenceRow). IsPublishedOnce pubs v) (sym same) fresh
  by_place u (inr (inr i)) = absurd i

-- ---- publications

not_of : (u : SequenceRow) (m : Publication) → begins_with sup_prefix m.group ≡ false → is_of_sequence u m ≡ false
not_of u m off = elim (cases_Bool (is_of_sequence u m)) [
  | inr away ↦ away
  | inl on ↦ absurd (false≢true (sym off ∙ rw (same_text m.group (name_of u) on) refl))
]

-- one more that isn't of the sequence
once_beside : (pubs : List Publication) (m : Publication) (u : SequenceRow) → is_of_sequence u m ≡ false → IsPublishedOnce pubs u → IsPublishedOnce (pubs ++ m ∷ []) u
once_beside pubs m u off h = record {
  once = count_push (is_of_sequence u) pubs m ∙ rw (off, h.once) (none (cond (is_published u) 1 0));
  ranges = λ n i e. by_place n (In-append n pubs (m ∷ []) i) e;
} where
  none : (a : ℕ) → a + 0 ≡ a
  none a = omega arith

  by_place : (n : Publication) → In n pubs ⊎ In n (m ∷ []) → is_of_sequence u n ≡ true → has_ranges_of u n.ranges ≡ true
  by_place n (inl i) e = h.ranges n i e
  by_place n (inr (inl same)) e = absurd (false≢true (sym off ∙ subst (λ (x : Publication). is_of_sequence u x ≡ true) same e))
  by_place n (inr (inr i)) e = absurd i

-- a publication of no sequence
pub published_beside : (pubs : List Publication) (us : List SequenceRow) (m : Publication) → begins_with sup_prefix m.group ≡ false → ArePublished pubs us → ArePublished (pubs ++ m ∷ []) us
published_beside pubs us m off h = record {
  each = λ u i. once_beside pubs m u (not_of u m off) (h.each u i);
  groups = λ n i e. by_place n (In-append n pubs (m ∷ []) i) e;
} where
  by_place : (n : Publication) → In n pubs ⊎ In n (m ∷ []) → begins_with sup_prefix n.group ≡ true → IsGroupOfSequence us n.group
  by_place n (inl i) e = h.groups n i e
  by_place n (inr (inl same)) e = absurd (false≢true (sym off ∙ subst (λ (x : Publication). begins_with sup_prefix x.group ≡ true) same e))
  by_place n (inr (inr i)) e = absurd i

-- the publication of a closed sequence
module _ (pubs : List Publication) (us : List SequenceRow) (u : SequenceRow) (m : Publication) (among : In u us) (closed : is_closed u ≡ true) (group_is : m.group ≡ name_of u) (ranges : has_ranges_of u m.ranges ≡ true) (h : ArePublished pubs us) where
  count_before : count (is_of_sequence u) pubs ≡ 0
  count_before = (h.each u among).once ∙ ap (λ b. cond b 1 0) (closed_is_unpublished u.state closed)

  own : is_named (name_of u) u ≡ true
  own = text_same (name_of u) (name_of u) refl

  of_u : is_of_sequence u m ≡ true
  of_u = text_same m.group (name_of u) group_is

  once_now : IsPublishedOnce (pubs ++ m ∷ []) (published (name_of u) u)
  once_now = record {
    once = count_push (is_of_sequence u) pubs m ∙ rw (count_before, of_u, own) refl;
    ranges = λ n i e. same n (by_place n (In-append n pubs (m ∷ []) i) e);
  } where
    by_place : (n : Publication) → In n pubs ⊎ In n (m ∷ []) → is_of_sequence u n ≡ true → has_ranges_of u n.ranges ≡ true
    by_place n (inl i) e = absurd (one_counted (is_of_sequence u) n pubs i e count_before)
    by_place n (inr (inl same)) e = subst (λ (x : Publication). has_ranges_of u x.ranges ≡ true) (sym same) ranges
    by_place n (inr (inr i)) e = absurd i

    same : (n : Publication) → has_ranges_of u n.ranges ≡ true → has_ranges_of (published (name_of u) u) n.ranges ≡ true
    same n e = by_ranges n.ranges e where
      by_ranges : (r : Option Ranges) → has_ranges_of u r ≡ true → has_ranges_of (published (name_of u) u) r ≡ true
      by_ranges None e = e
      by_ranges (Some r) e = e

  once_other : (v : SequenceRow) → In v us → is_named (name_of u) v ≡ false → IsPublishedOnce (pubs ++ m ∷ []) (published (name_of u) v)
  once_other v i off =
      let away : is_of_sequence v m ≡ false = rw group_is (bytes_differ (name_of v) (name_of u) off) in
      subst (λ (x : SequenceRow). IsPublishedOnce (pubs ++ m ∷ []) x) (sym (unchanged v off)) (once_beside pubs m v away (h.each v i)) where
        unchanged : (v : SequenceRow) → is_named (name_of u) v ≡ false → published (name_of u) v ≡ v
        unchanged v off = rw off refl

  pub published_publish : ((v : SequenceRow) → In v us → is_named (name_of u) v ≡ true → u ≡ v) → ArePublished (pubs ++ m ∷ []) (map (published (name_of u)) us)
  published_publish one = record {
    each = λ x i. (
        let from = In-map (published (name_of u)) x us i in
        subst (λ (v : SequenceRow). IsPublishedOnce (pubs ++ m ∷ []) v) (sym from.2) (each from.0 from.1 (is_named (name_of u) from.0) refl));
    groups = λ n i e. by_place n (In-append n pubs (m ∷ []) i) e;
  } where
    keys : KeepsKeys (published (name_of u))
    keys = record { source_is = λ v. refl; group_is = λ v. refl; index_is = λ v. refl }

    each : (v : SequenceRow) → In v us → (b : Bool) → is_named (name_of u) v ≡ b → IsPublishedOnce (pubs ++ m ∷ []) (published (name_of u) v)
    each v i true e = subst (λ (x : SequenceRow). IsPublishedOnce (pubs ++ m ∷ []) (published (name_of u) x)) (one v i e) once_now
    each v i false e = once_other v i e

    by_place : (n : Publication) → In n pubs ⊎ In n (m ∷ []) → begins_with sup_prefix n.group ≡ true → IsGroupOfSequence (map (published (name_of u)) us) n.group
    by_place n (inl i) e = group_moved (published (name_of u)) keys us n.group (h.groups n i e)
    by_place n (inr (inl same)) e = record {
      sequence = published (name_of u) u;
      among = map_In (published (name_of u)) u us among;
      group_is = ap (λ (x : Publication). x.group) same ∙ group_is;
    }
    by_place n (inr (inr i)) e = absurd i
