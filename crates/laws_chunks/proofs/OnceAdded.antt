-- Ids that are pending, added or tombstones: how often each is one of these, and what each change of the lists makes of it.
use Rattle.std.proofs.Common.{Bool, List, [], ap, append_assoc, arith, cond, false, filter, inl, inr, not, refl, subst, sym, true, ℕ, ◌&&◌, ◌+◌, ◌++◌, ◌<◌, ◌∙◌, ◌∷◌, ◌≡◌, ◌≤◌, ◌⊎◌}
use Rattle.std.proofs.lemmas.Bool.{and_parts, cases_Bool, cases_lt, false≢true}
use Rattle.std.proofs.lemmas.List.{append-nil}
use Rattle.std.specs.List.{AllByRecursion}
use Rattle.seg_names.specs.Ids.{same_id}
use Rattle.seg_names.specs.declared.seg_id.SegId.{SegId}
use Rattle.book_rows.specs.Append.{without_root}
use Rattle.book_rows.specs.Lists.{In, count}
use Rattle.book_rows.specs.Live.{IsIn}
use Rattle.book_rows.specs.Shape.{AreDistinct, HasChunk, all_adds, all_empties, pending_ids}
use Rattle.book_rows.specs.declared.rows.ChunkRow.{ChunkRow}
use Rattle.book_rows.specs.declared.rows.PendingRow.{PendingRow}
use Rattle.book_rows.specs.declared.rows.Publication.{Publication}
use Rattle.laws_chunks.specs.ChunksSound.{AreOnce, HaveAddedChunks, HaveDistinctIds, all_ids}
use Rattle.laws_chunks.specs.Growing.{appended}
use Rattle.laws_chunks.proofs.Meanings.{count_pos, count_some, once}
use Rattle.laws_chunks.proofs.Members.{In-append, In-filter, In-left, In-right, all_from_In, count-append, count-filter, count_map, count_none}
use Rattle.laws_chunks.proofs.SoundChunks.{pairs_left, pairs_unmapped}
use Rattle.laws_chunks.proofs.Spans.{one_pending, same_id_from, same_id_itself, same_id_means}

-- ---- distinct ids are those that are counted at most once

pub distinct_from_counts : (ids : List SegId) → ((a : SegId) → count (λ x. same_id x a) ids ≤ 1) → AreDistinct same_id ids
distinct_from_counts [] h = tt
distinct_from_counts (x ∷ ids) h = (all_from_In (λ y. same_id x y ≡ false) ids (λ y i. differ y i), distinct_from_counts ids (λ a. fewer (same_id x a) (count (λ x. same_id x a) ids) (h a))) where
  fewer : (b : Bool) (n : ℕ) → cond b (1 + n) n ≤ 1 → n ≤ 1
  fewer true n le = omega arith
  fewer false n le = le

  two : (n : ℕ) → 0 < n → 1 + n ≤ 1 → ⊥
  two n some le = omega arith

  differ : (y : SegId) → In y ids → same_id x y ≡ false
  differ y i = elim (cases_Bool (same_id x y)) [
    | inr off ↦ off
    | inl on ↦ absurd (two (count (λ x. same_id x y) ids) (count_some (λ x. same_id x y) y ids i (same_id_itself y)) (subst (λ (b : Bool). cond b (1 + count (λ x. same_id x y) ids) (count (λ x. same_id x y) ids) ≤ 1) on (h y)))
  ]

-- an id of one list is of any other that counts alike
pub In_alike : (ids others : List SegId) (a : SegId) → count (λ x. same_id x a) ids ≡ count (λ x. same_id x a) others → In a ids → In a others
In_alike ids others a e i =
    let w = count_pos (λ x. same_id x a) others (subst (λ n. 0 < n) e (count_some (λ x. same_id x a) a ids i (same_id_itself a))) in
    subst (λ (x : SegId). In x others) (same_id_means w.0 a w.2) w.1

-- pendings of distinct ids
pub pendings_once : (a : SegId) (ps : List PendingRow) → HaveDistinctIds ps → count (λ p. same_id p.id a) ps ≤ 1
pendings_once a ps h = subst (λ n. n ≤ 1) (count_map (λ x. same_id x a) (λ (p : PendingRow). p.id) ps) (once a (pending_ids ps) (mapped ps h)) where
  all_mapped : (x : SegId) (ps : List PendingRow) → AllByRecursion (λ p. same_id x p.id ≡ false) ps → AllByRecursion (λ y. same_id x y ≡ false) (pending_ids ps)
  all_mapped x [] h = tt
  all_mapped x (p ∷ ps) h = (h.0, all_mapped x ps h.1)

  mapped : (ps : List PendingRow) → HaveDistinctIds ps → AreDistinct same_id (pending_ids ps)
  mapped [] h = tt
  mapped (p ∷ ps) h = (all_mapped p.id ps h.0, mapped ps h.1)

pub distinct_ids : (ps : List PendingRow) (pubs : List Publication) → AreOnce ps pubs → HaveDistinctIds ps
distinct_ids ps pubs h = pairs_unmapped (λ a c. same_id a c ≡ false) (λ (p : PendingRow). p.id) ps (pairs_left (λ a c. same_id a c ≡ false) (pending_ids ps) (all_ids pubs) h)

-- how often an id is pending, added or a tombstone
abbrev pub how_often : List PendingRow → List Publication → SegId → ℕ
how_often ps pubs a = count (λ p. same_id p.id a) ps + (count (λ x. same_id x a) (all_adds pubs) + count (λ x. same_id x a) (all_empties pubs))

how_often_is : (ps : List PendingRow) (pubs : List Publication) (a : SegId) → count (λ x. same_id x a) (pending_ids ps ++ all_ids pubs) ≡ how_often ps pubs a
how_often_is ps pubs a =
    count-append (λ x. same_id x a) (pending_ids ps) (all_ids pubs)
    ∙ rw (count_map (λ x. same_id x a) (λ (p : PendingRow). p.id) ps, count-append (λ x. same_id x a) (all_adds pubs) (all_empties pubs)) refl

pub at_most_once : (ps : List PendingRow) (pubs : List Publication) → AreOnce ps pubs → (a : SegId) → how_often ps pubs a ≤ 1
at_most_once ps pubs h a = subst (λ n. n ≤ 1) (how_often_is ps pubs a) (once a (pending_ids ps ++ all_ids pubs) h)

pub once_from : (ps : List PendingRow) (pubs : List Publication) → ((a : SegId) → how_often ps pubs a ≤ 1) → AreOnce ps pubs
once_from ps pubs h = distinct_from_counts (pending_ids ps ++ all_ids pubs) (λ a. subst (λ n. n ≤ 1) (sym (how_often_is ps pubs a)) (h a))

-- an id that is none of these
never : (ps : List PendingRow) (pubs : List Publication) (a : SegId) → ((p : PendingRow) → In p ps → same_id p.id a ≡ false) → ((x : SegId) → In x (all_ids pubs) → same_id x a ≡ false) → how_often ps pubs a ≡ 0
never ps pubs a f g =
    let pending : count (λ p. same_id p.id a) ps ≡ 0 = count_none (λ p. same_id p.id a) ps f in
    let adds : count (λ x. same_id x a) (all_adds pubs) ≡ 0 = count_none (λ x. same_id x a) (all_adds pubs) (λ x i. g x (In-left x (all_adds pubs) (all_empties pubs) i)) in
    let empties : count (λ x. same_id x a) (all_empties pubs) ≡ 0 = count_none (λ x. same_id x a) (all_empties pubs) (λ x i. g x (In-right x (all_adds pubs) (all_empties pubs) i)) in
    omega (arith, pending, adds, empties)

-- ---- the ids of all publications, where the last one changes

adds_last : (ms : List Publication) (m : Publication) → all_adds (ms ++ m ∷ []) ≡ all_adds ms ++ m.adds
adds_last [] m = append-nil m.adds
adds_last (n ∷ ms) m = rw (adds_last ms m) (sym (append_assoc n.adds (all_adds ms) m.adds))

empties_last : (ms : List Publication) (m : Publication) → all_empties (ms ++ m ∷ []) ≡ all_empties ms ++ m.empties
empties_last [] m = append-nil m.empties
empties_last (n ∷ ms) m = rw (empties_last ms m) (sym (append_assoc n.empties (all_empties ms) m.empties))

-- where it has more ids and tombstones
adds_grow : (ms : List Publication) (m n : Publication) (ids : List SegId) → n.adds ≡ m.adds ++ ids → all_adds (ms ++ n ∷ []) ≡ all_adds (ms ++ m ∷ []) ++ ids
adds_grow ms m n ids e = adds_last ms n ∙ rw (e, adds_last ms m) (sym (append_assoc (all_adds ms) m.adds ids))

empties_grow : (ms : List Publication) (m n : Publication) (ids : List SegId) → n.empties ≡ m.empties ++ ids → all_empties (ms ++ n ∷ []) ≡ all_empties (ms ++ m ∷ []) ++ ids
empties_grow ms m n ids e = empties_last ms n ∙ rw (e, empties_last ms m) (sym (append_assoc (all_empties ms) m.empties ids))

-- where it has none
ids_pushed : (ms : List Publication) (m : Publication) → m.adds ≡ [] → m.empties ≡ [] → all_ids (ms ++ m ∷ []) ≡ all_ids ms
ids_pushed ms m none clean = rw (adds_last ms m, empties_last ms m, none, clean, append-nil (all_adds ms), append-nil (all_empties ms)) refl

pub once_pushed : (ps : List PendingRow) (ms : List Publication) (m : Publication) → m.adds ≡ [] → m.empties ≡ [] → AreOnce ps ms → AreOnce ps (ms ++ m ∷ [])
once_pushed ps ms m none clean h = subst (λ ids. AreDistinct same_id (pending_ids ps ++ ids)) (sym (ids_pushed ms m none clean)) h

pub added_pushed : (cs : List ChunkRow) (ms : List Publication) (m : Publication) → m.adds ≡ [] → m.empties ≡ [] → HaveAddedChunks cs ms → HaveAddedChunks cs (ms ++ m ∷ [])
added_pushed cs ms m none clean h a i = h a (subst (λ ids. In a ids) (ids_pushed ms m none clean) i)

-- ---- other pendings

pub count_le : {X : Type 0} (p q : X → Bool) (xs : List X) → ((x : X) → In x xs → p x ≡ true → q x ≡ true) → count p xs ≤ count q xs
count_le p q [] h = omega arith
count_le p q (x ∷ xs) h = step (p x) (q x) (count p xs) (count q xs) (h x (inl refl)) (count_le p q xs (λ y i. h y (inr i))) where
  step : (b c : Bool) (m n : ℕ) → (b ≡ true → c ≡ true) → m ≤ n → cond b (1 + m) m ≤ cond c (1 + n) n
  step true true m n f le = omega arith
  step true false m n f le = absurd (false≢true (f refl))
  step false true m n f le = omega arith
  step false false m n f le = le

count_fewer : {X : Type 0} (p q : X → Bool) (xs : List X) → count p (filter q xs) ≤ count p xs
count_fewer p q xs = rw (count-filter p q xs) (count_le (λ x. q x && p x) p xs (λ x i on. (and_parts (q x) (p x) on).1))

pub once_fewer : (test : PendingRow → Bool) (ps : List PendingRow) (pubs : List Publication) → AreOnce ps pubs → AreOnce (filter test ps) pubs
once_fewer test ps pubs h = once_from (filter test ps) pubs (λ a.
    let fewer : count (λ p. same_id p.id a) (filter test ps) ≤ count (λ p. same_id p.id a) ps = count_fewer (λ (p : PendingRow). same_id p.id a) test ps in
    let was : how_often ps pubs a ≤ 1 = at_most_once ps pubs h a in
    omega (arith, fewer, was))

-- one that is none of these yet
pub once_joined : (n : PendingRow) (ps : List PendingRow) (pubs : List Publication) → ((p : PendingRow) → In p ps → same_id p.id n.id ≡ false) → ((x : SegId) → In x (all_ids pubs) → same_id x n.id ≡ false)
    → AreOnce ps pubs → AreOnce (ps ++ n ∷ []) pubs
once_joined n ps pubs f g h = once_from (ps ++ n ∷ []) pubs (λ a. at a (same_id n.id a) refl) where
  at : (a : SegId) (b : Bool) → same_id n.id a ≡ b → how_often (ps ++ n ∷ []) pubs a ≤ 1
  at a b e =
      let pending : count (λ p. same_id p.id a) (ps ++ n ∷ []) ≡ count (λ p. same_id p.id a) ps + cond b 1 0 = count-append (λ (p : PendingRow). same_id p.id a) ps (n ∷ []) ∙ ap (λ (b : Bool). count (λ p. same_id p.id a) ps + cond b 1 0) e in
      sum b (count (λ p. same_id p.id a) (ps ++ n ∷ [])) (count (λ p. same_id p.id a) ps) (count (λ x. same_id x a) (all_adds pubs)) (count (λ x. same_id x a) (all_empties pubs)) pending (at_most_once ps pubs h a) (new b e) where
        new : (b : Bool) → same_id n.id a ≡ b → b ≡ true → how_often ps pubs a ≡ 0
        new b e on = subst (λ (a : SegId). how_often ps pubs a ≡ 0) (same_id_means n.id a (e ∙ on)) (never ps pubs n.id f g)

        sum : (b : Bool) (all p x y : ℕ) → all ≡ p + cond b 1 0 → p + (x + y) ≤ 1 → (b ≡ true → p + (x + y) ≡ 0) → all + (x + y) ≤ 1
        sum true all p x y e le none = let zero_is : p + (x + y) ≡ 0 = none refl in omega (arith, e, zero_is)
        sum false all p x y e le none = omega (arith, e, le)

-- ---- a root is appended

-- none of the pendings that stay has its id
pub once_appended : (ms : List Publication) (m : Publication) (r : PendingRow) (ps : List PendingRow) → In r ps → r.id ≡ r.root → HaveDistinctIds ps → AreOnce ps (ms ++ m ∷ []) → AreOnce (without_root r.id ps) (ms ++ appended r.id m ∷ [])
once_appended ms m r ps i root distinct h = once_from (without_root r.id ps) (ms ++ appended r.id m ∷ []) (λ a. at a (same_id r.id a) refl) where
  gone : (p : PendingRow) → In p (without_root r.id ps) → same_id p.id r.id ≡ false
  gone p j = elim (cases_Bool (same_id p.id r.id)) [
    | inr off ↦ off
    | inl on ↦
        let was = In-filter (λ p. not (same_id p.root r.id)) p ps j in
        let one : p ≡ r = one_pending ps p r distinct was.0 i (same_id_means p.id r.id on) in
        let is : p.root ≡ r.id = ap (λ (x : PendingRow). x.root) one ∙ sym root in
        absurd (false≢true (rw (same_id_from p.root r.id is) at was.1))
  ]

  -- one pending less where one id more is added
  moves : (a : SegId) (b : Bool) → same_id r.id a ≡ b → count (λ p. same_id p.id a) (without_root r.id ps) + cond b 1 0 ≤ count (λ p. same_id p.id a) ps
  moves a true e =
      let none : count (λ p. same_id p.id a) (without_root r.id ps) ≡ 0 = count_none (λ (p : PendingRow). same_id p.id a) (without_root r.id ps) (λ p j. subst (λ (a : SegId). same_id p.id a ≡ false) (same_id_means r.id a e) (gone p j)) in
      let some : 0 < count (λ p. same_id p.id a) ps = count_some (λ (p : PendingRow). same_id p.id a) r ps i e in
      omega (arith, none, some)
  moves a false e = let fewer : count (λ p. same_id p.id a) (without_root r.id ps) ≤ count (λ p. same_id p.id a) ps = count_fewer (λ (p : PendingRow). same_id p.id a) (λ p. not (same_id p.root r.id)) ps in omega (arith, fewer)

  at : (a : SegId) (b : Bool) → same_id r.id a ≡ b → how_often (without_root r.id ps) (ms ++ appended r.id m ∷ []) a ≤ 1
  at a b e =
      let adds : count (λ x. same_id x a) (all_adds (ms ++ appended r.id m ∷ [])) ≡ count (λ x. same_id x a) (all_adds (ms ++ m ∷ [])) + cond b 1 0 =
      ap (count (λ x. same_id x a)) (adds_grow ms m (appended r.id m) (r.id ∷ []) refl) ∙ count-append (λ x. same_id x a) (all_adds (ms ++ m ∷ [])) (r.id ∷ []) ∙ ap (λ (b : Bool). count (λ x. same_id x a) (all_adds (ms ++ m ∷ [])) + cond b 1 0) e in
      let empties : count (λ x. same_id x a) (all_empties (ms ++ appended r.id m ∷ [])) ≡ count (λ x. same_id x a) (all_empties (ms ++ m ∷ [])) = ap (count (λ x. same_id x a)) (empties_last ms (appended r.id m) ∙ sym (empties_last ms m)) in
      let less = moves a b e in
      let was : how_often ps (ms ++ m ∷ []) a ≤ 1 = at_most_once ps (ms ++ m ∷ []) h a in
      omega (arith, adds, empties, less, was)

pub added_appended : (cs : List ChunkRow) (ms : List Publication) (m : Publication) (r : SegId) → HasChunk cs r → HaveAddedChunks cs (ms ++ m ∷ []) → HaveAddedChunks cs (ms ++ appended r m ∷ [])
added_appended cs ms m r new h a i = elim (In-append a (all_adds (ms ++ appended r m ∷ [])) (all_empties (ms ++ appended r m ∷ [])) i) [
  | inr e ↦ h a (In-right a (all_adds (ms ++ m ∷ [])) (all_empties (ms ++ m ∷ [])) (subst (λ ids. In a ids) (empties_last ms (appended r m) ∙ sym (empties_last ms m)) e))
  | inl j ↦ elim (In-append a (all_adds (ms ++ m ∷ [])) (r ∷ []) (subst (λ ids. In a ids) (adds_grow ms m (appended r m) (r ∷ []) refl) j)) [
    | inl old ↦ h a (In-left a (all_adds (ms ++ m ∷ [])) (all_empties (ms ++ m ∷ [])) old)
    | inr (inl is) ↦ subst (HasChunk cs) (sym is) new
    | inr (inr none) ↦ absurd none
  ]
]

-- ---- a span is filled

module _ (ms : List Publication) (m : Publication) (ids tombs : List SegId) (n : Publication) (adds : n.adds ≡ m.adds ++ ids) (empties : n.empties ≡ m.empties ++ tombs) where
  -- an id of before, or one of the new ones
  split : (a : SegId) → In a (all_ids (ms ++ n ∷ [])) → In a (all_ids (ms ++ m ∷ [])) ⊎ In a (ids ++ tombs)
  split a i = elim (In-append a (all_adds (ms ++ n ∷ [])) (all_empties (ms ++ n ∷ [])) i) [
    | inl j ↦ elim (In-append a (all_adds (ms ++ m ∷ [])) ids (subst (λ ids. In a ids) (adds_grow ms m n ids adds) j)) [
      | inl old ↦ inl (In-left a (all_adds (ms ++ m ∷ [])) (all_empties (ms ++ m ∷ [])) old)
      | inr new ↦ inr (In-left a ids tombs new)
    ]
    | inr j ↦ elim (In-append a (all_empties (ms ++ m ∷ [])) tombs (subst (λ ids. In a ids) (empties_grow ms m n tombs empties) j)) [
      | inl old ↦ inl (In-right a (all_adds (ms ++ m ∷ [])) (all_empties (ms ++ m ∷ [])) old)
      | inr new ↦ inr (In-right a ids tombs new)
    ]
  ]

  -- each new one has the chunk
  pub added_grown : (cs : List ChunkRow) (d : ChunkRow) → ((a : SegId) → In a (ids ++ tombs) → IsIn d a × (a.part < d.next)) → HaveAddedChunks cs (ms ++ m ∷ []) → HaveAddedChunks (cs ++ d ∷ []) (ms ++ n ∷ [])
  added_grown cs d new h a i = elim (split a i) [
    | inl old ↦ (let w = h a old in record { chunk = w.chunk; among = In-left w.chunk cs (d ∷ []) w.among; is_in = w.is_in; below = w.below })
    | inr j ↦ (let w = new a j in record { chunk = d; among = In-right d cs (d ∷ []) (inl refl); is_in = w.0; below = w.1 })
  ]

  -- none of before is new, and the new ones are distinct
  pub once_grown : (d : ChunkRow) (ps copies : List PendingRow) → ((p : PendingRow) → In p ps → IsIn d p.id → ⊥) → ((a : SegId) → In a (all_ids (ms ++ m ∷ [])) → IsIn d a → ⊥)
      → ((x : PendingRow) → In x copies → IsIn d x.id) → ((a : SegId) → In a (ids ++ tombs) → IsIn d a)
      → ((a : SegId) → count (λ p. same_id p.id a) copies + count (λ x. same_id x a) (ids ++ tombs) ≤ 1) → AreOnce ps (ms ++ m ∷ []) → AreOnce (ps ++ copies) (ms ++ n ∷ [])
  once_grown d ps copies old_pending old_id copies_in ids_in news h = once_from (ps ++ copies) (ms ++ n ∷ []) at where
    apart : (a x : SegId) → IsIn d a → (IsIn d x → ⊥) → same_id x a ≡ false
    apart a x k off = elim (cases_Bool (same_id x a)) [ inr differ ↦ differ | inl on ↦ absurd (off (subst (λ (a : SegId). IsIn d a) (sym (same_id_means x a on)) k)) ]

    new_in : (a : SegId) → 0 < count (λ p. same_id p.id a) copies + count (λ x. same_id x a) (ids ++ tombs) → IsIn d a
    new_in a some = elim (cases_lt 0 (count (λ p. same_id p.id a) copies)) [
      | inl lt ↦ (let w = count_pos (λ (p : PendingRow). same_id p.id a) copies lt in subst (λ (a : SegId). IsIn d a) (same_id_means w.0.id a w.2) (copies_in w.0 w.1))
      | inr none ↦
          let rest : 0 < count (λ x. same_id x a) (ids ++ tombs) = omega (arith, some, none) in
          let w = count_pos (λ x. same_id x a) (ids ++ tombs) rest in
          subst (λ (a : SegId). IsIn d a) (same_id_means w.0 a w.2) (ids_in w.0 w.1)
    ]

    -- as often as before, and as among the new ones
    at : (a : SegId) → how_often (ps ++ copies) (ms ++ n ∷ []) a ≤ 1
    at a =
        let pending : count (λ p. same_id p.id a) (ps ++ copies) ≡ count (λ p. same_id p.id a) ps + count (λ p. same_id p.id a) copies = count-append (λ (p : PendingRow). same_id p.id a) ps copies in
        let more : count (λ x. same_id x a) (all_adds (ms ++ n ∷ [])) ≡ count (λ x. same_id x a) (all_adds (ms ++ m ∷ [])) + count (λ x. same_id x a) ids =
        ap (count (λ x. same_id x a)) (adds_grow ms m n ids adds) ∙ count-append (λ x. same_id x a) (all_adds (ms ++ m ∷ [])) ids in
        let clean : count (λ x. same_id x a) (all_empties (ms ++ n ∷ [])) ≡ count (λ x. same_id x a) (all_empties (ms ++ m ∷ [])) + count (λ x. same_id x a) tombs =
        ap (count (λ x. same_id x a)) (empties_grow ms m n tombs empties) ∙ count-append (λ x. same_id x a) (all_empties (ms ++ m ∷ [])) tombs in
        let both : count (λ x. same_id x a) (ids ++ tombs) ≡ count (λ x. same_id x a) ids + count (λ x. same_id x a) tombs = count-append (λ x. same_id x a) ids tombs in
        let was : how_often ps (ms ++ m ∷ []) a ≤ 1 = at_most_once ps (ms ++ m ∷ []) h a in
        let new = news a in
        elim (cases_lt 0 (count (λ p. same_id p.id a) copies + count (λ x. same_id x a) (ids ++ tombs))) [
          | inr none ↦ omega (arith, pending, more, clean, both, was, none)
          | inl some ↦
              let k = new_in a some in
              let none : how_often ps (ms ++ m ∷ []) a ≡ 0 = never ps (ms ++ m ∷ []) a (λ p i. apart a p.id k (old_pending p i)) (λ x i. apart a x k (old_id x i)) in
              omega (arith, pending, more, clean, both, new, none)
        ]

-- ---- the last publication's ids in another order

module _ (ms : List Publication) (m n : Publication) (adds : (a : SegId) → count (λ x. same_id x a) m.adds ≡ count (λ x. same_id x a) n.adds) (empties : (a : SegId) → count (λ x. same_id x a) m.empties ≡ count (λ x. same_id x a) n.empties) where
  as_often : (a : SegId) → (count (λ x. same_id x a) (all_adds (ms ++ m ∷ [])) ≡ count (λ x. same_id x a) (all_adds (ms ++ n ∷ []))) × (count (λ x. same_id x a) (all_empties (ms ++ m ∷ [])) ≡ count (λ x. same_id x a) (all_empties (ms ++ n ∷ [])))
  as_often a = (
    rw (adds_last ms m, adds_last ms n, count-append (λ x. same_id x a) (all_adds ms) m.adds, count-append (λ x. same_id x a) (all_adds ms) n.adds, adds a) refl,
    rw (empties_last ms m, empties_last ms n, count-append (λ x. same_id x a) (all_empties ms) m.empties, count-append (λ x. same_id x a) (all_empties ms) n.empties, empties a) refl,
  )

  pub once_alike : (ps : List PendingRow) → AreOnce ps (ms ++ m ∷ []) → AreOnce ps (ms ++ n ∷ [])
  once_alike ps h = once_from ps (ms ++ n ∷ []) (λ a. let same = as_often a in let adds_are = same.0 in let empties_are = same.1 in let was : how_often ps (ms ++ m ∷ []) a ≤ 1 = at_most_once ps (ms ++ m ∷ []) h a in omega (arith, adds_are, empties_are, was))

  pub added_alike : (cs : List ChunkRow) → HaveAddedChunks cs (ms ++ m ∷ []) → HaveAddedChunks cs (ms ++ n ∷ [])
  added_alike cs h a i = elim (In-append a (all_adds (ms ++ n ∷ [])) (all_empties (ms ++ n ∷ [])) i) [
    | inl j ↦ h a (In-left a (all_adds (ms ++ m ∷ [])) (all_empties (ms ++ m ∷ [])) (In_alike (all_adds (ms ++ n ∷ [])) (all_adds (ms ++ m ∷ [])) a (sym (as_often a).0) j))
    | inr j ↦ h a (In-right a (all_adds (ms ++ m ∷ [])) (all_empties (ms ++ m ∷ [])) (In_alike (all_empties (ms ++ n ∷ [])) (all_empties (ms ++ m ∷ [])) a (sym (as_often a).1) j))
  ]
