-- What the rules on chunks keep where a new chunk comes, above all that it meets, with its rows and with copies of root pendings.
use Rattle.std.proofs.Common.{Bool, List, [], ap, false, inl, inr, int_lt, pos, refl, subst, sym, true, ◌&&◌, ◌++◌, ◌<◌, ◌∙◌, ◌∷◌, ◌≡◌, ◌⊎◌}
use Rattle.std.proofs.lemmas.Bool.{cases_Bool}
use Rattle.iv_span.specs.Extent.{covers}
use Rattle.seg_names.specs.Ids.{same_id}
use Rattle.seg_names.specs.declared.seg_id.SegId.{SegId}
use Rattle.book_rows.specs.Ids.{same_chunk}
use Rattle.book_rows.specs.Lists.{In, count}
use Rattle.book_rows.specs.Live.{DoMeet, IsIn, IsLive, IsOwner, IsSameChunk, IsWhole}
use Rattle.book_rows.specs.Rules.{AreBelowLocks, AreRooted, HaveCopies, HaveCores, HaveOneSpan, IsRooted}
use Rattle.book_rows.specs.declared.rows.ChunkRow.{ChunkRow}
use Rattle.book_rows.specs.declared.rows.PendingRow.{PendingRow}
use Rattle.book_rows.specs.declared.rows.PosseRow.{PosseRow}
use Rattle.book_rows.specs.declared.rows.SegmentRow.{SegmentRow}
use Rattle.laws_chunks.proofs.ChangeFacts.{IsLaid, IsNewCopy}
use Rattle.laws_chunks.proofs.Members.{In-append, In-left, In-right, count-append, count_alike, count_none}
use Rattle.laws_chunks.proofs.Spans.{in_moved, in_one, lt_not_lt, lt_not_self, meets_swap, same_chunk_from, same_chunk_means, swapped}
use Rattle.laws_chunks.specs.ChunksSound.{HaveLiveChunks}

module _ (qs : List PosseRow) (cs : List ChunkRow) (rows : List SegmentRow) (ps : List PendingRow) (d : ChunkRow) (news : List SegmentRow) (copies : List PendingRow) (laid : IsLaid qs cs rows ps d news copies) where
  -- a live chunk is one of before or the new one
  pub old_or_laid : (a : SegId) → IsLive (rows ++ news) (ps ++ copies) a → IsLive rows ps a ⊎ IsIn d a
  old_or_laid a (inl u) = elim (In-append u.0 rows news u.1) [
    | inl i ↦ inl (inl (u.0, i, u.2, u.3))
    | inr i ↦ inr (subst (λ (a : SegId). IsIn d a) u.3 (laid.rows_of u.0 i))
  ]
  old_or_laid a (inr p) = elim (In-append p.0 ps copies p.1) [
    | inl i ↦ inl (inr (p.0, i, p.2))
    | inr i ↦ inr (subst (λ (a : SegId). IsIn d a) p.2 (laid.copies_of p.0 i).is_of)
  ]

  row_or_laid : (c : ChunkRow) → In c (cs ++ d ∷ []) → In c cs ⊎ (c ≡ d)
  row_or_laid c i = elim (In-append c cs (d ∷ []) i) [
    | inl j ↦ inl j
    | inr (inl e) ↦ inr e
    | inr (inr j) ↦ absurd j
  ]

  pub laid_chunks : HaveLiveChunks cs rows ps → HaveLiveChunks (cs ++ d ∷ []) (rows ++ news) (ps ++ copies)
  laid_chunks chunks a l = elim (old_or_laid a l) [
    | inl o ↦ let c = chunks a o in (c.0, In-left c.0 cs (d ∷ []) c.1, c.2)
    | inr n ↦ (d, In-right d cs (d ∷ []) (inl refl), n)
  ]

  -- what meets the new chunk is below it
  below : (a b : SegId) → IsLive rows ps a → IsIn d b → DoMeet a b → int_lt a.version b.version ≡ true
  below a b la ib m = rw ib.version_is (laid.above a la (m.source_is ∙ ib.source_is) (rw (← ib.span_is) m.overlap_is))

  pub laid_one_span : HaveOneSpan rows ps → HaveOneSpan (rows ++ news) (ps ++ copies)
  laid_one_span one a b la lb m e = elim (old_or_laid a la) [
    | inl oa ↦ elim (old_or_laid b lb) [
      | inl ob ↦ one a b oa ob m e
      | inr nb ↦ absurd (lt_not_self _ _ e (below a b oa nb m))
    ]
    | inr na ↦ elim (old_or_laid b lb) [
      | inl ob ↦ absurd (lt_not_self _ _ (sym e) (below b a ob na (meets_swap a b m)))
      | inr nb ↦ na.span_is ∙ sym nb.span_is
    ]
  ]

  pub laid_below_locks : AreBelowLocks qs rows ps → AreBelowLocks qs (rows ++ news) (ps ++ copies)
  laid_below_locks h a q la v g e o = elim (old_or_laid a la) [
    | inl oa ↦ h a q oa v g e o
    | inr na ↦ rw na.version_is (laid.guarded q v g (sym na.source_is ∙ e) (rw (← na.span_is) o))
  ]

  keeps_root : (p : PendingRow) → IsRooted qs ps p → IsRooted qs (ps ++ copies) p
  keeps_root p r = record {
    has_root = record {
      root = r.has_root.root;
      among = In-left r.has_root.root ps copies r.has_root.among;
      is_root = r.has_root.is_root;
      root_is = r.has_root.root_is;
      posse_is = r.has_root.posse_is;
      sequence_is = r.has_root.sequence_is;
      previous_is = r.has_root.previous_is;
    };
    has_posse = r.has_posse;
    kind_is = r.kind_is;
  }

  root_below : (x : PendingRow) (c : IsNewCopy ps d.source d.span d.version x) → int_lt c.root.id.version d.version ≡ true
  root_below x c = laid.above c.root.id (inr (c.root, c.among, refl)) c.source_is c.meets

  copy_rooted : AreRooted qs ps → (x : PendingRow) → IsNewCopy ps d.source d.span d.version x → IsRooted qs (ps ++ copies) x
  copy_rooted h x c =
      let r = h c.root c.among in
      let is : x.root ≡ c.root.root = c.root_is ∙ c.is_root in
      record {
        has_root = record {
          root = c.root;
          among = In-left c.root ps copies c.among;
          is_root = c.is_root;
          root_is = sym c.root_is;
          posse_is = sym c.posse_is;
          sequence_is = sym c.sequence_is;
          previous_is = sym c.previous_is;
        };
        has_posse = record {
          posse = r.has_posse.posse;
          is_valid = r.has_posse.is_valid;
          number_is = r.has_posse.number_is ∙ sym c.posse_is;
          source_is = r.has_posse.source_is ∙ c.source_is ∙ sym c.is_of.source_is;
          covers_root = rw is r.has_posse.covers_root;
        };
        kind_is = inr (record { covers_root = rw (c.is_of.span_is, c.root_is) c.within; above = rw (c.is_of.version_is, c.root_is) (root_below x c) });
      }

  pub laid_rooted : AreRooted qs ps → AreRooted qs (ps ++ copies)
  laid_rooted h p i = elim (In-append p ps copies i) [
    | inl j ↦ keeps_root p (h p j)
    | inr j ↦ copy_rooted h p (laid.copies_of p j)
  ]

  more : (c : ChunkRow) → IsWhole rows c → IsWhole (rows ++ news) c
  more c w i lt = let x = w i lt in (x.0, In-left x.0 rows news x.1, x.2, x.3, x.4)

  whole_new : IsWhole (rows ++ news) d
  whole_new i lt = let x = laid.whole i lt in (x.0, In-right x.0 rows news x.1, x.2, x.3, x.4)

  -- a chunk of before isn't the new one
  apart : (c : ChunkRow) (a : SegId) → In c cs → IsIn c a → IsIn d a → ⊥
  apart c a i k n = laid.is_new c a i k n

  owns : (c : ChunkRow) (q : PosseRow) → c ≡ d → IsOwner qs c q → IsOwner qs d q
  owns c q e o = subst (λ (c : ChunkRow). IsOwner qs c q) e o

  not_zero : (c : ChunkRow) → c ≡ d → c.version ≡ pos 0 → ⊥
  not_zero c e z = lt_not_self _ _ (sym (ap (λ (c : ChunkRow). c.version) (sym e) ∙ z)) laid.positive

  pub laid_cores : HaveCores qs cs rows ps → HaveCores qs (cs ++ d ∷ []) (rows ++ news) (ps ++ copies)
  laid_cores h = record {
    live = λ c a i l k. elim (row_or_laid c i) [
      | inl j ↦ elim (old_or_laid a l) [ inl o ↦ more c (h.live c a j o k) | inr n ↦ absurd (apart c a j k n) ]
      | inr e ↦ subst (λ (c : ChunkRow). IsWhole (rows ++ news) c) (sym e) whole_new
    ];
    owned = λ c q i o. elim (row_or_laid c i) [ inl j ↦ more c (h.owned c q j o) | inr e ↦ subst (λ (c : ChunkRow). IsWhole (rows ++ news) c) (sym e) whole_new ];
    zero_version = λ c i z. elim (row_or_laid c i) [ inl j ↦ h.zero_version c j z | inr e ↦ absurd (not_zero c e z) ];
    shared = λ c q i o k. elim (row_or_laid c i) [ inl j ↦ h.shared c q j o k | inr e ↦ absurd (laid.not_shared q (owns c q e o) k) ];
    replace = λ c q i o k. elim (row_or_laid c i) [ inl j ↦ h.replace c q j o k | inr e ↦ subst (λ (c : ChunkRow). 0 < c.core) (sym e) laid.has_core ];
    within = λ c q i o p. elim (row_or_laid c i) [ inl j ↦ h.within c q j o p | inr e ↦ subst (λ (c : ChunkRow). covers q.span c.span ≡ true) (sym e) (laid.within q (owns c q e o)) ];
  }

  pub laid_copies : HaveLiveChunks cs rows ps → HaveCopies cs rows ps → HaveCopies (cs ++ d ∷ []) (rows ++ news) (ps ++ copies)
  laid_copies chunks h = record { cores = cores; contains = contains; copies = one } where
    -- a live id of before isn't of the new chunk
    not_new : (a : SegId) → IsLive rows ps a → IsIn d a → ⊥
    not_new a l n = let c = chunks a l in apart c.0 a c.1 c.2 n

    cores : (a b : SegId) (e : ChunkRow) → IsLive (rows ++ news) (ps ++ copies) a → IsLive (rows ++ news) (ps ++ copies) b → DoMeet a b → int_lt a.version b.version ≡ true → In e (cs ++ d ∷ []) → IsIn e b → 0 < e.core
    cores a b e la lb m lt i k = elim (row_or_laid e i) [
      | inr is ↦ subst (λ (c : ChunkRow). 0 < c.core) (sym is) laid.has_core
      | inl j ↦ elim (old_or_laid b lb) [
        | inr nb ↦ absurd (apart e b j k nb)
        | inl ob ↦ elim (old_or_laid a la) [
          | inl oa ↦ h.cores a b e oa ob m lt j k
          | inr na ↦ absurd (lt_not_lt a.version b.version lt (below b a ob na (meets_swap a b m)))
        ]
      ]
    ]

    -- a copy is no root
    not_root : (r : PendingRow) → In r copies → r.id ≡ r.root → ⊥
    not_root r j root =
        let c = laid.copies_of r j in
        lt_not_self c.root.id.version d.version (ap (λ (a : SegId). a.version) (sym (root ∙ c.root_is)) ∙ c.is_of.version_is) (root_below r c)

    contains : (r : PendingRow) (b : SegId) → In r (ps ++ copies) → r.id ≡ r.root → IsLive (rows ++ news) (ps ++ copies) b → DoMeet r.id b → int_lt r.id.version b.version ≡ true → covers b.span r.id.span ≡ true
    contains r b i root lb m lt = elim (In-append r ps copies i) [
      | inr j ↦ absurd (not_root r j root)
      | inl j ↦ elim (old_or_laid b lb) [
        | inl ob ↦ h.contains r b j root ob m lt
        | inr nb ↦ rw nb.span_is (laid.copied r j root (m.source_is ∙ nb.source_is) (rw (← nb.span_is) m.overlap_is)).within
      ]
    ]

    one : (r : PendingRow) (b : SegId) → In r (ps ++ copies) → r.id ≡ r.root → IsLive (rows ++ news) (ps ++ copies) b → DoMeet r.id b → int_lt r.id.version b.version ≡ true → count (λ x. same_chunk x.id b && same_id x.root r.id) (ps ++ copies) ≡ 1
    one r b i root lb m lt = elim (In-append r ps copies i) [
      | inr j ↦ absurd (not_root r j root)
      | inl j ↦ elim (old_or_laid b lb) [
        | inl ob ↦
            count-append (λ x. same_chunk x.id b && same_id x.root r.id) ps copies
            ∙ rw (
              h.copies r b j root ob m lt,
              count_none (λ x. same_chunk x.id b && same_id x.root r.id) copies (λ x ix. elsewhere x.id b (same_id x.root r.id)
                  (λ same. not_new b ob (in_moved d b x.id (laid.copies_of x ix).is_of (swapped x.id b same)))),
            ) refl
        | inr nb ↦
            count-append (λ x. same_chunk x.id b && same_id x.root r.id) ps copies
            ∙ rw (
              count_none (λ x. same_chunk x.id b && same_id x.root r.id) ps (λ x ix. elsewhere x.id b (same_id x.root r.id)
                  (λ same. not_new x.id (inr (x, ix, refl)) (in_moved d x.id b nb same))),
              count_alike (λ x. same_chunk x.id b && same_id x.root r.id) (λ x. same_id x.root r.id) copies
                  (λ x ix. rw (same_chunk_from x.id b (in_one d x.id b (laid.copies_of x ix).is_of nb)) refl),
              (laid.copied r j root (m.source_is ∙ nb.source_is) (rw (← nb.span_is) m.overlap_is)).one,
            ) refl
      ]
    ] where
      elsewhere : (a b : SegId) (c : Bool) → (IsSameChunk a b → ⊥) → (same_chunk a b && c) ≡ false
      elsewhere a b c f = elim (cases_Bool (same_chunk a b)) [ inl on ↦ absurd (f (same_chunk_means a b on)) | inr off ↦ rw off refl ]
