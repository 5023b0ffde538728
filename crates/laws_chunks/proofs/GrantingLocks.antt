-- Granting a lock keeps the rules.
use Rattle.std.proofs.Common.{[], ap, arith, false, inl, inr, int_le, int_lt, length, pos, subst, sym, true, ◌++◌, ◌==◌, ◌∙◌, ◌∷◌, ◌≡◌, ◌⊎◌}
use Rattle.std.proofs.lemmas.Bool.{ne_eqb}
use Rattle.book_rows.specs.Lists.{In}
use Rattle.book_rows.specs.Locks.{same_number}
use Rattle.book_rows.specs.Rules.{GoTogether}
use Rattle.book_rows.specs.declared.rows.PosseRow.{PosseRow}
use Rattle.laws_chunks.proofs.Members.{In-append, all_from_In, pairs_push}
use Rattle.laws_chunks.proofs.NewLocks.{grant_below_locks, grant_carries, grant_cores, grant_rooted, grant_upgrades}
use Rattle.laws_chunks.proofs.Spans.{le_from, le_le, le_lt, lt_is_le, lt_not_self}
use Rattle.laws_chunks.specs.ChunksSound.{HasChunkShape}
use Rattle.laws_chunks.specs.LockMoves.{GrantKeeps}
use Rattle.book_rows.specs.declared.kinds.LockKind.TheVariants as LockKinds

pub grant_keeps : GrantKeeps
grant_keeps q last b g h =
    let sh : HasChunkShape b = h.shape in
    record {
      shape = record {
        numbers = pairs_push (λ p q. same_number p q ≡ false) b.posses q sh.numbers (all_from_In (λ p. same_number p q ≡ false) b.posses (λ p i. new_number p i));
        below = λ p i. elim (In-append p b.posses (q ∷ []) i) [
          | inl j ↦ (let was = sh.below p j in omega (arith, was))
          | inr (inl e) ↦ (let same : p.number ≡ b.next_lock = ap (λ (x : PosseRow). x.number) e ∙ g.number_is in omega (arith, same))
          | inr (inr j) ↦ absurd j
        ];
        versions = λ p i. elim (In-append p b.posses (q ∷ []) i) [
          | inl j ↦ sh.versions p j
          | inr (inl e) ↦ subst (λ (p : PosseRow). ((p.lock_kind ≡ LockKinds.Append) × (p.version ≡ pos 0)) ⊎ (int_lt (pos 0) p.version ≡ true)) (sym e) kind
          | inr (inr j) ↦ absurd j
        ];
        append_zero = λ p i e. elim (In-append p b.posses (q ∷ []) i) [
          | inl j ↦ sh.append_zero p j e
          | inr (inl is) ↦ elim g.version_is [
            | inl off ↦ ap (λ (x : PosseRow). x.version) is ∙ off.1
            | inr new ↦ absurd (new.2 (ap (λ (x : PosseRow). x.lock_kind) (sym is) ∙ e))
          ]
          | inr (inr j) ↦ absurd j
        ];
        upto = λ p i. elim (In-append p b.posses (q ∷ []) i) [
          | inl j ↦ le_le p.version b.last last (sh.upto p j) grows
          | inr (inl e) ↦ subst (λ (p : PosseRow). int_le p.version last ≡ true) (sym e) within
          | inr (inr j) ↦ absurd j
        ];
        one_version = one;
        sinces = λ p i. elim (In-append p b.posses (q ∷ []) i) [
          | inl j ↦ sh.sinces p j
          | inr (inl e) ↦ (let same : p.since ≡ length b.publications = ap (λ (x : PosseRow). x.since) e ∙ g.since_is in omega (arith, same))
          | inr (inr j) ↦ absurd j
        ];
        last_low = le_le (pos 0) b.last last sh.last_low grows;
        chunk_upto = λ c i. le_le c.version b.last last (sh.chunk_upto c i) grows;
        chunk_rows = sh.chunk_rows;
        chunk_spans = sh.chunk_spans;
        root_spans = sh.root_spans;
        upgrade_spans = sh.upgrade_spans;
        once = sh.once;
        added = sh.added;
        rows = sh.rows;
        parts = sh.parts;
      };
      compatible_locks = pairs_push GoTogether b.posses q h.compatible_locks g.goes;
      one_span = h.one_span;
      below_locks = grant_below_locks b.posses q b.last b.chunks b.segments b.pendings fresh sh.chunk_upto sh.chunk_rows h.below_locks;
      rooted = grant_rooted b.posses q b.pendings h.rooted;
      upgrades = grant_upgrades b.posses q b.upgrades b.publications h.upgrades;
      cores = grant_cores b.posses q b.last b.chunks b.segments b.pendings fresh sh.chunk_upto h.cores;
      copies = h.copies;
      carried = grant_carries b.posses q b.chunks b.upgrades b.publications (λ p v. new_number p v.among) g.since_is h.upgrades h.carried;
      shown_contents = h.shown_contents;
    } where
      new_number : (p : PosseRow) → In p b.posses → (p.number == q.number) ≡ false
      new_number p i = let was = h.shape.below p i in ne_eqb p.number q.number (λ e. let same : p.number ≡ b.next_lock = e ∙ g.number_is in omega (arith, was, same))

      fresh : ((q.lock_kind ≡ LockKinds.Append) × (q.version ≡ pos 0)) ⊎ (int_lt b.last q.version ≡ true)
      fresh = elim g.version_is [ inl a ↦ inl (a.0, a.1) | inr n ↦ inr n.0 ]

      kind : ((q.lock_kind ≡ LockKinds.Append) × (q.version ≡ pos 0)) ⊎ (int_lt (pos 0) q.version ≡ true)
      kind = elim g.version_is [ inl a ↦ inl (a.0, a.1) | inr n ↦ inr (le_lt (pos 0) b.last q.version h.shape.last_low n.0) ]

      grows : int_le b.last last ≡ true
      grows = elim g.version_is [ inl a ↦ le_from b.last last (sym a.2) | inr n ↦ rw n.1 (lt_is_le b.last q.version n.0) ]

      within : int_le q.version last ≡ true
      within = elim g.version_is [ inl a ↦ rw (a.1, a.2) h.shape.last_low | inr n ↦ le_from q.version last (sym n.1) ]

      -- a version above 0 that is the new one is above all others
      other : (p : PosseRow) → In p b.posses → int_lt (pos 0) p.version ≡ true → p.version ≡ q.version → ⊥
      other p i high e = elim g.version_is [
        | inl a ↦ lt_not_self (pos 0) p.version (sym (e ∙ a.1)) high
        | inr n ↦ lt_not_self p.version q.version e (le_lt p.version b.last q.version (h.shape.upto p i) n.0)
      ]

      one : (p r : PosseRow) → In p (b.posses ++ q ∷ []) → In r (b.posses ++ q ∷ []) → int_lt (pos 0) p.version ≡ true → p.version ≡ r.version → p ≡ r
      one p r i j high e = elim (In-append p b.posses (q ∷ []) i) [
        | inl a ↦ elim (In-append r b.posses (q ∷ []) j) [
          | inl c ↦ h.shape.one_version p r a c high e
          | inr (inl d) ↦ absurd (other p a high (e ∙ ap (λ (x : PosseRow). x.version) d))
          | inr (inr c) ↦ absurd c
        ]
        | inr (inl d) ↦ elim (In-append r b.posses (q ∷ []) j) [
          | inl c ↦ absurd (other r c (rw (← e) high) (sym e ∙ ap (λ (x : PosseRow). x.version) d))
          | inr (inl f) ↦ d ∙ sym f
          | inr (inr c) ↦ absurd c
        ]
        | inr (inr a) ↦ absurd a
      ]
