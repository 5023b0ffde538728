-- What replacements carry, what is shown, and what was read.
use Rattle.std.proofs.Common.{Bool, List, None, Option, Some, [], ap, cond, false, inl, inr, map, refl, subst, sym, true, ℕ, ◌&&◌, ◌==◌, ◌∙◌, ◌∷◌, ◌≡◌, ◌⊎◌}
use Rattle.std.proofs.lemmas.Bool.{and_from, and_parts, cases_Bool, false≢true}
use Rattle.std.specs.Prelude.{bytes_eq}
use Rattle.book_rows.specs.Lists.{In, gathered}
use Rattle.book_rows.specs.Offsets.{is_at, offset_in, stored}
use Rattle.book_rows.specs.Rules.{CarriesUpgrades}
use Rattle.book_rows.specs.Tiles.{IsTiled, Run, ends_with, is_reset, no_run, part_at, run_after, run_by, run_from, run_of, run_on}
use Rattle.book_rows.specs.declared.kinds.PubKind.{PubKind}
use Rattle.book_rows.specs.declared.rows.ChunkRow.{ChunkRow}
use Rattle.book_rows.specs.declared.rows.OffsetRow.{OffsetRow}
use Rattle.book_rows.specs.declared.rows.PosseRow.{PosseRow}
use Rattle.book_rows.specs.declared.rows.Publication.{Publication}
use Rattle.book_rows.specs.declared.rows.Range.{Range}
use Rattle.book_rows.specs.declared.rows.Ranges.{Ranges}
use Rattle.book_rows.specs.declared.rows.UpgradeRow.{UpgradeRow}
use Rattle.laws_chunks.proofs.Members.{In-left, In-right, map_In}
use Rattle.laws_shown.proofs.Testing.{carries_is_decided, shows_is_decided}
use Rattle.laws_shown.specs.Tests.{shows_contents}
use Rattle.laws_unsound.specs.Counts.{before_posses}
use Rattle.laws_unsound.specs.HistoryRows.{Key, carries, ends_at, is_tiled, key_is_tiled, keys_in, keys_of, part_key, publication_keys, row_key, same_offset_or_none}
use Rattle.laws_unsound.specs.Laws.{IsRowOfRule}
use Rattle.laws_unsound.specs.Unsound.{Carried, Shown, Tiled}
use Rattle.laws_unsound.proofs.Deciding.{IsTestOf, both, decided, each_of, like, off_from, one_name, one_number, refutes}
use Rattle.laws_unsound.proofs.Least.{by_meaning, first_without, of_book}
use Rattle.laws_unsound.proofs.Shaping.{find_nothing}

-- ---- carried, lock by lock

module _ (cs : List ChunkRow) (us : List UpgradeRow) (pubs : List Publication) where
  carrying : (q : PosseRow) → IsTestOf (carries cs us pubs q) (CarriesUpgrades (q ∷ []) cs us pubs)
  carrying q = let d = carries_is_decided (q ∷ []) cs us pubs in record { means = λ h. d.0 (and_from (carries cs us pubs q) true h refl); passes = λ rule. (and_parts (carries cs us pubs q) true (d.1 rule)).0 }

  carried_of : (qs : List PosseRow) → ((q : PosseRow) → In q qs → CarriesUpgrades (q ∷ []) cs us pubs) → CarriesUpgrades qs cs us pubs
  carried_of qs h q t root v kind at out = h q v.among q t root (record { among = inl refl; valid = v.valid }) kind at out

  each_carried : (qs : List PosseRow) → CarriesUpgrades qs cs us pubs → (q : PosseRow) → In q qs → CarriesUpgrades (q ∷ []) cs us pubs
  each_carried qs rule q i p t root v kind at out = rule p t root (record { among = subst (λ (x : PosseRow). In x qs) (sym (alone v.among)) i; valid = v.valid }) kind at out where
    alone : In p (q ∷ []) → p ≡ q
    alone (inl e) = e
    alone (inr j) = absurd j

pub carried_row : IsRowOfRule Carried
carried_row b = by_meaning (carried_of b.chunks b.upgrades b.publications b.posses) (each_carried b.chunks b.upgrades b.publications b.posses)
    (first_without (carrying b.chunks b.upgrades b.publications) (before_posses b) b.posses)

-- ---- shown

pub shown_row : IsRowOfRule Shown
shown_row b = of_book (decided (shows_contents b.segments b.publications) (shows_is_decided b.segments b.publications))

-- ---- tiled

one_offset : (a z : Option ℕ) → IsTestOf (same_offset_or_none a z) (a ≡ z)
one_offset None None = record { means = λ h. refl; passes = λ e. refl }
one_offset None (Some m) = record { means = λ h. absurd (false≢true h); passes = λ e. absurd (cc) }
one_offset (Some n) None = record { means = λ h. absurd (false≢true h); passes = λ e. absurd (cc) }
one_offset (Some n) (Some m) = like (λ e. ap (λ (x : ℕ). Some x) e) (λ e. (cc)) (one_number n m)

ending : (a : Option (Option ℕ)) (z : Option ℕ) → IsTestOf (ends_at a z) (a ≡ Some z)
ending None z = record { means = λ h. absurd (false≢true h); passes = λ e. absurd (cc) }
ending (Some a) z = like (λ e. ap (λ (x : Option ℕ). Some x) e) (λ e. (cc)) (one_offset a z)

one_key : (k j : Key) → IsTestOf (bytes_eq k.source j.source && (bytes_eq k.stream j.stream && (k.partition == j.partition))) (k ≡ j)
one_key k j = like (λ w. keys w.0 w.1.0 w.1.1) (λ e. (ap (λ (x : Key). x.source) e, (ap (λ (x : Key). x.stream) e, ap (λ (x : Key). x.partition) e)))
    (both (one_name k.source j.source) (both (one_name k.stream j.stream) (one_number k.partition j.partition))) where
      keys : k.source ≡ j.source → k.stream ≡ j.stream → k.partition ≡ j.partition → k ≡ j
      keys p q r = λ i. record { source = p i; stream = q i; partition = r i }

module _ (source stream : List ℕ) (partition : ℕ) where
  abbrev key : Key
  key = record { source = source; stream = stream; partition = partition }

  none_at : (parts : List Range) → (In key (map (part_key source stream) parts) → ⊥) → part_at partition parts ≡ None
  none_at parts out = find_nothing (λ r. r.partition == partition) parts off where
    off : (r : Range) → In r parts → (r.partition == partition) ≡ false
    off r i = off_from (r.partition == partition) (λ on. out (subst (λ (n : ℕ). In {X = Key} (record { source = source; stream = stream; partition = n }) (map (part_key source stream) parts)) ((one_number r.partition partition).means on) (map_In (part_key source stream) r parts i)))

  stays_none : (reset : Bool) (parts : List Range) → part_at partition parts ≡ None → run_by reset partition parts no_run ≡ no_run
  stays_none true parts e = rw e refl
  stays_none false parts e = rw e refl

  run_stays : (m : Publication) → (In key (keys_in m.source m.ranges) → ⊥) → run_after source stream partition m no_run ≡ no_run
  run_stays m out = at m.source m.kind m.ranges out where
    on_ranges : (s : List ℕ) (kind : PubKind) (ranges : Ranges) → s ≡ source → (In key (keys_in s (Some ranges)) → ⊥) → run_on stream partition kind (Some ranges) no_run ≡ no_run
    on_ranges s kind ranges e out = elim (cases_Bool (bytes_eq ranges.stream stream)) [
      | inr off ↦ rw off refl
      | inl on ↦ rw on (stays_none (is_reset kind) ranges.parts (none_at ranges.parts (λ i. out (moved s ranges.stream (sym e) (sym ((one_name ranges.stream stream).means on)) i))))
    ] where
      moved : (s t : List ℕ) → source ≡ s → stream ≡ t → In key (map (part_key source stream) ranges.parts) → In key (map (part_key s t) ranges.parts)
      moved s t p q i = subst (λ (s : List ℕ). In key (map (part_key s t) ranges.parts)) p (subst (λ (t : List ℕ). In key (map (part_key source t) ranges.parts)) q i)

    on_source : (s : List ℕ) (kind : PubKind) (ranges : Option Ranges) → s ≡ source → (In key (keys_in s ranges) → ⊥) → run_on stream partition kind ranges no_run ≡ no_run
    on_source s kind None e out = refl
    on_source s kind (Some ranges) e out = on_ranges s kind ranges e out

    at : (s : List ℕ) (kind : PubKind) (ranges : Option Ranges) → (In key (keys_in s ranges) → ⊥) → cond (bytes_eq s source) (run_on stream partition kind ranges no_run) no_run ≡ no_run
    at s kind ranges out = elim (cases_Bool (bytes_eq s source)) [
      | inr off ↦ rw off refl
      | inl on ↦ rw on (on_source s kind ranges ((one_name s source).means on) out)
    ]

  no_run_of : (ms : List Publication) → (In key (gathered publication_keys ms) → ⊥) → run_of source stream partition ms ≡ no_run
  no_run_of [] out = refl
  no_run_of (m ∷ ms) out =
      ap (λ (run : Run). run_from source stream partition run ms) (run_stays m (λ i. out (In-left key (keys_in m.source m.ranges) (gathered publication_keys ms) i)))
      ∙ no_run_of ms (λ i. out (In-right key (keys_in m.source m.ranges) (gathered publication_keys ms) i))

  none_stored : (rows : List OffsetRow) → (In key (map row_key rows) → ⊥) → stored rows source stream partition ≡ None
  none_stored rows out = ap offset_in (find_nothing (is_at source stream partition) rows off) where
    off : (r : OffsetRow) → In r rows → is_at source stream partition r ≡ false
    off r i = off_from (is_at source stream partition r) (λ on. (
        let w = (both (both (one_name r.source source) (one_name r.stream stream)) (one_number r.partition partition)).means on in
        out (subst (λ (k : Key). In k (map row_key rows)) (keys w.0.0 w.0.1 w.1) (map_In row_key r rows i)))) where
          keys : {s t : List ℕ} {n : ℕ} → s ≡ source → t ≡ stream → n ≡ partition → record { source = s; stream = t; partition = n } ≡ key
          keys p q r = λ i. record { source = p i; stream = q i; partition = r i }

-- a key stands in the list or not
key_cases : (k : Key) (ks : List Key) → In k ks ⊎ (In k ks → ⊥)
key_cases k [] = inr (λ i. i)
key_cases k (j ∷ ks) = elim (key_cases k ks) [
  | inl i ↦ inl (inr i)
  | inr out ↦ here out (cases_Bool (bytes_eq k.source j.source && (bytes_eq k.stream j.stream && (k.partition == j.partition))))
] where
  here : (In k ks → ⊥) → ((bytes_eq k.source j.source && (bytes_eq k.stream j.stream && (k.partition == j.partition))) ≡ true) ⊎ ((bytes_eq k.source j.source && (bytes_eq k.stream j.stream && (k.partition == j.partition))) ≡ false) → In k (j ∷ ks) ⊎ (In k (j ∷ ks) → ⊥)
  here out (inl on) = inl (inl ((one_key k j).means on))
  here out (inr off) = inr neither where
    neither : In k (j ∷ ks) → ⊥
    neither (inl e) = refutes (one_key k j) off e
    neither (inr i) = out i

module _ (pubs : List Publication) (rows : List OffsetRow) where
  key_ends : (k : Key) → IsTestOf (key_is_tiled pubs rows k) (ends_with (run_of k.source k.stream k.partition pubs).from (run_of k.source k.stream k.partition pubs).ranges ≡ Some (stored rows k.source k.stream k.partition))
  key_ends k = ending (ends_with (run_of k.source k.stream k.partition pubs).from (run_of k.source k.stream k.partition pubs).ranges) (stored rows k.source k.stream k.partition)

  outside : (source stream : List ℕ) (partition : ℕ) → (In (key source stream partition) (keys_of pubs rows) → ⊥) → ends_with (run_of source stream partition pubs).from (run_of source stream partition pubs).ranges ≡ Some (stored rows source stream partition)
  outside source stream partition out =
      let run = no_run_of source stream partition pubs (λ i. out (In-left (key source stream partition) (gathered publication_keys pubs) (map row_key rows) i)) in
      let none = none_stored source stream partition rows (λ i. out (In-right (key source stream partition) (gathered publication_keys pubs) (map row_key rows) i)) in
      ap (λ (r : Run). ends_with r.from r.ranges) run ∙ ap (λ (z : Option ℕ). Some z) (sym none)

  tiles : IsTestOf (is_tiled pubs rows) (IsTiled pubs rows)
  tiles = like all (λ rule k i. rule k.source k.stream k.partition) (each_of key_ends (keys_of pubs rows)) where
    all : ((k : Key) → In k (keys_of pubs rows) → ends_with (run_of k.source k.stream k.partition pubs).from (run_of k.source k.stream k.partition pubs).ranges ≡ Some (stored rows k.source k.stream k.partition)) → IsTiled pubs rows
    all h source stream partition = elim (key_cases (key source stream partition) (keys_of pubs rows)) [
      | inl i ↦ h (key source stream partition) i
      | inr out ↦ outside source stream partition out
    ]

pub tiled_row : IsRowOfRule Tiled
tiled_row b = of_book (tiles b.publications b.offsets)
