-- The first breach: found where there is one, and none exactly where the book is sound.
use Rattle.std.proofs.Common.{List, None, Option, Some, [], ap, arith, false, inl, inr, refl, subst, sym, ℕ, ◌<◌, ◌∙◌, ◌∷◌, ◌≡◌, ◌≤◌, ◌⊎◌}
use Rattle.std.proofs.lemmas.Bool.{cases_order, leb-false, lt-leb, ltb-false}
use Rattle.std.specs.Prelude.{nat_le}
use Rattle.book_rows.specs.Lists.{In, Pairs, at_place}
use Rattle.book_rows.specs.Outcome.{all_tables, is_full, number_limit}
use Rattle.book_rows.specs.Sound.{Sound}
use Rattle.book_rows.specs.declared.kinds.Table.TheVariants as Tables
use Rattle.book_rows.specs.declared.rows.Book.{Book}
use Rattle.book_rows.specs.declared.rows.PosseRow.{PosseRow}
use Rattle.laws_chunks.proofs.LookUps.{find_none}
use Rattle.laws_chunks.proofs.Members.{In-all, all_from_In}
use Rattle.laws_shown.proofs.Histories.{place_In}
use Rattle.laws_unsound.specs.Breaks.{Breaks}
use Rattle.laws_unsound.specs.Laws.{FirstIsFound, FirstUnsoundDecides, FirstUnsoundIsFirst, FullTableIsFound, HasNumbers, IsFirstBreach, SoundIsUnbroken}
use Rattle.laws_unsound.specs.Named.{Names}
use Rattle.laws_unsound.specs.Unsound.{BelowLocks, Breach, Carried, Compatible, Copied, InSequence, OneSpan, Rooted, Rule, Shape, Shown, Tiled, Whole, all_rules, breach_or, first_breach, first_unsound, number, row_of}
use Rattle.laws_unsound.proofs.Deciding.{none_clash}
use Rattle.laws_unsound.proofs.LiveChunks.{below_locks_row, compatible_row, one_span_row}
use Rattle.laws_unsound.proofs.Sequencing.{sequence_row}
use Rattle.laws_unsound.proofs.Shaping.{shape_row}
use Rattle.laws_unsound.proofs.Standing.{copied_row, rooted_row, whole_row}
use Rattle.laws_unsound.proofs.Tiling.{carried_row, shown_row, tiled_row}

-- ---- the rules and their numbers

at_number : (rule : Rule) → at_place (number rule) all_rules ≡ Some rule
at_number Shape = refl
at_number Compatible = refl
at_number OneSpan = refl
at_number BelowLocks = refl
at_number Rooted = refl
at_number Whole = refl
at_number Copied = refl
at_number Carried = refl
at_number Shown = refl
at_number Tiled = refl
at_number InSequence = refl

among : (rule : Rule) → In rule all_rules
among rule = place_In (number rule) all_rules rule (at_number rule)

one_rule : (r s : Rule) → number r ≡ number s → r ≡ s
one_rule r s e = let same : Some r ≡ Some s = sym (at_number r) ∙ ap (λ (n : ℕ). at_place n all_rules) e ∙ at_number s in cc

in_order : Pairs (λ r s. nat_le (number s) (number r) ≡ false) all_rules
in_order = (none_clash (λ r s. nat_le (number s) (number r)) all_rules).means refl

names_of : (rule : Rule) (b : Book) → Names (row_of rule b) (Breaks rule b)
names_of Shape b = (shape_row b).names
names_of Compatible b = (compatible_row b).names
names_of OneSpan b = one_span_row.names b
names_of BelowLocks b = below_locks_row.names b
names_of Rooted b = (rooted_row b).names
names_of Whole b = (whole_row b).names
names_of Copied b = copied_row.names b
names_of Carried b = (carried_row b).names
names_of Shown b = (shown_row b).names
names_of Tiled b = (tiled_row b).names
names_of InSequence b = (sequence_row b).names

-- ---- the first of some rules

both_below : (n m : ℕ) → n < m → m < n → ⊥
both_below n m l k = omega (arith, l, k)

below_itself : (r s : Rule) → r ≡ s → number r < number s → ⊥
below_itself r s e l = let same : number r ≡ number s = ap number e in omega (arith, l, same)

module _ (b : Book) where
  none_named : (rules : List Rule) → first_breach rules b ≡ None → (rule : Rule) → In rule rules → row_of rule b ≡ None
  none_named [] e rule i = absurd i
  none_named (r ∷ rules) e rule i = by (row_of r b) refl e (λ f j. none_named rules f rule j) i where
    by : (o : Option ℕ) → row_of r b ≡ o → breach_or r o (first_breach rules b) ≡ None → (first_breach rules b ≡ None → In rule rules → row_of rule b ≡ None) → In rule (r ∷ rules) → row_of rule b ≡ None
    by None is f rest (inl same) = subst (λ (s : Rule). row_of s b ≡ None) (sym same) is
    by None is f rest (inr j) = rest f j
    by (Some n) is f rest j = absurd (cc)

  none_found : (rules : List Rule) → ((rule : Rule) → In rule rules → row_of rule b ≡ None) → first_breach rules b ≡ None
  none_found [] h = refl
  none_found (r ∷ rules) h = rw (h r (inl refl)) (none_found rules (λ rule i. h rule (inr i)))

  -- its row is named, and none is of a rule before it
  record IsFound (rules : List Rule) (f : Breach) : Type 0 where
    row_is : row_of f.rule b ≡ Some f.row
    first : (rule : Rule) → In rule rules → nat_le (number f.rule) (number rule) ≡ false → row_of rule b ≡ None

  found : (rules : List Rule) (f : Breach) → Pairs (λ r s. nat_le (number s) (number r) ≡ false) rules → first_breach rules b ≡ Some f → IsFound rules f
  found [] f a e = absurd (cc)
  found (r ∷ rules) f a e = by (row_of r b) refl e (found rules f a.1) where
    by : (o : Option ℕ) → row_of r b ≡ o → breach_or r o (first_breach rules b) ≡ Some f → (first_breach rules b ≡ Some f → IsFound rules f) → IsFound (r ∷ rules) f
    by (Some n) is e rest = subst (IsFound (r ∷ rules)) (let same : record { rule = r; row = n } ≡ f = cc in same) (record { row_is = is; first = λ rule i l. absurd (before rule i l) }) where
      before : (rule : Rule) → In rule (r ∷ rules) → nat_le (number r) (number rule) ≡ false → ⊥
      before rule (inl same) l = let low : number rule < number r = leb-false (number r) (number rule) l in below_itself rule r same low
      before rule (inr i) l = both_below (number rule) (number r) (leb-false (number r) (number rule) l) (leb-false (number rule) (number r) (In-all (λ s. nat_le (number s) (number r) ≡ false) rule rules i a.0))
    by None is e rest = let w = rest e in record { row_is = w.row_is; first = first w } where
      first : IsFound rules f → (rule : Rule) → In rule (r ∷ rules) → nat_le (number f.rule) (number rule) ≡ false → row_of rule b ≡ None
      first w rule (inl same) l = subst (λ (s : Rule). row_of s b ≡ None) (sym same) is
      first w rule (inr i) l = w.first rule i l

-- ---- the first breach

pub first_unsound_is_first : FirstUnsoundIsFirst
first_unsound_is_first b f e =
    let w = found b all_rules f in_order e in
    let least = (names_of f.rule b).found f.row w.row_is in
    record {
      breaks = least.breaks;
      least = least.least;
      first = λ rule n l. (names_of rule b).none (w.first rule (among rule) (lt-leb (number f.rule) (number rule) l)) n;
    }

module _ (b : Book) where
  -- there is one first breach
  one_breach : (f g : Breach) → IsFirstBreach b f → IsFirstBreach b g → f ≡ g
  one_breach f g h k = by (cases_order (number f.rule) (number g.rule)) where
    breaches : f.rule ≡ g.rule → f.row ≡ g.row → f ≡ g
    breaches p q = λ i. record { rule = p i; row = q i }

    rows : f.rule ≡ g.rule → f.row ≡ g.row
    rows e =
        let low : f.row ≤ g.row = h.least g.row (subst (λ (r : Rule). Breaks r b g.row) (sym e) k.breaks) in
        let high : g.row ≤ f.row = k.least f.row (subst (λ (r : Rule). Breaks r b f.row) e h.breaks) in
        omega (arith, low, high)

    by : (number f.rule ≡ number g.rule) ⊎ ((number f.rule < number g.rule) ⊎ (number g.rule < number f.rule)) → f ≡ g
    by (inl e) = let same = one_rule f.rule g.rule e in breaches same (rows same)
    by (inr (inl l)) = absurd (k.first f.rule f.row l h.breaks)
    by (inr (inr l)) = absurd (h.first g.rule g.row l k.breaks)

pub first_is_found : FirstIsFound
first_is_found b f h = by (first_unsound b) refl where
  by : (o : Option Breach) → first_unsound b ≡ o → o ≡ Some f
  by None e = absurd ((names_of f.rule b).none (none_named b all_rules e f.rule (among f.rule)) f.row h.breaks)
  by (Some g) e = ap (λ (x : Breach). Some x) (one_breach b g f (first_unsound_is_first b g e) h)

-- ---- soundness

-- the numbers of locks are below the next one, and so are those of what stands under them
numbers : (b : Book) → Sound b → HasNumbers b
numbers b s = record {
  locks = all_from_In (λ q. q.number < number_limit) b.posses below;
  pendings = all_from_In (λ p. p.posse < number_limit) b.pendings (λ p i. (let w = (s.rooted p i).has_posse in subst (λ (n : ℕ). n < number_limit) w.number_is (below w.posse w.is_valid.among)));
  upgrades = all_from_In (λ u. u.posse < number_limit) b.upgrades (λ u i. (let w = s.upgrades u i in subst (λ (n : ℕ). n < number_limit) w.number_is (below w.posse w.is_valid.among)));
} where
  next : b.next_lock ≤ number_limit
  next = ltb-false number_limit b.next_lock (find_none (λ table. is_full table b) all_tables s.shape.limits.room Tables.Numbers (inr (inr (inl refl))))

  below : (q : PosseRow) → In q b.posses → q.number < number_limit
  below q i = let low : q.number < b.next_lock = In-all (λ q. q.number < b.next_lock) q b.posses i s.shape.keys.below in let high = next in omega (arith, low, high)

pub first_unsound_decides : FirstUnsoundDecides
first_unsound_decides b = record { sound = sound; complete = λ s. none_found b all_rules (λ rule i. none rule s) } where
  sound : first_unsound b ≡ None → Sound b
  sound e =
      let named = none_named b all_rules e in
      let shape = (shape_row b).where_holds.sound (named Shape (among Shape)) in
      let rooted = (rooted_row b).where_holds.sound (named Rooted (among Rooted)) in
      record {
        shape = shape.0;
        compatible_locks = (compatible_row b).where_holds.sound (named Compatible (among Compatible));
        one_span = (one_span_row.where_holds b shape.0.chunks).sound (named OneSpan (among OneSpan));
        below_locks = (below_locks_row.where_holds b shape.0.chunks).sound (named BelowLocks (among BelowLocks));
        rooted = rooted.0;
        upgrades = rooted.1;
        cores = (whole_row b).where_holds.sound (named Whole (among Whole));
        copies = (copied_row.where_holds b shape.0.chunks).sound (named Copied (among Copied));
        carried = (carried_row b).where_holds.sound (named Carried (among Carried));
        shown_contents = (shown_row b).where_holds.sound (named Shown (among Shown));
        tiled = (tiled_row b).where_holds.sound (named Tiled (among Tiled));
        sequences = (sequence_row b).where_holds.sound (named InSequence (among InSequence));
      }

  none : (rule : Rule) → Sound b → row_of rule b ≡ None
  none Shape s = (shape_row b).where_holds.complete (s.shape, numbers b s)
  none Compatible s = (compatible_row b).where_holds.complete s.compatible_locks
  none OneSpan s = (one_span_row.where_holds b s.shape.chunks).complete s.one_span
  none BelowLocks s = (below_locks_row.where_holds b s.shape.chunks).complete s.below_locks
  none Rooted s = (rooted_row b).where_holds.complete (s.rooted, s.upgrades)
  none Whole s = (whole_row b).where_holds.complete s.cores
  none Copied s = (copied_row.where_holds b s.shape.chunks).complete s.copies
  none Carried s = (carried_row b).where_holds.complete s.carried
  none Shown s = (shown_row b).where_holds.complete s.shown_contents
  none Tiled s = (tiled_row b).where_holds.complete s.tiled
  none InSequence s = (sequence_row b).where_holds.complete s.sequences

pub sound_is_unbroken : SoundIsUnbroken
sound_is_unbroken b s rule = (names_of rule b).none (none_named b all_rules ((first_unsound_decides b).complete s) rule (among rule))

pub full_table_is_found : FullTableIsFound
full_table_is_found b table i full = first_is_found b (record { rule = Shape; row = 0 }) (record {
  breaks = inl (inl (refl, (table, i, full)));
  least = λ n w. omega arith;
  first = λ rule n l. absurd (below_zero (number rule) l);
}) where
  below_zero : (n : ℕ) → n < 0 → ⊥
  below_zero n l = omega (arith, l)
