-- What was read of each partition, publication by publication, as the rule says it.
use Rattle.std.proofs.Common.{Bool, List, None, Option, Some, [], ap, arith, cond, false, inl, inr, map, nat_le, nat_lt, refl, subst, sym, true, ℕ, ◌&&◌, ◌++◌, ◌+◌, ◌==◌, ◌∙◌, ◌∷◌, ◌≡◌, ◌||◌}
use Rattle.std.proofs.lemmas.Bool.{and_from, and_parts, cases_Bool, false≢true}
use Rattle.std.proofs.lemmas.Bool.Decides.{Decides-eqb, nat_tests}
use Rattle.std.proofs.lemmas.List.{append-nil, append_assoc}
use Rattle.std.proofs.lemmas.List.Folds.{find-append, list_all-append, list_all-map}
use Rattle.std.proofs.lemmas.Slice.Eq.{bytes_eq-Decides}
use Rattle.std.specs.List.{list_all, list_any}
use Rattle.std.specs.Option.{option_map, option_or}
use Rattle.std.specs.Prelude.{bytes_eq, find, is_some}
use Rattle.book_rows.specs.Lists.{gathered}
use Rattle.book_rows.specs.Offsets.{stored}
use Rattle.book_rows.specs.Tiles.{Run, as_list, ends_with, goes_on, is_reset, no_run, part_at, run_after, run_by, run_from, run_of, run_on, start_in}
use Rattle.book_rows.specs.declared.rows.OffsetRow.{OffsetRow}
use Rattle.book_rows.specs.declared.rows.Publication.{Publication}
use Rattle.book_rows.specs.declared.rows.Range.{Range}
use Rattle.book_rows.specs.declared.rows.Ranges.{Ranges}
use Rattle.row_table.specs.Table.{settled}
use Rattle.laws_locks.proofs.Lists.{found_In}
use Rattle.laws_unsound.specs.HistoryRows.{ends_at, is_tiled, key_is_tiled, keys_in, part_key, publication_keys, row_key}
use Rattle.offset_rules.specs.Marks.{History, Mark, Reading, ResetAt, are_tiled_by, are_tiled_in, end_after, end_by, end_of, end_on, first_mark, history_from, history_of, history_on, is_mark_of, is_older, is_older_reset, is_reset_of, is_tiled_by, moved, no_history, place_or_none, put_mark, put_marks, put_reset, reset_to, resets_with, since_of}

-- ---- what is found in a list that changed

find_settled : {X : Type 0} (q p : X → Bool) (f : X → X) (xs : List X) → ((x : X) → q (settled p f x) ≡ q x) → find q (map (settled p f) xs) ≡ option_map (settled p f) (find q xs)
find_settled q p f [] same = refl
find_settled q p f (x ∷ xs) same = elim (cases_Bool (q x)) [
  | inl on ↦ (let moved : q (settled p f x) ≡ true = same x ∙ on in rw (moved, on) refl)
  | inr off ↦ (let moved : q (settled p f x) ≡ false = same x ∙ off in rw (moved, off) (find_settled q p f xs same))
]

other : (a b : Bool) → (a || b) ≡ true → a ≡ false → b ≡ true
other true b on off = cc
other false b on off = on

neither : (a b : Bool) → (a || b) ≡ false → (a ≡ false) × (b ≡ false)
neither true b off = cc
neither false b off = (refl, off)

-- the first that passes, where one does
record IsFound {X : Type 0} (q : X → Bool) (xs : List X) : Type 0 where
  item : X
  is : find q xs ≡ Some item
  passes : q item ≡ true

found_later : {X : Type 0} (q : X → Bool) (x : X) (xs : List X) → q x ≡ false → IsFound q xs → IsFound q (x ∷ xs)
found_later q x xs off w = record { item = w.item; is = rw off w.is; passes = w.passes }

found : {X : Type 0} (q : X → Bool) (xs : List X) → list_any q xs ≡ true → IsFound q xs
found q [] on = cc
found q (x ∷ xs) on = elim (cases_Bool (q x)) [
  | inl here ↦ record { item = x; is = rw here refl; passes = here }
  | inr off ↦ found_later q x xs off (found q xs (other (q x) (list_any q xs) on off))
]

missing : {X : Type 0} (q : X → Bool) (xs : List X) → list_any q xs ≡ false → find q xs ≡ None
missing q [] off = refl
missing q (x ∷ xs) off = let both = neither (q x) (list_any q xs) off in rw both.0 (missing q xs both.1)

passing : {X : Type 0} (q : X → Bool) (xs : List X) (x : X) → find q xs ≡ Some x → q x ≡ true
passing q xs x is = (found_In q x xs is).1

-- ---- marks

same_part : (s t : List ℕ) (n : ℕ) (m : Mark) → is_mark_of s t n m ≡ true → (m.source ≡ s) × (m.stream ≡ t) × (m.partition ≡ n)
same_part s t n m on =
    let first = and_parts (bytes_eq m.source s) (bytes_eq m.stream t && (m.partition == n)) on in
    let second = and_parts (bytes_eq m.stream t) (m.partition == n) first.1 in
    ((bytes_eq-Decides m.source s).0 first.0, (bytes_eq-Decides m.stream t).0 second.0, (Decides-eqb m.partition n).0 second.1)

own_mark : (g : Reading) (r : Range) → is_mark_of g.source g.stream r.partition (first_mark g r) ≡ true
own_mark g r = and_from _ _ ((bytes_eq-Decides g.source g.source).1 refl) (and_from _ _ ((bytes_eq-Decides g.stream g.stream).1 refl) ((Decides-eqb r.partition r.partition).1 refl))

keeps_part : (g : Reading) (r : Range) (s t : List ℕ) (n : ℕ) (m : Mark) → is_mark_of s t n (settled (is_older g r) (moved g r) m) ≡ is_mark_of s t n m
keeps_part g r s t n m = elim (cases_Bool (is_older g r m)) [ inl on ↦ rw on refl | inr off ↦ rw off refl ]

-- the partition's mark after a range of it
abbrev stepped : Reading → Range → Option Mark → Mark
stepped g r None = first_mark g r
stepped g r (Some m) = cond (nat_lt m.place g.place) (moved g r m) m

only_or : {X : Type 0} (o : Option X) → option_or o None ≡ o
only_or None = refl
only_or (Some x) = refl

module _ (g : Reading) (r : Range) (ms : List Mark) where
  put_same : find (is_mark_of g.source g.stream r.partition) (put_mark g r ms) ≡ Some (stepped g r (find (is_mark_of g.source g.stream r.partition) ms))
  put_same = elim (cases_Bool (list_any (is_mark_of g.source g.stream r.partition) ms)) [
    | inl on ↦
        (let w = found (is_mark_of g.source g.stream r.partition) ms on in
        rw on (find_settled (is_mark_of g.source g.stream r.partition) (is_older g r) (moved g r) ms (keeps_part g r g.source g.stream r.partition) ∙ rw (w.is) (there w.item w.passes)))
    | inr off ↦
        rw off (find-append (is_mark_of g.source g.stream r.partition) ms (first_mark g r ∷ []) ∙ rw (missing (is_mark_of g.source g.stream r.partition) ms off, own_mark g r) refl)
  ] where
    there : (m : Mark) → is_mark_of g.source g.stream r.partition m ≡ true → Some (settled (is_older g r) (moved g r) m) ≡ Some (stepped g r (Some m))
    there m on = rw on refl

  put_other : (s t : List ℕ) (n : ℕ) → (s ≡ g.source → t ≡ g.stream → n ≡ r.partition → ⊥) → find (is_mark_of s t n) (put_mark g r ms) ≡ find (is_mark_of s t n) ms
  put_other s t n apart = elim (cases_Bool (list_any (is_mark_of g.source g.stream r.partition) ms)) [
    | inl on ↦ rw on (find_settled (is_mark_of s t n) (is_older g r) (moved g r) ms (keeps_part g r s t n) ∙ stays (find (is_mark_of s t n) ms) refl)
    | inr off ↦ rw off (find-append (is_mark_of s t n) ms (first_mark g r ∷ []) ∙ (ap (λ (o : Option Mark). option_or (find (is_mark_of s t n) ms) o) none ∙ only_or (find (is_mark_of s t n) ms)))
  ] where
    not_own : (m : Mark) → is_mark_of s t n m ≡ true → is_mark_of g.source g.stream r.partition m ≡ false
    not_own m on = elim (cases_Bool (is_mark_of g.source g.stream r.partition m)) [
      | inl own ↦ (let a = same_part s t n m on in let b = same_part g.source g.stream r.partition m own in absurd (apart (sym a.0 ∙ b.0) (sym a.1 ∙ b.1) (sym a.2 ∙ b.2)))
      | inr off ↦ off
    ]

    kept : (m : Mark) → is_mark_of g.source g.stream r.partition m ≡ false → settled (is_older g r) (moved g r) m ≡ m
    kept m off = rw off refl

    stays : (o : Option Mark) → find (is_mark_of s t n) ms ≡ o → option_map (settled (is_older g r) (moved g r)) o ≡ o
    stays None is = refl
    stays (Some m) is = ap (λ (x : Mark). Some x) (kept m (not_own m (passing (is_mark_of s t n) ms m is)))

    none : find (is_mark_of s t n) (first_mark g r ∷ []) ≡ None
    none = elim (cases_Bool (is_mark_of s t n (first_mark g r))) [
      | inl on ↦ (let a = same_part s t n (first_mark g r) on in absurd (apart (sym a.0) (sym a.1) (sym a.2)))
      | inr off ↦ rw off refl
    ]

-- ---- runs

abbrev ends : Run → Option (Option ℕ)
ends run = ends_with run.from run.ranges

ends_joined : (z : Option ℕ) (rs : List Range) (r : Range) → ends_with z (rs ++ r ∷ []) ≡ end_on (ends_with z rs) r
ends_joined z [] r = refl
ends_joined z (p ∷ rs) r = elim (cases_Bool (nat_le p.start p.end && goes_on z p.start)) [ inl on ↦ rw on (ends_joined (Some p.end) rs r) | inr off ↦ rw off refl ]

abbrev run_with : Bool → Option Range → Run → Run
run_with true o run = record { from = start_in o; ranges = [] }
run_with false o run = record { from = run.from; ranges = run.ranges ++ as_list o }

run_is : (reset : Bool) (n : ℕ) (parts : List Range) (run : Run) → run_by reset n parts run ≡ run_with reset (part_at n parts) run
run_is true n parts run = refl
run_is false n parts run = refl

abbrev is_placed : ℕ → Option Mark → Bool
is_placed k None = false
is_placed k (Some m) = nat_le k m.place

le_off : (n k : ℕ) → nat_le n k ≡ false → nat_lt k n ≡ true
le_off n k off = grind (arith, nat_tests)

le_on : (n k : ℕ) → nat_le n k ≡ true → nat_lt k n ≡ false
le_on n k on = grind (arith, nat_tests)

le_itself : (n : ℕ) → nat_le n n ≡ true
le_itself n = grind (arith, nat_tests)

le_more : (n k : ℕ) → nat_le n k ≡ false → nat_le (n + 1) k ≡ false
le_more n k off = grind (arith, nat_tests)

le_later : (n k : ℕ) → nat_le n k ≡ true → nat_le n (k + 1) ≡ true
le_later n k on = grind (arith, nat_tests)

above_itself : (n : ℕ) → nat_le (n + 1) n ≡ false
above_itself n = grind (arith, nat_tests)

placed_more : (k : ℕ) (o : Option Mark) → is_placed k o ≡ false → is_placed (k + 1) o ≡ false
placed_more k None off = refl
placed_more k (Some m) off = le_more k m.place off

-- ---- the ranges of a publication

-- what is told of a partition by its mark, where the publication's ranges so far have this one of it
record IsTold (g : Reading) (run : Run) (o : Option Range) (f : Option Mark) : Type 0 where
  at : end_by g.since f ≡ ends (run_with g.reset o run)
  seen : is_placed g.place f ≡ is_some o
  below : is_placed (g.place + 1) f ≡ false

module _ (g : Reading) (bound : nat_le g.since g.place ≡ true) (r : Range) (run : Run) where
  ends_more : (e : Option (Option ℕ)) → e ≡ ends (run_with g.reset None run) → end_after g.reset e r ≡ ends (run_with g.reset (Some r) run)
  ends_more e is = by g.reset is where
    by : (reset : Bool) → e ≡ ends (run_with reset None run) → end_after reset e r ≡ ends (run_with reset (Some r) run)
    by true is = refl
    by false is = ap (λ (x : Option (Option ℕ)). end_on x r) (is ∙ ap (λ (rs : List Range). ends_with run.from rs) (append-nil run.ranges)) ∙ sym (ends_joined run.from run.ranges r)

  in_place : (m : Mark) → m.place ≡ g.place → m.end ≡ ends (run_with g.reset (Some r) run) → IsTold g run (Some r) (Some m)
  in_place m here is = record {
    at = rw (here, bound) is;
    seen = rw here (le_itself g.place);
    below = rw here (above_itself g.place);
  }

  one_range : (o : Option Range) (f : Option Mark) → IsTold g run o f → IsTold g run (option_or o (Some r)) (Some (stepped g r f))
  one_range None None w = in_place (first_mark g r) refl (ends_more (Some None) w.at)
  one_range None (Some m) w =
      let before : nat_lt m.place g.place ≡ true = le_off g.place m.place w.seen in
      rw before (in_place (moved g r m) refl (ends_more (end_by g.since (Some m)) w.at))
  one_range (Some p) None w = let clash : false ≡ true = w.seen in cc
  one_range (Some p) (Some m) w = let there : nat_lt m.place g.place ≡ false = le_on g.place m.place w.seen in rw there w

-- the marks after some ranges of a publication
record AreTold (g : Reading) (run : List ℕ → List ℕ → ℕ → Run) (start : List Mark) (done : List Range) (ms : List Mark) : Type 0 where
  inside : (n : ℕ) → IsTold g (run g.source g.stream n) (part_at n done) (find (is_mark_of g.source g.stream n) ms)
  outside : (s t : List ℕ) (n : ℕ) → (s ≡ g.source → t ≡ g.stream → ⊥) → find (is_mark_of s t n) ms ≡ find (is_mark_of s t n) start

part_joined : (n : ℕ) (done : List Range) (r : Range) → part_at n (done ++ r ∷ []) ≡ option_or (part_at n done) (cond (r.partition == n) (Some r) None)
part_joined n done r = find-append (λ (x : Range). x.partition == n) done (r ∷ [])

module _ (g : Reading) (bound : nat_le g.since g.place ≡ true) (run : List ℕ → List ℕ → ℕ → Run) (start : List Mark) where
  range_told : (done : List Range) (ms : List Mark) (r : Range) → AreTold g run start done ms → AreTold g run start (done ++ r ∷ []) (put_mark g r ms)
  range_told done ms r w = record {
    inside = λ n. elim (cases_Bool (r.partition == n)) [ inl on ↦ here n ((Decides-eqb r.partition n).0 on) | inr off ↦ there n off ];
    outside = λ s t n apart. put_other g r ms s t n (λ e f _. apart e f) ∙ w.outside s t n apart;
  } where
    here : (n : ℕ) → r.partition ≡ n → IsTold g (run g.source g.stream n) (part_at n (done ++ r ∷ [])) (find (is_mark_of g.source g.stream n) (put_mark g r ms))
    here n e = subst (λ (k : ℕ). IsTold g (run g.source g.stream k) (part_at k (done ++ r ∷ [])) (find (is_mark_of g.source g.stream k) (put_mark g r ms))) e
        (rw (part_joined r.partition done r, (Decides-eqb r.partition r.partition).1 refl, put_same g r ms)
        (one_range g bound r (run g.source g.stream r.partition) (part_at r.partition done) (find (is_mark_of g.source g.stream r.partition) ms) (w.inside r.partition)))

    there : (n : ℕ) → (r.partition == n) ≡ false → IsTold g (run g.source g.stream n) (part_at n (done ++ r ∷ [])) (find (is_mark_of g.source g.stream n) (put_mark g r ms))
    there n off =
        rw (part_joined n done r, off, only_or (part_at n done), put_other g r ms g.source g.stream n (λ _ _ e. false≢true (sym off ∙ (Decides-eqb r.partition n).1 (sym e)))) (w.inside n)

  ranges_told : (done parts : List Range) (ms : List Mark) → AreTold g run start done ms → AreTold g run start (done ++ parts) (put_marks g parts ms)
  ranges_told done [] ms w = subst (λ (xs : List Range). AreTold g run start xs ms) (sym (append-nil done)) w
  ranges_told done (r ∷ rs) ms w = subst (λ (xs : List Range). AreTold g run start xs (put_marks g rs (put_mark g r ms))) (append_assoc done (r ∷ []) rs) (ranges_told (done ++ r ∷ []) rs (put_mark g r ms) (range_told done ms r w))

-- ---- resets

own_reset : (s t : List ℕ) (k : ℕ) → is_reset_of s t (record { source = s; stream = t; place = k }) ≡ true
own_reset s t k = and_from _ _ ((bytes_eq-Decides s s).1 refl) ((bytes_eq-Decides t t).1 refl)

same_stream : (s t : List ℕ) (r : ResetAt) → is_reset_of s t r ≡ true → (r.source ≡ s) × (r.stream ≡ t)
same_stream s t r on = let both = and_parts (bytes_eq r.source s) (bytes_eq r.stream t) on in ((bytes_eq-Decides r.source s).0 both.0, (bytes_eq-Decides r.stream t).0 both.1)

module _ (place : ℕ) (source stream : List ℕ) (rs : List ResetAt) where
  keeps_stream : (s t : List ℕ) (r : ResetAt) → is_reset_of s t (settled (is_older_reset place source stream) (reset_to place) r) ≡ is_reset_of s t r
  keeps_stream s t r = elim (cases_Bool (is_older_reset place source stream r)) [ inl on ↦ rw on refl | inr off ↦ rw off refl ]

  reset_same : nat_lt (since_of rs source stream) place ≡ true → since_of (put_reset place source stream rs) source stream ≡ place
  reset_same lt = elim (cases_Bool (list_any (is_reset_of source stream) rs)) [
    | inl on ↦
        (let w = found (is_reset_of source stream) rs on in
        let before : nat_lt w.item.place place ≡ true = subst (λ (o : Option ResetAt). nat_lt (place_or_none o) place ≡ true) w.is lt in
        rw on (ap (λ (o : Option ResetAt). place_or_none o) (find_settled (is_reset_of source stream) (is_older_reset place source stream) (reset_to place) rs (keeps_stream source stream) ∙ ap (λ (o : Option ResetAt). option_map (settled (is_older_reset place source stream) (reset_to place)) o) w.is)
        ∙ there w.item w.passes before))
    | inr off ↦
        (let last : find (is_reset_of source stream) (rs ++ record { source = source; stream = stream; place = place } ∷ []) ≡ Some (record { source = source; stream = stream; place = place }) =
        find-append (is_reset_of source stream) rs (record { source = source; stream = stream; place = place } ∷ []) ∙ rw (missing (is_reset_of source stream) rs off, own_reset source stream place) refl
        in
        rw off (ap (λ (o : Option ResetAt). place_or_none o) last))
  ] where
    there : (r : ResetAt) → is_reset_of source stream r ≡ true → nat_lt r.place place ≡ true → (settled (is_older_reset place source stream) (reset_to place) r).place ≡ place
    there r on before = rw (on, before) refl

  reset_other : (s t : List ℕ) → (s ≡ source → t ≡ stream → ⊥) → since_of (put_reset place source stream rs) s t ≡ since_of rs s t
  reset_other s t apart = elim (cases_Bool (list_any (is_reset_of source stream) rs)) [
    | inl on ↦
        rw on (ap (λ (o : Option ResetAt). place_or_none o) (find_settled (is_reset_of s t) (is_older_reset place source stream) (reset_to place) rs (keeps_stream s t) ∙ stays (find (is_reset_of s t) rs) refl))
    | inr off ↦
        rw off (ap (λ (o : Option ResetAt). place_or_none o) (find-append (is_reset_of s t) rs (record { source = source; stream = stream; place = place } ∷ [])
        ∙ (ap (λ (o : Option ResetAt). option_or (find (is_reset_of s t) rs) o) none ∙ only_or (find (is_reset_of s t) rs))))
  ] where
    not_own : (r : ResetAt) → is_reset_of s t r ≡ true → is_reset_of source stream r ≡ false
    not_own r on = elim (cases_Bool (is_reset_of source stream r)) [
      | inl own ↦ (let a = same_stream s t r on in let b = same_stream source stream r own in absurd (apart (sym a.0 ∙ b.0) (sym a.1 ∙ b.1)))
      | inr off ↦ off
    ]

    kept : (r : ResetAt) → is_reset_of source stream r ≡ false → settled (is_older_reset place source stream) (reset_to place) r ≡ r
    kept r off = rw off refl

    stays : (o : Option ResetAt) → find (is_reset_of s t) rs ≡ o → option_map (settled (is_older_reset place source stream) (reset_to place)) o ≡ o
    stays None is = refl
    stays (Some r) is = ap (λ (x : ResetAt). Some x) (kept r (not_own r (passing (is_reset_of s t) rs r is)))

    none : find (is_reset_of s t) (record { source = source; stream = stream; place = place } ∷ []) ≡ None
    none = elim (cases_Bool (is_reset_of s t (record { source = source; stream = stream; place = place }))) [
      | inl on ↦ (let a = same_stream s t (record { source = source; stream = stream; place = place }) on in absurd (apart (sym a.0) (sym a.1)))
      | inr off ↦ rw off refl
    ]

-- ---- publications

-- what the marks tell of each partition after so many publications
record Holds (k : ℕ) (run : List ℕ → List ℕ → ℕ → Run) (h : History) : Type 0 where
  at : (s t : List ℕ) (n : ℕ) → end_of h s t n ≡ ends (run s t n)
  below : (s t : List ℕ) (n : ℕ) → is_placed (k + 1) (find (is_mark_of s t n) h.marks) ≡ false
  since : (s t : List ℕ) → nat_le (since_of h.resets s t) k ≡ true

cond_same : {X : Type 0} (b : Bool) (x : X) → cond b x x ≡ x
cond_same true x = refl
cond_same false x = refl

le_then_lt : (n k : ℕ) → nat_le n k ≡ true → nat_lt n (k + 1) ≡ true
le_then_lt n k on = grind (arith, nat_tests)

-- by whether they are the publication's own source and stream
by_stream : (P : Type 0) (s t source stream : List ℕ) → (s ≡ source → t ≡ stream → P) → ((s ≡ source → t ≡ stream → ⊥) → P) → P
by_stream P s t source stream own apart = elim (cases_Bool (bytes_eq s source)) [
  | inr off ↦ apart (λ e _. false≢true (sym off ∙ (bytes_eq-Decides s source).1 e))
  | inl on ↦ elim (cases_Bool (bytes_eq t stream)) [
    | inr off ↦ apart (λ _ e. false≢true (sym off ∙ (bytes_eq-Decides t stream).1 e))
    | inl also ↦ own ((bytes_eq-Decides s source).0 on) ((bytes_eq-Decides t stream).0 also)
  ]
]

module _ (k : ℕ) (run : List ℕ → List ℕ → ℕ → Run) (h : History) (w : Holds k run h) (m : Publication) (ranges : Ranges) where
  abbrev rs : List ResetAt
  rs = resets_with (is_reset m.kind) (k + 1) m.source ranges.stream h.resets

  abbrev g : Reading
  g = record { place = k + 1; reset = is_reset m.kind; since = since_of rs m.source ranges.stream; source = m.source; stream = ranges.stream }

  -- the last reset of each stream
  since_own : (b : Bool) → b ≡ true → since_of (resets_with b (k + 1) m.source ranges.stream h.resets) m.source ranges.stream ≡ k + 1
  since_own true on = reset_same (k + 1) m.source ranges.stream h.resets (le_then_lt (since_of h.resets m.source ranges.stream) k (w.since m.source ranges.stream))
  since_own false on = cc

  since_kept : (b : Bool) (s t : List ℕ) → (s ≡ m.source → t ≡ ranges.stream → ⊥) → since_of (resets_with b (k + 1) m.source ranges.stream h.resets) s t ≡ since_of h.resets s t
  since_kept true s t apart = reset_other (k + 1) m.source ranges.stream h.resets s t apart
  since_kept false s t apart = refl

  since_below : (s t : List ℕ) → nat_le (since_of rs s t) (k + 1) ≡ true
  since_below s t = by_stream (nat_le (since_of rs s t) (k + 1) ≡ true) s t m.source ranges.stream
      (λ e f. rw (e, f) (own (is_reset m.kind)))
      (λ apart. rw (since_kept (is_reset m.kind) s t apart) (le_later (since_of h.resets s t) k (w.since s t))) where
        own : (b : Bool) → nat_le (since_of (resets_with b (k + 1) m.source ranges.stream h.resets) m.source ranges.stream) (k + 1) ≡ true
        own true = rw (since_own true refl) (le_itself (k + 1))
        own false = le_later (since_of h.resets m.source ranges.stream) k (w.since m.source ranges.stream)

  -- a reset takes all marks of its stream away
  begun : (n : ℕ) → end_by g.since (find (is_mark_of m.source ranges.stream n) h.marks) ≡ ends (run_with (is_reset m.kind) None (run m.source ranges.stream n))
  begun n = by (is_reset m.kind) where
    old : (f : Option Mark) → is_placed (k + 1) f ≡ false → end_by (k + 1) f ≡ Some None
    old None off = refl
    old (Some x) off = rw off refl

    by : (b : Bool) → end_by (since_of (resets_with b (k + 1) m.source ranges.stream h.resets) m.source ranges.stream) (find (is_mark_of m.source ranges.stream n) h.marks) ≡ ends (run_with b None (run m.source ranges.stream n))
    by true =
        ap (λ (since : ℕ). end_by since (find (is_mark_of m.source ranges.stream n) h.marks)) (since_own true refl)
        ∙ old (find (is_mark_of m.source ranges.stream n) h.marks) (w.below m.source ranges.stream n)
    by false = w.at m.source ranges.stream n ∙ ap (λ (xs : List Range). ends_with (run m.source ranges.stream n).from xs) (sym (append-nil (run m.source ranges.stream n).ranges))

  told : AreTold g run h.marks ranges.parts (put_marks g ranges.parts h.marks)
  told = ranges_told g (since_below m.source ranges.stream) run h.marks [] ranges.parts h.marks (record {
    inside = λ n. record { at = begun n; seen = w.below m.source ranges.stream n; below = placed_more (k + 1) (find (is_mark_of m.source ranges.stream n) h.marks) (w.below m.source ranges.stream n) };
    outside = λ s t n apart. refl;
  })

  runs_on : Holds (k + 1) (λ s t n. cond (bytes_eq m.source s) (run_on t n m.kind (Some ranges) (run s t n)) (run s t n)) (history_on (k + 1) m (Some ranges) h)
  runs_on = record {
    at = λ s t n. by_stream (end_by (since_of rs s t) (find (is_mark_of s t n) (put_marks g ranges.parts h.marks)) ≡ ends (cond (bytes_eq m.source s) (run_on t n m.kind (Some ranges) (run s t n)) (run s t n))) s t m.source ranges.stream
        (λ e f. rw (e, f, (bytes_eq-Decides m.source m.source).1 refl, (bytes_eq-Decides ranges.stream ranges.stream).1 refl, run_is (is_reset m.kind) n ranges.parts (run m.source ranges.stream n)) (told.inside n).at)
        (λ apart. rw (since_kept (is_reset m.kind) s t apart, told.outside s t n apart) (w.at s t n ∙ ap (λ (x : Run). ends x) (sym (elsewhere s t n apart))));
    below = λ s t n. by_stream (is_placed (k + 1 + 1) (find (is_mark_of s t n) (put_marks g ranges.parts h.marks)) ≡ false) s t m.source ranges.stream
        (λ e f. rw (e, f) (told.inside n).below)
        (λ apart. rw (told.outside s t n apart) (placed_more (k + 1) (find (is_mark_of s t n) h.marks) (w.below s t n)));
    since = since_below;
  } where
    elsewhere : (s t : List ℕ) (n : ℕ) → (s ≡ m.source → t ≡ ranges.stream → ⊥) → cond (bytes_eq m.source s) (run_on t n m.kind (Some ranges) (run s t n)) (run s t n) ≡ run s t n
    elsewhere s t n apart = elim (cases_Bool (bytes_eq m.source s)) [
      | inr off ↦ rw off refl
      | inl on ↦ elim (cases_Bool (bytes_eq ranges.stream t)) [
        | inr off ↦ rw (on, off) refl
        | inl also ↦ absurd (apart (sym ((bytes_eq-Decides m.source s).0 on)) (sym ((bytes_eq-Decides ranges.stream t).0 also)))
      ]
    ]

publication_read : (k : ℕ) (run : List ℕ → List ℕ → ℕ → Run) (h : History) (m : Publication) (o : Option Ranges) → Holds k run h
    → Holds (k + 1) (λ s t n. cond (bytes_eq m.source s) (run_on t n m.kind o (run s t n)) (run s t n)) (history_on (k + 1) m o h)
publication_read k run h m None w = record {
  at = λ s t n. w.at s t n ∙ ap (λ (x : Run). ends x) (sym (cond_same (bytes_eq m.source s) (run s t n)));
  below = λ s t n. placed_more (k + 1) (find (is_mark_of s t n) h.marks) (w.below s t n);
  since = λ s t. le_later (since_of h.resets s t) k (w.since s t);
}
publication_read k run h m (Some ranges) w = runs_on k run h w m ranges

publications_read : (k : ℕ) (run : List ℕ → List ℕ → ℕ → Run) (h : History) (ms : List Publication) → Holds k run h → (s t : List ℕ) (n : ℕ) → end_of (history_from k ms h) s t n ≡ ends (run_from s t n (run s t n) ms)
publications_read k run h [] w s t n = w.at s t n
publications_read k run h (m ∷ ms) w s t n = publications_read (k + 1) (λ s t n. run_after s t n m (run s t n)) (history_on (k + 1) m m.ranges h) ms (publication_read k run h m m.ranges w) s t n

-- ---- what is stored

end_is : (pubs : List Publication) (s t : List ℕ) (n : ℕ) → end_of (history_of pubs) s t n ≡ ends_with (run_of s t n pubs).from (run_of s t n pubs).ranges
end_is pubs = publications_read 0 (λ s t n. no_run) no_history pubs (record { at = λ s t n. refl; below = λ s t n. refl; since = λ s t. refl })

all_same : {X : Type 0} (p q : X → Bool) (xs : List X) → ((x : X) → p x ≡ q x) → list_all p xs ≡ list_all q xs
all_same p q [] same = refl
all_same p q (x ∷ xs) same = rw (same x, all_same p q xs same) refl

all_gathered : {X Y : Type 0} (p : Y → Bool) (f : X → List Y) (xs : List X) → list_all p (gathered f xs) ≡ list_all (λ x. list_all p (f x)) xs
all_gathered p f [] = refl
all_gathered p f (x ∷ xs) = list_all-append p (f x) (gathered f xs) ∙ ap (λ (b : Bool). list_all p (f x) && b) (all_gathered p f xs)

module _ (pubs : List Publication) (rows : List OffsetRow) where
  part_same : (s t : List ℕ) (n : ℕ) → is_tiled_by (history_of pubs) rows s t n ≡ key_is_tiled pubs rows (record { source = s; stream = t; partition = n })
  unfolding is_tiled_by
  part_same s t n = ap (λ (e : Option (Option ℕ)). ends_at e (stored rows s t n)) (end_is pubs s t n)

  ranges_same : (source : List ℕ) (o : Option Ranges) → are_tiled_in (history_of pubs) rows source o ≡ list_all (key_is_tiled pubs rows) (keys_in source o)
  unfolding are_tiled_in
  ranges_same source None = refl
  ranges_same source (Some ranges) =
      all_same (λ r. is_tiled_by (history_of pubs) rows source ranges.stream r.partition) (λ r. key_is_tiled pubs rows (part_key source ranges.stream r)) ranges.parts (λ r. part_same source ranges.stream r.partition)
      ∙ sym (list_all-map (key_is_tiled pubs rows) (part_key source ranges.stream) ranges.parts)

  both_same : (a b c d : Bool) → a ≡ c → b ≡ d → (a && b) ≡ (c && d)
  both_same a b c d e f = rw (e, f) refl

  pub tiled_same : are_tiled_by (history_of pubs) pubs rows ≡ is_tiled pubs rows
  tiled_same =
      both_same _ _ _ _
      (all_same (λ m. are_tiled_in (history_of pubs) rows m.source m.ranges) (λ m. list_all (key_is_tiled pubs rows) (publication_keys m)) pubs (λ m. ranges_same m.source m.ranges)
      ∙ sym (all_gathered (key_is_tiled pubs rows) publication_keys pubs))
      (all_same (λ r. is_tiled_by (history_of pubs) rows r.source r.stream r.partition) (λ r. key_is_tiled pubs rows (row_key r)) rows (λ r. part_same r.source r.stream r.partition)
      ∙ sym (list_all-map (key_is_tiled pubs rows) row_key rows))
      ∙ sym (list_all-append (key_is_tiled pubs rows) (gathered publication_keys pubs) (map row_key rows))

pub tiled_found : (pubs : List Publication) (rows own : List OffsetRow) (h : History) (holds : Bool) → h ≡ history_of pubs → own ≡ rows → holds ≡ are_tiled_by h pubs own → holds ≡ is_tiled pubs rows
tiled_found pubs rows own h holds e f is = is ∙ rw (e, f) (tiled_same pubs rows)
