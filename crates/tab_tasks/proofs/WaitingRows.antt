-- The tasks that wait, by their places.
use Rattle.std.proofs.Common.{◌||◌, ◌+◌, ◌++◌, ◌<◌, ◌∙◌, ◌∷◌, ◌≡◌, Bool, List, None, Option, Some, [], ap, ap₂, arith, bytes_eq, cond, false, filter, get_or, length, map, not, refl, slice_get, suc, sym, take, true, ℕ}
use Rattle.std.specs.List.{AllByRecursion}
use Rattle.std.proofs.lemmas.Bool.{false≢true}
use Rattle.std.proofs.lemmas.List.{append_assoc, get_or_append_left, length_push, map-append, take_more}
use Rattle.std.proofs.lemmas.List.Elements.{filter-append}
use Rattle.std.proofs.lemmas.Option.{slice_get-get_or, slice_get-map}
use Rattle.std.proofs.Math.Seq.{get_or-append_seam}
use Rattle.std.specs.Option.{option_map}
use denote.Ref.{Bor}
use Rattle.book_rows.specs.Kinds.{same_status}
use Rattle.book_rows.specs.TaskSteps.{is_waiting, status_set}
use Rattle.book_rows.specs.declared.kinds.TaskStatus.{TaskStatus}
use Rattle.book_rows.specs.declared.kinds.TaskStatus.TheVariants as Statuses
use Rattle.book_rows.specs.declared.rows.TaskRow.{TaskRow}
use Rattle.tab_tasks.specs.Waiting.{AreListed, if_waiting, is_waiting_row, waiting_at, waits_at}

-- ---- places one after another

waiting_at-append : (ts : List TaskRow) (ps qs : List ℕ) → waiting_at ts (ps ++ qs) ≡ waiting_at ts ps ++ waiting_at ts qs
waiting_at-append ts [] qs = refl
waiting_at-append ts (p ∷ ps) qs =
    ap (λ rows. if_waiting (slice_get ts p) ++ rows) (waiting_at-append ts ps qs) ∙ sym (append_assoc (if_waiting (slice_get ts p)) (waiting_at ts ps) (waiting_at ts qs))

append_none : (ts : List TaskRow) → ts ++ [] ≡ ts
append_none [] = refl
append_none (t ∷ ts) = ap (λ rows. t ∷ rows) (append_none ts)

pub among_more : (ts : List TaskRow) (ps : List ℕ) (i x : ℕ) → i < length ps → waiting_at ts (take (i + 1) ps) ≡ waiting_at ts (take i ps) ++ if_waiting (slice_get ts (get_or ps i x))
among_more ts ps i x within =
    let p : ℕ = get_or ps i x in
    ap (waiting_at ts) (take_more ps i x within)
    ∙ (waiting_at-append ts (take i ps) (p ∷ []) ∙ ap (λ rows. waiting_at ts (take i ps) ++ rows) (append_none (if_waiting (slice_get ts p))))

pub all_more : (ts : List TaskRow) (i : ℕ) → i < length ts → filter is_waiting (take (i + 1) ts) ≡ filter is_waiting (take i ts) ++ if_waiting (slice_get ts i)
all_more [] i within = absurd (omega arith)
all_more (t ∷ ts) i within =
    let u : TaskRow = get_or (t ∷ ts) i t in
    ap (filter is_waiting) (take_more (t ∷ ts) i t within)
    ∙ (filter-append is_waiting (take i (t ∷ ts)) (u ∷ []) ∙ ap (λ o. filter is_waiting (take i (t ∷ ts)) ++ if_waiting o) (sym (slice_get-get_or (t ∷ ts) i t within)))

-- ---- the rows that were found

abbrev rows_of : List (Bor TaskRow) → List TaskRow
rows_of found = map (λ r. r.now) found

pub found_more : (found : List (Bor TaskRow)) (row : Bor TaskRow) (before after more : List TaskRow) → rows_of found ≡ before → row.now ∷ [] ≡ more → after ≡ before ++ more
    → rows_of (found ++ row ∷ []) ≡ after
found_more found row before after more h one is = map-append (λ r. r.now) found (row ∷ []) ∙ (ap₂ (λ xs ys. xs ++ ys) h one ∙ sym is)

pub found_same : (found : List (Bor TaskRow)) (before after more : List TaskRow) → rows_of found ≡ before → [] ≡ more → after ≡ before ++ more → rows_of found ≡ after
found_same found before after more h none is = h ∙ (sym (append_none before) ∙ (ap (λ ys. before ++ ys) none ∙ sym is))

-- ---- a row more behind

within_more : (n : ℕ) (ps : List ℕ) → AllByRecursion (λ p. p < n) ps → AllByRecursion (λ p. p < n + 1) ps
within_more n [] h = tt
within_more n (p ∷ ps) h = (omega (arith, h.0), within_more n ps h.1)

within_push : (n : ℕ) (ps : List ℕ) → AllByRecursion (λ p. p < n) ps → AllByRecursion (λ p. p < n + 1) (ps ++ n ∷ [])
within_push n [] h = (omega arith, tt)
within_push n (p ∷ ps) h = (omega (arith, h.0), within_push n ps h.1)

same_row : (ts : List TaskRow) (row : TaskRow) (p : ℕ) → p < length ts → slice_get (ts ++ row ∷ []) p ≡ slice_get ts p
same_row ts row p h =
    let longer : p < length (ts ++ row ∷ []) = rw (length_push ts row) (omega (arith, h)) in
    slice_get-get_or (ts ++ row ∷ []) p row longer ∙ (ap Some (get_or_append_left ts (row ∷ []) row p h) ∙ sym (slice_get-get_or ts p row h))

last_row : (ts : List TaskRow) (row : TaskRow) → slice_get (ts ++ row ∷ []) (length ts) ≡ Some row
last_row ts row =
    let longer : length ts < length (ts ++ row ∷ []) = rw (length_push ts row) (omega arith) in
    slice_get-get_or (ts ++ row ∷ []) (length ts) row longer ∙ ap Some (get_or-append_seam ts row [] row)

waiting_at_push : (ts : List TaskRow) (row : TaskRow) (ps : List ℕ) → AllByRecursion (λ p. p < length ts) ps → waiting_at (ts ++ row ∷ []) ps ≡ waiting_at ts ps
waiting_at_push ts row [] h = refl
waiting_at_push ts row (p ∷ ps) h = ap₂ (λ o rows. if_waiting o ++ rows) (same_row ts row p h.0) (waiting_at_push ts row ps h.1)

pub listed_push : (ts : List TaskRow) (row : TaskRow) (ps : List ℕ) (b : Bool) → AreListed ts ps b → AreListed (ts ++ row ∷ []) (ps ++ length ts ∷ []) b
listed_push ts row ps b h = record {
  within = rw (length_push ts row) (within_push (length ts) ps h.within);
  found = λ exact.
      waiting_at-append (ts ++ row ∷ []) ps (length ts ∷ [])
      ∙ (
      ap₂ (λ rows o. rows ++ (if_waiting o ++ [])) (waiting_at_push ts row ps h.within ∙ h.found exact) (last_row ts row)
      ∙ (ap (λ rows. filter is_waiting ts ++ rows) (append_none (filter is_waiting (row ∷ []))) ∙ sym (filter-append is_waiting ts (row ∷ [])))
      );
}

-- ---- another status

abbrev set_by : TaskRow → TaskStatus → Bool → TaskRow
set_by t status b = record t { status = cond b status t.status }

same_by : (v : Bool) (ts : List TaskRow) → cond v ts ts ≡ ts
same_by true ts = refl
same_by false ts = refl

kept_by : (stays : TaskRow → Bool) (t : TaskRow) (v : Bool) → filter stays (cond v (t ∷ []) []) ≡ cond v (cond (stays t) (t ∷ []) []) []
kept_by stays t true = refl
kept_by stays t false = refl

set_one : (status : TaskStatus) (t : TaskRow) (b : Bool) → same_status status Statuses.Waiting ≡ false
    → cond (is_waiting (set_by t status b)) (set_by t status b ∷ []) [] ≡ cond (is_waiting t) (cond (not b) (t ∷ []) []) []
set_one status t true off = ap (λ v. cond v (set_by t status true ∷ []) []) off ∙ sym (same_by (is_waiting t) [])
set_one status t false off = refl

abbrev stays_of : List ℕ → TaskRow → Bool
stays_of task t = not (bytes_eq t.task task)

set_row : (task : List ℕ) (status : TaskStatus) (t : TaskRow) → same_status status Statuses.Waiting ≡ false
    → filter is_waiting (status_set task status t ∷ []) ≡ filter (stays_of task) (filter is_waiting (t ∷ []))
set_row task status t off = set_one status t (bytes_eq t.task task) off ∙ sym (kept_by (stays_of task) t (is_waiting t))

set_found : (task : List ℕ) (status : TaskStatus) (o : Option TaskRow) → same_status status Statuses.Waiting ≡ false
    → if_waiting (option_map (status_set task status) o) ≡ filter (stays_of task) (if_waiting o)
set_found task status None off = refl
set_found task status (Some t) off = set_row task status t off

set_all : (task : List ℕ) (status : TaskStatus) (ts : List TaskRow) → same_status status Statuses.Waiting ≡ false
    → filter is_waiting (map (status_set task status) ts) ≡ filter (stays_of task) (filter is_waiting ts)
set_all task status [] off = refl
set_all task status (t ∷ ts) off =
    filter-append is_waiting (status_set task status t ∷ []) (map (status_set task status) ts)
    ∙ (
    ap₂ (λ xs ys. xs ++ ys) (set_row task status t off) (set_all task status ts off)
    ∙ (sym (filter-append (stays_of task) (filter is_waiting (t ∷ [])) (filter is_waiting ts)) ∙ ap (filter (stays_of task)) (sym (filter-append is_waiting (t ∷ []) ts)))
    )

set_listed : (task : List ℕ) (status : TaskStatus) (ts : List TaskRow) (ps : List ℕ) → same_status status Statuses.Waiting ≡ false
    → waiting_at (map (status_set task status) ts) ps ≡ filter (stays_of task) (waiting_at ts ps)
set_listed task status ts [] off = refl
set_listed task status ts (p ∷ ps) off =
    ap₂ (λ o rows. if_waiting o ++ rows) (slice_get-map (status_set task status) ts p) (set_listed task status ts ps off)
    ∙ (
    ap (λ rows. rows ++ filter (stays_of task) (waiting_at ts ps)) (set_found task status (slice_get ts p) off)
    ∙ sym (filter-append (stays_of task) (if_waiting (slice_get ts p)) (waiting_at ts ps))
    )

none_is : (a b : Bool) → (a || b) ≡ false → (a ≡ false) × (b ≡ false)
none_is true b h = absurd (false≢true (sym h))
none_is false b h = (refl, h)

length_set : (task : List ℕ) (status : TaskStatus) (ts : List TaskRow) → length (map (status_set task status) ts) ≡ length ts
length_set task status [] = refl
length_set task status (t ∷ ts) = ap suc (length_set task status ts)

pub listed_set : (task : List ℕ) (status : TaskStatus) (ts : List TaskRow) (ps : List ℕ) (b : Bool) → AreListed ts ps b
    → AreListed (map (status_set task status) ts) ps (b || same_status status Statuses.Waiting)
listed_set task status ts ps b h = record {
  within = rw (length_set task status ts) h.within;
  found = λ exact.
      let parts = none_is b (same_status status Statuses.Waiting) exact in
      set_listed task status ts ps parts.1 ∙ (ap (filter (stays_of task)) (h.found parts.0) ∙ sym (set_all task status ts parts.1));
}

-- ---- the places cleaned

none_there : (o : Option TaskRow) → is_waiting_row o ≡ false → if_waiting o ≡ []
none_there None off = refl
none_there (Some t) off = ap (λ v. cond v (t ∷ []) []) off

clean_one : (ts : List TaskRow) (p : ℕ) (qs : List ℕ) (v : Bool) → (v ≡ false → if_waiting (slice_get ts p) ≡ [])
    → waiting_at ts (cond v (p ∷ qs) qs) ≡ if_waiting (slice_get ts p) ++ waiting_at ts qs
clean_one ts p qs true none = refl
clean_one ts p qs false none = ap (λ rows. rows ++ waiting_at ts qs) (sym (none refl))

clean_all : (ts : List TaskRow) (ps : List ℕ) → waiting_at ts (filter (waits_at ts) ps) ≡ waiting_at ts ps
clean_all ts [] = refl
clean_all ts (p ∷ ps) =
    clean_one ts p (filter (waits_at ts) ps) (waits_at ts p) (none_there (slice_get ts p)) ∙ ap (λ rows. if_waiting (slice_get ts p) ++ rows) (clean_all ts ps)

within_by : (n p : ℕ) (qs : List ℕ) (v : Bool) → p < n → AllByRecursion (λ q. q < n) qs → AllByRecursion (λ q. q < n) (cond v (p ∷ qs) qs)
within_by n p qs true h hs = (h, hs)
within_by n p qs false h hs = hs

within_clean : (n : ℕ) (test : ℕ → Bool) (ps : List ℕ) → AllByRecursion (λ p. p < n) ps → AllByRecursion (λ p. p < n) (filter test ps)
within_clean n test [] h = tt
within_clean n test (p ∷ ps) h = within_by n p (filter test ps) (test p) h.0 (within_clean n test ps h.1)

pub listed_clean : (ts : List TaskRow) (ps : List ℕ) (b : Bool) → AreListed ts ps b → AreListed ts (filter (waits_at ts) ps) b
listed_clean ts ps b h = record { within = within_clean (length ts) (waits_at ts) ps h.within; found = λ exact. clean_all ts ps ∙ h.found exact }
