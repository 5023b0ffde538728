-- What the records of a file say depends on the bytes up to the closed gate alone.
use Rattle.std.proofs.Common.{◌≡◌, ◌≢◌, inl, inr, ⊎_elim, ℕ, zero, suc, ◌+◌, ◌<◌, ◌≤◌, true, false, List, [], ◌∷◌, length, take, drop, get_or, sym, ◌∙◌, ap, arith}
use Rattle.std.specs.Prelude.{nat_lt}
use Rattle.std.proofs.lemmas.Bool.{cases_eq, cases_Bool, and_parts, and_from, ltb-true, lt-ltb}
use Rattle.std.proofs.lemmas.Bool.Decides.{nat_tests}
use Rattle.std.proofs.lemmas.List.{take-take, drop-take}
use Rattle.gate_log.specs.Numbers.{number_32}
use Rattle.gate_log.specs.Format.{Records, records_from, is_whole_frame, joined}

-- the cases of a gate
abbrev pub more_from : ℕ → List ℕ → Records
more_from at rest = records_from (at + 1) (4 + number_32 (take 4 rest)) rest

abbrev pub closed_at : ℕ → Records
closed_at at = record { bodies = []; is_whole = true; place = at }

abbrev pub torn_at : ℕ → Records
torn_at at = record { bodies = []; is_whole = false; place = at }

-- a body, and then these
abbrev pub body_first : List ℕ → Records → Records
body_first body more = record { bodies = body ∷ more.bodies; is_whole = more.is_whole; place = more.place }

abbrev pub first_body : List ℕ → List ℕ
first_body rest = take (number_32 (take 4 rest)) (drop 4 rest)

pub data Gate (at gate : ℕ) (rest : List ℕ) : Type 0 where
  shut : (gate ≡ 1 → ⊥) → (records_from at 0 (gate ∷ rest) ≡ closed_at at) → Gate at gate rest
  whole : (gate ≡ 1) → (is_whole_frame rest ≡ true) → (records_from at 0 (gate ∷ rest) ≡ body_first (first_body rest) (more_from at rest)) → Gate at gate rest
  torn : (gate ≡ 1) → (is_whole_frame rest ≡ false) → (records_from at 0 (gate ∷ rest) ≡ torn_at at) → Gate at gate rest

pub at_closed : (at gate : ℕ) (rest : List ℕ) → gate ≢ 1 → records_from at 0 (gate ∷ rest) ≡ closed_at at
at_closed at gate rest closed = grind (arith, nat_tests)

pub at_open : (at : ℕ) (rest : List ℕ) → is_whole_frame rest ≡ true → records_from at 0 (1 ∷ rest) ≡ body_first (first_body rest) (more_from at rest)
at_open at rest is = rw is

pub at_torn : (at : ℕ) (rest : List ℕ) → is_whole_frame rest ≡ false → records_from at 0 (1 ∷ rest) ≡ torn_at at
at_torn at rest is = rw is

pub gate_at : (at gate : ℕ) (rest : List ℕ) → Gate at gate rest
gate_at at gate rest = elim (cases_eq gate 1) [
  | inl is_open ↦ ⊎_elim (λ is. whole is_open is (ap (λ (g : ℕ). records_from at 0 (g ∷ rest)) is_open ∙ at_open at rest is)) (λ is. torn is_open is (ap (λ (g : ℕ). records_from at 0 (g ∷ rest)) is_open ∙ at_torn at rest is)) (cases_Bool (is_whole_frame rest))
  | inr closed ↦ shut closed (at_closed at gate rest closed)
]

-- a frame that is whole: its sizes
pub frame_sizes : (rest : List ℕ) → is_whole_frame rest ≡ true → (0 < number_32 (take 4 rest)) × (4 + number_32 (take 4 rest) < length rest)
frame_sizes rest is = let parts = and_parts (nat_lt 0 (number_32 (take 4 rest))) (nat_lt (4 + number_32 (take 4 rest)) (length rest)) is in (ltb-true _ _ parts.0, ltb-true _ _ parts.1)

pub whole_from : (rest : List ℕ) → 0 < number_32 (take 4 rest) → 4 + number_32 (take 4 rest) < length rest → is_whole_frame rest ≡ true
whole_from rest some fits = and_from (nat_lt 0 (number_32 (take 4 rest))) (nat_lt (4 + number_32 (take 4 rest)) (length rest)) (lt-ltb _ _ some) (lt-ltb _ _ fits)

-- skipping
pub skip : (at skipped : ℕ) (bytes : List ℕ) → skipped < length bytes → records_from at skipped bytes ≡ records_from (at + skipped) 0 (drop skipped bytes)
skip at zero bytes less = let same : at ≡ at + 0 = omega arith in ap (λ (n : ℕ). records_from n 0 bytes) same
skip at (suc n) [] less = absurd (omega arith)
skip at (suc n) (b ∷ bytes) less = skip (at + 1) n bytes (omega arith) ∙ (let same : at + 1 + n ≡ at + suc n = omega arith in ap (λ (m : ℕ). records_from m 0 (drop n bytes)) same)

-- the closed gate stands behind what is skipped
pub place_above : (at skipped : ℕ) (bytes : List ℕ) → (records_from at skipped bytes).is_whole ≡ true → at + skipped ≤ (records_from at skipped bytes).place
place_above at zero [] is = absurd (cc)
place_above at (suc n) [] is = absurd (cc)
place_above at (suc n) (b ∷ rest) is = let below = place_above (at + 1) n rest is in omega arith
place_above at zero (gate ∷ rest) is = above_gate (gate_at at gate rest) (λ more. place_above (at + 1) (4 + number_32 (take 4 rest)) rest more) is
  where
    above_gate : Gate at gate rest → ((more_from at rest).is_whole ≡ true → at + 1 + (4 + number_32 (take 4 rest)) ≤ (more_from at rest).place) → (records_from at 0 (gate ∷ rest)).is_whole ≡ true → at + 0 ≤ (records_from at 0 (gate ∷ rest)).place
    above_gate (shut closed e) more is = let p = ap (λ (r : Records). r.place) e in omega arith
    above_gate (whole open_gate frame e) more is =
        let below = more (sym (ap (λ (r : Records). r.is_whole) e) ∙ is) in
        let p = ap (λ (r : Records). r.place) e in omega arith
    above_gate (torn open_gate frame e) more is = absurd (let w = ap (λ (r : Records). r.is_whole) e in cc)

pub take_less : (m n : ℕ) (xs ys : List ℕ) → m ≤ n → take n ys ≡ take n xs → take m ys ≡ take m xs
take_less m n xs ys le same = sym (take-take m n ys le) ∙ ap (λ (l : List ℕ). take m l) same ∙ take-take m n xs le

-- a part that begins at k
pub part_less : (k m n : ℕ) (xs ys : List ℕ) → k + m ≤ n → take n ys ≡ take n xs → take m (drop k ys) ≡ take m (drop k xs)
part_less k m n xs ys le same = sym (drop-take k m ys) ∙ ap (λ (l : List ℕ). drop k l) (take_less (k + m) n xs ys le same) ∙ drop-take k m xs

-- up to the closed gate of xs, ys is the same: it has those records, and goes on there
pub same_front : (at skipped : ℕ) (xs ys : List ℕ) (n : ℕ) → (records_from at skipped xs).is_whole ≡ true → at + n ≡ (records_from at skipped xs).place → n < length ys → take n ys ≡ take n xs
    → records_from at skipped ys ≡ joined (records_from at skipped xs).bodies (records_from (records_from at skipped xs).place 0 (drop n ys))
same_front at zero [] ys n is there long same = absurd (cc)
same_front at (suc k) [] ys n is there long same = absurd (cc)
same_front at (suc k) (x ∷ xs) [] n is there long same = absurd (omega arith)
same_front at (suc k) (x ∷ xs) (y ∷ ys) zero is there long same = absurd (let above = place_above (at + 1) k xs is in omega arith)
same_front at (suc k) (x ∷ xs) (y ∷ ys) (suc n) is there long same = same_front (at + 1) k xs ys n is (omega arith) (omega arith) (cc)
same_front at zero (x ∷ xs) [] n is there long same = absurd (omega arith)
same_front at zero (x ∷ xs) (y ∷ ys) n is there long same = by_gate (gate_at at x xs) n (λ m. same_front (at + 1) (4 + number_32 (take 4 xs)) xs ys m) is there long same
  where
    by_gate : Gate at x xs → (n : ℕ) → ((m : ℕ) → (more_from at xs).is_whole ≡ true → at + 1 + m ≡ (more_from at xs).place → m < length ys → take m ys ≡ take m xs → records_from (at + 1) (4 + number_32 (take 4 xs)) ys ≡ joined (more_from at xs).bodies (records_from (more_from at xs).place 0 (drop m ys)))
        → (records_from at 0 (x ∷ xs)).is_whole ≡ true → at + n ≡ (records_from at 0 (x ∷ xs)).place → n < suc (length ys) → take n (y ∷ ys) ≡ take n (x ∷ xs) → records_from at 0 (y ∷ ys) ≡ joined (records_from at 0 (x ∷ xs)).bodies (records_from (records_from at 0 (x ∷ xs)).place 0 (drop n (y ∷ ys)))
    by_gate (torn o f e) n more is there long same = absurd (let w = ap (λ (r : Records). r.is_whole) e in cc)
    by_gate (shut o e) zero more is there long same = sym (ap (λ (r : Records). joined r.bodies (records_from r.place 0 (y ∷ ys))) e)
    by_gate (shut o e) (suc n) more is there long same = absurd (let p = ap (λ (r : Records). r.place) e in omega arith)
    by_gate (whole o f e) zero more is there long same =
        let p = ap (λ (r : Records). r.place) e in
        let w : (more_from at xs).is_whole ≡ true = sym (ap (λ (r : Records). r.is_whole) e) ∙ is in
        absurd (let above = place_above (at + 1) (4 + number_32 (take 4 xs)) xs w in omega arith)
    by_gate (whole o f e) (suc n) more is there long same =
        let p = ap (λ (r : Records). r.place) e in
        let w : (more_from at xs).is_whole ≡ true = sym (ap (λ (r : Records). r.is_whole) e) ∙ is in
        let above = place_above (at + 1) (4 + number_32 (take 4 xs)) xs w in
        let rests : take n ys ≡ take n xs = cc in
        let gates : y ≡ x = cc in
        let there' : at + 1 + n ≡ (more_from at xs).place = omega arith in
        let next = more n w there' (omega arith) rests in
        let fours : take 4 ys ≡ take 4 xs = take_less 4 n xs ys (omega arith) rests in
        let sizes : number_32 (take 4 ys) ≡ number_32 (take 4 xs) = ap number_32 fours in
        let parts = frame_sizes xs f in
        let frame : is_whole_frame ys ≡ true = whole_from ys (omega arith) (omega arith) in
        let bodies : first_body ys ≡ first_body xs = ap (λ (k : ℕ). take k (drop 4 ys)) sizes ∙ part_less 4 (number_32 (take 4 xs)) n xs ys (omega arith) rests in
        let on : more_from at ys ≡ joined (more_from at xs).bodies (records_from (more_from at xs).place 0 (drop n ys)) = ap (λ (k : ℕ). records_from (at + 1) (4 + k) ys) sizes ∙ next in
        ap (λ (g : ℕ). records_from at 0 (g ∷ ys)) (gates ∙ o) ∙ at_open at ys frame
        ∙ ap (λ (r : Records). body_first (first_body ys) r) on
        ∙ ap (λ (b : List ℕ). body_first b (joined (more_from at xs).bodies (records_from (more_from at xs).place 0 (drop n ys)))) bodies
        ∙ sym (ap (λ (r : Records). joined r.bodies (records_from r.place 0 (drop n ys))) e)

-- the gate at the end is there, and isn't open
pub record ClosedGate (bytes : List ℕ) (n : ℕ) : Type 0 where
  pub there : n < length bytes
  pub shut : get_or bytes n 0 ≡ 1 → ⊥

pub closed_gate : (at skipped : ℕ) (xs : List ℕ) (n : ℕ) → (records_from at skipped xs).is_whole ≡ true → at + n ≡ (records_from at skipped xs).place → ClosedGate xs n
closed_gate at zero [] n is there = absurd (cc)
closed_gate at (suc k) [] n is there = absurd (cc)
closed_gate at (suc k) (x ∷ xs) zero is there = absurd (let above = place_above (at + 1) k xs is in omega arith)
closed_gate at (suc k) (x ∷ xs) (suc n) is there = let more = closed_gate (at + 1) k xs n is (omega arith) in record { there = omega (arith, more.there); shut = more.shut }
closed_gate at zero (x ∷ xs) n is there = by_gate (gate_at at x xs) n (λ m. closed_gate (at + 1) (4 + number_32 (take 4 xs)) xs m) is there
  where
    by_gate : Gate at x xs → (n : ℕ) → ((m : ℕ) → (more_from at xs).is_whole ≡ true → at + 1 + m ≡ (more_from at xs).place → ClosedGate xs m) → (records_from at 0 (x ∷ xs)).is_whole ≡ true → at + n ≡ (records_from at 0 (x ∷ xs)).place → ClosedGate (x ∷ xs) n
    by_gate (torn o f e) n more is there = absurd (let w = ap (λ (r : Records). r.is_whole) e in cc)
    by_gate (shut o e) zero more is there = record { there = omega arith; shut = o }
    by_gate (shut o e) (suc n) more is there = absurd (let p = ap (λ (r : Records). r.place) e in omega arith)
    by_gate (whole o f e) zero more is there =
        let p = ap (λ (r : Records). r.place) e in
        let w : (more_from at xs).is_whole ≡ true = sym (ap (λ (r : Records). r.is_whole) e) ∙ is in
        absurd (let above = place_above (at + 1) (4 + number_32 (take 4 xs)) xs w in omega arith)
    by_gate (whole o f e) (suc n) more is there =
        let p = ap (λ (r : Records). r.place) e in
        let w : (more_from at xs).is_whole ≡ true = sym (ap (λ (r : Records). r.is_whole) e) ∙ is in
        let rest = more n w (omega arith) in record { there = omega (arith, rest.there); shut = rest.shut }
