-- What a whole file says, and what changes at its closed gate.
use Rattle.std.proofs.Common.{◌≡◌, ℕ, ◌+◌, ◌-◌, ◌^◌, ◌<◌, ◌≤◌, Bool, true, false, not, ◌||◌, List, [], ◌∷◌, ◌++◌, length, take, drop, get_or, refl, sym, ◌∙◌, ap, arith, length-drop, length-append, append_assoc}
use Rattle.std.specs.Prelude.{nat_le, ◌==◌, if◌then◌else◌}
use Rattle.std.proofs.lemmas.Bool.{or_parts, leb-false, lt-leb}
use Rattle.std.proofs.lemmas.List.{append-nil, drop-drop, drop_more, take_at, drop_at, get_or-drop, get_or-take}
use Rattle.gate_log.specs.Numbers.{number_32, number_64, bytes_32}
use Rattle.gate_log.specs.Format.{Records, records_from, Opening, absent, corrupt, opened, opening, opening_of, has_magic, says_after, says, log_of, frame_of, is_whole_frame, joined, is_log, is_corrupt}
use Rattle.gate_log.proofs.Records.{closed_at, at_closed, same_front, closed_gate, ClosedGate, place_above, take_less, part_less, whole_from, first_body, body_first, more_from, skip, at_open}
use Rattle.gate_log.proofs.NumberBytes.{length-bytes_32, number-bytes_32}

-- the header's tests, apart from what they test
abbrev by_tests : (short one magic nine cut : Bool) → ℕ → ℕ → Opening
by_tests short one magic nine cut generation size =
    if short then absent
    else if not one then (if magic then absent else corrupt 0)
    else if not magic then corrupt 1
    else if not nine then corrupt 9
    else if cut then corrupt 18
    else opened generation size

record Tests (short one magic nine cut : Bool) (a b c d : ℕ) : Type 0 where
  long : short ≡ false
  is_open : one ≡ true
  named : magic ≡ true
  first_format : nine ≡ true
  whole : cut ≡ false
  generation : a ≡ c
  size : b ≡ d

tests : (short one magic nine cut : Bool) (a b c d : ℕ) → by_tests short one magic nine cut a b ≡ opened c d → Tests short one magic nine cut a b c d
tests true one magic nine cut a b c d e = absurd (cc)
tests false false true nine cut a b c d e = absurd (cc)
tests false false false nine cut a b c d e = absurd (cc)
tests false true false nine cut a b c d e = absurd (cc)
tests false true true false cut a b c d e = absurd (cc)
tests false true true true true a b c d e = absurd (cc)
tests false true true true false a b c d e = record { long = refl; is_open = refl; named = refl; first_format = refl; whole = refl; generation = cc; size = cc }

-- a header that says a log: the name stands there, and the file has the snapshot and a gate
pub record IsOpened (head : List ℕ) (n size : ℕ) : Type 0 where
  pub named : has_magic head ≡ true
  pub long : 26 + size < n

pub is_opened : (head : List ℕ) (n generation size : ℕ) → opening head n ≡ opened generation size → IsOpened head n size
is_opened head n generation size is =
    let t = tests (nat_le n 1 || (get_or head 0 0 == 0)) (get_or head 0 0 == 1) (has_magic head) (get_or head 9 0 == 1) (nat_le n (26 + number_64 (take 8 (drop 18 head)))) (number_64 (take 8 (drop 10 head))) (number_64 (take 8 (drop 18 head))) generation size is in
    record { named = t.named; long = omega (arith, t.size, leb-false n (26 + number_64 (take 8 (drop 18 head))) t.whole) }

-- a header goes on to say what it says in a file of another length that has its snapshot and a gate
opened_at : (head : List ℕ) (n m generation size : ℕ) → opening head n ≡ opened generation size → 26 + size < m → opening head m ≡ opened generation size
opened_at head n m generation size is long =
    let t = tests (nat_le n 1 || (get_or head 0 0 == 0)) (get_or head 0 0 == 1) (has_magic head) (get_or head 9 0 == 1) (nat_le n (26 + number_64 (take 8 (drop 18 head)))) (number_64 (take 8 (drop 10 head))) (number_64 (take 8 (drop 18 head))) generation size is in
    let z = or_parts (nat_le n 1) (get_or head 0 0 == 0) t.long in
    let long' : (nat_le m 1 || (get_or head 0 0 == 0)) ≡ false = or_false (nat_le m 1) (get_or head 0 0 == 0) (lt-leb _ _ (omega arith)) z.1 in
    let whole' : nat_le m (26 + number_64 (take 8 (drop 18 head))) ≡ false = lt-leb _ _ (omega (arith, t.size)) in
    rw (long', t.is_open, t.named, t.first_format, whole') (λ i. opened (t.generation i) (t.size i))
  where
    or_false : (x y : Bool) → x ≡ false → y ≡ false → (x || y) ≡ false
    or_false x y p q = rw (p, q)

-- the parts of a file that says a log
pub record Parts (bytes : List ℕ) (generation : ℕ) (snapshot : List ℕ) (bodies : List (List ℕ)) (place : ℕ) : Type 0 where
  pub size : ℕ
  pub header : opening (take 26 bytes) (length bytes) ≡ opened generation size
  pub snapshot_is : take size (drop 26 bytes) ≡ snapshot
  pub records_are : records_from (26 + size) 0 (drop (26 + size) bytes) ≡ record { bodies = bodies; is_whole = true; place = place }

pub parts : (bytes : List ℕ) (generation : ℕ) (snapshot : List ℕ) (bodies : List (List ℕ)) (place : ℕ) → says bytes ≡ is_log generation snapshot bodies place → Parts bytes generation snapshot bodies place
parts bytes generation snapshot bodies place is = by_header (opening (take 26 bytes) (length bytes)) refl is
  where
    by_records : (size g : ℕ) (r : Records) → r ≡ records_from (26 + size) 0 (drop (26 + size) bytes) → opening (take 26 bytes) (length bytes) ≡ opened g size → (w : Bool) → r.is_whole ≡ w → (if w then is_log g (take size (drop 26 bytes)) r.bodies r.place else is_corrupt r.place) ≡ is_log generation snapshot bodies place → Parts bytes generation snapshot bodies place
    by_records size g r e o true w is =
        let gen : g ≡ generation = cc in
        let bods : r.bodies ≡ bodies = cc in
        let plc : r.place ≡ place = cc in
        record { size = size; header = o ∙ ap (λ (k : ℕ). opened k size) gen; snapshot_is = cc; records_are = sym e ∙ (λ i. record { bodies = bods i; is_whole = w i; place = plc i }) }
    by_records size g r e o false w is = absurd (cc)

    by_header : (o : Opening) → opening (take 26 bytes) (length bytes) ≡ o → says_after o bytes ≡ is_log generation snapshot bodies place → Parts bytes generation snapshot bodies place
    by_header absent e is = absurd (cc)
    by_header (corrupt at) e is = absurd (cc)
    by_header (opened g size) e is = by_records size g (records_from (26 + size) 0 (drop (26 + size) bytes)) refl e (records_from (26 + size) 0 (drop (26 + size) bytes)).is_whole refl is

-- one record, and a closed gate
framed : (place : ℕ) (body rest : List ℕ) → 0 < length body → length body < 2 ^ 32 → records_from place 0 (1 ∷ (frame_of body ++ rest)) ≡ record { bodies = body ∷ []; is_whole = true; place = place + 5 + length body }
framed place body rest some fits =
    let front = bytes_32 (length body) in
    let split : frame_of body ++ rest ≡ front ++ (body ++ (0 ∷ rest)) = append_assoc (front ++ body) (0 ∷ []) rest ∙ append_assoc front body (0 ∷ rest) in
    let four : take 4 (front ++ (body ++ (0 ∷ rest))) ≡ front = take_at front (body ++ (0 ∷ rest)) 4 (length-bytes_32 (length body)) in
    let size : number_32 (take 4 (front ++ (body ++ (0 ∷ rest)))) ≡ length body = ap number_32 four ∙ number-bytes_32 (length body) fits in
    let behind : drop 4 (front ++ (body ++ (0 ∷ rest))) ≡ body ++ (0 ∷ rest) = drop_at front (body ++ (0 ∷ rest)) 4 (length-bytes_32 (length body)) in
    let lengths : length (front ++ (body ++ (0 ∷ rest))) ≡ 5 + length body + length rest = omega (arith, length-append front (body ++ (0 ∷ rest)), length-append body (0 ∷ rest), length-bytes_32 (length body)) in
    let frame : is_whole_frame (front ++ (body ++ (0 ∷ rest))) ≡ true = whole_from (front ++ (body ++ (0 ∷ rest))) (omega arith) (omega arith) in
    let is_body : first_body (front ++ (body ++ (0 ∷ rest))) ≡ body = ap (λ (k : ℕ). take k (drop 4 (front ++ (body ++ (0 ∷ rest))))) size ∙ ap (λ (l : List ℕ). take (length body) l) behind ∙ take_at body (0 ∷ rest) (length body) refl in
    let beyond : drop (4 + length body) (front ++ (body ++ (0 ∷ rest))) ≡ 0 ∷ rest = sym (drop-drop (length body) 4 (front ++ (body ++ (0 ∷ rest)))) ∙ ap (λ (l : List ℕ). drop (length body) l) behind ∙ drop_at body (0 ∷ rest) (length body) refl in
    let on : more_from place (front ++ (body ++ (0 ∷ rest))) ≡ closed_at (place + 5 + length body) =
    ap (λ (k : ℕ). records_from (place + 1) (4 + k) (front ++ (body ++ (0 ∷ rest)))) size
    ∙ skip (place + 1) (4 + length body) (front ++ (body ++ (0 ∷ rest))) (omega arith)
    ∙ ap (λ (l : List ℕ). records_from (place + 1 + (4 + length body)) 0 l) beyond
    ∙ at_closed (place + 1 + (4 + length body)) 0 rest (λ e. absurd (omega arith))
    ∙ ap closed_at (omega arith) in
    ap (λ (l : List ℕ). records_from place 0 (1 ∷ l)) split
    ∙ at_open place (front ++ (body ++ (0 ∷ rest))) frame
    ∙ ap (λ (b : List ℕ). body_first b (more_from place (front ++ (body ++ (0 ∷ rest))))) is_body
    ∙ ap (λ (r : Records). body_first body r) on

module _ (bytes : List ℕ) (generation : ℕ) (snapshot : List ℕ) (bodies : List (List ℕ)) (place : ℕ) (is : says bytes ≡ is_log generation snapshot bodies place) where
  p : Parts bytes generation snapshot bodies place
  p = parts bytes generation snapshot bodies place is

  whole : (records_from (26 + p.size) 0 (drop (26 + p.size) bytes)).is_whole ≡ true
  whole = ap (λ (r : Records). r.is_whole) p.records_are

  place_is : (records_from (26 + p.size) 0 (drop (26 + p.size) bytes)).place ≡ place
  place_is = ap (λ (r : Records). r.place) p.records_are

  above : 26 + p.size ≤ place
  above = omega (arith, place_is, place_above (26 + p.size) 0 (drop (26 + p.size) bytes) whole)

  -- the closed gate is there
  pub gate_shut : ClosedGate bytes place
  gate_shut =
      let n = place - (26 + p.size) in
      let at : 26 + p.size + n ≡ place = omega (arith, above) in
      let gate = closed_gate (26 + p.size) 0 (drop (26 + p.size) bytes) n whole (at ∙ sym place_is) in
      let same : get_or (drop (26 + p.size) bytes) n 0 ≡ get_or bytes place 0 = get_or-drop (26 + p.size) bytes n 0 ∙ ap (λ (k : ℕ). get_or bytes k 0) at in
      record { there = omega (arith, gate.there, length-drop (26 + p.size) bytes); shut = λ one. gate.shut (same ∙ one) }

  -- A file with the same front has those records, and goes on at the gate.
  pub says_on : (c : List ℕ) → take place c ≡ take place bytes → place < length c → says c ≡ log_of generation snapshot (joined bodies (records_from place 0 (drop place c)))
  says_on c same long =
      let n = place - (26 + p.size) in
      let at : 26 + p.size + n ≡ place = omega (arith, above) in
      let header : opening (take 26 c) (length c) ≡ opened generation p.size = ap (λ (h : List ℕ). opening h (length c)) (take_less 26 place bytes c (omega (arith, above)) same) ∙ opened_at (take 26 bytes) (length bytes) (length c) generation p.size p.header (omega (arith, above)) in
      let snap : take p.size (drop 26 c) ≡ snapshot = part_less 26 p.size place bytes c above same ∙ p.snapshot_is in
      let front = same_front (26 + p.size) 0 (drop (26 + p.size) bytes) (drop (26 + p.size) c) n whole (at ∙ sym place_is) (omega (arith, length-drop (26 + p.size) c, above)) (part_less (26 + p.size) n place bytes c (omega arith) same) in
      let rest : drop n (drop (26 + p.size) c) ≡ drop place c = drop-drop n (26 + p.size) c ∙ ap (λ (k : ℕ). drop k c) at in
      ap (λ (o : Opening). says_after o c) header
      ∙ ap (λ (s : List ℕ). log_of generation s (records_from (26 + p.size) 0 (drop (26 + p.size) c))) snap
      ∙ ap (λ (r : Records). log_of generation snapshot r) front
      ∙ ap (λ (r : Records). log_of generation snapshot (joined r.bodies (records_from r.place 0 (drop n (drop (26 + p.size) c))))) p.records_are
      ∙ ap (λ (l : List ℕ). log_of generation snapshot (joined bodies (records_from place 0 l))) rest

  -- behind a gate that is shut nothing counts
  pub says_same : (c : List ℕ) → take place c ≡ take place bytes → place < length c → (get_or c place 0 ≡ 1 → ⊥) → says c ≡ is_log generation snapshot bodies place
  says_same c same long shut =
      let gate : drop place c ≡ get_or c place 0 ∷ drop (place + 1) c = drop_more c place 0 long in
      says_on c same long
      ∙ ap (λ (l : List ℕ). log_of generation snapshot (joined bodies (records_from place 0 l))) gate
      ∙ ap (λ (r : Records). log_of generation snapshot (joined bodies r)) (at_closed place (get_or c place 0) (drop (place + 1) c) shut)
      ∙ ap (λ (bs : List (List ℕ)). is_log generation snapshot bs place) (append-nil bodies)

  -- a torn write behind the gate leaves the log
  pub says_behind : (c : List ℕ) → take (place + 1) c ≡ take (place + 1) bytes → place < length c → says c ≡ is_log generation snapshot bodies place
  says_behind c same long =
      let gates : get_or c place 0 ≡ get_or bytes place 0 = sym (get_or-take (place + 1) c place 0 (omega arith)) ∙ ap (λ (l : List ℕ). get_or l place 0) same ∙ get_or-take (place + 1) bytes place 0 (omega arith) in
      says_same c (take_less place (place + 1) bytes c (omega arith) same) long (λ one. gate_shut.shut (sym gates ∙ one))

  -- an open gate over a frame
  pub says_more : (c body rest : List ℕ) → take place c ≡ take place bytes → place < length c → get_or c place 0 ≡ 1 → drop (place + 1) c ≡ frame_of body ++ rest → 0 < length body → length body < 2 ^ 32 → says c ≡ is_log generation snapshot (bodies ++ body ∷ []) (place + 5 + length body)
  says_more c body rest same long one frame some fits =
      let gate : drop place c ≡ get_or c place 0 ∷ drop (place + 1) c = drop_more c place 0 long in
      says_on c same long
      ∙ ap (λ (l : List ℕ). log_of generation snapshot (joined bodies (records_from place 0 l))) (gate ∙ (λ i. one i ∷ frame i))
      ∙ ap (λ (r : Records). log_of generation snapshot (joined bodies r)) (framed place body rest some fits)

  -- its header goes on to say what it says
  pub header_kept : (c : List ℕ) → take place c ≡ take place bytes → place < length c → opening_of c ≡ opening_of bytes
  header_kept c same long =
      ap (λ (h : List ℕ). opening h (length c)) (take_less 26 place bytes c (omega (arith, above)) same)
      ∙ opened_at (take 26 bytes) (length bytes) (length c) generation p.size p.header (omega (arith, above))
      ∙ sym p.header
