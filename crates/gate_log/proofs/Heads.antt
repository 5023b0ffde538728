-- What a record's head says.
use Rattle.std.proofs.Common.{◌≡◌, ◌⊎◌, inl, inr, ⊎_elim, ℕ, ◌+◌, ◌<◌, ◌≤◌, true, false, List, [], ◌∷◌, ◌++◌, length, take, drop, get_or, refl, sym, ◌∙◌, ap, arith, length-drop, subst}
use Rattle.std.specs.Prelude.{nat_lt}
use Rattle.std.proofs.lemmas.Bool.{and_left, and_right, le-ltb, cases_eq}
use Rattle.std.proofs.lemmas.List.{drop_more, drop-drop, append-nil, drop_all, get_or-take, get_or-drop, take_at, length-take-le}
use Rattle.gate_log.specs.Numbers.{number_32}
use Rattle.gate_log.specs.Format.{records_from, is_whole_frame, records_at, ends_here, is_torn_here}
use Rattle.gate_log.specs.Reading.{FillsAll, HasFrame, HasBody}
use Rattle.gate_log.proofs.Records.{at_closed, at_open, at_torn, whole_from, first_body, more_from, skip, body_first}

-- a piece that the file fills
pub fills_whole : (bytes : List ℕ) (at : ℕ) (old new : List ℕ) (n : ℕ) → FillsAll bytes at old new n → length old ≤ n → new ≡ take n (drop at bytes)
fills_whole bytes at old new n fills all = fills.filled ∙ ap (λ (l : List ℕ). take n (drop at bytes) ++ l) (drop_all n old all) ∙ append-nil (take n (drop at bytes))

-- its first byte
pub gate_is : (bytes : List ℕ) (place : ℕ) (old new : List ℕ) (n : ℕ) → length old ≡ 1 → place < length bytes → FillsAll bytes place old new n → get_or new 0 0 ≡ get_or bytes place 0
gate_is bytes place old new n one there fills =
    let some : 1 ≤ n = ⊎_elim (λ all. omega arith) (λ all. omega arith) fills.all in
    ap (λ (l : List ℕ). get_or l 0 0) (fills_whole bytes place old new n fills (omega arith)) ∙ get_or-take n (drop place bytes) 0 0 (omega arith) ∙ get_or-drop place bytes 0 0 ∙ (let same : place + 0 ≡ place = omega arith in ap (λ (k : ℕ). get_or bytes k 0) same)

at_gate : (bytes : List ℕ) (place : ℕ) → place < length bytes → records_at bytes place ≡ records_from place 0 (get_or bytes place 0 ∷ drop (place + 1) bytes)
at_gate bytes place there = ap (λ (l : List ℕ). records_from place 0 l) (drop_more bytes place 0 there)

pub head_closed : (bytes : List ℕ) (place : ℕ) → place < length bytes → (get_or bytes place 0 ≡ 1 → ⊥) → records_at bytes place ≡ ends_here place
head_closed bytes place there shut = at_gate bytes place there ∙ at_closed place (get_or bytes place 0) (drop (place + 1) bytes) shut

-- no whole frame: no byte of length, or too few bytes
pub head_torn : (bytes : List ℕ) (place : ℕ) → place < length bytes → get_or bytes place 0 ≡ 1 → (number_32 (take 4 (drop (place + 1) bytes)) ≤ 0) ⊎ (length bytes ≤ place + 5 + number_32 (take 4 (drop (place + 1) bytes))) → records_at bytes place ≡ is_torn_here place
head_torn bytes place there one bad =
    let rest = drop (place + 1) bytes in
    let no : is_whole_frame rest ≡ false = ⊎_elim
    (λ none. and_left (nat_lt 0 (number_32 (take 4 rest))) (nat_lt (4 + number_32 (take 4 rest)) (length rest)) (le-ltb _ _ none))
    (λ short. and_right (nat_lt 0 (number_32 (take 4 rest))) (nat_lt (4 + number_32 (take 4 rest)) (length rest)) (le-ltb _ _ (omega (arith, length-drop (place + 1) bytes)))) bad in
    at_gate bytes place there ∙ ap (λ (g : ℕ). records_from place 0 (g ∷ rest)) one ∙ at_torn place rest no

pub head_next : (bytes : List ℕ) (place size : ℕ) (body : List ℕ) → HasFrame bytes place size → body ≡ take size (drop (place + 5) bytes) → HasBody bytes place size body
head_next bytes place size body frame is =
    let rest = drop (place + 1) bytes in
    let sizes : number_32 (take 4 rest) ≡ size = frame.size_is in
    let whole : is_whole_frame rest ≡ true = whole_from rest (omega (arith, frame.some)) (omega (arith, frame.fits, length-drop (place + 1) bytes)) in
    let first : first_body rest ≡ body = ap (λ (k : ℕ). take k (drop 4 rest)) sizes ∙ ap (λ (l : List ℕ). take size l) (drop-drop 4 (place + 1) bytes ∙ (let same : place + 1 + 4 ≡ place + 5 = omega arith in ap (λ (k : ℕ). drop k bytes) same)) ∙ sym is in
    let same : place + 1 + (4 + size) ≡ place + 5 + size = omega arith in
    let on : more_from place rest ≡ records_at bytes (place + 5 + size) =
    ap (λ (k : ℕ). records_from (place + 1) (4 + k) rest) sizes ∙ skip (place + 1) (4 + size) rest (omega (arith, frame.fits, length-drop (place + 1) bytes))
    ∙ ap (λ (l : List ℕ). records_from (place + 1 + (4 + size)) 0 l) (drop-drop (4 + size) (place + 1) bytes) ∙ ap (λ (k : ℕ). records_from k 0 (drop k bytes)) same in
    let all : records_at bytes place ≡ body_first body (records_at bytes (place + 5 + size)) =
    at_gate bytes place (omega (arith, frame.fits)) ∙ ap (λ (g : ℕ). records_from place 0 (g ∷ rest)) frame.is_open ∙ at_open place rest whole ∙ (λ i. body_first (first i) (on i)) in
    let size_is : length body ≡ size = ap length is ∙ length-take-le size (drop (place + 5) bytes) (omega (arith, length-drop (place + 5) bytes, frame.fits)) in
    record { here = all; inside = frame.fits; size_is = size_is }

-- what two reads of a head show
module _ (bytes later : List ℕ) (place : ℕ) (gate number : List ℕ) (n count body : ℕ) (same : later ≡ bytes) (there : place < length bytes) (fills : FillsAll bytes place (0 ∷ []) gate n) (one : get_or gate 0 0 ≡ 1)
    (more : FillsAll later (place + 1) (0 ∷ 0 ∷ 0 ∷ 0 ∷ []) number count) (is : body ≡ number_32 number) where
  opened_there : get_or bytes place 0 ≡ 1
  opened_there = sym (gate_is bytes place (0 ∷ []) gate n refl there fills) ∙ one

  more_there : FillsAll bytes (place + 1) (0 ∷ 0 ∷ 0 ∷ 0 ∷ []) number count
  more_there = subst (λ (b : List ℕ). FillsAll b (place + 1) (0 ∷ 0 ∷ 0 ∷ 0 ∷ []) number count) same more

  number_is : count ≡ 4 → number_32 (take 4 (drop (place + 1) bytes)) ≡ body
  number_is four = sym (is ∙ ap number_32 (fills_whole bytes (place + 1) (0 ∷ 0 ∷ 0 ∷ 0 ∷ []) number count more_there (omega arith)) ∙ ap (λ (k : ℕ). number_32 (take k (drop (place + 1) bytes))) four)

  pub frame_there : count ≡ 4 → 0 < body → place + 5 + body < length bytes → HasFrame bytes place body
  frame_there four some fits = record { is_open = opened_there; size_is = number_is four; some = some; fits = fits }

  pub torn_there : count ≤ 4 → place + 7 ≤ length bytes → (count < 4) ⊎ ((body ≡ 0) ⊎ (length bytes ≤ place + 5 + body)) → records_at bytes place ≡ is_torn_here place
  torn_there within long bad = ⊎_elim (λ few. absurd (⊎_elim (λ all. let l : 4 ≤ count = all in omega arith) (λ all. omega arith) more_there.all))
      (λ b. by_count (cases_eq count 4) b) bad
    where
      by_count : (count ≡ 4) ⊎ (count ≡ 4 → ⊥) → (body ≡ 0) ⊎ (length bytes ≤ place + 5 + body) → records_at bytes place ≡ is_torn_here place
      by_count (inl four) b = let m = number_is four in head_torn bytes place there opened_there (⊎_elim (λ zero_is. inl (omega arith)) (λ short. inr (omega arith)) b)
      by_count (inr few) b = absurd (⊎_elim (λ all. let l : 4 ≤ count = all in omega arith) (λ all. omega arith) more_there.all)

-- a body that was read whole, in the vector that it was read into
pub body_is : (bytes : List ℕ) (at size n len : ℕ) (old new items : List ℕ) → FillsAll bytes at old new n → length old ≡ size → n ≤ length old → at + size ≤ length bytes → len ≡ size → take len (new ++ drop (length new) items) ≡ take size (drop at bytes)
body_is bytes at size n len old new items fills is within there same =
    let all : n ≡ size = ⊎_elim (λ whole. let l : length old ≤ n = whole in omega arith) (λ rest. omega arith) fills.all in
    let new_is : new ≡ take size (drop at bytes) = fills_whole bytes at old new n fills (omega arith) ∙ ap (λ (k : ℕ). take k (drop at bytes)) all in
    let long : length new ≡ len = ap length new_is ∙ length-take-le size (drop at bytes) (omega (arith, length-drop at bytes)) ∙ sym same in
    take_at new (drop (length new) items) len long ∙ new_is
