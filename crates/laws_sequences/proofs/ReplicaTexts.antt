-- The ids and names that the program makes itself are ids of tasks.
use Rattle.std.proofs.Common.{◌≡◌, ℕ, suc, ◌+◌, ◌<◌, ◌≤◌, ◌^◌, true, ◌==◌, ◌&&◌, List, [], ◌∷◌, ◌++◌, arith, length, nat_le, length-append}
use Rattle.std.specs.Prelude.{decimal}
use Rattle.std.specs.List.{list_all}
use Rattle.std.specs.Str.{IsAscii, is_utf8}
use Rattle.std.proofs.lemmas.Bool.{and_from, and_parts, or_left}
use Rattle.std.proofs.lemmas.Bool.Decides.{nat_tests}
use Rattle.std.proofs.lemmas.Fmt.{IsAscii-decimal, length-decimal-le}
use Rattle.std.proofs.lemmas.Str.{IsAscii-append, IsUtf8-from_ascii, is_utf8-from_IsUtf8}
use Rattle.std.proofs.lemmas.Str.Ascii.{IsAscii-cons, IsAscii-nil}
use Rattle.seg_names.specs.Names.{is_name, is_name_byte, is_task_id}
use Rattle.book_rows.specs.Form.{is_submit_byte}
use Rattle.book_rows.specs.Names.{replica_name, sequence_name, sup_prefix}
use Rattle.laws_locks.proofs.Lists.{pass_weaker}
use Rattle.laws_locks.proofs.Submitting.{text_is_ascii}

-- ---- their bytes

name_is_ascii : (source : List ℕ) → is_name source ≡ true → IsAscii source
name_is_ascii source h =
    let bytes = (and_parts (nat_le 1 (length source) && nat_le (length source) 200) (list_all is_name_byte source) h).1 in
    text_is_ascii source (pass_weaker is_name_byte is_submit_byte (λ x e. or_left (is_name_byte x) (x == 58) e) source bytes)

colon_then : (text : List ℕ) → IsAscii text → IsAscii (58 ∷ text)
colon_then text h = IsAscii-cons 58 text (omega arith) h

prefix_is_ascii : IsAscii sup_prefix
prefix_is_ascii = IsAscii-cons 115 (117 ∷ 112 ∷ 58 ∷ []) (omega arith) (IsAscii-cons 117 (112 ∷ 58 ∷ []) (omega arith) (IsAscii-cons 112 (58 ∷ []) (omega arith) (colon_then [] IsAscii-nil)))

sequence_is_ascii : (s : List ℕ) (g i : ℕ) → is_name s ≡ true → g < 2 ^ 64 → i < 2 ^ 64 → IsAscii (sequence_name s g i)
sequence_is_ascii s g i n a b =
    IsAscii-append sup_prefix (s ++ 58 ∷ (decimal g ++ 58 ∷ decimal i)) prefix_is_ascii
    (IsAscii-append s (58 ∷ (decimal g ++ 58 ∷ decimal i)) (name_is_ascii s n)
    (colon_then (decimal g ++ 58 ∷ decimal i) (IsAscii-append (decimal g) (58 ∷ decimal i) (IsAscii-decimal g a) (colon_then (decimal i) (IsAscii-decimal i b)))))

-- ---- their lengths

sequence_length : (s : List ℕ) (g i : ℕ) → length (sequence_name s g i) ≡ 4 + (length s + (1 + (length (decimal g) + (1 + length (decimal i)))))
sequence_length s g i =
    rw (length-append s (58 ∷ (decimal g ++ 58 ∷ decimal i)), length-append (decimal g) (58 ∷ decimal i)) (shape (length s) (length (decimal g)) (length (decimal i))) where
      shape : (a b c : ℕ) → suc (suc (suc (suc (a + suc (b + suc c))))) ≡ 4 + (a + (1 + (b + (1 + c))))
      shape a b c = omega arith

name_within : (s : List ℕ) → is_name s ≡ true → length s ≤ 200
name_within s h =
    let lengths = (and_parts (nat_le 1 (length s) && nat_le (length s) 200) (list_all is_name_byte s) h).0 in
    at_most (length s) (and_parts (nat_le 1 (length s)) (nat_le (length s) 200) lengths).1 where
      at_most : (n : ℕ) → nat_le n 200 ≡ true → n ≤ 200
      at_most n h = grind (arith, nat_tests)

-- a group of four digits, an index of ten
sequence_within : (s : List ℕ) (g i : ℕ) → is_name s ≡ true → g < 10 ^ 4 → i < 10 ^ 10 → length (sequence_name s g i) ≤ 220
sequence_within s g i n a b =
    rw (sequence_length s g i) (sum (length s) (length (decimal g)) (length (decimal i)) (name_within s n) (length-decimal-le 4 g (omega arith) a (wide g a)) (length-decimal-le 10 i (omega arith) b (wider i b))) where
      sum : (a b c : ℕ) → a ≤ 200 → b ≤ 4 → c ≤ 10 → 4 + (a + (1 + (b + (1 + c)))) ≤ 220
      sum a b c h k l = omega arith

      wide : (g : ℕ) → g < 10 ^ 4 → g < 2 ^ 64
      wide g h = omega arith

      wider : (i : ℕ) → i < 10 ^ 10 → i < 2 ^ 64
      wider i h = omega arith

-- ---- ids

id_from : (text : List ℕ) → IsAscii text → 1 ≤ length text → length text ≤ 255 → is_task_id text ≡ true
id_from text ascii low high =
    and_from (nat_le 1 (length text) && nat_le (length text) 255) (is_utf8 text) (within (length text) low high) (is_utf8-from_IsUtf8 text (IsUtf8-from_ascii text ascii)) where
      within : (n : ℕ) → 1 ≤ n → n ≤ 255 → (nat_le 1 n && nat_le n 255) ≡ true
      within n h k = grind (arith, nat_tests)

pub sequence_is_id : (s : List ℕ) (g i : ℕ) → is_name s ≡ true → g < 10 ^ 4 → i < 10 ^ 10 → is_task_id (sequence_name s g i) ≡ true
sequence_is_id s g i n a b = id_from (sequence_name s g i) (sequence_is_ascii s g i n (omega arith) (omega arith)) (rw (sequence_length s g i) (omega arith)) (up (length (sequence_name s g i)) (sequence_within s g i n a b)) where
  up : (m : ℕ) → m ≤ 220 → m ≤ 255
  up m h = omega arith

pub replica_is_id : (s : List ℕ) (g i k : ℕ) → is_name s ≡ true → g < 10 ^ 4 → i < 10 ^ 10 → k < 10 ^ 2 → is_task_id (replica_name (sequence_name s g i) k) ≡ true
replica_is_id s g i k n a b c =
    id_from (replica_name (sequence_name s g i) k)
    (IsAscii-append (sequence_name s g i) (58 ∷ decimal k) (sequence_is_ascii s g i n (omega arith) (omega arith)) (colon_then (decimal k) (IsAscii-decimal k (omega arith))))
    (rw (length-append (sequence_name s g i) (58 ∷ decimal k)) (low (length (sequence_name s g i)) (length (decimal k))))
    (rw (length-append (sequence_name s g i) (58 ∷ decimal k)) (high (length (sequence_name s g i)) (length (decimal k)) (sequence_within s g i n a b) (length-decimal-le 2 k (omega arith) c (omega arith)))) where
      low : (a b : ℕ) → 1 ≤ a + suc b
      low a b = omega arith

      high : (a b : ℕ) → a ≤ 220 → b ≤ 2 → a + suc b ≤ 255
      high a b h k = omega arith
