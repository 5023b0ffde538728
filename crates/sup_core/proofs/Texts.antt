-- The names of sequences and of their replicas are ids of tasks, whatever the numbers of 32 bits in them.
use Rattle.std.proofs.Common.{◌&&◌, ◌+◌, ◌++◌, ◌<◌, ◌==◌, ◌^◌, ◌∷◌, ◌≡◌, ◌≤◌, List, [], arith, length, length-append, nat_le, suc, true, ℕ}
use Rattle.std.specs.Prelude.{decimal}
use Rattle.std.specs.List.{list_all}
use Rattle.std.specs.Str.{IsAscii, is_utf8}
use Rattle.std.proofs.lemmas.Bool.{and_from, and_parts, or_left}
use Rattle.std.proofs.lemmas.Bool.Decides.{nat_tests}
use Rattle.std.proofs.lemmas.Fmt.{IsAscii-decimal, length-decimal-le}
use Rattle.std.proofs.lemmas.Str.{IsAscii-append, IsUtf8-from_ascii, is_utf8-from_IsUtf8}
use Rattle.std.proofs.lemmas.Str.Ascii.{IsAscii-cons, IsAscii-nil}
use Rattle.seg_names.specs.Names.{is_name, is_name_byte, is_task_id}
use Rattle.book_rows.specs.Form.{is_submit_byte}
use Rattle.book_rows.specs.Names.{replica_name, sequence_name, sup_prefix}
use Rattle.laws_locks.proofs.Lists.{pass_weaker}
use Rattle.laws_locks.proofs.Submitting.{text_is_ascii}

-- an ASCII text of at most so many bytes
record IsShort (limit : ℕ) (text : List ℕ) : Type 0 where
  ascii : IsAscii text
  short : length text ≤ limit

name_is_short : (source : List ℕ) → is_name source ≡ true → IsShort 200 source
name_is_short source h =
    let both = and_parts (nat_le 1 (length source) && nat_le (length source) 200) (list_all is_name_byte source) h in
    let lengths = and_parts (nat_le 1 (length source)) (nat_le (length source) 200) both.0 in
    record {
      ascii = text_is_ascii source (pass_weaker is_name_byte is_submit_byte (λ x e. or_left (is_name_byte x) (x == 58) e) source both.1);
      short = at_most (length source) lengths.1;
    } where
      at_most : (n : ℕ) → nat_le n 200 ≡ true → n ≤ 200
      at_most n h = grind (arith, nat_tests)

number_is_short : (n : ℕ) → n < 2 ^ 32 → IsShort 10 (decimal n)
number_is_short n h = record { ascii = IsAscii-decimal n (wide n h); short = length-decimal-le 10 n (omega arith) (ten n h) (wide n h) } where
  wide : (n : ℕ) → n < 2 ^ 32 → n < 2 ^ 64
  wide n h = omega arith

  ten : (n : ℕ) → n < 2 ^ 32 → n < 10 ^ 10
  ten n h = omega arith

both_short : (a b : ℕ) (xs ys : List ℕ) → IsShort a xs → IsShort b ys → IsShort (a + b) (xs ++ ys)
both_short a b xs ys h k = record { ascii = IsAscii-append xs ys h.ascii k.ascii; short = rw (length-append xs ys) (sum (length xs) (length ys) a b h.short k.short) } where
  sum : (m n a b : ℕ) → m ≤ a → n ≤ b → m + n ≤ a + b
  sum m n a b h k = omega arith

colon_then : (a : ℕ) (xs : List ℕ) → IsShort a xs → IsShort (1 + a) (58 ∷ xs)
colon_then a xs h = record { ascii = IsAscii-cons 58 xs (omega arith) h.ascii; short = more (length xs) a h.short } where
  more : (n a : ℕ) → n ≤ a → suc n ≤ 1 + a
  more n a h = omega arith

prefix_is_short : IsShort 4 sup_prefix
prefix_is_short = record {
  ascii = IsAscii-cons 115 (117 ∷ 112 ∷ 58 ∷ []) (omega arith) (IsAscii-cons 117 (112 ∷ 58 ∷ []) (omega arith) (IsAscii-cons 112 (58 ∷ []) (omega arith) (IsAscii-cons 58 [] (omega arith) IsAscii-nil)));
  short = omega arith;
}

sequence_is_short : (s : List ℕ) (g i : ℕ) → is_name s ≡ true → g < 2 ^ 32 → i < 2 ^ 32 → IsShort 226 (sequence_name s g i)
sequence_is_short s g i n a b =
    both_short 4 222 sup_prefix (s ++ 58 ∷ (decimal g ++ 58 ∷ decimal i)) prefix_is_short
    (both_short 200 22 s (58 ∷ (decimal g ++ 58 ∷ decimal i)) (name_is_short s n)
    (colon_then 21 (decimal g ++ 58 ∷ decimal i) (both_short 10 11 (decimal g) (58 ∷ decimal i) (number_is_short g a) (colon_then 10 (decimal i) (number_is_short i b)))))

id_from : (text : List ℕ) → IsShort 255 text → 1 ≤ length text → is_task_id text ≡ true
id_from text h low =
    and_from (nat_le 1 (length text) && nat_le (length text) 255) (is_utf8 text) (within (length text) low h.short) (is_utf8-from_IsUtf8 text (IsUtf8-from_ascii text h.ascii)) where
      within : (n : ℕ) → 1 ≤ n → n ≤ 255 → (nat_le 1 n && nat_le n 255) ≡ true
      within n h k = grind (arith, nat_tests)

shorter : (a b : ℕ) (text : List ℕ) → a ≤ b → IsShort a text → IsShort b text
shorter a b text le h = record { ascii = h.ascii; short = up (length text) a b h.short le } where
  up : (n a b : ℕ) → n ≤ a → a ≤ b → n ≤ b
  up n a b h k = omega arith

pub sequence_is_id : (s : List ℕ) (g i : ℕ) → is_name s ≡ true → g < 2 ^ 32 → i < 2 ^ 32 → is_task_id (sequence_name s g i) ≡ true
sequence_is_id s g i n a b = id_from (sequence_name s g i) (shorter 226 255 (sequence_name s g i) (omega arith) (sequence_is_short s g i n a b)) (some (s ++ 58 ∷ (decimal g ++ 58 ∷ decimal i))) where
  some : (rest : List ℕ) → 1 ≤ length (sup_prefix ++ rest)
  some rest = omega arith

pub replica_is_id : (s : List ℕ) (g i k : ℕ) → is_name s ≡ true → g < 2 ^ 32 → i < 2 ^ 32 → k < 2 ^ 32 → is_task_id (replica_name (sequence_name s g i) k) ≡ true
replica_is_id s g i k n a b c =
    id_from (replica_name (sequence_name s g i) k)
    (shorter 237 255 (replica_name (sequence_name s g i) k) (omega arith) (both_short 226 11 (sequence_name s g i) (58 ∷ decimal k) (sequence_is_short s g i n a b) (colon_then 10 (decimal k) (number_is_short k c))))
    (some (s ++ 58 ∷ (decimal g ++ 58 ∷ decimal i))) where
      some : (rest : List ℕ) → 1 ≤ length ((sup_prefix ++ rest) ++ 58 ∷ decimal k)
      some rest = omega arith
