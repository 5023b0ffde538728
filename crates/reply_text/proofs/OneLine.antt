-- A compact JSON text has no byte 10: in a string that byte is escaped.
use Rattle.std.proofs.Common.{◌≡◌, ℕ, zero, suc, ◌+◌, ◌/◌, ◌%◌, ◌<◌, List, [], ◌∷◌, ◌++◌, Bool, true, false, ◌||◌, cond, nat_eq, nat_lt, refl, sym, subst, arith, ℤ, pos, negsuc}
use Rattle.std.specs.Prelude.{◌≢◌, ◌==◌, decimal, flat_map}
use Rattle.std.specs.Char.{digit_char}
use Rattle.std.specs.Fmt.{signed_decimal, digits, digits_onto, digit_glyph}
use Rattle.std.specs.List.{All, AllByRecursion}
use Rattle.std.proofs.lemmas.Bool.Decides.{nat_tests}
use Rattle.std.proofs.lemmas.List.Concat.{flat_map-cons}
use Rattle.std.proofs.lemmas.List.Elements.{All-from_recursion}
use Rattle.json.specs.Print.{escape_letter, escape_byte, escape, quoted}
use Rattle.serde_json.specs.Data.{Num, unsigned, negative, float, Data, null, boolean, number, string, array, object, Items, no_items, item, Members, no_members, member}
use Rattle.serde_json.specs.Written.{number_text, comma_if, compact_text, items_text, members_text}

abbrev Apart : List ℕ → Type 0
Apart = AllByRecursion (λ x. x ≢ 10)

above : (x : ℕ) → 10 < x → x ≢ 10
above x h e = omega (arith, h, e)

apart_append : (xs ys : List ℕ) → Apart xs → Apart ys → Apart (xs ++ ys)
apart_append [] ys h g = g
apart_append (x ∷ xs) ys h g = (h.0, apart_append xs ys h.1 g)

number_by : (b : Bool) (m n : ℕ) → m ≢ 10 → n ≢ 10 → cond b m n ≢ 10
number_by true m n h g = h
number_by false m n h g = g

list_by : (b : Bool) (xs ys : List ℕ) → Apart xs → Apart ys → Apart (cond b xs ys)
list_by true xs ys h g = h
list_by false xs ys h g = g

glyph_apart : (d : ℕ) → digit_glyph false d ≢ 10
glyph_apart d = number_by (nat_lt d 10) (48 + d) (87 + d) (above _ (omega arith)) (above _ (omega arith))

digits_apart : (k n : ℕ) (acc : List ℕ) → Apart acc → Apart (digits_onto k 10 false n acc)
digits_apart zero n acc h = h
digits_apart (suc k) n acc h = list_by (n / 10 == 0) _ _ (glyph_apart (n % 10), h) (digits_apart k (n / 10) (digit_glyph false (n % 10) ∷ acc) (glyph_apart (n % 10), h))

decimal_apart : (n : ℕ) → Apart (decimal n)
unfolding digits
decimal_apart n = digits_apart 64 n [] tt

number_apart : (n : Num) → Apart (number_text n)
number_apart (unsigned n) = decimal_apart n
number_apart (negative (pos n)) = decimal_apart n
number_apart (negative (negsuc n)) = (above 45 (omega arith), decimal_apart (suc n))
number_apart (float x) = tt

letter_apart : (x : ℕ) → x ≢ 10 → escape_letter x ≢ 10
letter_apart x h =
    number_by ((x == 34) || (x == 92)) x _ h
    (number_by (x == 8) 98 _ (above 98 (omega arith))
    (number_by (x == 12) 102 _ (above 102 (omega arith))
    (number_by (x == 10) 110 _ (above 110 (omega arith))
    (number_by (x == 13) 114 _ (above 114 (omega arith))
    (number_by (x == 9) 116 0 (above 116 (omega arith)) (λ e. omega (arith, e)))))))

char_apart : (d : ℕ) → digit_char d ≢ 10
char_apart d = number_by (nat_lt d 10) (48 + d) (87 + d) (above _ (omega arith)) (above _ (omega arith))

other_apart : (x : ℕ) → x ≢ 10 → Apart (escape_byte x)
unfolding escape_byte
other_apart x h =
    list_by (nat_lt 0 (escape_letter x)) (92 ∷ escape_letter x ∷ []) _ (above 92 (omega arith), (letter_apart x h, tt))
    (list_by (nat_lt x 32) (92 ∷ 117 ∷ 48 ∷ 48 ∷ digit_char (x / 16) ∷ digit_char (x % 16) ∷ []) (x ∷ [])
    (above 92 (omega arith), (above 117 (omega arith), (above 48 (omega arith), (above 48 (omega arith), (char_apart (x / 16), (char_apart (x % 16), tt))))))
    (h, tt))

ten_apart : Apart (escape_byte 10)
unfolding escape_byte
ten_apart = (above 92 (omega arith), (above 110 (omega arith), tt))

byte_by : (b : Bool) (x : ℕ) → nat_eq x 10 ≡ b → Apart (escape_byte x)
byte_by true x e = let same : x ≡ 10 = grind (arith, nat_tests) in subst (λ n. Apart (escape_byte n)) (sym same) ten_apart
byte_by false x e = let other : x ≢ 10 = grind (arith, nat_tests) in other_apart x other

escape_apart : (text : List ℕ) → Apart (escape text)
escape_apart [] = tt
escape_apart (x ∷ xs) = subst Apart (sym (flat_map-cons escape_byte x xs)) (apart_append (escape_byte x) (escape xs) (byte_by (nat_eq x 10) x refl) (escape_apart xs))

quoted_apart : (text : List ℕ) → Apart (quoted text)
quoted_apart text = (above 34 (omega arith), apart_append (escape text) (34 ∷ []) (escape_apart text) (above 34 (omega arith), tt))

comma_apart : (later : Bool) → Apart (comma_if later)
comma_apart true = (above 44 (omega arith), tt)
comma_apart false = tt

mutual
  data_apart : (d : Data) → Apart (compact_text d)
  data_apart null = (above 110 (omega arith), (above 117 (omega arith), (above 108 (omega arith), (above 108 (omega arith), tt))))
  data_apart (boolean true) = (above 116 (omega arith), (above 114 (omega arith), (above 117 (omega arith), (above 101 (omega arith), tt))))
  data_apart (boolean false) = (above 102 (omega arith), (above 97 (omega arith), (above 108 (omega arith), (above 115 (omega arith), (above 101 (omega arith), tt)))))
  data_apart (number n) = number_apart n
  data_apart (string s) = quoted_apart s
  data_apart (array ds) = (above 91 (omega arith), items_apart false ds)
  data_apart (object ms) = (above 123 (omega arith), members_apart false ms)

  items_apart : (later : Bool) (ds : Items) → Apart (items_text later ds)
  items_apart later no_items = (above 93 (omega arith), tt)
  items_apart later (item d ds) = apart_append (comma_if later) (compact_text d ++ items_text true ds) (comma_apart later) (apart_append (compact_text d) (items_text true ds) (data_apart d) (items_apart true ds))

  members_apart : (later : Bool) (ms : Members) → Apart (members_text later ms)
  members_apart later no_members = (above 125 (omega arith), tt)
  members_apart later (member k d ms) =
      apart_append (comma_if later) (quoted k ++ 58 ∷ (compact_text d ++ members_text true ms)) (comma_apart later)
      (apart_append (quoted k) (58 ∷ (compact_text d ++ members_text true ms)) (quoted_apart k)
      (above 58 (omega arith), apart_append (compact_text d) (members_text true ms) (data_apart d) (members_apart true ms)))

pub no_line_end : (d : Data) → All (λ x. x ≢ 10) (compact_text d)
no_line_end d = All-from_recursion (λ x. x ≢ 10) (compact_text d) (data_apart d)
