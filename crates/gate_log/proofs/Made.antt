-- What a stop leaves while a log is made.
use Rattle.std.proofs.Common.{◌≡◌, ◌⊎◌, inl, inr, ⊎_elim, ℕ, ◌+◌, ◌^◌, ◌<◌, ◌≤◌, Bool, true, false, ◌||◌, List, [], ◌∷◌, ◌++◌, length, take, drop, get_or, refl, sym, ◌∙◌, ap, subst, arith, length-drop, length-append, length-take, append_assoc, take-append-drop}
use Rattle.std.specs.Prelude.{nat_le, ◌==◌}
use Rattle.std.specs.Str.{bytes_eq}
use Rattle.std.proofs.lemmas.Bool.{cases_eq, cases_lt, le-leb, lt-leb, eq-eqb, ne_eqb, or_left, or_right}
use Rattle.std.proofs.lemmas.List.{take_at, drop_at, drop_all, take_all, append-nil, take-take, drop-take, get_or-take, drop-drop, length-take-le, drop_more, drop-append-le}
use Rattle.std.proofs.lemmas.Slice.Eq.{bytes_eq-Decides}
use Rattle.host_desk.specs.Desk.{Desk, Torn, Cut, Holds, Same, Stays, Changes}
use Rattle.host_desk.specs.Since.{IsSettled, Touches}
use Rattle.host_desk.proofs.Moments.{touches_then, touches_weaken, touches_one, touches_change, touches_stays}
use Rattle.gate_log.specs.Numbers.{bytes_64, number_64}
use Rattle.gate_log.specs.Format.{says, says_after, log_of, Opening, opening, opening_of, absent, corrupt, opened, is_corrupt, is_log, is_absent, has_magic, magic, new_file, records_from}
use Rattle.gate_log.specs.Log.{Mark, Describes, new_log}
use Rattle.gate_log.specs.Making.{CanBeMade, IsKept, IsSameOrAbsent, IsAbsent, IsAbsentOr, IsFilled, IsFilledWith, KeepsFront}
use Rattle.gate_log.proofs.NumberBytes.{length-bytes_64, number-bytes_64}
use Rattle.gate_log.proofs.Records.{part_less}

-- the name and the gate stand in the header
pub magic_take : (c : List ℕ) → has_magic (take 26 c) ≡ has_magic c
magic_take c = ap (λ (l : List ℕ). bytes_eq l magic) (ap (λ (l : List ℕ). take 8 l) (drop-take 1 25 c) ∙ take-take 8 25 (drop 1 c) (omega arith))

first_take : (c : List ℕ) → get_or (take 26 c) 0 0 ≡ get_or c 0 0
first_take c = get_or-take 26 c 0 0 (omega arith)

-- the header's cases
opening_absent : (head : List ℕ) (n : ℕ) → (nat_le n 1 || (get_or head 0 0 == 0)) ≡ true → opening head n ≡ absent
opening_absent head n first = rw first

opening_named : (head : List ℕ) (n : ℕ) → (get_or head 0 0 == 1) ≡ false → has_magic head ≡ true → opening head n ≡ absent
opening_named head n one named = by_first (nat_le n 1 || (get_or head 0 0 == 0)) refl
  where
    by_first : (b : Bool) → (nat_le n 1 || (get_or head 0 0 == 0)) ≡ b → opening head n ≡ absent
    by_first true first = rw first
    by_first false first = rw (first, one, named)

opening_unnamed : (head : List ℕ) (n : ℕ) → (nat_le n 1 || (get_or head 0 0 == 0)) ≡ false → (get_or head 0 0 == 1) ≡ true → has_magic head ≡ false → opening head n ≡ corrupt 1
opening_unnamed head n first one named = rw (first, one, named)

opening_opened : (head : List ℕ) (n : ℕ) → (nat_le n 1 || (get_or head 0 0 == 0)) ≡ false → (get_or head 0 0 == 1) ≡ true → has_magic head ≡ true → (get_or head 9 0 == 1) ≡ true → nat_le n (26 + number_64 (take 8 (drop 18 head))) ≡ false → opening head n ≡ opened (number_64 (take 8 (drop 10 head))) (number_64 (take 8 (drop 18 head)))
opening_opened head n first one named nine long = rw (first, one, named, nine, long)

none_of : (c : List ℕ) → opening (take 26 c) (length c) ≡ absent → says c ≡ is_absent
none_of c is = ap (λ (o : Opening). says_after o c) is

pub absent_short : (c : List ℕ) → length c ≤ 1 → says c ≡ is_absent
absent_short c short = none_of c (opening_absent (take 26 c) (length c) (or_left (nat_le (length c) 1) (get_or (take 26 c) 0 0 == 0) (le-leb (length c) 1 short)))

pub absent_zero : (c : List ℕ) → get_or c 0 0 ≡ 0 → says c ≡ is_absent
absent_zero c is = none_of c (opening_absent (take 26 c) (length c) (or_right (nat_le (length c) 1) (get_or (take 26 c) 0 0 == 0) (eq-eqb _ _ (first_take c ∙ is))))

pub absent_named : (c : List ℕ) → (get_or c 0 0 ≡ 1 → ⊥) → has_magic c ≡ true → says c ≡ is_absent
absent_named c shut named = none_of c (opening_named (take 26 c) (length c) (ne_eqb (get_or (take 26 c) 0 0) 1 (λ one. shut (sym (first_take c) ∙ one))) (magic_take c ∙ named))

-- an open file of more than a byte in which a log may be made has the name
pub open_named : (c : List ℕ) → CanBeMade c → 1 < length c → get_or c 0 0 ≡ 1 → has_magic c ≡ true
open_named c (inr named) long one = named
open_named c (inl is) long one = by_magic (has_magic (take 26 c)) refl
  where
    first : (nat_le (length c) 1 || (get_or (take 26 c) 0 0 == 0)) ≡ false
    first = rw (lt-leb (length c) 1 long, ne_eqb (get_or (take 26 c) 0 0) 0 (λ zero. absurd (let same = first_take c in omega arith)))

    by_magic : (b : Bool) → has_magic (take 26 c) ≡ b → has_magic c ≡ true
    by_magic true named = sym (magic_take c) ∙ named
    by_magic false named = absurd (let fault : says c ≡ is_corrupt 1 = ap (λ (o : Opening). says_after o c) (opening_unnamed (take 26 c) (length c) first (eq-eqb _ _ (first_take c ∙ one)) named) in cc)

first_same : (k : ℕ) (bytes c : List ℕ) → 0 < k → take k c ≡ take k bytes → get_or c 0 0 ≡ get_or bytes 0 0
first_same k bytes c some same = sym (get_or-take k c 0 0 some) ∙ ap (λ (l : List ℕ). get_or l 0 0) same ∙ get_or-take k bytes 0 0 some

-- a file that has what is kept of another is absent
pub absent_kept : (kept : ℕ) (bytes c : List ℕ) → IsKept kept bytes → take kept c ≡ take kept bytes → says c ≡ is_absent
absent_kept kept bytes c is same = ⊎_elim (λ f. absent_zero c (first_same kept bytes c (omega (arith, f.0)) same ∙ f.1))
    (λ f. absent_named c (λ one. f.1 (sym (first_same kept bytes c (omega (arith, f.0)) same) ∙ one)) (ap (λ (l : List ℕ). bytes_eq l magic) (part_less 1 8 kept bytes c (omega (arith, f.0)) same) ∙ f.2)) is.front

whole_of : (c : List ℕ) → 0 < length c → c ≡ get_or c 0 0 ∷ drop 1 c
whole_of c some = drop_more c 0 0 some

-- a torn write of 0 over the first byte
pub shut_torn : (bytes c : List ℕ) → CanBeMade bytes → (length bytes ≤ 1) ⊎ (get_or bytes 0 0 ≡ 1) → Torn 0 1 bytes c → IsSameOrAbsent bytes c
shut_torn bytes c can first torn = ⊎_elim short (λ long. ⊎_elim short (opened_before long) first) (cases_lt' (length bytes))
  where
    cases_lt' : (n : ℕ) → (n ≤ 1) ⊎ (1 < n)
    cases_lt' n = ⊎_elim (λ more. inr more) (λ less. inl less) (cases_lt 1 n)

    short : length bytes ≤ 1 → IsSameOrAbsent bytes c
    short le = inr (absent_short c (omega (arith, torn.no_longer)))

    opened_before : 1 < length bytes → get_or bytes 0 0 ≡ 1 → IsSameOrAbsent bytes c
    opened_before long one = elim (cases_eq (get_or c 0 0) 1) [
      | inl same ↦ inl (whole_of c (omega (arith, torn.no_shorter)) ∙ (λ i. (same ∙ sym one) i ∷ torn.after i) ∙ sym (whole_of bytes (omega arith)))
      | inr shut ↦ inr (absent_named c shut (ap (λ (l : List ℕ). bytes_eq (take 8 l) magic) torn.after ∙ open_named bytes can long one))
    ]

pub shut_kept : (bytes new : List ℕ) → Holds bytes 0 (0 ∷ []) new → IsKept 1 new
shut_kept bytes new holds = record { there = omega (arith, ap length holds); front = inl (refl, ap (λ (l : List ℕ). get_or l 0 0) holds) }

-- after a cut, or a write behind what is kept
pub cut_kept : (kept : ℕ) (bytes c : List ℕ) → IsKept kept bytes → Cut kept bytes c → says c ≡ is_absent
cut_kept kept bytes c is cut = absent_kept kept bytes c is cut.before

pub torn_kept : (kept n : ℕ) (bytes d c : List ℕ) → IsKept kept bytes → Cut kept bytes d → Torn kept n d c → says c ≡ is_absent
torn_kept kept n bytes d c is cut torn = absent_kept kept bytes c is (torn.before ∙ cut.before)

pub filled : (kept : ℕ) (bytes mid rest new : List ℕ) → kept ≤ length bytes → mid ≡ take kept bytes → Holds mid kept rest new → new ≡ take kept bytes ++ rest
filled kept bytes mid rest new le cut holds =
    let size : length mid ≡ kept = ap length cut ∙ length-take-le kept bytes le in
    holds
    ∙ ap (λ (l : List ℕ). l ++ rest ++ drop (kept + length rest) mid) (take_all kept mid (omega arith) ∙ cut)
    ∙ ap (λ (l : List ℕ). take kept bytes ++ rest ++ l) (drop_all (kept + length rest) mid (omega arith))
    ∙ append-nil (take kept bytes ++ rest)

-- the gate over a whole new file
pub gate_torn : (bytes c : List ℕ) → IsFilled bytes → Torn 0 1 bytes c → IsAbsentOr (1 ∷ drop 1 bytes) c
gate_torn bytes c is torn = elim (cases_eq (get_or c 0 0) 1) [
  | inl one ↦ inr (whole ∙ ap (λ (g : ℕ). g ∷ drop 1 bytes) one)
  | inr shut ↦ inl (absent_named c shut (ap (λ (l : List ℕ). bytes_eq (take 8 l) magic) torn.after ∙ is.named))
]
  where
    whole : c ≡ get_or c 0 0 ∷ drop 1 bytes
    whole = whole_of c (omega (arith, torn.no_shorter, is.some)) ∙ ap (λ (l : List ℕ). get_or c 0 0 ∷ l) torn.after

-- a new file is a log without records
module _ (generation : ℕ) (snapshot : List ℕ) (generation_fits : generation < 2 ^ 64) (length_fits : length snapshot < 2 ^ 64) where
  abbrev generation_field : List ℕ
  generation_field = bytes_64 generation

  abbrev length_field : List ℕ
  length_field = bytes_64 (length snapshot)

  -- what follows the format
  abbrev tail : List ℕ
  tail = generation_field ++ length_field ++ snapshot ++ 0 ∷ []

  tail_split : tail ≡ generation_field ++ (length_field ++ (snapshot ++ 0 ∷ []))
  tail_split = append_assoc (generation_field ++ length_field) snapshot (0 ∷ []) ∙ append_assoc generation_field length_field (snapshot ++ 0 ∷ [])

  behind_generation : drop 8 tail ≡ length_field ++ (snapshot ++ 0 ∷ [])
  behind_generation = ap (λ (b : List ℕ). drop 8 b) tail_split ∙ drop_at generation_field (length_field ++ (snapshot ++ 0 ∷ [])) 8 (length-bytes_64 generation)

  behind_length : drop 16 tail ≡ snapshot ++ 0 ∷ []
  behind_length = sym (drop-drop 8 8 tail) ∙ ap (λ (b : List ℕ). drop 8 b) behind_generation ∙ drop_at length_field (snapshot ++ 0 ∷ []) 8 (length-bytes_64 (length snapshot))

  generation_there : take 8 (take 16 tail) ≡ generation_field
  generation_there = take-take 8 16 tail (omega arith) ∙ ap (λ (b : List ℕ). take 8 b) tail_split ∙ take_at generation_field (length_field ++ (snapshot ++ 0 ∷ [])) 8 (length-bytes_64 generation)

  length_there : take 8 (drop 8 (take 16 tail)) ≡ length_field
  length_there = ap (λ (b : List ℕ). take 8 b) (drop-take 8 8 tail) ∙ take-take 8 8 (drop 8 tail) (omega arith) ∙ ap (λ (b : List ℕ). take 8 b) behind_generation ∙ take_at length_field (snapshot ++ 0 ∷ []) 8 (length-bytes_64 (length snapshot))

  length-tail : length tail ≡ 17 + length snapshot
  length-tail = omega (arith, ap length tail_split, length-append generation_field (length_field ++ (snapshot ++ 0 ∷ [])), length-append length_field (snapshot ++ 0 ∷ []), length-append snapshot (0 ∷ []), length-bytes_64 generation, length-bytes_64 (length snapshot))

  abbrev file : List ℕ
  file = new_file generation snapshot

  length_is_there : number_64 (take 8 (drop 18 (take 26 file))) ≡ length snapshot
  length_is_there = ap number_64 length_there ∙ number-bytes_64 (length snapshot) length_fits

  pub opening_new : opening_of (new_file generation snapshot) ≡ opened generation (length snapshot)
  opening_new =
      opening_opened (take 26 file) (length file) (or_false (nat_le (length file) 1) (lt-leb (length file) 1 (omega (arith, length-tail)))) refl refl refl (lt-leb (length file) (26 + number_64 (take 8 (drop 18 (take 26 file)))) (omega (arith, length-tail, length_is_there)))
      ∙ (λ i. opened ((ap number_64 generation_there ∙ number-bytes_64 generation generation_fits) i) (length_is_there i))
    where
      or_false : (b : Bool) → b ≡ false → (b || false) ≡ false
      or_false b is = rw is

  snapshot_there : take (length snapshot) (drop 26 file) ≡ snapshot
  snapshot_there = ap (λ (b : List ℕ). take (length snapshot) b) behind_length ∙ take_at snapshot (0 ∷ []) (length snapshot) refl

  gate_there : drop (26 + length snapshot) file ≡ 0 ∷ []
  gate_there = sym (drop-drop (length snapshot) 26 file) ∙ ap (λ (b : List ℕ). drop (length snapshot) b) behind_length ∙ drop_at snapshot (0 ∷ []) (length snapshot) refl

  pub length_new : length (new_file generation snapshot) ≡ 27 + length snapshot
  length_new = omega (arith, length-tail)

  -- a new file says a log without records
  pub says_new : says (new_file generation snapshot) ≡ is_log generation snapshot [] (26 + length snapshot)
  says_new =
      ap (λ (o : Opening). says_after o file) opening_new
      ∙ ap (λ (s : List ℕ). log_of generation s (records_from (26 + length snapshot) 0 (drop (26 + length snapshot) file))) snapshot_there
      ∙ ap (λ (b : List ℕ). log_of generation snapshot (records_from (26 + length snapshot) 0 b)) gate_there

  pub describes_new : (at limit : ℕ) (log : Mark) (bytes : List ℕ) → log ≡ new_log at generation (length snapshot) limit → bytes ≡ new_file generation snapshot → Describes log bytes
  describes_new at limit log bytes is made = subst (λ (b : List ℕ). Describes log b) (sym made) (subst (λ (m : Mark). Describes m (new_file generation snapshot)) (sym is) (record { header = opening_new; length_is = sym length_new; there = omega (arith, length_new) }))

opening_other : (head : List ℕ) (n : ℕ) → (nat_le n 1 || (get_or head 0 0 == 0)) ≡ false → (get_or head 0 0 == 1) ≡ false → has_magic head ≡ false → opening head n ≡ corrupt 0
opening_other head n first one named = rw (first, one, named)

-- a longer file in which a log may be made has the name, too, where its gate is neither 0 nor 1
pub other_named : (c : List ℕ) → CanBeMade c → 1 < length c → (get_or c 0 0 ≡ 0 → ⊥) → (get_or c 0 0 ≡ 1 → ⊥) → has_magic c ≡ true
other_named c (inr named) long not_zero one = named
other_named c (inl is) long not_zero one = by_magic (has_magic (take 26 c)) refl
  where
    first : (nat_le (length c) 1 || (get_or (take 26 c) 0 0 == 0)) ≡ false
    first = rw (lt-leb (length c) 1 long, ne_eqb (get_or (take 26 c) 0 0) 0 (λ is. not_zero (sym (first_take c) ∙ is)))

    by_magic : (b : Bool) → has_magic (take 26 c) ≡ b → has_magic c ≡ true
    by_magic true named = sym (magic_take c) ∙ named
    by_magic false named = absurd (let fault : says c ≡ is_corrupt 0 = ap (λ (o : Opening). says_after o c) (opening_other (take 26 c) (length c) first (ne_eqb (get_or (take 26 c) 0 0) 1 (λ is. one (sym (first_take c) ∙ is))) named) in cc)

named_long : (c : List ℕ) → has_magic c ≡ true → 9 ≤ length c
named_long c named =
    let is : take 8 (drop 1 c) ≡ magic = (bytes_eq-Decides (take 8 (drop 1 c)) magic).0 named in
    omega (arith, ap length is, length-take 8 (drop 1 c), length-drop 1 c)

-- what is kept of a file that needs no shutting
pub kept_front : (bytes : List ℕ) (kept : ℕ) → CanBeMade bytes → KeepsFront bytes kept → (kept ≡ 1) ⊎ (kept ≡ 9) → IsKept kept bytes
kept_front bytes kept can keeps (inl one) = record { there = omega (arith, (keeps.one one).0); front = inl (one, (keeps.one one).1) }
kept_front bytes kept can keeps (inr nine) =
    let f = keeps.nine nine in
    let named = other_named bytes can f.0 f.1 f.2 in
    record { there = omega (arith, named_long bytes named); front = inr (nine, f.2, named) }

-- the steps on a host
module _ (file : ℕ) (old : Desk) (four : file < 4) (settled : IsSettled old file) where
  pub stays_same : (mid : Desk) → Stays old mid → Touches file (IsSameOrAbsent (old.seen file)) old mid
  stays_same mid stays = touches_stays file _ old mid four stays (λ c left. inl (settled.only c left))

  pub shut_step : (mid new : Desk) → CanBeMade (old.seen file) → KeepsFront (old.seen file) 0 → Stays old mid → Touches file (Torn 0 1 (mid.seen file)) mid new → Touches file (IsSameOrAbsent (old.seen file)) old new
  shut_step mid new can keeps stays run = touches_then file _ _ old mid new (stays_same mid stays) run (λ c torn. shut_torn (old.seen file) c can (keeps.none refl) (subst (λ (b : List ℕ). Torn 0 1 b c) (ap (λ (s : ℕ → List ℕ). s file) stays.seen) torn))

module _ (file kept n : ℕ) (old cut written : Desk) (four : file < 4) (settled : IsSettled old file) (is : IsKept kept (old.seen file)) (cuts : Changes (Cut kept) file old cut) where
  after_cut : (c : List ℕ) → cut.left file c → Cut kept (old.seen file) c
  after_cut c left = let from = cuts.this c left in subst (λ (b : List ℕ). Cut kept b c) (settled.only from.0 from.1) from.2

  pub cut_step : Touches file IsAbsent old cut
  cut_step = touches_one file _ (Cut kept) old cut four cuts (λ c left. cut_kept kept (old.seen file) c is (after_cut c left))

  module _ (writes : Changes (Torn kept n) file cut written) where
    absent_written : (c : List ℕ) → written.left file c → IsAbsent c
    absent_written c left = let from = writes.this c left in torn_kept kept n (old.seen file) from.0 c is (after_cut from.0 from.1) from.2

    pub write_step : Touches file IsAbsent old written
    write_step = touches_change file _ (Torn kept n) old cut written four cut_step writes absent_written

    pub sync_step : (new : Desk) → Changes Same file written new → Touches file IsAbsent old new
    sync_step new syncs = touches_change file _ Same old written new four write_step syncs (λ c left. let from = syncs.this c left in subst IsAbsent (sym from.2) (absent_written from.0 from.1))

pub gate_step : (file : ℕ) (old new : Desk) → IsFilled (old.seen file) → Touches file (Torn 0 1 (old.seen file)) old new → Touches file (IsAbsentOr (1 ∷ drop 1 (old.seen file))) old new
gate_step file old new is run = touches_weaken file _ _ old new run (λ c torn. gate_torn (old.seen file) c is torn)

-- nine bytes kept, and the rest behind the magic
pub filled_nine : (kept : ℕ) (bytes rest new : List ℕ) → kept ≡ 9 → IsKept kept bytes → take 8 rest ≡ magic → new ≡ take 9 bytes ++ drop 8 rest → IsFilledWith rest new
filled_nine kept bytes rest new nine is named filled = ⊎_elim (λ f. absurd (omega arith)) (λ f. by_magic f.2) is.front
  where
    by_magic : has_magic bytes ≡ true → IsFilledWith rest new
    by_magic has =
        let long = named_long bytes has in
        let front : take 8 (drop 1 bytes) ≡ magic = (bytes_eq-Decides (take 8 (drop 1 bytes)) magic).0 has in
        let nine_long : length (take 9 bytes) ≡ 9 = length-take-le 9 bytes long in
        let behind : drop 1 new ≡ rest =
        ap (λ (l : List ℕ). drop 1 l) filled ∙ drop-append-le 1 (take 9 bytes) (drop 8 rest) (omega arith)
        ∙ ap (λ (l : List ℕ). l ++ drop 8 rest) (drop-take 1 8 bytes ∙ front ∙ sym named) ∙ take-append-drop 8 rest in
        record {
          filled = record { some = omega (arith, ap length filled, length-append (take 9 bytes) (drop 8 rest)); named = ap (λ (l : List ℕ). bytes_eq l magic) (ap (λ (l : List ℕ). take 8 l) behind ∙ named) };
          behind = behind;
        }
