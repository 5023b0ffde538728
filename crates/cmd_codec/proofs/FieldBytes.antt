-- The values of commands read as they are written.
use Rattle.std.proofs.Common.{◌≡◌, ℕ, ℤ, ◌&&◌, Bool, true, false, cond, List, [], ◌∷◌, ◌++◌, Option, Some, None, refl, ap, ap₂, subst, ◌∙◌, append_assoc, arith}
use Rattle.std.specs.Prelude.{int_lt, nat_le, ◌==◌}
use Rattle.std.proofs.lemmas.Bool.{eqb-true}
use Rattle.std.proofs.lemmas.Bool.Decides.{nat_tests}
use Rattle.std.proofs.lemmas.Option.{some_pair_parts}
use Rattle.iv_time.specs.Range.{is_instant}
use Rattle.iv_time.specs.declared.granularity.Granularity.{Granularity}
use Rattle.iv_time.specs.declared.granularity.Granularity.TheVariants.{Minute, FifteenMinute, Hour, Day, Week, Month, Year}
use Rattle.iv_span.specs.Extent.{Extent}
use Rattle.seg_names.specs.Names.{is_name}
use Rattle.seg_names.specs.declared.seg_id.SegId.{SegId}
use Rattle.wire_fields.specs.Fields.{◌>>=◌, AreBytes, byte_at, signed_at}
use Rattle.wire_fields.proofs.FieldsTaken.{bind_some}
use Rattle.book_rows.specs.Spans.{is_span}
use Rattle.book_rows.specs.Form.{is_id, is_want, is_offset, is_range}
use Rattle.book_rows.specs.declared.kinds.TaskKind.{TaskKind}
use Rattle.book_rows.specs.declared.kinds.TaskKind.TheVariants.{Realtime, Batch, Compaction, Other}
use Rattle.book_rows.specs.declared.kinds.LockKind.{LockKind}
use Rattle.book_rows.specs.declared.kinds.LockKind.TheVariants as lock_kind
use Rattle.book_rows.specs.declared.kinds.TaskStatus.{TaskStatus}
use Rattle.book_rows.specs.declared.kinds.TaskStatus.TheVariants.{Waiting, Running, Success, Failed}
use Rattle.book_rows.specs.declared.rows.Want.{Want}
use Rattle.book_rows.specs.declared.rows.Offset.{Offset}
use Rattle.book_rows.specs.declared.rows.Range.{Range}
use Rattle.cmd_codec.specs.Fields.{kind_code, lock_kind_code, status_code, granularity_code, signed, span_field, id_field, want_field, offset_field, range_field}
use Rattle.cmd_codec.specs.Reading.{kind_of, lock_kind_of, status_of, granularity_of, code_at, span_at, id_at, want_at, offset_at, range_at}
use Rattle.cmd_codec.proofs.FieldLists.{Field, again2, again3, again4, takes2, takes3, takes4}
use Rattle.cmd_codec.proofs.Readers.{when_some, some_is, and_true, any, Spells, step, then}
use Rattle.cmd_codec.proofs.Numbers.{fits32, fits64, short_number, long_number, an_instant, byte, a_name}

-- a code has one byte
abbrev pub code_of : {A : Type 0} → (A → ℕ) → A → List ℕ
code_of code a = code a ∷ []

module _ {A : Type 0} (code : A → ℕ) where
  pick_by : (b : Bool) (n k : ℕ) (x a : A) (others : Option A) → (n == k) ≡ b → k ≡ code x → cond b (Some x) others ≡ Some a → (others ≡ Some a → n ≡ code a) → n ≡ code a
  pick_by true n k x a others is same e more = let first : n ≡ k = eqb-true n k is in first ∙ same ∙ ap code (some_is x a e)
  pick_by false n k x a others is same e more = more e

  -- one more code, in the order of the tests
  pub pick : (n k : ℕ) (x a : A) (others : Option A) → k ≡ code x → cond (n == k) (Some x) others ≡ Some a → (others ≡ Some a → n ≡ code a) → n ≡ code a
  pick n k x a others same e more = pick_by (n == k) n k x a others refl same e more

pub no_more : {A : Type 0} (a : A) (P : Type 0) → None ≡ Some a → P
no_more a P e = absurd cc

module _ {A : Type 0} (code : A → ℕ) (value_of : ℕ → Option A) (there : (a : A) → value_of (code a) ≡ Some a) (back : (n : ℕ) (a : A) → value_of n ≡ Some a → n ≡ code a) where
  code_again : (a : A) (rest : List ℕ) → code_at value_of (code a ∷ rest) ≡ Some (a, rest)
  unfolding code_at byte_at
  code_again a rest = rw (there a) refl

  code_takes : (bytes : List ℕ) (a : A) (rest : List ℕ) → AreBytes bytes → code_at value_of bytes ≡ Some (a, rest) → bytes ≡ code a ∷ rest
  unfolding code_at
  code_takes bytes a rest fits e =
      let s = step (λ (n : ℕ). n ∷ []) any any byte_at byte bytes fits (λ (c : ℕ × List ℕ). value_of c.0 >>= λ (v : A). Some (v, c.1)) (a, rest) e in
      let d = bind_some (value_of s.value) (λ (v : A). Some (v, s.rest)) (a, rest) s.more in
      let p = some_pair_parts d.0 a s.rest rest d.2 in
      s.parts ∙ ap₂ (λ (n : ℕ) (r : List ℕ). n ∷ r) (back s.value a (d.1 ∙ ap Some p.0)) p.1

  -- a value by its code
  pub coded : Spells (code_of code) any any (code_at value_of)
  coded = record {
    again = λ a rest h. code_again a rest;
    takes = λ bytes a rest fits e. (code_takes bytes a rest fits e, refl);
  }

kind_there : (x : TaskKind) → kind_of (kind_code x) ≡ Some x
kind_there Realtime = refl
kind_there Batch = refl
kind_there Compaction = refl
kind_there Other = refl

kind_back : (n : ℕ) (a : TaskKind) → kind_of n ≡ Some a → n ≡ kind_code a
kind_back n a e0 =
    pick kind_code n 1 Realtime a _ refl e0 (λ e1.
    pick kind_code n 2 Batch a _ refl e1 (λ e2.
    pick kind_code n 3 Compaction a _ refl e2 (λ e3.
    pick kind_code n 4 Other a _ refl e3 (λ e4.
    no_more a (n ≡ kind_code a) e4))))

pub kind : Spells (code_of kind_code) any any (code_at kind_of)
kind = coded kind_code kind_of kind_there kind_back

locking_there : (x : LockKind) → lock_kind_of (lock_kind_code x) ≡ Some x
locking_there lock_kind.Exclusive = refl
locking_there lock_kind.Shared = refl
locking_there lock_kind.Append = refl
locking_there lock_kind.Replace = refl

locking_back : (n : ℕ) (a : LockKind) → lock_kind_of n ≡ Some a → n ≡ lock_kind_code a
locking_back n a e0 =
    pick lock_kind_code n 1 lock_kind.Exclusive a _ refl e0 (λ e1.
    pick lock_kind_code n 2 lock_kind.Shared a _ refl e1 (λ e2.
    pick lock_kind_code n 3 lock_kind.Append a _ refl e2 (λ e3.
    pick lock_kind_code n 4 lock_kind.Replace a _ refl e3 (λ e4.
    no_more a (n ≡ lock_kind_code a) e4))))

pub locking : Spells (code_of lock_kind_code) any any (code_at lock_kind_of)
locking = coded lock_kind_code lock_kind_of locking_there locking_back

status_there : (x : TaskStatus) → status_of (status_code x) ≡ Some x
status_there Waiting = refl
status_there Running = refl
status_there Success = refl
status_there Failed = refl

status_back : (n : ℕ) (a : TaskStatus) → status_of n ≡ Some a → n ≡ status_code a
status_back n a e0 =
    pick status_code n 1 Waiting a _ refl e0 (λ e1.
    pick status_code n 2 Running a _ refl e1 (λ e2.
    pick status_code n 3 Success a _ refl e2 (λ e3.
    pick status_code n 4 Failed a _ refl e3 (λ e4.
    no_more a (n ≡ status_code a) e4))))

pub status : Spells (code_of status_code) any any (code_at status_of)
status = coded status_code status_of status_there status_back

granularity_there : (x : Granularity) → granularity_of (granularity_code x) ≡ Some x
granularity_there Minute = refl
granularity_there FifteenMinute = refl
granularity_there Hour = refl
granularity_there Day = refl
granularity_there Week = refl
granularity_there Month = refl
granularity_there Year = refl

granularity_back : (n : ℕ) (a : Granularity) → granularity_of n ≡ Some a → n ≡ granularity_code a
granularity_back n a e0 =
    pick granularity_code n 1 Minute a _ refl e0 (λ e1.
    pick granularity_code n 2 FifteenMinute a _ refl e1 (λ e2.
    pick granularity_code n 3 Hour a _ refl e2 (λ e3.
    pick granularity_code n 4 Day a _ refl e3 (λ e4.
    pick granularity_code n 5 Week a _ refl e4 (λ e5.
    pick granularity_code n 6 Month a _ refl e5 (λ e6.
    pick granularity_code n 7 Year a _ refl e6 (λ e7.
    no_more a (n ≡ granularity_code a) e7)))))))

pub granularity : Spells (code_of granularity_code) any any (code_at granularity_of)
granularity = coded granularity_code granularity_of granularity_there granularity_back

abbrev pub a_kind : Field TaskKind
a_kind = record { put = code_of kind_code; good = any; sure = any; read = code_at kind_of; spells = kind }

abbrev pub a_lock_kind : Field LockKind
a_lock_kind = record { put = code_of lock_kind_code; good = any; sure = any; read = code_at lock_kind_of; spells = locking }

abbrev pub a_status : Field TaskStatus
a_status = record { put = code_of status_code; good = any; sure = any; read = code_at status_of; spells = status }

abbrev pub a_granularity : Field Granularity
a_granularity = record { put = code_of granularity_code; good = any; sure = any; read = code_at granularity_of; spells = granularity }

span_again : (e : Extent) (rest : List ℕ) → is_span e ≡ true → span_at (span_field e ++ rest) ≡ Some (e, rest)
unfolding span_at
span_again e rest h =
    let p = and_true (is_instant e.start && is_instant e.end) (int_lt e.start e.end) h in
    let q = and_true (is_instant e.start) (is_instant e.end) p.0 in
    ap span_at (append_assoc (signed e.start) (signed e.end) rest)
    ∙ rw (an_instant.spells.again e.start (signed e.end ++ rest) q.0, an_instant.spells.again e.end rest q.1, p.1) refl

span_takes : (bytes : List ℕ) (e : Extent) (rest : List ℕ) → AreBytes bytes → span_at bytes ≡ Some (e, rest) → (bytes ≡ span_field e ++ rest) × (any e ≡ true)
unfolding span_at
span_takes bytes e rest fits h =
    let a = step signed is_instant any signed_at an_instant.spells bytes fits _ (e, rest) h in
    let b = step signed is_instant any signed_at an_instant.spells a.rest a.fits _ (e, rest) a.more in
    let made : Extent = record { start = a.value; end = b.value } in
    let g = when_some (int_lt a.value b.value) (Some (made, b.rest)) (e, rest) b.more in
    subst (λ (p : Extent × List ℕ). (bytes ≡ span_field p.0 ++ p.1) × (any p.0 ≡ true)) (some_is (made, b.rest) (e, rest) g.1)
    (then bytes (signed a.value) a.rest (signed b.value) b.rest a.parts b.parts, refl)

pub span : Spells span_field is_span any span_at
span = record { again = span_again; takes = span_takes }

abbrev pub a_span : Field Extent
a_span = record { put = span_field; good = is_span; sure = any; read = span_at; spells = span }

abbrev make_id : List ℕ → Extent → ℤ → ℕ → SegId
make_id source span version part = record { source = source; span = span; version = version; part = part }

id_again : (id : SegId) (rest : List ℕ) → is_id id ≡ true → id_at (id_field id ++ rest) ≡ Some (id, rest)
unfolding id_at
id_again id rest h =
    let p = and_true (is_name id.source && is_span id.span && is_instant id.version) (nat_le id.part 4294967295) h in
    let q = and_true (is_name id.source && is_span id.span) (is_instant id.version) p.0 in
    let r = and_true (is_name id.source) (is_span id.span) q.0 in
    again4 a_name a_span an_instant short_number make_id id.source id.span id.version id.part rest r.0 r.1 q.1 p.1

id_takes : (bytes : List ℕ) (id : SegId) (rest : List ℕ) → AreBytes bytes → id_at bytes ≡ Some (id, rest) → (bytes ≡ id_field id ++ rest) × (any id ≡ true)
unfolding id_at
id_takes bytes id rest fits h =
    let t = takes4 a_name a_span an_instant short_number make_id bytes id rest fits h in
    subst (λ (i : SegId). (bytes ≡ id_field i ++ rest) × (any i ≡ true)) t.made (t.parts, refl)

pub id : Spells id_field is_id any id_at
id = record { again = id_again; takes = id_takes }

abbrev pub an_id : Field SegId
an_id = record { put = id_field; good = is_id; sure = any; read = id_at; spells = id }

abbrev make_want : LockKind → Extent → Want
make_want kind span = record { lock_kind = kind; span = span }

want_again : (want : Want) (rest : List ℕ) → is_want want ≡ true → want_at (want_field want ++ rest) ≡ Some (want, rest)
unfolding want_at
want_again want rest h = again2 a_lock_kind a_span make_want want.lock_kind want.span rest refl h

want_takes : (bytes : List ℕ) (want : Want) (rest : List ℕ) → AreBytes bytes → want_at bytes ≡ Some (want, rest) → (bytes ≡ want_field want ++ rest) × (any want ≡ true)
unfolding want_at
want_takes bytes want rest fits h =
    let t = takes2 a_lock_kind a_span make_want bytes want rest fits h in
    subst (λ (w : Want). (bytes ≡ want_field w ++ rest) × (any w ≡ true)) t.made (t.parts, refl)

pub want : Spells want_field is_want any want_at
want = record { again = want_again; takes = want_takes }

abbrev pub a_want : Field Want
a_want = record { put = want_field; good = is_want; sure = any; read = want_at; spells = want }

abbrev make_offset : ℕ → ℕ → Offset
make_offset partition offset = record { partition = partition; offset = offset }

offset_again : (o : Offset) (rest : List ℕ) → is_offset o ≡ true → offset_at (offset_field o ++ rest) ≡ Some (o, rest)
unfolding offset_at
offset_again o rest h =
    let p : fits32 o.partition ≡ true = grind (arith, nat_tests) in
    let q : fits64 o.offset ≡ true = grind (arith, nat_tests) in
    again2 short_number long_number make_offset o.partition o.offset rest p q

offset_takes : (bytes : List ℕ) (o : Offset) (rest : List ℕ) → AreBytes bytes → offset_at bytes ≡ Some (o, rest) → (bytes ≡ offset_field o ++ rest) × (any o ≡ true)
unfolding offset_at
offset_takes bytes o rest fits h =
    let t = takes2 short_number long_number make_offset bytes o rest fits h in
    subst (λ (x : Offset). (bytes ≡ offset_field x ++ rest) × (any x ≡ true)) t.made (t.parts, refl)

pub offset : Spells offset_field is_offset any offset_at
offset = record { again = offset_again; takes = offset_takes }

abbrev pub an_offset : Field Offset
an_offset = record { put = offset_field; good = is_offset; sure = any; read = offset_at; spells = offset }

abbrev make_range : ℕ → ℕ → ℕ → Range
make_range partition start end = record { partition = partition; start = start; end = end }

range_again : (r : Range) (rest : List ℕ) → is_range r ≡ true → range_at (range_field r ++ rest) ≡ Some (r, rest)
unfolding range_at
range_again r rest h =
    let p : fits32 r.partition ≡ true = grind (arith, nat_tests) in
    let q : fits64 r.start ≡ true = grind (arith, nat_tests) in
    let s : fits64 r.end ≡ true = grind (arith, nat_tests) in
    again3 short_number long_number long_number make_range r.partition r.start r.end rest p q s

range_takes : (bytes : List ℕ) (r : Range) (rest : List ℕ) → AreBytes bytes → range_at bytes ≡ Some (r, rest) → (bytes ≡ range_field r ++ rest) × (any r ≡ true)
unfolding range_at
range_takes bytes r rest fits h =
    let t = takes3 short_number long_number long_number make_range bytes r rest fits h in
    subst (λ (x : Range). (bytes ≡ range_field x ++ rest) × (any x ≡ true)) t.made (t.parts, refl)

pub range : Spells range_field is_range any range_at
range = record { again = range_again; takes = range_takes }

abbrev pub a_range : Field Range
a_range = record { put = range_field; good = is_range; sure = any; read = range_at; spells = range }
