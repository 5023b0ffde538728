-- The byte of a segment, and the kind of a publication with its tombstones.
use Rattle.std.proofs.Common.{◌≡◌, ◌||◌, not, ℕ, Bool, true, false, List, [], ◌∷◌, Some, Ok, refl, subst, nat_le}
use Rattle.seg_names.specs.declared.seg_id.SegId.{SegId}
use Rattle.book_rows.specs.Lists.{is_empty}
use Rattle.book_rows.specs.declared.kinds.PubKind.{PubKind}
use Rattle.book_rows.specs.declared.kinds.PubKind.TheVariants as kind
use Rattle.cmd_codec.specs.Fields.{id_field}
use Rattle.cmd_codec.proofs.Readers.{when_some}
use Rattle.cmd_codec.proofs.FieldBytes.{code_of, pick, no_more}
use Rattle.snap_codec.specs.declared.marks.Flags.{Flags}
use Rattle.snap_codec.specs.declared.marks.Mark.{Mark}
use Rattle.snap_codec.specs.declared.marks.Mark.TheVariants as mark
use Rattle.snap_codec.specs.Fields.{flags_code, mark_code, mark_of, has_empties, list_field, empties_field}
use Rattle.snap_codec.specs.Fits.{FitsList, FitsId, FitsEmpties, Always, may_empty}
use Rattle.snap_codec.specs.Readers.{code_at}
use Rattle.snap_codec.specs.Grammar.{flags_of, publication_mark_of, kind_of_mark, some_ids_at, empties_at}
use Rattle.snap_codec.specs.Earlier.{earlier_flags_of, earlier_mark_of}
use Rattle.snap_codec.proofs.Spells.{Spells, checked, said, ok_is}
use Rattle.snap_codec.proofs.SingleFields.{coded}
use Rattle.snap_codec.proofs.Combined.{a_list}
use Rattle.snap_codec.proofs.ValueBytes.{an_id}

-- ---- flags

abbrev flags : Bool → Bool → Flags
flags used tombstone = record { used = used; tombstone = tombstone }

flags_there_by : (used tombstone : Bool) → flags_of (flags_code (flags used tombstone)) ≡ Some (flags used tombstone)
flags_there_by false false = refl
flags_there_by true false = refl
flags_there_by false true = refl
flags_there_by true true = refl

flags_back : (n : ℕ) (a : Flags) → flags_of n ≡ Some a → n ≡ flags_code a
flags_back n a e0 =
    pick flags_code n 0 (flags false false) a _ refl e0 (λ e1.
    pick flags_code n 1 (flags true false) a _ refl e1 (λ e2.
    pick flags_code n 2 (flags false true) a _ refl e2 (λ e3.
    pick flags_code n 3 (flags true true) a _ refl e3 (λ e4.
    no_more a (n ≡ flags_code a) e4))))

pub a_flag : Spells (code_of flags_code) Always (code_at flags_of)
a_flag = coded Always flags_code flags_of (λ f h. flags_there_by f.used f.tombstone) (λ n f e. (flags_back n f e, tt))

abbrev pub HasNoTombstone : Flags → Type 0
HasNoTombstone f = f.tombstone ≡ false

earlier_there_by : (used tombstone : Bool) → tombstone ≡ false → earlier_flags_of (flags_code (flags used tombstone)) ≡ Some (flags used tombstone)
earlier_there_by false false h = refl
earlier_there_by true false h = refl
earlier_there_by used true h = absurd cc

no_tombstone : (used tombstone : Bool) → nat_le (flags_code (flags used tombstone)) 1 ≡ true → tombstone ≡ false
no_tombstone used false h = refl
no_tombstone false true h = absurd cc
no_tombstone true true h = absurd cc

earlier_flags_back : (n : ℕ) (f : Flags) → earlier_flags_of n ≡ Some f → (n ≡ flags_code f) × HasNoTombstone f
earlier_flags_back n f e =
    let g = when_some (nat_le n 1) (flags_of n) f e in
    let is : n ≡ flags_code f = flags_back n f g.1 in
    (is, no_tombstone f.used f.tombstone (subst (λ (k : ℕ). nat_le k 1 ≡ true) is g.0))

pub an_earlier_flag : Spells (code_of flags_code) HasNoTombstone (code_at earlier_flags_of)
an_earlier_flag = coded HasNoTombstone flags_code earlier_flags_of (λ f h. earlier_there_by f.used f.tombstone h) earlier_flags_back

-- ---- marks

mark_there : (m : Mark) → publication_mark_of (mark_code m) ≡ Some m
mark_there mark.Append = refl
mark_there mark.Over = refl
mark_there mark.Replace = refl
mark_there mark.Drop = refl
mark_there mark.Reset = refl
mark_there mark.EmptyingOver = refl
mark_there mark.EmptyingReplace = refl

mark_back : (n : ℕ) (a : Mark) → publication_mark_of n ≡ Some a → n ≡ mark_code a
mark_back n a e0 =
    pick mark_code n 1 mark.Append a _ refl e0 (λ e1.
    pick mark_code n 2 mark.Over a _ refl e1 (λ e2.
    pick mark_code n 3 mark.Replace a _ refl e2 (λ e3.
    pick mark_code n 4 mark.Drop a _ refl e3 (λ e4.
    pick mark_code n 5 mark.Reset a _ refl e4 (λ e5.
    pick mark_code n 6 mark.EmptyingOver a _ refl e5 (λ e6.
    pick mark_code n 7 mark.EmptyingReplace a _ refl e6 (λ e7.
    no_more a (n ≡ mark_code a) e7)))))))

pub a_mark : Spells (code_of mark_code) Always (code_at publication_mark_of)
a_mark = coded Always mark_code publication_mark_of (λ m h. mark_there m) (λ n m e. (mark_back n m e, tt))

abbrev pub HasNone : Mark → Type 0
HasNone m = has_empties m ≡ false

earlier_mark_there : (m : Mark) → HasNone m → earlier_mark_of (mark_code m) ≡ Some m
earlier_mark_there mark.Append h = refl
earlier_mark_there mark.Over h = refl
earlier_mark_there mark.Replace h = refl
earlier_mark_there mark.Drop h = refl
earlier_mark_there mark.Reset h = refl
earlier_mark_there mark.EmptyingOver h = absurd cc
earlier_mark_there mark.EmptyingReplace h = absurd cc

has_none : (m : Mark) → nat_le (mark_code m) 5 ≡ true → HasNone m
has_none mark.Append h = refl
has_none mark.Over h = refl
has_none mark.Replace h = refl
has_none mark.Drop h = refl
has_none mark.Reset h = refl
has_none mark.EmptyingOver h = absurd cc
has_none mark.EmptyingReplace h = absurd cc

earlier_mark_back : (n : ℕ) (m : Mark) → earlier_mark_of n ≡ Some m → (n ≡ mark_code m) × HasNone m
earlier_mark_back n m e =
    let g = when_some (nat_le n 5) (publication_mark_of n) m e in
    let is : n ≡ mark_code m = mark_back n m g.1 in
    (is, has_none m (subst (λ (k : ℕ). nat_le k 5 ≡ true) is g.0))

pub an_earlier_mark : Spells (code_of mark_code) HasNone (code_at earlier_mark_of)
an_earlier_mark = coded HasNone mark_code earlier_mark_of earlier_mark_there earlier_mark_back

-- ---- tombstones

-- the tombstones that follow a mark: at least one, or none
abbrev pub Follow : Bool → List SegId → Type 0
Follow true ids = (is_empty ids ≡ false) × FitsList FitsId ids
Follow false ids = ids ≡ []

some_there : (ids : List SegId) → is_empty ids ≡ false → not (is_empty ids) ≡ true
some_there [] h = absurd cc
some_there (x ∷ xs) h = refl

there_some : (ids : List SegId) → not (is_empty ids) ≡ true → is_empty ids ≡ false
there_some [] h = absurd cc
there_some (x ∷ xs) h = refl

some_ids : Spells (list_field id_field) (Follow true) some_ids_at
some_ids = said (Follow true) (λ ids h. (h.1, some_there ids h.0)) (λ ids h. (there_some ids h.1, h.0)) (checked (λ (ids : List SegId). not (is_empty ids)) (a_list an_id))

none_again : (ids : List SegId) (rest : List ℕ) → ids ≡ [] → empties_at false rest ≡ Ok (ids, rest)
none_again ids rest h = rw h refl

none_taken : (bytes : List ℕ) (ids : List SegId) (rest : List ℕ) → empties_at false bytes ≡ Ok (ids, rest) → (bytes ≡ rest) × (ids ≡ [])
none_taken bytes ids rest e =
    subst (λ (x : List SegId × List ℕ). (bytes ≡ x.1) × (x.0 ≡ [])) (ok_is ([], bytes) (ids, rest) e) (refl, refl)

pub empties : (some : Bool) → Spells (empties_field some) (Follow some) (empties_at some)
empties true = record { again = some_ids.again; takes = some_ids.takes }
empties false = record { again = none_again; takes = λ bytes ids rest are e. none_taken bytes ids rest e }

pub follows : (k : PubKind) (ids : List SegId) → FitsEmpties (has_empties (mark_of k ids)) ids → may_empty k || is_empty ids ≡ true → Follow (has_empties (mark_of k ids)) ids
follows kind.Append [] fits h = refl
follows kind.Append (x ∷ xs) fits h = absurd cc
follows kind.Over [] fits h = refl
follows kind.Over (x ∷ xs) fits h = (refl, fits)
follows kind.Replace [] fits h = refl
follows kind.Replace (x ∷ xs) fits h = (refl, fits)
follows kind.Drop [] fits h = refl
follows kind.Drop (x ∷ xs) fits h = absurd cc
follows kind.Reset [] fits h = refl
follows kind.Reset (x ∷ xs) fits h = absurd cc

pub kind_again : (k : PubKind) (ids : List SegId) → kind_of_mark (mark_of k ids) ≡ k
kind_again kind.Append ids = refl
kind_again kind.Over [] = refl
kind_again kind.Over (x ∷ xs) = refl
kind_again kind.Replace [] = refl
kind_again kind.Replace (x ∷ xs) = refl
kind_again kind.Drop ids = refl
kind_again kind.Reset ids = refl

-- a kind and tombstones that were read under a mark have that mark
pub record Marked (m : Mark) (ids : List SegId) : Type 0 where
  pub same : mark_of (kind_of_mark m) ids ≡ m
  pub may : may_empty (kind_of_mark m) || is_empty ids ≡ true
  pub fits : FitsEmpties (has_empties (mark_of (kind_of_mark m) ids)) ids

pub marked : (m : Mark) (ids : List SegId) → Follow (has_empties m) ids → Marked m ids
marked mark.Append [] h = record { same = refl; may = refl; fits = tt }
marked mark.Append (x ∷ xs) h = absurd cc
marked mark.Over [] h = record { same = refl; may = refl; fits = tt }
marked mark.Over (x ∷ xs) h = absurd cc
marked mark.Replace [] h = record { same = refl; may = refl; fits = tt }
marked mark.Replace (x ∷ xs) h = absurd cc
marked mark.Drop [] h = record { same = refl; may = refl; fits = tt }
marked mark.Drop (x ∷ xs) h = absurd cc
marked mark.Reset [] h = record { same = refl; may = refl; fits = tt }
marked mark.Reset (x ∷ xs) h = absurd cc
marked mark.EmptyingOver [] h = let never : true ≡ false = h.0 in absurd cc
marked mark.EmptyingOver (x ∷ xs) h = record { same = refl; may = refl; fits = h.1 }
marked mark.EmptyingReplace [] h = let never : true ≡ false = h.0 in absurd cc
marked mark.EmptyingReplace (x ∷ xs) h = record { same = refl; may = refl; fits = h.1 }

-- no tombstones are written without a mark for them
pub none_follow : (k : PubKind) (ids : List SegId) → ids ≡ [] → HasNone (mark_of k ids) × Follow (has_empties (mark_of k ids)) ids
none_follow k (x ∷ xs) h = absurd cc
none_follow kind.Append [] h = (refl, refl)
none_follow kind.Over [] h = (refl, refl)
none_follow kind.Replace [] h = (refl, refl)
none_follow kind.Drop [] h = (refl, refl)
none_follow kind.Reset [] h = (refl, refl)

pub follow_none : (some : Bool) (ids : List SegId) → some ≡ false → Follow some ids → ids ≡ []
follow_none true ids none h = absurd cc
follow_none false ids none h = h

pub none_fit : (k : PubKind) (ids : List SegId) → ids ≡ [] → FitsEmpties (has_empties (mark_of k ids)) ids × (may_empty k || is_empty ids ≡ true)
none_fit k (x ∷ xs) h = absurd cc
none_fit kind.Append [] h = (tt, refl)
none_fit kind.Over [] h = (tt, refl)
none_fit kind.Replace [] h = (tt, refl)
none_fit kind.Drop [] h = (tt, refl)
none_fit kind.Reset [] h = (tt, refl)
