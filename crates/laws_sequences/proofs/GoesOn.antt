-- A group's first unpublished sequence, where it is closed, goes on from what is stored.
use Rattle.std.proofs.Common.{◌≡◌, ℕ, true, false, ◌==◌, ◌&&◌, List, [], ◌∷◌, map, Some, None, Option, refl, arith, nat_le, nat_lt}
use Rattle.std.specs.List.{AllByRecursion}
use Rattle.std.proofs.lemmas.Bool.Decides.{nat_tests}
use Rattle.std.proofs.lemmas.Bool.{and_parts, eq-eqb, eqb-true}
use Rattle.book_rows.specs.Offsets.{compare, part_fault, stored}
use Rattle.book_rows.specs.Sequences.{are_ranges, is_open, named, or_zero, partitions_of, positions, reaches}
use Rattle.book_rows.specs.Tiles.{goes_on}
use Rattle.book_rows.specs.declared.rows.Offset.{Offset}
use Rattle.book_rows.specs.declared.rows.OffsetRow.{OffsetRow}
use Rattle.book_rows.specs.declared.rows.Range.{Range}
use Rattle.book_rows.specs.declared.rows.SequenceRow.{SequenceRow}
use Rattle.book_rows.specs.declared.rows.SupervisorRow.{SupervisorRow}
use Rattle.laws_sequences.specs.Links.{AreChained, AreCounted, AreOwn}
use Rattle.laws_sequences.specs.MoveLaws.{IsTurn}
use Rattle.laws_sequences.proofs.Chains.{chain_first}
use Rattle.laws_sequences.proofs.Filters.{first_is}
use Rattle.laws_sequences.proofs.Keys.{HaveKeys}
use Rattle.laws_sequences.proofs.PublishedRows.{owns}

fault_free : (z : Option ℕ) (partition start end : ℕ) → goes_on z start ≡ true → nat_le start end ≡ true → part_fault z (record { partition = partition; start = start; end = end }) ≡ None
fault_free None p s e g h = rw (not_below s e h) refl where
  not_below : (s e : ℕ) → nat_le s e ≡ true → nat_lt e s ≡ false
  not_below s e h = grind (arith, nat_tests)
fault_free (Some z) p s e g h = rw (not_below s e h, g) refl where
  not_below : (s e : ℕ) → nat_le s e ≡ true → nat_lt e s ≡ false
  not_below s e h = grind (arith, nat_tests)

or_zero_goes_on : (z : Option ℕ) → goes_on z (or_zero z) ≡ true
or_zero_goes_on None = refl
or_zero_goes_on (Some z) = eq-eqb z z refl

all_go_on : (rows : List OffsetRow) (source stream : List ℕ) (ps : List ℕ) → AllByRecursion (λ o. goes_on (stored rows source stream o.partition) o.offset ≡ true) (positions rows source stream ps)
all_go_on rows source stream [] = tt
all_go_on rows source stream (p ∷ ps) = (or_zero_goes_on (stored rows source stream p), all_go_on rows source stream ps)

pub no_mismatch : (rows : List OffsetRow) (source stream : List ℕ) (ss es : List Offset) (rs : List Range) → are_ranges ss es rs ≡ true → reaches ss es ≡ true → AllByRecursion (λ o. goes_on (stored rows source stream o.partition) o.offset ≡ true) ss → compare rows source stream rs ≡ None
no_mismatch rows source stream [] [] [] h r a = refl
no_mismatch rows source stream [] [] (x ∷ rs) h r a = cc
no_mismatch rows source stream [] (e ∷ es) rs h r a = cc
no_mismatch rows source stream (s ∷ ss) [] rs h r a = cc
no_mismatch rows source stream (s ∷ ss) (e ∷ es) [] h r a = refl
no_mismatch rows source stream (s ∷ ss) (e ∷ es) (x ∷ rs) h r at =
    let a = and_parts (((x.partition == s.partition) && (x.partition == e.partition)) && (x.start == s.offset) && (x.end == e.offset)) (are_ranges ss es rs) h in
    let b = and_parts (((x.partition == s.partition) && (x.partition == e.partition)) && (x.start == s.offset)) (x.end == e.offset) a.0 in
    let c = and_parts ((x.partition == s.partition) && (x.partition == e.partition)) (x.start == s.offset) b.0 in
    let d = and_parts (x.partition == s.partition) (x.partition == e.partition) c.0 in
    let f = and_parts ((s.partition == e.partition) && nat_le s.offset e.offset) (reaches ss es) r in
    let g = and_parts (s.partition == e.partition) (nat_le s.offset e.offset) f.0 in
    let first : part_fault (stored rows source stream x.partition) x ≡ None =
    fault_free (stored rows source stream x.partition) x.partition x.start x.end (rw (eqb-true x.partition s.partition d.0, eqb-true x.start s.offset c.1) at.0) (rw (eqb-true x.start s.offset c.1, eqb-true x.end e.offset b.1) g.1) in
    rw first (no_mismatch rows source stream ss es rs a.1 f.1 at.1)

-- the ranges from the starts to the ends of a group's first unpublished sequence, where that is closed, go on from what is stored
pub closed_goes_on : (rows : List OffsetRow) (s : SupervisorRow) (us : List SequenceRow) (u : SequenceRow) (parts : List Range) → HaveKeys us → AreCounted us → AreOwn s us → AreChained rows us s → IsTurn s us u parts → compare rows s.source s.stream parts ≡ None
closed_goes_on rows s us u parts keys order own c p =
    let f = first_is (is_open s.source u.group) us u p.first in
    let starts : u.starts ≡ positions rows s.source s.stream (partitions_of s u.group) =
    chain_first (positions rows s.source s.stream (partitions_of s u.group)) u f.rest (rw f.filtered at (c u.group)) in
    no_mismatch rows s.source s.stream u.starts u.ends parts p.ranges ((owns rows s us u parts keys order own p).ends p.closed) (rw starts (all_go_on rows s.source s.stream (partitions_of s u.group)))

-- ---- the ranges of a sequence have one range for each of its partitions

pub ranges_named : (ss es : List Offset) (rs : List Range) → are_ranges ss es rs ≡ true → map (λ (r : Range). r.partition) rs ≡ named ss
ranges_named [] [] [] h = refl
ranges_named [] [] (r ∷ rs) h = cc
ranges_named [] (e ∷ es) rs h = cc
ranges_named (s ∷ ss) [] rs h = cc
ranges_named (s ∷ ss) (e ∷ es) [] h = cc
ranges_named (s ∷ ss) (e ∷ es) (r ∷ rs) h =
    let a = and_parts (((r.partition == s.partition) && (r.partition == e.partition)) && (r.start == s.offset) && (r.end == e.offset)) (are_ranges ss es rs) h in
    let b = and_parts (((r.partition == s.partition) && (r.partition == e.partition)) && (r.start == s.offset)) (r.end == e.offset) a.0 in
    let c = and_parts ((r.partition == s.partition) && (r.partition == e.partition)) (r.start == s.offset) b.0 in
    let d = and_parts (r.partition == s.partition) (r.partition == e.partition) c.0 in
    rw (eqb-true r.partition s.partition d.0, ranges_named ss es rs a.1) refl
