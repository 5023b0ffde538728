-- Whose turn it is: a publish that is let through is of the group's first unpublished sequence, and of exactly its ranges.
use Rattle.std.proofs.Common.{◌≡◌, ℕ, Bool, true, false, ◌&&◌, List, Some, None, Option, refl, sym, ◌∙◌, ap, subst, inl, inr, bytes_eq}
use Rattle.std.specs.List.{AllByRecursion}
use Rattle.std.proofs.lemmas.Bool.{and_parts, eqb-true, false≢true}
use Rattle.book_rows.specs.Lists.{In}
use Rattle.book_rows.specs.Sequences.{are_ranges, first_open, is_closed, is_found, is_open, passes_by, supervisor_of, tells}
use Rattle.book_rows.specs.Shape.{AreDistinct, same_supervisor}
use Rattle.book_rows.specs.declared.rows.Ranges.{Ranges}
use Rattle.book_rows.specs.declared.rows.SequenceRow.{SequenceRow}
use Rattle.book_rows.specs.declared.rows.SupervisorRow.{SupervisorRow}
use Rattle.laws_locks.proofs.Lists.{In-all, all_from_In, found_In, none_found}
use Rattle.laws_offsets.proofs.Lists.{same_text, text_same}
use Rattle.laws_sequences.specs.Links.{AreCounted}
use Rattle.laws_sequences.specs.MoveLaws.{IsTurn}
use Rattle.laws_sequences.proofs.Counts.{one_sequence, open_parts}
use Rattle.laws_sequences.proofs.Filters.{first_is}
use Rattle.laws_sequences.proofs.Opened.{one_supervisor}

-- ---- the supervisor of a source

supervisor_by : (ss : List SupervisorRow) (source : List ℕ) (v : SupervisorRow) (o : Option SupervisorRow) → AreDistinct same_supervisor ss → In v ss → v.source ≡ source → supervisor_of source ss ≡ o → o ≡ Some v
supervisor_by ss source v None d i same e = absurd (false≢true (sym (In-all (λ (s : SupervisorRow). bytes_eq s.source source ≡ false) v ss i (none_found (λ (s : SupervisorRow). bytes_eq s.source source) ss e)) ∙ text_same v.source source same))
supervisor_by ss source v (Some w) d i same e =
    let found = found_In (λ (s : SupervisorRow). bytes_eq s.source source) w ss e in
    elim (one_supervisor ss v w d i found.0) [
      | inl one ↦ ap (λ (x : SupervisorRow). Some x) one
      | inr off ↦ absurd (false≢true (sym off ∙ text_same v.source w.source (same ∙ sym (same_text w.source source found.1))))
    ]

pub supervisor_is : (ss : List SupervisorRow) (source : List ℕ) (v : SupervisorRow) → AreDistinct same_supervisor ss → In v ss → v.source ≡ source → supervisor_of source ss ≡ Some v
supervisor_is ss source v d i same = supervisor_by ss source v (supervisor_of source ss) d i same refl

-- a stream that the source's supervisor doesn't read is no supervisor's of the source
pub other_streams : (ss : List SupervisorRow) (s t : List ℕ) → AreDistinct same_supervisor ss → ((v : SupervisorRow) → supervisor_of s ss ≡ Some v → bytes_eq t v.stream ≡ false) → AllByRecursion (λ v. (bytes_eq s v.source && bytes_eq t v.stream) ≡ false) ss
other_streams ss s t d off = all_from_In _ ss (λ v i. each v i (bytes_eq s v.source) refl) where
  each : (v : SupervisorRow) → In v ss → (b : Bool) → bytes_eq s v.source ≡ b → (bytes_eq s v.source && bytes_eq t v.stream) ≡ false
  each v i true e = rw e (off v (supervisor_is ss s v d i (sym (same_text s v.source e))))
  each v i false e = rw e refl

-- ---- the sequence whose turn it is

-- the sequence that is found by its index is the first unpublished one
found_is : (us : List SequenceRow) (u : SequenceRow) (o : Option SequenceRow) → AreCounted us → In u us → first_open u.source u.group us ≡ o → is_found o u ≡ true → first_open u.source u.group us ≡ Some u
found_is us u None counted i e f = cc
found_is us u (Some v) counted i e f =
    let w = first_is (is_open u.source u.group) us v e in
    let same : u ≡ v = one_sequence us u v counted i w.among (open_parts u.source u.group v w.passes).0 (eqb-true v.index u.index f) in
    e ∙ ap (λ (x : SequenceRow). Some x) (sym same)

-- a publish of a sequence's replica that is let through is of exactly the sequence's ranges
pub passes_publishes : (us : List SequenceRow) (s : SupervisorRow) (u : SequenceRow) (r : Ranges) → AreCounted us → In u us → u.source ≡ s.source → passes_by (Some u) (Some s) us (Some r) ≡ true → (r.stream ≡ s.stream) × IsTurn s us u r.parts
passes_publishes us s u r counted i same h =
    let a = and_parts (is_found (first_open u.source u.group us) u && is_closed u) (tells (Some s) u (Some r)) h in
    let b = and_parts (is_found (first_open u.source u.group us) u) (is_closed u) a.0 in
    let c = and_parts (bytes_eq r.stream s.stream) (are_ranges u.starts u.ends r.parts) a.1 in (
      same_text r.stream s.stream c.0,
      record {
        first = subst (λ (q : List ℕ). first_open q u.group us ≡ Some u) same (found_is us u (first_open u.source u.group us) counted i refl b.0);
        closed = b.1;
        ranges = c.1;
      },
    )
