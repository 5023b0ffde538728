-- What a publish of a sequence's replica is answered: its ranges are the sequence's, and its number is the sequence's own.
use Rattle.std.proofs.Common.{◌≡◌, ℕ, ◌+◌, zero, suc, Bool, true, false, cond, ◌&&◌, List, [], ◌∷◌, ◌++◌, Some, None, Option, refl, sym, ◌∙◌, ap, subst, arith, inl, inr, bytes_eq, length, find, not}
use Rattle.std.specs.Prelude.{option_map}
use Rattle.std.proofs.lemmas.Bool.{and_from, and_parts, cases_Bool, eq-eqb, false≢true}
use Rattle.seg_names.specs.declared.seg_id.SegId.{SegId}
use Rattle.book_rows.specs.Answer.{book_after, next, step}
use Rattle.book_rows.specs.Append.{after_append, is_allocated}
use Rattle.book_rows.specs.Lists.{In, at_place, count, or_else}
use Rattle.book_rows.specs.Names.{begins_with, sup_prefix}
use Rattle.book_rows.specs.Offsets.{compare}
use Rattle.book_rows.specs.Outcome.{Outcome, changed, fitted, fitted_by, no_room, running_as, task_of, unless}
use Rattle.book_rows.specs.PublishSteps.{append_running, appended, published_or}
use Rattle.book_rows.specs.Publications.{appending, publication_of, ranges_fault, repeat_of, same_ranges}
use Rattle.book_rows.specs.SequenceRules.{has_ranges_of, is_of_sequence, is_published}
use Rattle.book_rows.specs.Sequences.{are_ranges, first_open, is_closed, is_found, is_named, name_of, named, partitions_of, passes, passes_by, sequence_named, supervisor_of, tells}
use Rattle.book_rows.specs.declared.commands.Command.{Command}
use Rattle.book_rows.specs.declared.kinds.Table.{Table}
use Rattle.book_rows.specs.declared.kinds.Table.TheVariants as Tables
use Rattle.book_rows.specs.declared.kinds.TaskStatus.{TaskStatus}
use Rattle.book_rows.specs.declared.kinds.TaskStatus.TheVariants as Statuses
use Rattle.book_rows.specs.declared.replies.Refusal.{Refusal}
use Rattle.book_rows.specs.declared.replies.Refusal.TheVariants as Refusals
use Rattle.book_rows.specs.declared.replies.Reply.{Reply}
use Rattle.book_rows.specs.declared.replies.Reply.TheVariants as Replies
use Rattle.book_rows.specs.declared.rows.Book.{Book}
use Rattle.book_rows.specs.declared.rows.Publication.{Publication}
use Rattle.book_rows.specs.declared.rows.Ranges.{Ranges}
use Rattle.book_rows.specs.declared.rows.SequenceRow.{SequenceRow}
use Rattle.book_rows.specs.declared.rows.SupervisorRow.{SupervisorRow}
use Rattle.book_rows.specs.declared.rows.TaskRow.{TaskRow}
use Rattle.laws_locks.proofs.Lists.{In-all, found_In, none_found}
use Rattle.laws_locks.proofs.Reaching.{place_In}
use Rattle.laws_offsets.specs.Effects.{TaskRanges}
use Rattle.laws_offsets.proofs.Lists.{same_text, some_is, text_same}
use Rattle.laws_sequences.specs.Links.{AreChained, AreOwn, HasLinks}
use Rattle.laws_sequences.specs.MoveLaws.{IsTurn}
use Rattle.laws_sequences.specs.PublishLaws.{AnsweredHasRanges, AnsweredIsCommitted, IsCommittedAt, IsNext, NextIsLetThrough, SequenceHasOneNumber, SequenceHasOnePlace, partitions_in}
use Rattle.laws_sequences.specs.PublishReplies.{is_for_ranges}
use Rattle.laws_sequences.proofs.Answered.{IsAnswered, like_parts, publish_answered, repeat_is, same_list_of_parts}
use Rattle.laws_sequences.proofs.CommittedRows.{no_fault, own_source}
use Rattle.laws_sequences.proofs.EachCommand.{commands_keep_links}
use Rattle.laws_sequences.proofs.EachStep.{found_task}
use Rattle.laws_sequences.proofs.GoesOn.{closed_goes_on, ranges_named}
use Rattle.laws_sequences.proofs.Keys.{few_rows, have_keys, one_name}
use Rattle.laws_sequences.proofs.PlacesStay.{last_place, publications_stay}
use Rattle.laws_sequences.proofs.Publishings.{one_counted}
use Rattle.laws_sequences.proofs.Reaching.{links_after}
use Rattle.laws_sequences.proofs.Turns.{supervisor_is}
use Rattle.book_rows.specs.declared.kinds.PubKind.TheVariants as PubKinds

-- ---- places

less : (n : ℕ) → 1 + n ≡ 1 → n ≡ 0
less n h = omega arith

-- where one passes, all places of those that pass are one
one_place : {X : Type 0} (p : X → Bool) (xs : List X) (i j : ℕ) (x y : X) → count p xs ≡ 1 → at_place i xs ≡ Some x → at_place j xs ≡ Some y → p x ≡ true → p y ≡ true → i ≡ j
one_place p [] i j x y c a b e f = cc
one_place p (z ∷ zs) zero zero x y c a b e f = refl
one_place p (z ∷ zs) zero (suc j) x y c a b e f =
    let on : p z ≡ true = rw (some_is z x a) e in
    absurd (one_counted p y zs (place_In j y zs b) f (less (count p zs) (rw on at c)))
one_place p (z ∷ zs) (suc i) zero x y c a b e f =
    let on : p z ≡ true = rw (some_is z y b) f in
    absurd (one_counted p x zs (place_In i x zs a) e (less (count p zs) (rw on at c)))
one_place p (z ∷ zs) (suc i) (suc j) x y c a b e f = elim (cases_Bool (p z)) [
  | inr off ↦ ap (λ n. suc n) (one_place p zs i j x y (rw off at c) a b e f)
  | inl on ↦ absurd (one_counted p x zs (place_In i x zs a) e (less (count p zs) (rw on at c)))
]

-- ---- ranges

tells_ranges : (s : Option SupervisorRow) (u : SequenceRow) (ranges : Option Ranges) → tells s u ranges ≡ true → has_ranges_of u ranges ≡ true
tells_ranges None u ranges e = absurd (false≢true e)
tells_ranges (Some s) u None e = absurd (false≢true e)
tells_ranges (Some s) u (Some r) e = (and_parts (bytes_eq r.stream s.stream) (are_ranges u.starts u.ends r.parts) e).1

same_has : (u : SequenceRow) (a b : Option Ranges) → same_ranges a b ≡ true → has_ranges_of u a ≡ true → has_ranges_of u b ≡ true
same_has u None b e h = absurd (false≢true h)
same_has u (Some a) None e h = cc
same_has u (Some a) (Some b) e h = subst (λ parts. are_ranges u.starts u.ends parts ≡ true) (same_list_of_parts a.parts b.parts (and_parts (bytes_eq a.stream b.stream) _ e).1) h

partitions_named : (u : SequenceRow) (ranges : Option Ranges) → has_ranges_of u ranges ≡ true → partitions_in ranges ≡ named u.starts
partitions_named u None e = absurd (false≢true e)
partitions_named u (Some r) e = ranges_named u.starts u.ends r.parts e

-- ---- a sequence of a book

module _ (b : Book) (h : HasLinks b) where
  pub name_is_one : (u v : SequenceRow) → In u b.sequences → In v b.sequences → is_named (name_of u) v ≡ true → u ≡ v
  name_is_one = one_name b.supervisors b.sequences h.supervisors h.supervised.each h.linked.counted (few_rows (length b.sequences) h.supervised.room)

  named_by : (u : SequenceRow) (group : List ℕ) (o : Option SequenceRow) → In u b.sequences → group ≡ name_of u → sequence_named group b.sequences ≡ o → o ≡ Some u
  named_by u group None i g e = absurd (false≢true (sym (In-all (λ (v : SequenceRow). is_named group v ≡ false) u b.sequences i (none_found (is_named group) b.sequences e)) ∙ text_same (name_of u) group (sym g)))
  named_by u group (Some w) i g e =
      let found = found_In (is_named group) w b.sequences e in
      ap (λ (x : SequenceRow). Some x) (sym (name_is_one u w i found.0 (subst (λ name. is_named name w ≡ true) g found.1)))

  -- it is found by its name
  pub named_is : (u : SequenceRow) (group : List ℕ) → In u b.sequences → group ≡ name_of u → sequence_named group b.sequences ≡ Some u
  named_is u group i g = named_by u group (sequence_named group b.sequences) i g refl

  -- ---- what a publish of its replica has

  of_repeat : (u : SequenceRow) (like : Publication) (k : ℕ) → In u b.sequences → like.group ≡ name_of u → repeat_of like b.publications ≡ Some k → has_ranges_of u like.ranges ≡ true
  of_repeat u like k i g e =
      let r = repeat_is like b.publications k e in
      let parts = like_parts like r.publication r.like_is in
      let group : r.publication.group ≡ name_of u = same_text r.publication.group like.group parts.0 ∙ g in
      same_has u r.publication.ranges like.ranges parts.2 ((h.published.each u i).ranges r.publication (place_In k r.publication b.publications r.at) (text_same r.publication.group (name_of u) group))

  -- where it is let through, its ranges are the sequence's, on the stream of its source's supervisor
  pub turn_tells : (u : SequenceRow) (t : TaskRow) (ranges : Option Ranges) → In u b.sequences → t.group ≡ name_of u → ranges_fault b t ranges ≡ None → tells (supervisor_of t.source b.supervisors) u ranges ≡ true
  turn_tells u t ranges i g e =
      let passed : passes_by (Some u) (supervisor_of t.source b.supervisors) b.sequences ranges ≡ true =
      subst (λ o. passes_by o (supervisor_of t.source b.supervisors) b.sequences ranges ≡ true) (named_is u t.group i g) (no_fault b t ranges e).0 in
      (and_parts (is_found (first_open u.source u.group b.sequences) u && is_closed u) (tells (supervisor_of t.source b.supervisors) u ranges) passed).1

  of_accepted : (u : SequenceRow) (t : TaskRow) (ranges : Option Ranges) → In u b.sequences → t.group ≡ name_of u → ranges_fault b t ranges ≡ None → has_ranges_of u ranges ≡ true
  of_accepted u t ranges i g e = tells_ranges (supervisor_of t.source b.supervisors) u ranges (turn_tells u t ranges i g e)

  has_ranges : (u : SequenceRow) (t : TaskRow) (ranges : Option Ranges) (k : ℕ) (out : Outcome) → In u b.sequences → t.group ≡ name_of u → IsAnswered b t ranges k out → has_ranges_of u ranges ≡ true
  has_ranges u t ranges k out i g a = elim a.answered [
    | inl again ↦ subst (λ r. has_ranges_of u r ≡ true) a.ranges_are (of_repeat u a.like k i (a.group_is ∙ g) again.0)
    | inr new ↦ of_accepted u t ranges i g new.fault
  ]

  own_partitions : (u : SequenceRow) (s : SupervisorRow) → In u b.sequences → In s b.supervisors → s.source ≡ u.source → named u.starts ≡ partitions_of s u.group
  own_partitions u s i j same = (In-all _ u b.sequences i (In-all (λ v. AreOwn v b.sequences) s b.supervisors j h.linked.own) (text_same u.source s.source (sym same))).starts

pub answered_has_ranges : AnsweredHasRanges
answered_has_ranges b c u k h p e =
    let has = has_ranges b h u p.task p.publish.ranges k (step b c) p.among p.group_is (publish_answered b c p.publish p.task k p.is_publish p.found e) in
    record { ranges_are = has; partitions_are = λ s j same. partitions_named u p.publish.ranges has ∙ own_partitions b h u s p.among j same }

-- ---- the number

committed_at : (b : Book) (t : TaskRow) (ranges : Option Ranges) (k : ℕ) (out : Outcome) (name : List ℕ) → t.group ≡ name → IsAnswered b t ranges k out → IsCommittedAt out.book.publications name k
committed_at b t ranges k out name g a = elim a.answered [
  | inl again ↦ (
      let r = repeat_is a.like b.publications k again.0 in
      let group = same_text r.publication.group a.like.group (like_parts a.like r.publication r.like_is).0 ∙ a.group_is ∙ g in
      subst (λ (c : Book). IsCommittedAt c.publications name k) (sym again.1) (record { publication = r.publication; at = r.at; group_is = group }))
  | inr new ↦ record {
    publication = new.publication;
    at = subst (λ ms. at_place k ms ≡ Some new.publication) (sym new.added) (subst (λ i. at_place i (b.publications ++ new.publication ∷ []) ≡ Some new.publication) (sym new.place_is) (last_place b.publications new.publication));
    group_is = new.group_is ∙ g;
  }
]

pub answered_is_committed : AnsweredIsCommitted
answered_is_committed b c u k p e = committed_at b p.task p.publish.ranges k (step b c) (name_of u) p.group_is (publish_answered b c p.publish p.task k p.is_publish p.found e)

pub sequence_has_one_place : SequenceHasOnePlace
sequence_has_one_place b u k l h i a c = one_place (is_of_sequence u) b.publications k l a.publication c.publication (one (is_published u) (h.published.each u i).once) a.at c.at here (text_same c.publication.group (name_of u) c.group_is) where
  here : is_of_sequence u a.publication ≡ true
  here = text_same a.publication.group (name_of u) a.group_is

  one : (x : Bool) → count (is_of_sequence u) b.publications ≡ cond x 1 0 → count (is_of_sequence u) b.publications ≡ 1
  one true e = e
  one false e = absurd (one_counted (is_of_sequence u) a.publication b.publications (place_In k a.publication b.publications a.at) here e)

stays_after : (cs : List Command) (b : Book) (name : List ℕ) (k : ℕ) → IsCommittedAt b.publications name k → IsCommittedAt (book_after b cs).publications name k
stays_after [] b name k a = a
stays_after (c ∷ cs) b name k a = stays_after cs (next b c) name k (record { publication = a.publication; at = publications_stay b c k a.publication a.at; group_is = a.group_is })

-- a book has one place of each name of a sequence
one_of_name : (b : Book) (name : List ℕ) (k l : ℕ) → HasLinks b → begins_with sup_prefix name ≡ true → IsCommittedAt b.publications name k → IsCommittedAt b.publications name l → k ≡ l
one_of_name b name k l h own a c =
    let g = h.published.groups a.publication (place_In k a.publication b.publications a.at) (subst (λ text. begins_with sup_prefix text ≡ true) (sym a.group_is) own) in
    let named : name ≡ name_of g.sequence = sym a.group_is ∙ g.group_is in
    sequence_has_one_place b g.sequence k l h g.among (record { publication = a.publication; at = a.at; group_is = g.group_is }) (record { publication = c.publication; at = c.at; group_is = c.group_is ∙ named })

pub sequence_has_one_number : SequenceHasOneNumber
sequence_has_one_number b c d cs u v k l h form forms last same p e q f =
    let middle = book_after (next b c) cs in
    let links : HasLinks middle = links_after cs (next b c) forms (commands_keep_links b c form h) in
    let before = stays_after (d ∷ []) middle (name_of u) k (stays_after cs (next b c) (name_of u) k (answered_is_committed b c u k p e)) in
    let now = answered_is_committed middle d v l q f in
    one_of_name (next middle d) (name_of u) k l (commands_keep_links middle d last links) refl before (record { publication = now.publication; at = now.at; group_is = now.group_is ∙ same })

-- ---- a closed sequence can be published

-- neither the turn nor the offsets speak against it
next_fits : (b : Book) (t : TaskRow) (u : SequenceRow) (ranges : Ranges) → HasLinks b → In t b.tasks → In u b.sequences → t.group ≡ name_of u → IsNext b u ranges → ranges_fault b t (Some ranges) ≡ None
next_fits b t u ranges h i j g n =
    let s = n.supervisor in
    let own = own_source b t h i u (named_is b h u t.group j g) in
    let source : t.source ≡ s.source = own.2 ∙ sym n.source_is in
    let turn : IsTurn s b.sequences u ranges.parts = record { first = subst (λ (q : List ℕ). first_open q u.group b.sequences ≡ Some u) (sym n.source_is) n.first; closed = n.closed; ranges = n.ranges_are } in
    let keys = have_keys b.supervisors b.sequences h.supervisors h.supervised.each h.linked.counted (few_rows (length b.sequences) h.supervised.room) in
    let goes = closed_goes_on b.offsets s b.sequences u ranges.parts keys h.linked.counted (In-all (λ v. AreOwn v b.sequences) s b.supervisors n.among h.linked.own) (In-all (AreChained b.offsets b.sequences) s b.supervisors n.among h.linked.chained) turn in
    both (passes b.supervisors b.sequences t.source t.group (Some ranges)) (turn_passes s source) (at_names t.source ranges.stream source n.stream_is goes) where
      at_names : (source stream : List ℕ) → source ≡ n.supervisor.source → stream ≡ n.supervisor.stream → compare b.offsets n.supervisor.source n.supervisor.stream ranges.parts ≡ None → compare b.offsets source stream ranges.parts ≡ None
      at_names source stream x y e = rw (x, y) e

      found : is_found (first_open u.source u.group b.sequences) u ≡ true
      found = subst (λ o. is_found o u ≡ true) (sym n.first) (eq-eqb u.index u.index refl)

      turn_passes : (s : SupervisorRow) → t.source ≡ n.supervisor.source → passes b.supervisors b.sequences t.source t.group (Some ranges) ≡ true
      turn_passes s source =
          subst (λ o. passes_by o (supervisor_of t.source b.supervisors) b.sequences (Some ranges) ≡ true) (sym (named_is b h u t.group j g))
          (subst (λ o. passes_by (Some u) o b.sequences (Some ranges) ≡ true) (sym (supervisor_is b.supervisors t.source n.supervisor h.supervisors.sources n.among (sym source)))
          (and_from (is_found (first_open u.source u.group b.sequences) u && is_closed u) (tells (Some n.supervisor) u (Some ranges)) (and_from (is_found (first_open u.source u.group b.sequences) u) (is_closed u) found n.closed)
          (and_from (bytes_eq ranges.stream n.supervisor.stream) (are_ranges u.starts u.ends ranges.parts) (text_same ranges.stream n.supervisor.stream n.stream_is) n.ranges_are)))

      both : (x : Bool) → x ≡ true → compare b.offsets t.source ranges.stream ranges.parts ≡ None → or_else (cond x None (Some (Refusals.RangeNotAssigned t.source))) (compare b.offsets t.source ranges.stream ranges.parts) ≡ None
      both true e f = f
      both false e f = absurd (false≢true e)

-- ---- the reply

module _ (b : Book) where
  fitted_free : (o : Option Table) (after : Book) (reply : Reply) → is_for_ranges reply ≡ false → is_for_ranges (fitted_by o b (changed after reply)).reply ≡ false
  fitted_free (Some table) after reply e = refl
  fitted_free None after reply e = e

  unless_free : (x : Option SegId) (f : Option Refusal) (tables : List Table) (after : Book) (reply : Reply) → f ≡ None → is_for_ranges reply ≡ false → is_for_ranges (unless (or_else (option_map Refusals.NotAllocated x) f) b (fitted tables b after reply)).reply ≡ false
  unless_free (Some a) f tables after reply e free = refl
  unless_free None (Some why) tables after reply e free = cc
  unless_free None None tables after reply e free = fitted_free (no_room tables after) after reply free

  running_free : (s : TaskStatus) (out : Outcome) → is_for_ranges out.reply ≡ false → is_for_ranges (running_as s b out).reply ≡ false
  running_free Statuses.Running out e = e
  running_free Statuses.Waiting out e = refl
  running_free Statuses.Success out e = refl
  running_free Statuses.Failed out e = refl

  published_free : (r : Option ℕ) (s : TaskStatus) (out : Outcome) → is_for_ranges out.reply ≡ false → is_for_ranges (published_or r b s Replies.Append out).reply ≡ false
  published_free (Some k) s out e = refl
  published_free None s out e = running_free s out e

  appended_free : (t : TaskRow) (ids : List SegId) (ranges : Option Ranges) → ranges_fault b t ranges ≡ None → is_for_ranges (appended (Some t) b (appending ids ranges)).reply ≡ false
  appended_free t ids ranges e =
      published_free (repeat_of (publication_of PubKinds.Append t [] (appending ids ranges)) b.publications) t.status (append_running b (appending ids ranges) t)
      (unless_free (find (λ a. not (is_allocated b.posses b.pendings t.task a)) ids) (ranges_fault b t ranges) (Tables.Segments ∷ Tables.Upgrades ∷ Tables.Publications ∷ Tables.Offsets ∷ []) (after_append t (appending ids ranges) b) (Replies.Append (length b.publications)) e refl)

pub next_is_let_through : NextIsLetThrough
next_is_let_through b task ids ranges u h p n =
    let q : TaskRanges = record { task = task; ranges = Some ranges } in
    let same : q ≡ p.publish = some_is q p.publish p.is_publish in
    let found : task_of task b.tasks ≡ Some p.task = ap (λ (x : TaskRanges). task_of x.task b.tasks) same ∙ p.found in
    let among : In p.task b.tasks = found_task task b p.task found in
    subst (λ o. is_for_ranges (appended o b (appending ids (Some ranges))).reply ≡ false) (sym found) (appended_free b p.task ids (Some ranges) (next_fits b p.task u ranges h among p.among p.group_is n))
