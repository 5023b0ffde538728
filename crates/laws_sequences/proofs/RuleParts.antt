-- The rule on sequences, and what is kept of supervisors, sequences, tasks and publications: each gives the other.
use Rattle.std.proofs.Common.{List, bytes_eq, filter, inl, inr, length, map, refl, subst, true, ℕ, ◌∙◌, ◌≡◌}
use Rattle.std.specs.List.{AllByRecursion, range_with_len}
use Rattle.book_rows.specs.Lists.{In}
use Rattle.book_rows.specs.SequenceRules.{AreSequencesSound, HasLive, IsOwn, IsSupervised, IsToldOnce}
use Rattle.book_rows.specs.Sequences.{is_of_group, partitions_of}
use Rattle.book_rows.specs.Ticks.{of_group}
use Rattle.book_rows.specs.declared.rows.Book.{Book}
use Rattle.book_rows.specs.declared.rows.SequenceRow.{SequenceRow}
use Rattle.book_rows.specs.declared.rows.SupervisorRow.{SupervisorRow}
use Rattle.laws_locks.proofs.Lists.{In-all, In-filter, all_from_In, filter_In, filter_cases}
use Rattle.laws_offsets.proofs.Lists.{same_text, text_same}
use Rattle.laws_sequences.specs.Links.{AreChained, AreCounted, AreLinked, AreOwn, ArePublished, AreReplicas}
use Rattle.laws_sequences.specs.ReportLaws.{AreReported}
use Rattle.laws_sequences.proofs.Counts.{group_from, group_parts}

-- ---- the sequences of a supervisor, and those of each of its groups

module _ (us : List SequenceRow) (s : SupervisorRow) where
  own_of_group : (group : ℕ) → AreOwn s us → AllByRecursion (IsOwn (partitions_of s group)) (of_group s group us)
  own_of_group group own = all_from_In (IsOwn (partitions_of s group)) (of_group s group us) one where
    one : (u : SequenceRow) → In u (of_group s group us) → IsOwn (partitions_of s group) u
    one u i =
        let here = In-filter (is_of_group s.source group) u us i in
        let parts = group_parts s.source group u here.1 in
        subst (λ (g : ℕ). IsOwn (partitions_of s g) u) parts.1 (In-all (λ (v : SequenceRow). bytes_eq v.source s.source ≡ true → IsOwn (partitions_of s v.group) v) u us here.0 own (text_same u.source s.source parts.0))

  own_of_groups : ((group : ℕ) → AllByRecursion (IsOwn (partitions_of s group)) (of_group s group us)) → AreOwn s us
  own_of_groups own = all_from_In (λ (u : SequenceRow). bytes_eq u.source s.source ≡ true → IsOwn (partitions_of s u.group) u) us
      (λ u i e. In-all (IsOwn (partitions_of s u.group)) u (of_group s u.group us) (filter_In (is_of_group s.source u.group) u us i (group_from s.source u.group u (same_text u.source s.source e) refl)) (own u.group))

-- ---- what the rule gives

module _ (b : Book) (rule : AreSequencesSound b) where
  -- a group of no supervisor has no sequences
  pub all_counted : AreCounted b.sequences
  all_counted source group = elim (filter_cases (is_of_group source group) b.sequences) [
    | inl none ↦ rw none refl
    | inr w ↦ of_one w.0 w.1 w.2
  ] where
    of_one : (u : SequenceRow) → In u b.sequences → is_of_group source group u ≡ true
        → map (λ v. v.index) (filter (is_of_group source group) b.sequences) ≡ range_with_len 0 (length (filter (is_of_group source group) b.sequences))
    of_one u i e =
        let own = (rule.sequences u i).supervised in
        subst (λ (x : List ℕ). map (λ v. v.index) (filter (is_of_group x group) b.sequences) ≡ range_with_len 0 (length (filter (is_of_group x group) b.sequences))) (own.source_is ∙ (group_parts source group u e).0)
        (rule.groups own.supervisor own.among group).counted

  pub all_linked : AreLinked b.offsets b.supervisors b.sequences
  all_linked = record {
    counted = all_counted;
    chained = all_from_In (AreChained b.offsets b.sequences) b.supervisors (λ s i group. (rule.groups s i group).chained);
    own = all_from_In (λ (s : SupervisorRow). AreOwn s b.sequences) b.supervisors (λ s i. own_of_groups b.sequences s (λ group. (rule.groups s i group).own));
  }

  pub all_reported : AreReported b.tasks b.sequences
  all_reported = record {
    told = record { told = all_from_In IsToldOnce b.sequences (λ u i. (rule.sequences u i).told); reporters = λ u r i j. (rule.sequences u i).reporters r j };
    compactions = rule.compactions;
  }

  pub all_published : ArePublished b.publications b.sequences
  all_published = record { each = λ u i. (rule.sequences u i).published; groups = rule.publications }

-- ---- what gives the rule

pub rule_from : (b : Book) → ((u : SequenceRow) → In u b.sequences → IsSupervised b.supervisors u) → AreLinked b.offsets b.supervisors b.sequences → AreReplicas b.supervisors b.sequences b.tasks
    → ArePublished b.publications b.sequences → AreReported b.tasks b.sequences → ((u : SequenceRow) → In u b.sequences → HasLive b.tasks u) → AreSequencesSound b
rule_from b supervised linked replicas published reported live = record {
  sequences = λ u i. record {
    supervised = supervised u i;
    told = In-all IsToldOnce u b.sequences i reported.told.told;
    reporters = λ r j. reported.told.reporters u r i j;
    live = live u i;
    published = published.each u i;
  };
  groups = λ s i group. record {
    counted = linked.counted s.source group;
    own = own_of_group b.sequences s group (In-all (λ (v : SupervisorRow). AreOwn v b.sequences) s b.supervisors i linked.own);
    chained = In-all (AreChained b.offsets b.sequences) s b.supervisors i linked.chained group;
  };
  replicas = replicas;
  compactions = reported.compactions;
  publications = published.groups;
}
