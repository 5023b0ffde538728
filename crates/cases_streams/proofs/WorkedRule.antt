-- The worked cases of the whole rule on sequences, and of reports, computed.
use Rattle.std.proofs.Common.{◌≡◌, ℕ, zero, suc, ◌∷◌, [], Some, true, inl, inr, refl, subst}
use Rattle.std.proofs.lemmas.Bool.{false≢true}
use Rattle.std.specs.Fmt.{digits}
use Rattle.std.specs.Str.{chars, is_utf8}
use lib.Utf8.{encode}
use Rattle.book_rows.specs.Lists.{at_place}
use Rattle.book_rows.specs.Names.{begins_with, compact_name, compact_prefix}
use Rattle.book_rows.specs.SequenceRules.{IsToldOnce, is_sup_task}
use Rattle.book_rows.specs.declared.kinds.TaskStatus.TheVariants as Statuses
use Rattle.book_rows.specs.declared.rows.TaskRow.{TaskRow}
use Rattle.laws_offsets.proofs.Lists.{some_is}
use Rattle.book_rows.specs.Form.{AllKeepForm}
use Rattle.laws_sequences.specs.Links.{AreReplicas, HasLinks}
use Rattle.laws_sequences.specs.ReportLaws.{HasReports}
use Rattle.cases_streams.specs.RuleCases.{CompactionIsKept, ReportIsKept, ReportsAreTold, RuleIsKept, compacting, compaction, started}
use Rattle.cases_streams.specs.SequenceScenes.{closed_row, published_row, second_opened, task_row}
use Rattle.laws_sequences.proofs.Reaching.{links_stay}
use Rattle.laws_sequences.proofs.ReportsKept.{reports_stay}
use Rattle.laws_sequences.proofs.SequencesKept.{sequences_stay_sound}
use Rattle.cases_streams.proofs.WorkedRows.{forms_opened, forms_published, links_opened, rows_opened, seen_published}
use Rattle.cases_streams.proofs.WorkedSound.{opened_is_sound}

told_published : IsToldOnce published_row
unfolding digits
told_published = record { ends = λ e. refl; told = (refl, (refl, tt)); once = ((refl, tt), (tt, tt)) }

pub rule_is_kept : RuleIsKept
unfolding digits chars is_utf8 encode
rule_is_kept = (
  refl,
  opened_is_sound,
  record { tasks = rows_opened; supervisors = links_opened.supervisors; supervised = links_opened.supervised },
  sequences_stay_sound second_opened forms_opened,
  forms_published,
  (
    refl,
    seen_published,
    told_published,
    refl,
    refl,
    refl,
    record { live = refl; some = λ e. absurd (false≢true e) },
    record { live = refl; some = λ e. refl },
    record { live = refl; some = λ e. refl },
  ),
)

-- ---- reports

told_closed : IsToldOnce closed_row
unfolding digits
told_closed = record { ends = λ e. absurd (false≢true e); told = (refl, (refl, tt)); once = ((refl, tt), (tt, tt)) }

pub reports_are_told : ReportsAreTold
unfolding digits
reports_are_told = (
  opened_is_sound,
  forms_opened,
  refl,
  told_closed,
  record { row = task_row 0 0 0 Statuses.Running; among = inl refl; task_is = refl; group_is = refl },
  record { row = task_row 0 0 1 Statuses.Running; among = inr (inl refl); task_is = refl; group_is = refl },
  refl,
)

forms_started : AllKeepForm started
unfolding digits chars is_utf8 encode
forms_started = refl

pub report_is_kept : ReportIsKept
unfolding digits chars is_utf8 encode
report_is_kept = (
  refl,
  links_stay started forms_started,
  reports_stay started forms_started,
  refl,
  refl,
  record { row = task_row 0 1 0 Statuses.Running; among = inr (inr (inr (inr (inl refl)))); task_is = refl; group_is = refl },
)

-- ---- compactions

compacting_links : HasLinks compacting
unfolding digits
compacting_links = record {
  supervisors = record { rows = refl; sources = tt; room = refl };
  supervised = record { room = refl; each = λ u i. absurd i };
  linked = record { counted = λ source group. refl; chained = tt; own = tt };
  replicas = none;
  published = record { each = λ u i. absurd i; groups = λ m i e. absurd i };
} where
  none : AreReplicas [] [] (compaction ∷ [])
  none t (inl same) e = absurd (false≢true (subst (λ (x : TaskRow). is_sup_task x ≡ true) same e))
  none t (inr i) e = absurd i

compacting_reports : HasReports compacting
compacting_reports = record { told = record { told = tt; reporters = λ u r i j. absurd i }; compactions = at_its_place } where
  at_its_place : (k : ℕ) (t : TaskRow) → at_place k compacting.tasks ≡ Some t → begins_with compact_prefix t.task ≡ true → t.task ≡ compact_name t.source k
  at_its_place zero t e c = subst (λ (x : TaskRow). x.task ≡ compact_name x.source 0) (some_is compaction t e) refl
  at_its_place (suc k) t e c = cc

pub compaction_is_kept : CompactionIsKept
unfolding digits chars is_utf8 encode
compaction_is_kept = (refl, compacting_links, compacting_reports, refl, refl)
