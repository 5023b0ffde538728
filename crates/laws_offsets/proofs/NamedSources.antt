-- Every command keeps that the sources of tasks and supervisors are names.
use Rattle.std.proofs.Common.{◌≡◌, ℕ, Bool, true, false, cond, List, [], ◌∷◌, ◌&&◌, map, length, Some, None, Option, refl, sym, subst, ◌∙◌, nat_le}
use Rattle.std.specs.List.{list_all}
use Rattle.std.proofs.lemmas.List.Folds.{list_all-map}
use Rattle.iv_span.specs.Extent.{Extent}
use Rattle.seg_names.specs.Names.{is_between, is_name}
use Rattle.book_rows.specs.Answer.{next}
use Rattle.book_rows.specs.Form.{is_submit_text, is_want, item_limit, keeps_form, priority_limit}
use Rattle.iv_time.specs.Durations.{is_duration}
use Rattle.book_rows.specs.Outcome.{Outcome}
use Rattle.book_rows.specs.PublishSteps.{after_reset, offsets_reset, reads_stream, sequences_dropped}
use Rattle.book_rows.specs.Sequences.{dropped_sequence, supervisor_of, tasks_dropped}
use Rattle.book_rows.specs.declared.commands.Command.{Command}
use Rattle.book_rows.specs.declared.commands.Command.TheVariants as Commands
use Rattle.book_rows.specs.declared.kinds.Table.TheVariants as Tables
use Rattle.book_rows.specs.declared.replies.Reply.TheVariants as Replies
use Rattle.book_rows.specs.declared.rows.Book.{Book}
use Rattle.book_rows.specs.declared.rows.Offset.{Offset}
use Rattle.laws_locks.proofs.Lists.{pass_push}
use Rattle.laws_offsets.specs.Effects.{TaskRanges, publish_of, publishes_nothing}
use Rattle.laws_offsets.specs.OffsetShape.{HasNames, HaveNamedSources, HaveNamedSupervisors, NamesStay}
use Rattle.laws_offsets.proofs.EachCommand.{unless_changed}
use Rattle.laws_offsets.proofs.Lists.{more_pass, some_is}
use Rattle.laws_offsets.proofs.Others.{Fact, IsKeptBy, Of, all_failed_keep, new_source, others_keep}
use Rattle.laws_offsets.proofs.Outcomes.{fitted_is}
use Rattle.laws_offsets.proofs.Publishes.{publish_goes_on}
use Rattle.laws_offsets.proofs.ResetAndDrop.{drop_leaves_offsets}

abbrev named : Fact
named ms os ts ss = HaveNamedSources ts × HaveNamedSupervisors ss

-- where a new source is a name
kept : (new : Option (List ℕ)) → ((source : List ℕ) → new ≡ Some source → is_name source ≡ true) → IsKeptBy named new
kept new names = record {
  status = λ task status ms os ts ss h. (list_all-map (λ t. is_name t.source) _ ts ∙ h.0, h.1);
  submitted = λ t ms os ts ss is h. (pass_push (λ t. is_name t.source) ts t h.0 (names t.source is), h.1);
  supervised = λ s ms os ts ss is h. (h.0, pass_push (λ s. is_name s.source) ss s h.1 (names s.source is));
  opened = λ rows ms os ts ss are h. (more_pass (λ t. is_name t.source) ts rows h.0 (are is_name h.1), h.1);
}

-- ---- publishing, dropping and resetting bring no source

moved : (b after : Book) → after.tasks ≡ b.tasks → after.supervisors ≡ b.supervisors → HasNames b → HasNames after
moved b after e f h = record { tasks = subst HaveNamedSources (sym e) h.tasks; supervisors = subst HaveNamedSupervisors (sym f) h.supervisors }

published_names : (b : Book) (c : Command) (p : TaskRanges) → publish_of c ≡ Some p → HasNames b → HasNames (next b c)
published_names b c p of h = unless_changed HasNames b c h (λ on. (let w = publish_goes_on b c p of on in moved b (next b c) w.tasks w.supervisors h))

dropped_names : (b : Book) (source : List ℕ) (span : Extent) → HasNames b → HasNames (next b (Commands.Drop source span))
dropped_names b source span h = unless_changed HasNames b (Commands.Drop source span) h (λ on. (let w = drop_leaves_offsets b source span on in moved b (next b (Commands.Drop source span)) w.tasks w.supervisors h))

-- sequences of a source that are dropped
sequences_names : (reads : Bool) (source : List ℕ) (b : Book) → Of named b → Of named (cond reads (sequences_dropped source b) b)
sequences_names true source b h = all_failed_keep named None (kept None (λ source e. cc)) (tasks_dropped source b.sequences) (record b { sequences = map (dropped_sequence source) b.sequences }) h
sequences_names false source b h = h

from_pair : (b : Book) → Of named b → HasNames b
from_pair b h = record { tasks = h.0; supervisors = h.1 }

abbrev Named : Outcome → Type 0
Named o = HasNames o.book

reset_names : (b : Book) (source stream : List ℕ) (offsets : List Offset) → HasNames b → HasNames (next b (Commands.Reset source stream offsets))
reset_names b source stream offsets h =
    let after : Book = after_reset source stream offsets b in
    fitted_is b Named (λ r. h) (Tables.Publications ∷ Tables.Offsets ∷ []) after (Replies.Reset (length b.publications))
    (λ room. from_pair after (sequences_names (reads_stream (supervisor_of source b.supervisors) stream) source (offsets_reset source stream offsets b) (h.tasks, h.supervisors)))

-- ---- the others

first_of : (a b c d e f g : Bool) → (a && b && c && d && e && f && g) ≡ true → a ≡ true
first_of true b c d e f g h = refl
first_of false b c d e f g h = h

third_of : (a b c d e f : Bool) → (a && b && c && d && e && f) ≡ true → c ≡ true
third_of a b true d e f h = refl
third_of true true false d e f h = h
third_of true false false d e f h = h
third_of false b false d e f h = h

-- a command that keeps its form brings a name
brings_name : (c : Command) → keeps_form c ≡ true → (source : List ℕ) → new_source c ≡ Some source → is_name source ≡ true
brings_name (Commands.Submit task group source kind priority locks) form new is =
    subst (λ (s : List ℕ). is_name s ≡ true) (some_is source new is) (third_of (is_submit_text task) (is_submit_text group) (is_name source) (nat_le priority priority_limit) (nat_le (length locks) 64) (list_all is_want locks) form)
brings_name (Commands.Supervise source stream partitions task_count replicas task_duration completion_timeout) form new is =
    subst (λ (s : List ℕ). is_name s ≡ true) (some_is source new is)
    (first_of (is_name source) (is_name stream) (is_between 1 item_limit partitions) (is_between 1 item_limit task_count) (is_between 1 16 replicas) (is_duration task_duration) (is_duration completion_timeout) form)
brings_name _ form new is = cc

others_names : (b : Book) (c : Command) → keeps_form c ≡ true → publishes_nothing c ≡ true → HasNames b → HasNames (next b c)
others_names b c form is h = from_pair (next b c) (others_keep named b c (kept (new_source c) (brings_name c form)) is (h.tasks, h.supervisors))

pub names_stay : NamesStay
names_stay b (Commands.Append task ids ranges) form h = published_names b (Commands.Append task ids ranges) (record { task = task; ranges = ranges }) refl h
names_stay b (Commands.Insert task spans ids tombstones ranges) form h = published_names b (Commands.Insert task spans ids tombstones ranges) (record { task = task; ranges = ranges }) refl h
names_stay b (Commands.Replace task spans ids tombstones ranges) form h = published_names b (Commands.Replace task spans ids tombstones ranges) (record { task = task; ranges = ranges }) refl h
names_stay b (Commands.Drop source span) form h = dropped_names b source span h
names_stay b (Commands.Reset source stream offsets) form h = reset_names b source stream offsets h
names_stay b (Commands.Submit task group source kind priority locks) form h = others_names b (Commands.Submit task group source kind priority locks) form refl h
names_stay b (Commands.Manage now) form h = others_names b (Commands.Manage now) form refl h
names_stay b (Commands.Lock task lock_kind span now) form h = others_names b (Commands.Lock task lock_kind span now) form refl h
names_stay b (Commands.Unlock task lock) form h = others_names b (Commands.Unlock task lock) form refl h
names_stay b (Commands.Allocate task lock_kind sequence previous at granularity now) form h = others_names b (Commands.Allocate task lock_kind sequence previous at granularity now) form refl h
names_stay b (Commands.End task status) form h = others_names b (Commands.End task status) form refl h
names_stay b (Commands.Supervise source stream partitions task_count replicas task_duration completion_timeout) form h =
    others_names b (Commands.Supervise source stream partitions task_count replicas task_duration completion_timeout) form refl h
names_stay b (Commands.Tick now) form h = others_names b (Commands.Tick now) form refl h
names_stay b (Commands.Paused task offsets) form h = others_names b (Commands.Paused task offsets) form refl h
names_stay b (Commands.Checkpoint task offsets) form h = others_names b (Commands.Checkpoint task offsets) form refl h
names_stay b (Commands.ToReplace task span) form h = others_names b (Commands.ToReplace task span) form refl h
names_stay b (Commands.Show what) form h = others_names b (Commands.Show what) form refl h
