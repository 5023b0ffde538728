-- A sequence is published on the stream of its source's supervisor, whatever commands come.
use Rattle.std.proofs.Common.{◌≡◌, ℕ, Bool, true, false, cond, List, [], ◌∷◌, ◌++◌, map, Some, None, Option, refl, sym, ◌∙◌, ap, subst, inl, inr, ◌⊎◌, bytes_eq}
use Rattle.std.specs.List.{list_all}
use Rattle.std.proofs.lemmas.Bool.{and_parts, false≢true, or_right}
use Rattle.book_rows.specs.Answer.{book_after, empty_book, next, step}
use Rattle.book_rows.specs.Form.{KeepsForm, keeps_form}
use Rattle.book_rows.specs.Lists.{In}
use Rattle.book_rows.specs.Names.{begins_with, sup_prefix}
use Rattle.book_rows.specs.Outcome.{Outcome}
use Rattle.book_rows.specs.Over.{Target}
use Rattle.book_rows.specs.Publications.{drop_publication, publication_of, ranges_fault, repeat_of, reset_publication, same_ranges}
use Rattle.book_rows.specs.PublishSteps.{offsets_reset, reads_stream, sequences_dropped}
use Rattle.book_rows.specs.Reports.{ended}
use Rattle.book_rows.specs.Sequences.{are_ranges, dropped_sequence, name_of, supervisor_of, tasks_dropped, tells}
use Rattle.book_rows.specs.Shape.{AreDistinct, same_supervisor}
use Rattle.book_rows.specs.TaskSteps.{after_end, all_failed, with_status}
use Rattle.book_rows.specs.Ticks.{ticked}
use Rattle.book_rows.specs.Locks.{left_all_locks, locks_of}
use Rattle.book_rows.specs.declared.commands.Command.{Command}
use Rattle.book_rows.specs.declared.kinds.PubKind.TheVariants as PubKinds
use Rattle.book_rows.specs.declared.kinds.TaskStatus.{TaskStatus}
use Rattle.book_rows.specs.declared.rows.Book.{Book}
use Rattle.book_rows.specs.declared.rows.Offset.{Offset}
use Rattle.book_rows.specs.declared.rows.Publication.{Publication}
use Rattle.book_rows.specs.declared.rows.Ranges.{Ranges}
use Rattle.book_rows.specs.declared.rows.SequenceRow.{SequenceRow}
use Rattle.book_rows.specs.declared.rows.SupervisorRow.{SupervisorRow}
use Rattle.book_rows.specs.declared.rows.TaskRow.{TaskRow}
use Rattle.laws_locks.proofs.Lists.{In-append, In-left, found_In}
use Rattle.laws_locks.proofs.Reaching.{place_In}
use Rattle.laws_offsets.proofs.Lists.{same_text, some_is}
use Rattle.laws_sequences.specs.Links.{HasLinks}
use Rattle.laws_sequences.specs.StreamLaws.{AcceptedIsOnStream, AnsweredIsOnStream, AreOnStreams, CommandsKeepStreams, HasStreams, IsOnItsStream, IsOnStream, StreamsStay, stream_in}
use Rattle.laws_sequences.proofs.Accepted.{publish_fits}
use Rattle.laws_sequences.proofs.Answered.{IsAnswered, like_parts, publish_answered, repeat_is}
use Rattle.laws_sequences.proofs.CommittedRows.{own_source}
use Rattle.laws_sequences.proofs.EachCommand.{links_kept}
use Rattle.laws_sequences.proofs.EachStep.{KeepsSteps, each_keeps, found_task, managed_keeps}
use Rattle.laws_sequences.proofs.Lines.{all_failed_keeps, left_keeps}
use Rattle.laws_sequences.proofs.Numbers.{named_is, turn_tells}
use Rattle.laws_sequences.proofs.Reaching.{empty_links}
use Rattle.laws_sequences.proofs.Turns.{supervisor_is}

-- ---- the stream of a publish that is let through

-- the ranges are on the stream of a supervisor of the source
record IsTold (ss : List SupervisorRow) (source : List ℕ) (ranges : Option Ranges) : Type 0 where
  supervisor : SupervisorRow
  among : In supervisor ss
  source_is : supervisor.source ≡ source
  stream_is : stream_in ranges ≡ Some supervisor.stream

told_by : (ss : List SupervisorRow) (source : List ℕ) (u : SequenceRow) (o : Option SupervisorRow) (ranges : Option Ranges) → supervisor_of source ss ≡ o → tells o u ranges ≡ true → IsTold ss source ranges
told_by ss source u None ranges e h = absurd (false≢true h)
told_by ss source u (Some s) None e h = absurd (false≢true h)
told_by ss source u (Some s) (Some r) e h =
    let found = found_In (λ (v : SupervisorRow). bytes_eq v.source source) s ss e in
    record {
      supervisor = s;
      among = found.0;
      source_is = same_text s.source source found.1;
      stream_is = ap (λ (stream : List ℕ). Some stream) (same_text r.stream s.stream (and_parts (bytes_eq r.stream s.stream) (are_ranges u.starts u.ends r.parts) h).0);
    }

-- the source has one supervisor
its_stream : (ss : List SupervisorRow) (u : SequenceRow) (ranges : Option Ranges) → AreDistinct same_supervisor ss → IsTold ss u.source ranges → IsOnItsStream ss u ranges
its_stream ss u ranges d h s i same =
    let one : h.supervisor ≡ s = some_is h.supervisor s (sym (supervisor_is ss u.source h.supervisor d h.among h.source_is) ∙ supervisor_is ss u.source s d i same) in
    subst (λ (v : SupervisorRow). stream_in ranges ≡ Some v.stream) one h.stream_is

module _ (b : Book) (links : HasLinks b) (t : TaskRow) (i : In t b.tasks) where
  let_through : (u : SequenceRow) (ranges : Option Ranges) → In u b.sequences → t.group ≡ name_of u → ranges_fault b t ranges ≡ None → IsTold b.supervisors t.source ranges
  let_through u ranges j group_is fault = told_by b.supervisors t.source u (supervisor_of t.source b.supervisors) ranges refl (turn_tells b links u t ranges j group_is fault)

  -- the source of a sequence's task is the sequence's
  its_source : (u : SequenceRow) → In u b.sequences → t.group ≡ name_of u → t.source ≡ u.source
  its_source u j group_is = (own_source b t links i u (named_is b links u t.group j group_is)).2

  -- its publication, where it is named as one of a sequence
  published_on : (ranges : Option Ranges) (m : Publication) → m.group ≡ t.group → m.source ≡ t.source → m.ranges ≡ ranges → ranges_fault b t ranges ≡ None → begins_with sup_prefix m.group ≡ true → IsOnStream b.supervisors m
  published_on ranges m group_is source_is ranges_are fault own =
      let r = links.replicas t i (or_right (begins_with sup_prefix t.task) (begins_with sup_prefix t.group) (subst (λ name. begins_with sup_prefix name ≡ true) group_is own)) in
      let told = let_through r.sequence ranges r.among r.group_is fault in
      record { supervisor = told.supervisor; among = told.among; source_is = told.source_is ∙ sym source_is; stream_is = ap stream_in ranges_are ∙ told.stream_is }

-- ---- publications and supervisors more

streams_push : (ss : List SupervisorRow) (ms : List Publication) (m : Publication) → (begins_with sup_prefix m.group ≡ true → IsOnStream ss m) → AreOnStreams ss ms → AreOnStreams ss (ms ++ m ∷ [])
streams_push ss ms m new h n i = by_place (In-append n ms (m ∷ []) i) where
  by_place : In n ms ⊎ In n (m ∷ []) → begins_with sup_prefix n.group ≡ true → IsOnStream ss n
  by_place (inl j) own = h n j own
  by_place (inr (inl same)) own = subst (λ (x : Publication). IsOnStream ss x) (sym same) (new (subst (λ (x : Publication). begins_with sup_prefix x.group ≡ true) same own))
  by_place (inr (inr j)) own = absurd j

streams_supervise : (ss : List SupervisorRow) (ms : List Publication) (s : SupervisorRow) → AreOnStreams ss ms → AreOnStreams (ss ++ s ∷ []) ms
streams_supervise ss ms s h m i own =
    let old = h m i own in
    record { supervisor = old.supervisor; among = In-left old.supervisor ss (s ∷ []) old.among; source_is = old.source_is; stream_is = old.stream_is }

-- a publication of no sequence
streams_beside : (b : Book) (m : Publication) → begins_with sup_prefix m.group ≡ false → HasStreams b → AreOnStreams b.supervisors (b.publications ++ m ∷ [])
streams_beside b m off h = streams_push b.supervisors b.publications m (λ own. absurd (false≢true (sym off ∙ own))) h

streams_published : (b : Book) (t : TaskRow) (ranges : Option Ranges) (m : Publication) → HasLinks b → In t b.tasks → m.group ≡ t.group → m.source ≡ t.source → m.ranges ≡ ranges → ranges_fault b t ranges ≡ None → HasStreams b → AreOnStreams b.supervisors (b.publications ++ m ∷ [])
streams_published b t ranges m links i group_is source_is ranges_are fault h = streams_push b.supervisors b.publications m (published_on b links t i ranges m group_is source_is ranges_are fault) h

-- ---- tasks that fail or end, and a reset

fail_streams : (tasks : List (List ℕ)) (b : Book) → HasStreams b → HasStreams (all_failed tasks b)
fail_streams tasks b h = all_failed_keeps HasStreams (λ n task c k. k) (λ task c k. k) tasks b h

end_streams : (b : Book) (t : TaskRow) (status : TaskStatus) → HasStreams b → HasStreams (after_end t status b)
end_streams b t status h =
    let e = ended t.group t.task b.clock b.sequences in
    fail_streams e.tasks (record (with_status t.task status (left_all_locks t.task b)) { sequences = e.sequences }) (left_keeps HasStreams (λ n task c k. k) (locks_of t.task b.posses) t.task b h)

reset_streams : (x : Bool) (b : Book) (source stream : List ℕ) (os : List Offset) → HasStreams b → HasStreams (cond x (sequences_dropped source (offsets_reset source stream os b)) (offsets_reset source stream os b))
reset_streams false b source stream os h = streams_beside b (reset_publication source stream os) refl h
reset_streams true b source stream os h =
    fail_streams (tasks_dropped source b.sequences) (record (offsets_reset source stream os b) { sequences = map (dropped_sequence source) b.sequences }) (streams_beside b (reset_publication source stream os) refl h)

-- ---- any command

abbrev LinksAndStreams : Book → Type 0
LinksAndStreams b = HasLinks b × HasStreams b

streams_kept : KeepsSteps KeepsForm LinksAndStreams
streams_kept = record {
  submits = λ b task group source kind priority locks form new h. (links_kept.submits b task group source kind priority locks form new h.0, h.1);
  manages = λ b now h. (links_kept.manages b now h.0, managed_keeps HasStreams (λ b now h. h) (λ b task g h. h) (λ b task h. h) b now h.1);
  grants = λ b task g h. h;
  leaves = λ b lock task h. h;
  joins = λ b now qs h. h;
  allots = λ b n h. h;
  appends = λ b t given i fault h. (links_kept.appends b t given i fault h.0, streams_published b t given.ranges (publication_of PubKinds.Append t [] given) h.0 i refl refl refl fault h.1);
  inserts = λ b t xs given i fault h. (
    links_kept.inserts b t xs given i fault h.0,
    streams_published b t given.ranges (publication_of PubKinds.Over t (map (λ (x : Target). record { span = x.span; since = 0 }) xs) given) h.0 i refl refl refl fault h.1,
  );
  replaces = λ b t xs given i fault h. (
    links_kept.replaces b t xs given i fault h.0,
    streams_published b t given.ranges (publication_of PubKinds.Replace t (map (λ (x : Target). record { span = x.span; since = x.since }) xs) given) h.0 i refl refl refl fault h.1,
  );
  drops = λ b source span h. (links_kept.drops b source span h.0, streams_beside b (drop_publication source span) refl h.1);
  resets = λ b source stream os h. (links_kept.resets b source stream os h.0, reset_streams (reads_stream (supervisor_of source b.supervisors) stream) b source stream os h.1);
  ends = λ b task t status form i h. (links_kept.ends b task t status form i h.0, end_streams b t status h.1);
  reports = λ b t offsets u i found fits h. (links_kept.reports b t offsets u i found fits h.0, h.1);
  supervises = λ b source stream partitions task_count replicas duration timeout form none room h. (
    links_kept.supervises b source stream partitions task_count replicas duration timeout form none room h.0,
    streams_supervise b.supervisors b.publications (record { source = source; stream = stream; partitions = partitions; task_count = task_count; replicas = replicas; duration = duration; timeout = timeout }) h.1,
  );
  ticks = λ b now room h. (links_kept.ticks b now room h.0, fail_streams (ticked b.offsets now b.supervisors b.sequences).told.ended (record b { clock = now; sequences = (ticked b.offsets now b.supervisors b.sequences).rows }) h.1);
}

streams_next : (b : Book) (c : Command) → KeepsForm c → LinksAndStreams b → LinksAndStreams (next b c)
streams_next = each_keeps KeepsForm LinksAndStreams streams_kept

pub commands_keep_streams : CommandsKeepStreams
commands_keep_streams b c form links h = (streams_next b c form (links, h)).1

streams_after : (cs : List Command) (b : Book) → list_all keeps_form cs ≡ true → LinksAndStreams b → LinksAndStreams (book_after b cs)
streams_after [] b forms h = h
streams_after (c ∷ cs) b forms h =
    let form = and_parts (keeps_form c) (list_all keeps_form cs) forms in
    streams_after cs (next b c) form.1 (streams_next b c form.0 h)

pub streams_stay : StreamsStay
streams_stay cs forms = (streams_after cs empty_book forms (empty_links, λ m i own. absurd i)).1

-- ---- what a publish of a replica has

pub accepted_is_on_stream : AcceptedIsOnStream
accepted_is_on_stream b c u links p changed =
    let i = found_task p.publish.task b p.task p.found in
    let told = let_through b links p.task i u p.publish.ranges p.among p.group_is (publish_fits b c p.publish p.task p.is_publish p.found changed) in
    its_stream b.supervisors u p.publish.ranges links.supervisors.sources (subst (λ source. IsTold b.supervisors source p.publish.ranges) (its_source b links p.task i u p.among p.group_is) told)

same_stream : (a b : Option Ranges) (stream : List ℕ) → same_ranges a b ≡ true → stream_in a ≡ Some stream → stream_in b ≡ Some stream
same_stream None b stream e h = cc
same_stream (Some a) None stream e h = cc
same_stream (Some a) (Some b) stream e h = ap (λ (x : List ℕ). Some x) (sym (same_text a.stream b.stream (and_parts (bytes_eq a.stream b.stream) _ e).0)) ∙ h

module _ (b : Book) (links : HasLinks b) (streams : HasStreams b) (u : SequenceRow) (t : TaskRow) (i : In t b.tasks) (j : In u b.sequences) (group_is : t.group ≡ name_of u) where
  -- the publication that it repeats is on a supervisor's stream
  repeats_on : (like : Publication) (k : ℕ) → like.group ≡ t.group → like.source ≡ t.source → repeat_of like b.publications ≡ Some k → IsTold b.supervisors t.source like.ranges
  repeats_on like k group source e =
      let r = repeat_is like b.publications k e in
      let parts = like_parts like r.publication r.like_is in
      let named : r.publication.group ≡ name_of u = same_text r.publication.group like.group parts.0 ∙ group ∙ group_is in
      let on = streams r.publication (place_In k r.publication b.publications r.at) (rw named refl) in
      record {
        supervisor = on.supervisor;
        among = on.among;
        source_is = on.source_is ∙ same_text r.publication.source like.source parts.1 ∙ source;
        stream_is = same_stream r.publication.ranges like.ranges on.supervisor.stream parts.2 on.stream_is;
      }

  answered_on : (ranges : Option Ranges) (k : ℕ) (out : Outcome) → IsAnswered b t ranges k out → IsTold b.supervisors t.source ranges
  answered_on ranges k out a = elim a.answered [
    | inl again ↦ subst (λ r. IsTold b.supervisors t.source r) a.ranges_are (repeats_on a.like k a.group_is a.source_is again.0)
    | inr new ↦ let_through b links t i u ranges j group_is new.fault
  ]

pub answered_is_on_stream : AnsweredIsOnStream
answered_is_on_stream b c u k links streams p e =
    let i = found_task p.publish.task b p.task p.found in
    let told = answered_on b links streams u p.task i p.among p.group_is p.publish.ranges k (step b c) (publish_answered b c p.publish p.task k p.is_publish p.found e) in
    its_stream b.supervisors u p.publish.ranges links.supervisors.sources (subst (λ source. IsTold b.supervisors source p.publish.ranges) (its_source b links p.task i u p.among p.group_is) told)
