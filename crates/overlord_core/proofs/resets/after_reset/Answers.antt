use Rattle.std.proofs.Common.{◌≡◌, ◌∙◌, List, OnOk, [], ap, cond, map, subst, ℕ}
use Rattle.book_rows.specs.PublishSteps.{after_reset, offsets_reset, reads_stream}
use Rattle.book_rows.specs.Sequences.{dropped_sequence, supervisor_of, tasks_dropped}
use Rattle.book_rows.specs.TaskSteps.{all_failed}
use Rattle.book_rows.specs.declared.rows.Book.{Book}
use Rattle.overlord_core.proofs.ResetOutcomes.{dropped_by}
use Rattle.overlord_core.proofs.resets.after_reset.Goals as goal

pub returns : goal.returns
returns c =
    let source : List ℕ = c.args.source.now in
    let stream : List ℕ = c.args.stream.now in
    let whole : Book = offsets_reset source stream c.args.offsets.now c.args.core.now in
    let same : all_failed c.in_ok-failing.failing.items c.sequences_reset.new.core ≡ after_reset source stream c.args.offsets.now c.args.core.now =
    ap (λ (tasks : List (List ℕ)). all_failed tasks c.sequences_reset.new.core) c.in_ok-failing.ensures.tasks
    ∙ ap (λ (b : Book). all_failed (cond (reads_stream (supervisor_of source c.offsets_reset.new.core.supervisors) stream) (tasks_dropped source c.offsets_reset.new.core.sequences) []) b) c.in_ok-failing.ensures.rows
    ∙ ap (λ (b : Book). all_failed (cond (reads_stream (supervisor_of source b.supervisors) stream) (tasks_dropped source b.sequences) []) (record b { sequences = cond (reads_stream (supervisor_of source b.supervisors) stream) (map (dropped_sequence source) b.sequences) b.sequences })) c.in_ok-offsets_reset.ensures
    ∙ dropped_by (reads_stream (supervisor_of source whole.supervisors) stream) source whole in
    subst (λ (b : Book). OnOk c.all_failed.result (c.all_failed.new.self ≡ b)) same c.all_failed.ensures
