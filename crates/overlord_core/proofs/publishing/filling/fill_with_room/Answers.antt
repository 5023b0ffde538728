use Rattle.std.proofs.Common.{◌≡◌, ◌∙◌, List, Option, [], ap, length, subst, sym, true}
use Rattle.book_rows.specs.Form.{is_few}
use Rattle.book_rows.specs.Outcome.{fitted_by, no_room}
use Rattle.book_rows.specs.Outcome as rules_of
use Rattle.book_rows.specs.Over.{Target, kind_of}
use Rattle.book_rows.specs.Over as over
use Rattle.book_rows.specs.PublishSteps.{commit_reply, filled}
use Rattle.book_rows.specs.Publications.{Publish, publication_of, without_since}
use Rattle.book_rows.specs.declared.kinds.Table.{Table}
use Rattle.book_rows.specs.declared.rows.Book.{Book}
use Rattle.book_rows.specs.declared.rows.Publication.{Publication}
use Rattle.book_rows.specs.declared.rows.TaskRow.{TaskRow}
use Rattle.publish_core.specs.Kinds.{filling_of}
use Rattle.stream_offsets.specs.Room.{ranges_ascend}
use Rattle.upgrade_plan.specs.NewRows.{new_chunks, new_pendings, new_segments}
use Rattle.upgrade_plan.specs.declared.filling.OverRows.{OverRows}
use Rattle.overlord_core.specs.Commits.{committed_by, fill_tables, pending_rows, with_fill_rows}
use Rattle.book_core.specs.Publishing.{spans_in}
use Rattle.overlord_core.proofs.Plans.{fill_is, filled_is, fits_by, after_fill}
use Rattle.overlord_core.proofs.publishing.filling.fill_with_room.Goals as goal

pub rows_for_fill-requires-clause-few : goal.rows_for_fill-requires-clause-few
rows_for_fill-requires-clause-few c = subst (λ (m : Publication). is_few m.adds ≡ true) (sym c.in_ok-dated.ensures) c.requires.few

pub room_for_fill-requires-clause-ascend : goal.room_for_fill-requires-clause-ascend
room_for_fill-requires-clause-ascend c = subst (λ (m : Publication). ranges_ascend m.ranges ≡ true) (sym c.in_ok-dated.ensures) c.requires.ascend

module _ (f : over.Filling) (b : Book) (t : TaskRow) (p : Publish) (m dated : Publication) (xs : List Target) (rows : OverRows) where
  roomed : (o : Option Table) → m ≡ publication_of (kind_of f) t (without_since p.spans) p → dated ≡ record m { spans = spans_in f xs }
      → rows.chunks.items ≡ new_chunks f (pending_rows b) dated.source dated.adds (length b.publications) xs
      → rows.segments.items ≡ new_segments f (pending_rows b) dated.source dated.adds dated.empties (length b.publications) xs
      → rows.pendings.items ≡ new_pendings f (pending_rows b) dated.source dated.adds (length b.publications) xs
      → o ≡ no_room (fill_tables f) (committed_by dated (with_fill_rows f xs rows b))
      → fitted_by o b (rules_of.changed (committed_by dated (with_fill_rows f xs rows b)) (commit_reply (kind_of f) (length b.publications))) ≡ filled f b p t xs
  roomed o own dates chunks segments pendings room =
      let whole : dated ≡ publication_of (kind_of f) t (spans_in f xs) p = dates ∙ ap (λ (x : Publication). record x { spans = spans_in f xs }) own in
      fits_by (fill_tables f) b (after_fill f t p xs b) (committed_by dated (with_fill_rows f xs rows b)) (commit_reply (kind_of f) (length b.publications)) o
      (fill_is b t p xs f dated rows whole chunks segments pendings) room
      ∙ sym (filled_is f b t p xs)

pub returns-in-Some : goal.returns-in-Some
returns-in-Some c = λ t p own.
    let b : Book = c.args.core.now in
    let f : over.Filling = filling_of c.args.filling in
    let xs : List Target = c.args.targets.items in
    let dates : c.in_ok-dated.dated ≡ record c.args.publication { spans = spans_in f xs } = rw c.as_slice.ensures.value at c.in_ok-dated.ensures in
    let chunks : c.in_ok-rows.rows.chunks.items ≡ new_chunks f (pending_rows b) c.in_ok-dated.dated.source c.in_ok-dated.dated.adds (length b.publications) xs = rw c.as_slice-2.ensures.value at c.in_ok-rows.ensures.chunks in
    let segments : c.in_ok-rows.rows.segments.items ≡ new_segments f (pending_rows b) c.in_ok-dated.dated.source c.in_ok-dated.dated.adds c.in_ok-dated.dated.empties (length b.publications) xs = rw c.as_slice-2.ensures.value at c.in_ok-rows.ensures.segments in
    let pendings : c.in_ok-rows.rows.pendings.items ≡ new_pendings f (pending_rows b) c.in_ok-dated.dated.source c.in_ok-dated.dated.adds (length b.publications) xs = rw c.as_slice-2.ensures.value at c.in_ok-rows.ensures.pendings in
    roomed f b t p c.args.publication c.in_ok-dated.dated xs c.in_ok-rows.rows _ own dates chunks segments pendings (c.in-Some.ensures xs)

pub returns-in-None : goal.returns-in-None
returns-in-None c = λ t p own.
    let b : Book = c.args.core.now in
    let f : over.Filling = filling_of c.args.filling in
    let xs : List Target = c.args.targets.items in
    let dates : c.in_ok-dated.dated ≡ record c.args.publication { spans = spans_in f xs } = rw c.as_slice.ensures.value at c.in_ok-dated.ensures in
    let chunks : c.in_ok-rows.rows.chunks.items ≡ new_chunks f (pending_rows b) c.in_ok-dated.dated.source c.in_ok-dated.dated.adds (length b.publications) xs = rw c.as_slice-2.ensures.value at c.in_ok-rows.ensures.chunks in
    let segments : c.in_ok-rows.rows.segments.items ≡ new_segments f (pending_rows b) c.in_ok-dated.dated.source c.in_ok-dated.dated.adds c.in_ok-dated.dated.empties (length b.publications) xs = rw c.as_slice-2.ensures.value at c.in_ok-rows.ensures.segments in
    let pendings : c.in_ok-rows.rows.pendings.items ≡ new_pendings f (pending_rows b) c.in_ok-dated.dated.source c.in_ok-dated.dated.adds (length b.publications) xs = rw c.as_slice-2.ensures.value at c.in_ok-rows.ensures.pendings in
    roomed f b t p c.args.publication c.in_ok-dated.dated xs c.in_ok-rows.rows _ own dates chunks segments pendings (c.in-None.ensures xs)
