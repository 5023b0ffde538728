-- What a publish of a replica is answered, in the book that any commands that keep their form lead to from the one without rows.
use Rattle.std.specs.Prelude.{◌++◌, ◌∷◌, ◌≡◌, List, Some, [], false, ℕ}
use Rattle.seg_names.specs.declared.seg_id.SegId.{SegId}
use Rattle.book_rows.specs.Answer.{answer, reached}
use Rattle.book_rows.specs.Sequences.{name_of}
use Rattle.book_rows.specs.declared.commands.Command.{Command}
use Rattle.book_rows.specs.declared.commands.Command.TheVariants as Commands
use Rattle.book_rows.specs.declared.rows.Ranges.{Ranges}
use Rattle.book_rows.specs.declared.rows.SequenceRow.{SequenceRow}
use Rattle.book_rows.specs.Form.{AllKeepForm}
use Rattle.laws_sequences.specs.PublishLaws.{HasItsRanges, IsNext, IsPublishBy}
use Rattle.laws_sequences.specs.PublishReplies.{commit_of, is_for_ranges}
use Rattle.laws_sequences.specs.StreamLaws.{IsOnItsStream}

-- its ranges are the sequence's, on the stream of the supervisor of the sequence's source
abbrev pub ReachedAnsweredHasRanges : Type 0
ReachedAnsweredHasRanges = (cs : List Command) (c : Command) (u : SequenceRow) (k : ℕ) → AllKeepForm cs → (p : IsPublishBy (reached cs) u c) → commit_of (answer (reached cs) c) ≡ Some k
    → HasItsRanges (reached cs).supervisors u p.publish.ranges × IsOnItsStream (reached cs).supervisors u p.publish.ranges

-- some commands, a publish, others, and another publish by a replica of the same sequence: where both are answered a number, it is one
abbrev pub ReachedSequenceHasOneNumber : Type 0
ReachedSequenceHasOneNumber = (before between : List Command) (c d : Command) (u v : SequenceRow) (k l : ℕ) → AllKeepForm (before ++ c ∷ between ++ d ∷ []) → name_of v ≡ name_of u
    → IsPublishBy (reached before) u c → commit_of (answer (reached before) c) ≡ Some k → IsPublishBy (reached (before ++ c ∷ between)) v d → commit_of (answer (reached (before ++ c ∷ between)) d) ≡ Some l → k ≡ l

-- an append of the ranges of a group's first unpublished sequence, where that is closed, isn't refused for them
abbrev pub ReachedNextIsLetThrough : Type 0
ReachedNextIsLetThrough = (cs : List Command) (task : List ℕ) (ids : List SegId) (ranges : Ranges) (u : SequenceRow) → AllKeepForm cs → IsPublishBy (reached cs) u (Commands.Append task ids (Some ranges)) → IsNext (reached cs) u ranges
    → is_for_ranges (answer (reached cs) (Commands.Append task ids (Some ranges))) ≡ false
