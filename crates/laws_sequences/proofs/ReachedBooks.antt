-- What a publish of a replica is answered in a book that commands reach.
use Rattle.std.proofs.Common.{◌≡◌, true, List, [], ◌∷◌, ◌++◌, Some, refl, sym, subst, ◌∙◌}
use Rattle.std.specs.List.{list_all}
use Rattle.std.proofs.lemmas.Bool.{and_parts}
use Rattle.std.proofs.lemmas.List.Folds.{list_all-append}
use Rattle.book_rows.specs.Answer.{answer, book_after, empty_book, next, reached}
use Rattle.book_rows.specs.Form.{AllKeepForm, KeepsForm, keeps_form}
use Rattle.book_rows.specs.declared.commands.Command.{Command}
use Rattle.book_rows.specs.declared.rows.Book.{Book}
use Rattle.laws_sequences.specs.PublishLaws.{IsPublishBy}
use Rattle.laws_sequences.specs.PublishReplies.{commit_of}
use Rattle.laws_sequences.specs.ReachedLaws.{ReachedAnsweredHasRanges, ReachedNextIsLetThrough, ReachedSequenceHasOneNumber}
use Rattle.laws_sequences.proofs.Numbers.{answered_has_ranges, next_is_let_through, sequence_has_one_number}
use Rattle.laws_sequences.proofs.Reaching.{links_stay}
use Rattle.laws_sequences.proofs.StreamsKept.{answered_is_on_stream, streams_stay}

pub reached_answered_has_ranges : ReachedAnsweredHasRanges
reached_answered_has_ranges cs c u k forms p e =
    let links = links_stay cs forms in
    (answered_has_ranges (reached cs) c u k links p e, answered_is_on_stream (reached cs) c u k links (streams_stay cs forms) p e)

pub reached_next_is_let_through : ReachedNextIsLetThrough
reached_next_is_let_through cs task ids ranges u forms p n = next_is_let_through (reached cs) task ids ranges u (links_stay cs forms) p n

-- ---- some commands after others

pub after_both : (cs ds : List Command) (b : Book) → book_after b (cs ++ ds) ≡ book_after (book_after b cs) ds
after_both [] ds b = refl
after_both (c ∷ cs) ds b = after_both cs ds (next b c)

-- what keeps its form: those before, the one, those between, and the other
record HaveForm (before between : List Command) (c d : Command) : Type 0 where
  first : AllKeepForm before
  one : KeepsForm c
  middle : AllKeepForm between
  other : KeepsForm d

have_form : (before between : List Command) (c d : Command) → AllKeepForm (before ++ c ∷ between ++ d ∷ []) → HaveForm before between c d
have_form before between c d forms =
    let a = and_parts (list_all keeps_form (before ++ c ∷ between)) (list_all keeps_form (d ∷ [])) (sym (list_all-append keeps_form (before ++ c ∷ between) (d ∷ [])) ∙ forms) in
    let e = and_parts (list_all keeps_form before) (list_all keeps_form (c ∷ between)) (sym (list_all-append keeps_form before (c ∷ between)) ∙ a.0) in
    let f = and_parts (keeps_form c) (list_all keeps_form between) e.1 in
    record { first = e.0; one = f.0; middle = f.1; other = (and_parts (keeps_form d) true a.1).0 }

pub reached_sequence_has_one_number : ReachedSequenceHasOneNumber
reached_sequence_has_one_number before between c d u v k l forms same p e q f =
    let form = have_form before between c d forms in
    let there : reached (before ++ c ∷ between) ≡ book_after (next (reached before) c) between = after_both before (c ∷ between) empty_book in
    sequence_has_one_number (reached before) c d between u v k l (links_stay before form.first) form.one form.middle form.other same p e
    (subst (λ (b : Book). IsPublishBy b v d) there q) (subst (λ (b : Book). commit_of (answer b d) ≡ Some l) there f)
