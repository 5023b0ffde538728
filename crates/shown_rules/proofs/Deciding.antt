-- The stages of segments and of publications decide whether what is shown is what was put there.
use Rattle.std.proofs.Common.{Bool, List, sym, ◌∙◌, ◌≡◌}
use Rattle.std.specs.Bool.{Decides}
use Rattle.book_rows.specs.declared.rows.Publication.{Publication}
use Rattle.book_rows.specs.declared.rows.SegmentRow.{SegmentRow}
use Rattle.laws_chunks.proofs.Members.{both_true}
use Rattle.laws_shown.specs.Tests.{shows_contents}
use Rattle.laws_shown.proofs.Testing.{shows_is_decided}
use Rattle.shown_rules.specs.History.{all_publication_stages, all_row_stages}
use Rattle.shown_rules.specs.Stages.{StayAlike}
use Rattle.shown_rules.proofs.Putting.{put_stays}
use Rattle.shown_rules.proofs.Showing.{shown_stays}

pub shown_same : (rows : List SegmentRow) (pubs : List Publication) (alike : Bool) → Decides alike (StayAlike (all_row_stages rows) (all_publication_stages 0 pubs)) → alike ≡ shows_contents rows pubs
shown_same rows pubs alike d = both_true alike (shows_contents rows pubs)
    (λ on. (shows_is_decided rows pubs).1 (λ source t root. sym (shown_stays rows source t root) ∙ (d.0 on (source, t) root ∙ put_stays source t root pubs)))
    (λ on. d.1 (λ c a. shown_stays rows c.0 c.1 a ∙ ((shows_is_decided rows pubs).0 on c.0 c.1 a ∙ sym (put_stays c.0 c.1 a pubs))))
