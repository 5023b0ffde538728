-- Used rows of a sound book that share an instant.
use Rattle.std.proofs.Common.{inl, refl, sym, ◌∙◌}
use Rattle.laws_chunks.proofs.Spans.{meet}
use Rattle.laws_chunks.proofs.VisibleRows.{used_is}
use Rattle.laws_parts.specs.OneSpan.{SoundSharesOneSpan}

pub sound_shares_one_span : SoundSharesOneSpan
sound_shares_one_span b sound source r q t i j h k same =
    let x = used_is source t r h in
    let y = used_is source t q k in
    sound.one_span r.id q.id (inl (r, i, x.0, refl)) (inl (q, j, y.0, refl)) (record { source_is = x.1.source_is ∙ sym y.1.source_is; overlap_is = meet r.id.span q.id.span t x.1.at y.1.at }) same
