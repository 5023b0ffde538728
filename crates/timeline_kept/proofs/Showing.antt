-- What a list of parts shows, and that a list that shows what is given is maximal.
use Rattle.std.proofs.Common.{Bool, List, [], ap, arith, cond, false, inl, inr, int_le, int_lt, refl, subst, sym, true, ℤ, ◌&&◌, ◌∙◌, ◌∷◌, ◌≡◌}
use Rattle.std.specs.Prelude.{None, Option, Some}
use Rattle.std.proofs.lemmas.Int.{ints}
use Rattle.iv_span.specs.Extent.{has}
use Rattle.book_rows.specs.Lists.{In}
use Rattle.book_rows.specs.Shown.{ChunkPart, agree}
use Rattle.laws_parts.specs.Laws.{ChunkShown, chunk_body}
use Rattle.laws_parts.specs.Parts.{HasInstant}
use Rattle.laws_parts.proofs.Determined.{chunks_means_body, chunks_means_touch, chunks_touch}
use Rattle.laws_parts.proofs.Building.{DoJoin}
use Rattle.laws_parts.proofs.Unique.{all_after, none_not_some, rest_goes_on}
use Rattle.timeline_kept.specs.PartLists.{joined}
use Rattle.timeline_kept.specs.Shown.{AreMaximal, AreShown, shown_at, span_of}

pub parts_join : DoJoin span_of chunk_body agree joined
parts_join = record { touch = chunks_touch; means_touch = chunks_means_touch; means_body = chunks_means_body; merged_span = λ p q. refl; merged_body = λ p q. refl }

pub maximal : (given : ℤ → Option ChunkShown) (ps : List ChunkPart) → AreShown given ps → AreMaximal ps
maximal given ps w = record { linked = w.linked; proper = w.proper }

pub rest_maximal : (p : ChunkPart) (ps : List ChunkPart) → AreMaximal (p ∷ ps) → AreMaximal ps
rest_maximal p ps w = record { linked = rest_goes_on span_of agree p ps w.linked; proper = λ q i. w.proper q (inr i) }

-- none starts before the end of one before it
pub later : (p : ChunkPart) (ps : List ChunkPart) → AreMaximal (p ∷ ps) → (q : ChunkPart) → In q ps → int_le p.span.end q.span.start ≡ true
later p ps w q i = all_after span_of agree p ps w.linked (λ r k. w.proper r (inr k)) q i

off_before : (s e t z : ℤ) → int_le z s ≡ true → (int_le s t && int_lt t e) ≡ true → (a : ℤ) → (int_le a t && int_lt t z) ≡ false
off_before s e t z h k a = grind (arith, ints)

pub shown_in : (ps : List ChunkPart) → AreMaximal ps → (p : ChunkPart) (t : ℤ) → In p ps → has p.span t ≡ true → shown_at ps t ≡ Some (chunk_body p)
shown_in [] w p t i h = absurd i
shown_in (q ∷ ps) w p t (inl e) h = rw (subst (λ (x : ChunkPart). has x.span t ≡ true) e h) (ap (λ (x : ChunkPart). Some (chunk_body x)) (sym e))
shown_in (q ∷ ps) w p t (inr i) h = rw (off_before p.span.start p.span.end t q.span.end (later q ps w p i) h q.span.start) (shown_in ps (rest_maximal q ps w) p t i h)

pub shown_there : (ps : List ChunkPart) (t : ℤ) (v : ChunkShown) → shown_at ps t ≡ Some v → HasInstant span_of ps t
shown_there [] t v h = absurd (none_not_some None v refl h)
shown_there (p ∷ ps) t v h = go (shown_there ps t v) (has p.span t) refl h where
  go : (shown_at ps t ≡ Some v → HasInstant span_of ps t) → (b : Bool) → has p.span t ≡ b → cond b (Some (chunk_body p)) (shown_at ps t) ≡ Some v → HasInstant span_of (p ∷ ps) t
  go rest true on k = (p, inl refl, on)
  go rest false off k = let m = rest k in (m.0, inr m.1, m.2)

-- a maximal list shows what it shows
pub shows : (ps : List ChunkPart) → AreMaximal ps → AreShown (shown_at ps) ps
shows ps w = record { linked = w.linked; proper = w.proper; right = λ p t i h. shown_in ps w p t i h; covers = λ t v h. shown_there ps t v h }

-- and that is what is given, where it shows what is given
pub shown_is : (given : ℤ → Option ChunkShown) (ps : List ChunkPart) → AreShown given ps → (t : ℤ) → shown_at ps t ≡ given t
shown_is given ps w t = go (shown_at ps t) refl (given t) refl where
  go : (s : Option ChunkShown) → shown_at ps t ≡ s → (g : Option ChunkShown) → given t ≡ g → s ≡ g
  go None e None f = refl
  go None e (Some v) f = let m = w.covers t v f in absurd (none_not_some (shown_at ps t) (chunk_body m.0) e (shown_in ps (maximal given ps w) m.0 t m.1 m.2))
  go (Some u) e g f = let m = shown_there ps t u e in sym e ∙ shown_in ps (maximal given ps w) m.0 t m.1 m.2 ∙ sym (w.right m.0 t m.1 m.2) ∙ f

-- the same is given at each instant
pub moved : (old new : ℤ → Option ChunkShown) → ((t : ℤ) → old t ≡ new t) → (ps : List ChunkPart) → AreShown old ps → AreShown new ps
moved old new same ps w = record {
  linked = w.linked;
  proper = w.proper;
  right = λ p t i h. sym (same t) ∙ w.right p t i h;
  covers = λ t v h. w.covers t v (same t ∙ h);
}
