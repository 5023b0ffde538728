-- The publications: what they put at an instant, and what they take away there. They alone say what a source contains.
use Rattle.std.specs.Prelude.{◌&&◌, ◌+◌, ◌||◌, ◌∷◌, Bool, List, Option, [], bytes_eq, cond, false, nat_lt, not, true, ℕ, ℤ}
use Rattle.std.specs.List.{list_any}
use Rattle.iv_span.specs.Extent.{has}
use Rattle.seg_names.specs.Ids.{same_id}
use Rattle.seg_names.specs.declared.seg_id.SegId.{SegId}
use Rattle.book_rows.specs.Ids.{is_listed}
use Rattle.book_rows.specs.Lists.{count, place_from}
use Rattle.book_rows.specs.declared.kinds.PubKind.{PubKind}
use Rattle.book_rows.specs.declared.rows.Publication.{Publication}
use Rattle.book_rows.specs.declared.rows.SpanSince.{SpanSince}
use Rattle.book_rows.specs.declared.kinds.PubKind.TheVariants as PubKinds

-- a publication of this kind and these spans takes away, at the instant, what publication k added
abbrev pub takes_by : PubKind → List SpanSince → ℤ → ℕ → Bool
takes_by PubKinds.Over spans t k = list_any (λ s. has s.span t) spans
takes_by PubKinds.Drop spans t k = list_any (λ s. has s.span t) spans
takes_by PubKinds.Replace spans t k = list_any (λ s. has s.span t && nat_lt k s.since) spans
takes_by _ spans t k = false

abbrev pub takes : List ℕ → ℤ → Publication → ℕ → Bool
takes source t m k = bytes_eq m.source source && takes_by m.kind m.spans t k

-- ---- as a set

-- the publication adds the root, and the root's own span has the instant
abbrev pub adds_at : List ℕ → ℤ → SegId → Publication → Bool
adds_at source t root m = bytes_eq m.source source && has root.span t && is_listed m.adds root

-- a publication at a place that passes the test adds the root, and none after it takes it away; the first has place k
abbrev pub is_put_from : ℕ → (ℕ → Bool) → List Publication → List ℕ → ℤ → SegId → Bool
is_put_from k pass [] source t root = false
is_put_from k pass (m ∷ ms) source t root =
    (pass k && adds_at source t root m && not (list_any (λ n. takes source t n k) ms)) || is_put_from (k + 1) pass ms source t root

-- the root is one that the publications put at the instant and did not take away
abbrev pub in_contents : List Publication → List ℕ → ℤ → SegId → Bool
in_contents pubs source t root = is_put_from 0 (λ k. true) pubs source t root

-- ---- the same as a count, which is at most 1 where no id is added twice

-- how often the publication puts the root at the instant
abbrev pub puts : List ℕ → ℤ → SegId → Publication → ℕ
puts source t root m = cond (bytes_eq m.source source && has root.span t) (count (λ a. same_id a root) m.adds) 0

abbrev pub alive_from : ℕ → (ℕ → Bool) → List Publication → List ℕ → ℤ → SegId → ℕ
alive_from k pass [] source t root = 0
alive_from k pass (m ∷ ms) source t root =
    cond (pass k && not (list_any (λ n. takes source t n k) ms)) (puts source t root m) 0 + alive_from (k + 1) pass ms source t root

-- how often publications at places that pass the test put the root at the instant, and none later takes it away
abbrev pub alive : (ℕ → Bool) → List Publication → List ℕ → ℤ → SegId → ℕ
alive pass pubs source t root = alive_from 0 pass pubs source t root

-- ---- the commit of a root

-- the place of the publication that adds the root
abbrev pub commit_of : List Publication → SegId → Option ℕ
commit_of pubs root = place_from 0 (λ m. is_listed m.adds root) pubs
