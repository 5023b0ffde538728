-- What goes with one after another goes with all of them.
use Rattle.std.proofs.Common.{◌&&◌, ◌∙◌, ◌∷◌, ◌≡◌, ◌||◌, Bool, List, [], ap, cond, false, filter, not, refl, true}
use Rattle.seg_names.specs.Ids.{same_id}
use Rattle.seg_names.specs.declared.seg_id.SegId.{SegId}
use Rattle.book_rows.specs.Append.{without_root, without_roots}
use Rattle.book_rows.specs.Ids.{is_listed}
use Rattle.book_rows.specs.Over.{Target}
use Rattle.book_rows.specs.Rewrite.{is_taken_up, is_used_up}
use Rattle.book_rows.specs.declared.rows.PendingRow.{PendingRow}
use Rattle.book_rows.specs.declared.rows.UpgradeRow.{UpgradeRow}
use Rattle.publish_rows.proofs.Turned.{id_turned}

neither : (p q : Bool) → (not p && not q) ≡ not (p || q)
neither true q = refl
neither false q = refl

module _ {X : Type 0} where
  filter_twice : (p q : X → Bool) (xs : List X) → filter p (filter q xs) ≡ filter (λ x. q x && p x) xs
  filter_twice p q [] = refl
  filter_twice p q (x ∷ xs) = by (q x) (filter_twice p q xs) where
    by : (b : Bool) → filter p (filter q xs) ≡ filter (λ y. q y && p y) xs
        → filter p (cond b (x ∷ filter q xs) (filter q xs)) ≡ cond (b && p x) (x ∷ filter (λ y. q y && p y) xs) (filter (λ y. q y && p y) xs)
    by true rest = ap (λ ys. cond (p x) (x ∷ ys) ys) rest
    by false rest = rest

  all_stay : (xs : List X) → xs ≡ filter (λ x. true) xs
  all_stay [] = refl
  all_stay (x ∷ xs) = ap (λ ys. x ∷ ys) (all_stay xs)

-- ---- pendings of roots

pub roots_more : (a : SegId) (ids : List SegId) (ps : List PendingRow) → without_roots ids (without_root a ps) ≡ without_roots (a ∷ ids) ps
roots_more a ids ps =
    filter_twice (λ p. not (is_listed ids p.root)) (λ p. not (same_id p.root a)) ps
    ∙ (λ i. filter (λ p. (ap (λ b. not b && not (is_listed ids p.root)) (id_turned p.root a) ∙ neither (same_id a p.root) (is_listed ids p.root)) i) ps)

pub roots_all : (ps : List PendingRow) → ps ≡ without_roots [] ps
roots_all ps = all_stay ps

-- ---- upgrade rows of targets

pub targets_more : (x : Target) (xs : List Target) (us : List UpgradeRow) → filter (λ u. not (is_used_up xs u)) (filter (λ u. not (is_taken_up x.lock x.span u)) us) ≡ filter (λ u. not (is_used_up (x ∷ xs) u)) us
targets_more x xs us =
    filter_twice (λ u. not (is_used_up xs u)) (λ u. not (is_taken_up x.lock x.span u)) us ∙ (λ i. filter (λ u. neither (is_taken_up x.lock x.span u) (is_used_up xs u) i) us)

pub targets_all : (us : List UpgradeRow) → us ≡ filter (λ u. not (is_used_up [] u)) us
targets_all us = all_stay us
