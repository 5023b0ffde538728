-- What look-ups promise of the keys: a sequence that passes has one in the range.
use Rattle.std.specs.Prelude.{◌==◌, ◌∷◌, ◌≡◌, ◌≤◌, Bool, List, [], bytes_eq, cond, nat_le, not, true, ℕ}
use Rattle.std.specs.List.{list_any}
use Rattle.std.proofs.Common.{ap, arith, inl, inr, refl, sym, ◌∙◌}
use Rattle.std.proofs.lemmas.Bool.{and_parts, cases_Bool, eqb-true}
use Rattle.std.proofs.lemmas.Bool.Decides.{nat_tests}
use Rattle.std.proofs.lemmas.Int.{ints}
use Rattle.std.proofs.lemmas.Slice.Eq.{bytes_eq-Decides}
use Rattle.book_rows.specs.Kinds.{is_unpublished, same_state}
use Rattle.book_rows.specs.Names.{sequence_name}
use Rattle.book_rows.specs.Sequences.{is_abandoned_by, is_dropped_by, is_named, is_of_group, is_open, name_of}
use Rattle.book_rows.specs.declared.kinds.SeqState.TheVariants as States
use Rattle.book_rows.specs.declared.rows.SequenceRow.{SequenceRow}
use Rattle.row_index.specs.Index.{In, IsReached, digest_key, digest_range}
use Rattle.row_index.proofs.IndexLemmas.{digest_reached}
use Rattle.tab_sequences.specs.Changes.{has_live_one, is_open_one, is_other, is_reading_one}
use Rattle.tab_sequences.specs.Finding.{is_at_index}
use Rattle.tab_sequences.specs.Keys.{group_key, group_place, group_range, live_digest, live_keys, name_digest, name_key, open_key, place_limit, sequence_keys, source_range}

same_text : (xs ys : List ℕ) → bytes_eq xs ys ≡ true → xs ≡ ys
same_text xs ys e = (bytes_eq-Decides xs ys).0 e

-- ---- by name

pub named_covers : (name : List ℕ) (u : SequenceRow) → is_named name u ≡ true → IsReached (digest_range (name_digest name) ∷ []) (sequence_keys u)
named_covers name u on = digest_reached (name_digest name) (sequence_keys u) (inl (ap (λ (t : List ℕ). name_key t) (sym (same_text (name_of u) name on))))

pub other_covers : (name : List ℕ) (u : SequenceRow) → is_other name u ≡ true → IsReached (digest_range (name_digest name) ∷ []) (sequence_keys u)
other_covers name u on = named_covers name u (and_parts (is_named name u) (not (same_state u.state States.Published)) on).0

pub open_one_covers : (name : List ℕ) (u : SequenceRow) → is_open_one name u ≡ true → IsReached (digest_range (name_digest name) ∷ []) (sequence_keys u)
open_one_covers name u on = named_covers name u (and_parts (is_named name u) (is_unpublished u.state) on).0

pub reading_one_covers : (name : List ℕ) (u : SequenceRow) → is_reading_one name u ≡ true → IsReached (digest_range (name_digest name) ∷ []) (sequence_keys u)
reading_one_covers name u on = named_covers name u (and_parts (is_named name u) (same_state u.state States.Reading) on).0

pub at_covers : (source : List ℕ) (group index : ℕ) (u : SequenceRow) → is_at_index source group index u ≡ true → IsReached (digest_range (name_digest (sequence_name source group index)) ∷ []) (sequence_keys u)
at_covers source group index u on =
    let both = and_parts (is_of_group source group u) (u.index == index) on in
    let here = and_parts (bytes_eq u.source source) (u.group == group) both.0 in
    digest_reached (name_digest (sequence_name source group index)) (sequence_keys u) (inl (same source u.source group u.group index u.index (same_text u.source source here.0) (eqb-true u.group group here.1) (eqb-true u.index index both.1))) where
      same : (s t : List ℕ) (g h i j : ℕ) → t ≡ s → h ≡ g → j ≡ i → name_key (sequence_name s g i) ≡ name_key (sequence_name t h j)
      same s t g h i j x y z = rw (x, y, z) refl

-- ---- by group

place_low : (group : ℕ) → group_place group ≤ place_limit
place_low group = grind (arith, nat_tests)

own_key : (u : SequenceRow) → is_unpublished u.state ≡ true → open_key u ≡ group_key u.source u.group
own_key u on = ap (λ (b : Bool). cond b (group_key u.source u.group) (name_key (name_of u))) on

group_reached : (source : List ℕ) (group : ℕ) (u : SequenceRow) → is_of_group source group u ≡ true → is_unpublished u.state ≡ true → IsReached (group_range source group ∷ []) (sequence_keys u)
group_reached source group u here on =
    let both = and_parts (bytes_eq u.source source) (u.group == group) here in
    let same : open_key u ≡ group_key source group = own_key u on ∙ rw (same_text u.source source both.0, eqb-true u.group group both.1) refl in
    (group_range source group, group_key source group, inl refl, inr (inl (sym same)), (refl, omega (arith, ints), omega (arith, ints)))

pub open_covers : (source : List ℕ) (group : ℕ) (u : SequenceRow) → is_open source group u ≡ true → IsReached (group_range source group ∷ []) (sequence_keys u)
open_covers source group u on = let both = and_parts (is_of_group source group u) (is_unpublished u.state) on in group_reached source group u both.0 both.1

pub abandoned_covers : (source : List ℕ) (group from : ℕ) (u : SequenceRow) → is_abandoned_by source group from u ≡ true → IsReached (group_range source group ∷ []) (sequence_keys u)
abandoned_covers source group from u on = open_covers source group u (and_parts (is_open source group u) (nat_le from u.index) on).0

pub source_covers : (source : List ℕ) (u : SequenceRow) → is_dropped_by source u ≡ true → IsReached (source_range source ∷ []) (sequence_keys u)
source_covers source u on =
    let both = and_parts (bytes_eq u.source source) (is_unpublished u.state) on in
    let same : open_key u ≡ group_key source u.group = own_key u both.1 ∙ rw (same_text u.source source both.0) refl in
    let low : group_place u.group ≤ place_limit = place_low u.group in
    (source_range source, group_key source u.group, inl refl, inr (inl (sym same)), (refl, omega (arith, ints), omega (arith, ints, low)))

-- ---- by a live replica

live_in : (task : List ℕ) (live : List (List ℕ)) → list_any (λ t. bytes_eq t task) live ≡ true → In (digest_key (live_digest task)) (live_keys live)
live_in task [] on = cc
live_in task (t ∷ ts) on =
    elim (cases_Bool (bytes_eq t task)) [
      | inl here ↦ inl (ap (λ (x : List ℕ). digest_key (live_digest x)) (sym (same_text t task here)))
      | inr apart ↦ inr (live_in task ts (rw apart at on))
    ]

pub live_covers : (task : List ℕ) (u : SequenceRow) → has_live_one task u ≡ true → IsReached (digest_range (live_digest task) ∷ []) (sequence_keys u)
live_covers task u on = digest_reached (live_digest task) (sequence_keys u) (inr (inr (live_in task u.live on)))
