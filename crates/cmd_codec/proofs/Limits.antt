-- What the writing of commands needs: a command that keeps its form has lists that two bytes count.
use Rattle.std.proofs.Common.{◌≡◌, ℕ, ◌<◌, true, List, length, Option, Some, subst, ap, ◌∙◌, ◌++◌, append_assoc, arith, nat_le}
use Rattle.std.proofs.lemmas.Bool.Decides.{nat_tests}
use Rattle.iv_span.specs.Extent.{Extent}
use Rattle.seg_names.specs.declared.seg_id.SegId.{SegId}
use Rattle.book_rows.specs.Form.{are_spans, are_ids, are_offsets, are_parts, are_ranges_of, are_lists, keeps_form}
use Rattle.book_rows.specs.declared.kinds.TaskKind.{TaskKind}
use Rattle.book_rows.specs.declared.rows.Want.{Want}
use Rattle.book_rows.specs.declared.rows.Offset.{Offset}
use Rattle.book_rows.specs.declared.rows.Range.{Range}
use Rattle.book_rows.specs.declared.rows.Ranges.{Ranges}
use Rattle.book_rows.specs.declared.commands.Command.{Command}
use Rattle.book_rows.specs.declared.commands.Command.TheVariants.{Submit, Append, Insert, Replace, Reset, Paused, Checkpoint}
use Rattle.cmd_codec.proofs.Readers.{and_true}

gathered : (old a b c d : List ℕ) → (((old ++ a) ++ b) ++ c) ++ d ≡ old ++ (a ++ (b ++ (c ++ d)))
gathered old a b c d = append_assoc ((old ++ a) ++ b) c d ∙ append_assoc (old ++ a) b (c ++ d) ∙ append_assoc old a (b ++ (c ++ d))

-- what four puts leave behind
pub four_puts : (old a b c d one two three four : List ℕ) → one ≡ old ++ a → two ≡ one ++ b → three ≡ two ++ c → four ≡ three ++ d → four ≡ old ++ (a ++ (b ++ (c ++ d)))
four_puts old a b c d one two three four p q r s =
    s ∙ ap (λ (x : List ℕ). x ++ d) (r ∙ ap (λ (x : List ℕ). x ++ c) (q ∙ ap (λ (x : List ℕ). x ++ b) p)) ∙ gathered old a b c d

few_count : (n : ℕ) → nat_le n 4096 ≡ true → n < 65536
few_count n h = grind (arith, nat_tests)

few_wants : (n : ℕ) → nat_le n 64 ≡ true → n < 65536
few_wants n h = grind (arith, nat_tests)

pub spans_count : (xs : List Extent) → are_spans xs ≡ true → length xs < 65536
spans_count xs h = few_count (length xs) (and_true _ _ (and_true _ _ (and_true _ _ h).0).0).1

pub ids_count : (xs : List SegId) → are_ids xs ≡ true → length xs < 65536
ids_count xs h = few_count (length xs) (and_true _ _ (and_true _ _ h).0).0

pub offsets_count : (xs : List Offset) → are_offsets xs ≡ true → length xs < 65536
offsets_count xs h = few_count (length xs) (and_true _ _ (and_true _ _ h).0).0

pub parts_count : (xs : List Range) → are_parts xs ≡ true → length xs < 65536
parts_count xs h = few_count (length xs) (and_true _ _ (and_true _ _ h).0).0

pub submit_wants : (c : Command) (task group source : List ℕ) (kind : TaskKind) (priority : ℕ) (locks : List Want) → c ≡ Submit task group source kind priority locks → keeps_form c ≡ true → length locks < 65536
submit_wants c task group source kind priority locks is h =
    let k : keeps_form (Submit task group source kind priority locks) ≡ true = subst (λ (x : Command). keeps_form x ≡ true) is h in
    few_wants (length locks) (and_true _ _ (and_true _ _ k).0).1

pub append_ids : (c : Command) (task : List ℕ) (ids : List SegId) (ranges : Option Ranges) → c ≡ Append task ids ranges → keeps_form c ≡ true → length ids < 65536
append_ids c task ids ranges is h =
    let k : keeps_form (Append task ids ranges) ≡ true = subst (λ (x : Command). keeps_form x ≡ true) is h in
    ids_count ids (and_true _ _ (and_true _ _ (and_true _ _ k).0).0).1

pub append_ranges : (c : Command) (task : List ℕ) (ids : List SegId) (ranges : Option Ranges) → c ≡ Append task ids ranges → keeps_form c ≡ true → are_ranges_of ranges ≡ true
append_ranges c task ids ranges is h =
    let k : keeps_form (Append task ids ranges) ≡ true = subst (λ (x : Command). keeps_form x ≡ true) is h in
    (and_true _ _ (and_true _ _ k).0).1

pub insert_lists : (c : Command) (task : List ℕ) (spans : List Extent) (ids tombstones : List SegId) (ranges : Option Ranges) → c ≡ Insert task spans ids tombstones ranges → keeps_form c ≡ true → are_lists spans ids tombstones ranges ≡ true
insert_lists c task spans ids tombstones ranges is h =
    let k : keeps_form (Insert task spans ids tombstones ranges) ≡ true = subst (λ (x : Command). keeps_form x ≡ true) is h in
    (and_true _ _ k).1

pub replace_lists : (c : Command) (task : List ℕ) (spans : List Extent) (ids tombstones : List SegId) (ranges : Option Ranges) → c ≡ Replace task spans ids tombstones ranges → keeps_form c ≡ true → are_lists spans ids tombstones ranges ≡ true
replace_lists c task spans ids tombstones ranges is h =
    let k : keeps_form (Replace task spans ids tombstones ranges) ≡ true = subst (λ (x : Command). keeps_form x ≡ true) is h in
    (and_true _ _ k).1

pub reset_offsets : (c : Command) (source stream : List ℕ) (offsets : List Offset) → c ≡ Reset source stream offsets → keeps_form c ≡ true → length offsets < 65536
reset_offsets c source stream offsets is h =
    let k : keeps_form (Reset source stream offsets) ≡ true = subst (λ (x : Command). keeps_form x ≡ true) is h in
    offsets_count offsets (and_true _ _ k).1

pub paused_offsets : (c : Command) (task : List ℕ) (offsets : List Offset) → c ≡ Paused task offsets → keeps_form c ≡ true → length offsets < 65536
paused_offsets c task offsets is h =
    let k : keeps_form (Paused task offsets) ≡ true = subst (λ (x : Command). keeps_form x ≡ true) is h in
    offsets_count offsets (and_true _ _ k).1

pub checkpoint_offsets : (c : Command) (task : List ℕ) (offsets : List Offset) → c ≡ Checkpoint task offsets → keeps_form c ≡ true → length offsets < 65536
checkpoint_offsets c task offsets is h =
    let k : keeps_form (Checkpoint task offsets) ≡ true = subst (λ (x : Command). keeps_form x ≡ true) is h in
    offsets_count offsets (and_true _ _ k).1

-- the lists of an `insert` or `replace`
pub record Counts (spans : List Extent) (ids tombstones : List SegId) (ranges : Option Ranges) : Type 0 where
  pub spans_are : length spans < 65536
  pub ids_are : length ids < 65536
  pub tombstones_are : length tombstones < 65536
  pub ranges_are : are_ranges_of ranges ≡ true

pub counts : (spans : List Extent) (ids tombstones : List SegId) (ranges : Option Ranges) → are_lists spans ids tombstones ranges ≡ true → Counts spans ids tombstones ranges
counts spans ids tombstones ranges h =
    let p = and_true _ (are_ranges_of ranges) h in
    let q = and_true _ _ p.0 in
    let r = and_true _ (are_ids tombstones) q.0 in
    let s = and_true (are_spans spans) (are_ids ids) r.0 in
    record { spans_are = spans_count spans s.0; ids_are = ids_count ids s.1; tombstones_are = ids_count tombstones r.1; ranges_are = p.1 }

pub ranges_parts : (o : Option Ranges) (r : Ranges) → o ≡ Some r → are_ranges_of o ≡ true → length r.parts < 65536
ranges_parts o r is h =
    let k : are_ranges_of (Some r) ≡ true = subst (λ (x : Option Ranges). are_ranges_of x ≡ true) is h in
    parts_count r.parts (and_true _ (are_parts r.parts) k).1
