-- Lines are read up to where they break off.
use Rattle.std.proofs.Common.{◌≡◌, ℕ, suc, ◌+◌, ◌<◌, ◌≤◌, Bool, IsTrue, List, [], ◌∷◌, ◌++◌, length, take, sym, ◌∙◌, ap, arith, append_assoc}
use Rattle.std.specs.Prelude.{map}
use Rattle.input_lines.specs.Lines.{lines_of, with_ends}
use Rattle.input_lines.specs.Reading.{Reading, IsCut}
use Rattle.input_lines.proofs.LineLaws.{lines-none, lines-ended}
use Rattle.machine_run.specs.LineItems.{item_of, items_of, IsReadTo, ReadsOn, LinesEnd}
use Rattle.machine_run.specs.LineEnds.{fresh_reading}

-- no bytes are no items
pub items_none : (bytes : List ℕ) → bytes ≡ [] → items_of bytes ≡ []
items_none bytes is = ap items_of is ∙ ap (λ (l : List (List ℕ)). map item_of l) lines-none

-- a line before those that are read
pub read_before : (before after left : List ℕ) (count : ℕ) → IsCut before after → IsReadTo after left count → IsReadTo before left (suc count)
read_before before after left count cut is = record {
  part = is.part;
  within = is.within;
  read =
      cut.parts
      ∙ ap (λ (l : List ℕ). cut.line ++ 10 ∷ l) is.read
      ∙ sym (append_assoc cut.line (10 ∷ (with_ends (take count (lines_of after)) ++ is.part)) left)
      ∙ ap (λ (l : List ℕ). l ++ left) (sym (append_assoc cut.line (10 ∷ with_ends (take count (lines_of after))) is.part))
      ∙ ap (λ (l : List (List ℕ)). with_ends (take (suc count) l) ++ is.part ++ left) (sym lines);
}
  where
    lines : lines_of before ≡ cut.line ∷ lines_of after
    lines = ap lines_of cut.parts ∙ lines-ended cut.line after cut.within

-- what a whole reading leaves, from the first byte on
module _ (tells : Bool) (limit : ℕ) (bytes : List ℕ) (faults : ℕ) (reader : Reading) (left : List ℕ) (later : ℕ) (goes : ReadsOn tells (fresh_reading limit) bytes faults reader left later) where
  pub read_all : IsTrue tells → LinesEnd tells reader left → (left ≡ []) × (length bytes < limit)
  read_all told end =
      let none : left ≡ [] = end.1 told in
      let sum : reader.taken + length left ≡ 0 + length bytes = goes.taken told in
      (none, omega (arith, sum, end.0, goes.limit, ap length none))

  pub read_within : IsTrue tells → length bytes ≤ limit + length left
  read_within told =
      let sum : reader.taken + length left ≡ 0 + length bytes = goes.taken told in
      let most : reader.taken ≤ reader.limit = goes.within (omega arith) in
      omega (arith, sum, most, goes.limit)
