-- A line that is looked for: one part more, its end, and the end of the input.
use Rattle.std.proofs.Common.{◌≡◌, ◌<◌, ◌≤◌, ◌+◌, ◌*◌, ◌-◌, ℕ, Bool, true, false, IsTrue, List, [], ◌∷◌, ◌++◌, length, drop, if◌then◌else◌, ◌==◌, nat_lt, refl, ap, ◌∙◌, sym, subst, arith, append_assoc, length-append}
use Rattle.std.proofs.lemmas.List.{append-nil}
use Rattle.std.proofs.Math.Seq.{drop-length}
use Rattle.std.proofs.lemmas.Bool.{ne_eqb, ltb-true, ltb-false}
use Rattle.input_lines.specs.Lines.{lines_of, line_limit, IsWithin}
use Rattle.input_lines.specs.Reading.{Reading, Finds, IsCut, Loses, unread, work_left}
use Rattle.input_lines.specs.Buffers.{AddsPart, Takes, SoFar, Looking, found_by, last_by}
use Rattle.input_lines.specs.declared.found.Found.TheVariants.{Line, LongLine, End}
use Rattle.input_lines.proofs.LineLaws.{within-append, lines-ended, lines-last, lines-none}

so_far_more : (line seen part line' : List ℕ) (was size : ℕ) → SoFar line seen was → IsWithin part → AddsPart line line' was part size → SoFar line' (seen ++ part) size
so_far_more line seen part line' was size so_far within adds = record {
  within = within-append seen part so_far.within within;
  size_is = omega (arith, adds.size_is, so_far.size_is, length-append seen part);
  kept = λ less. adds.kept less ∙ ap (λ (l : List ℕ). l ++ part) (so_far.kept (omega (arith, less, adds.size_is)));
}

-- the line as it is handed out
found_at : (size : ℕ) (line seen before after : List ℕ) → SoFar line seen size → lines_of before ≡ seen ∷ lines_of after → Finds (found_by size) before line after
found_at size line seen before after so_far is = by (nat_lt line_limit size) refl
  where
    by : (long : Bool) → nat_lt line_limit size ≡ long → Finds (if long then LongLine size else Line) before line after
    by true e = (seen, is, (let far : line_limit < size = ltb-true line_limit size e in omega (arith, far, so_far.size_is)), so_far.size_is)
    by false e =
        let near : size ≤ line_limit = ltb-false line_limit size e in
        let same : line ≡ seen = so_far.kept near in
        (is ∙ ap (λ (l : List ℕ). l ∷ lines_of after) (sym same), omega (arith, near, so_far.size_is, ap length same))

module _ (first : Reading) (first_left : List ℕ) (now : Reading) (left line : List ℕ) (was : ℕ) (told : Bool) (looking : Looking first first_left now left line was told)
    (rest line' : List ℕ) (ended : Bool) (size : ℕ) (takes : Takes now.buffered rest was line line' ended size) where
  part : List ℕ
  part = takes.part

  more : SoFar line' (looking.seen ++ takes.part) size
  more = so_far_more line looking.seen takes.part line' was size looking.so_far takes.within takes.adds

  -- byte 10 is met
  pub found_cut : IsTrue told → ended ≡ true → IsCut (unread first first_left) (rest ++ left)
  found_cut is_told on = record { line = looking.seen ++ takes.part; within = more.within; parts = parts }
    where
      parts : unread first first_left ≡ (looking.seen ++ takes.part) ++ 10 ∷ (rest ++ left)
      parts = looking.parts is_told ∙ ap (λ (l : List ℕ). looking.seen ++ (l ++ left)) (takes.ended on) ∙ ap (λ (l : List ℕ). looking.seen ++ l) (append_assoc takes.part (10 ∷ rest) left) ∙ sym (append_assoc looking.seen takes.part (10 ∷ (rest ++ left)))

  pub found_whole : IsTrue told → ended ≡ true → Finds (found_by size) (unread first first_left) line' (rest ++ left)
  unfolding found_cut
  found_whole is_told on = found_at size line' (looking.seen ++ takes.part) (unread first first_left) (rest ++ left) more (ap lines_of (found_cut is_told on).parts ∙ lines-ended (looking.seen ++ takes.part) (rest ++ left) more.within)

  -- a line that is handed out isn't above the limit
  pub found_short : found_by size ≡ Line → length line' ≤ line_limit
  found_short is = by (nat_lt line_limit size) refl is
    where
      by : (long : Bool) → nat_lt line_limit size ≡ long → (if long then LongLine size else Line) ≡ Line → length line' ≤ line_limit
      by true e is = absurd (cc)
      by false e is = let near : size ≤ line_limit = ltb-false line_limit size e in omega (arith, near, more.size_is, ap length (more.kept near))

  pub last_short : last_by size ≡ Line → length line' ≤ line_limit
  last_short is = by (size == 0) is
    where
      by : (none : Bool) → (if none then End else found_by size) ≡ Line → length line' ≤ line_limit
      by true is = absurd (cc)
      by false is = found_short is

  all_seen : IsTrue told → ended ≡ false → unread first first_left ≡ (looking.seen ++ takes.part) ++ left
  all_seen is_told off = looking.parts is_told ∙ ap (λ (l : List ℕ). looking.seen ++ (l ++ left)) (takes.all off).0 ∙ sym (append_assoc looking.seen takes.part left)

  -- a piece more is read
  pub looks_on : ended ≡ false → (next : Reading) (next_left : List ℕ) → work_left next + 1 ≤ 2 * (now.limit - now.taken) → (IsTrue told → left ≡ next.buffered ++ next_left) → Looking first first_left next next_left line' size told
  looks_on off next next_left fewer reads = record {
    seen = looking.seen ++ takes.part;
    so_far = more;
    work = omega (arith, length-append looking.seen takes.part, looking.work, fewer, ap length (takes.all off).0);
    parts = λ is_told. all_seen is_told off ∙ ap (λ (l : List ℕ). (looking.seen ++ takes.part) ++ l) (reads is_told);
  }

  -- nothing more is there
  pub found_last : IsTrue told → ended ≡ false → left ≡ [] → (after : List ℕ) → after ≡ [] → Finds (last_by size) (unread first first_left) line' after
  found_last is_told off none after last = subst (λ (l : List ℕ). Finds (last_by size) (unread first first_left) line' l) (sym last) (by_line (looking.seen ++ takes.part) more (all_seen is_told off ∙ ap (λ (l : List ℕ). (looking.seen ++ takes.part) ++ l) none ∙ append-nil (looking.seen ++ takes.part)))
    where
      by_line : (seen : List ℕ) → SoFar line' seen size → unread first first_left ≡ seen → Finds (last_by size) (unread first first_left) line' []
      by_line [] so_far is = subst (λ (n : ℕ). Finds (last_by n) (unread first first_left) line' []) (sym so_far.size_is) (is, refl)
      by_line (byte ∷ seen) so_far is =
          rw (ne_eqb size 0 (λ e. omega (arith, e, so_far.size_is)))
          (found_at size line' (byte ∷ seen) (unread first first_left) [] so_far (ap lines_of is ∙ lines-last byte seen so_far.within ∙ ap (λ (ls : List (List ℕ)). (byte ∷ seen) ∷ ls) (sym lines-none)))

  -- a read failed
  pub loses : IsTrue told → ended ≡ false → (after : List ℕ) → after ≡ left → Loses (unread first first_left) after
  loses is_told off after same = record {
    part = looking.seen ++ takes.part;
    within = more.within;
    parts = all_seen is_told off ∙ ap (λ (l : List ℕ). (looking.seen ++ takes.part) ++ l) (sym same);
  }

-- nothing is left in hand, nor in the source
pub drop_end : (bytes : List ℕ) (start : ℕ) → start ≡ length bytes → (left : List ℕ) → left ≡ [] → drop start bytes ++ left ≡ []
drop_end bytes start end left none = ap (λ (n : ℕ). drop n bytes ++ left) end ∙ ap (λ (l : List ℕ). l ++ left) (drop-length bytes) ∙ none
