-- What asks for chunks is answered by the segments that lead them.
use Rattle.std.proofs.Common.{◌&&◌, ◌++◌, ◌∙◌, ◌∷◌, ◌≡◌, Bool, List, None, Option, Some, [], ap, bytes_eq, cond, false, find, inl, inr, int_le, int_lt, is_some, map, not, refl, subst, sym, true, ℕ, ℤ}
use Rattle.std.specs.List.{list_any}
use Rattle.std.specs.Option.{option_map}
use Rattle.std.proofs.lemmas.Bool.{and_parts, cases_Bool}
use Rattle.iv_span.specs.Extent.{Extent, covers, has, overlap}
use Rattle.book_rows.specs.Ids.{same_chunk}
use Rattle.book_rows.specs.Lists.{or_else}
use Rattle.book_rows.specs.Rewrite.{unused}
use Rattle.book_rows.specs.Visible.{is_used_over}
use Rattle.book_rows.specs.declared.rows.SegmentRow.{SegmentRow}
use Rattle.tab_segments.specs.Laws.{one_chunk}
use Rattle.tab_segments.specs.Leading.{AreLed, IsOfChunks, is_used_in, leads_and, leads_in, lies_within, rows_in, unused_entry}
use Rattle.tab_segments.specs.declared.entries.Entry.{Entry}

-- ---- tests

pub and_both : (a b : Bool) → a ≡ true → b ≡ true → (a && b) ≡ true
and_both true true p q = refl
and_both true false p q = cc
and_both false b p q = cc

and_one : (a b : Bool) → a ≡ true → b ≡ (a && b)
and_one true b on = refl
and_one false b on = cc

and_zero : (a b : Bool) → b ≡ false → b ≡ (a && b)
and_zero true b off = refl
and_zero false b off = off

pub and_end : (a : Bool) → (a && true) ≡ a
and_end true = refl
and_end false = refl

-- ---- searches

find_push : {X : Type 0} (t : X → Bool) (xs : List X) (y : X) → find t (xs ++ y ∷ []) ≡ or_else (find t xs) (cond (t y) (Some y) None)
find_push t [] y = refl
find_push t (x ∷ xs) y = elim (cases_Bool (t x)) [ inl on ↦ rw on refl | inr off ↦ rw off (find_push t xs y) ]

pub find_map : {X Y : Type 0} (t : Y → Bool) (f : X → Y) (xs : List X) → find t (map f xs) ≡ option_map f (find (λ x. t (f x)) xs)
find_map t f [] = refl
find_map t f (x ∷ xs) = elim (cases_Bool (t (f x))) [ inl on ↦ rw on refl | inr off ↦ rw off (find_map t f xs) ]

any_found : {X : Type 0} (t : X → Bool) (xs : List X) → list_any t xs ≡ is_some (find t xs)
any_found t [] = refl
any_found t (x ∷ xs) = elim (cases_Bool (t x)) [ inl on ↦ rw on refl | inr off ↦ rw off (any_found t xs) ]

any_map : {X Y : Type 0} (t : Y → Bool) (f : X → Y) (xs : List X) → list_any t (map f xs) ≡ list_any (λ x. t (f x)) xs
any_map t f [] = refl
any_map t f (x ∷ xs) = elim (cases_Bool (t (f x))) [ inl on ↦ rw on refl | inr off ↦ rw off (any_map t f xs) ]

map_twice : {X Y Z : Type 0} (f : X → Y) (g : Y → Z) (o : Option X) → option_map g (option_map f o) ≡ option_map (λ x. g (f x)) o
map_twice f g None = refl
map_twice f g (Some x) = refl

-- the first segment that passes is the first leading one
pub first_led : {Y : Type 0} (f : SegmentRow → Y) (test : SegmentRow → Bool) (es : List Entry) → AreLed es → IsOfChunks test
    → option_map (λ e. f e.row) (find (leads_and test) es) ≡ option_map f (find test (rows_in es))
first_led f test es led h =
    ap (option_map (λ e. f e.row)) (sym (led test h))
    ∙ (sym (map_twice (λ e. e.row) f (find (λ e. test e.row) es)) ∙ ap (option_map f) (sym (find_map test (λ e. e.row) es)))

pub any_led : (test : SegmentRow → Bool) (es : List Entry) → AreLed es → IsOfChunks test → list_any (leads_and test) es ≡ list_any test (rows_in es)
any_led test es led h =
    any_found (leads_and test) es
    ∙ (ap is_some (sym (led test h)) ∙ (sym (any_found (λ e. test e.row) es) ∙ sym (any_map test (λ e. e.row) es)))

-- ---- tests of chunks

pub over_whole : (source : List ℕ) (span : Extent) (passes : SegmentRow → Bool) → ((r s : SegmentRow) → passes r ≡ true → same_chunk s.id r.id ≡ true → passes s ≡ true)
    → IsOfChunks (λ r. is_used_over source span r && passes r)
over_whole source span passes h = record {
  used = λ r on.
      let over = and_parts (is_used_over source span r) (passes r) on in
      let all = and_parts (r.used && bytes_eq r.id.source source) (overlap r.id.span span) over.0 in
      (and_parts r.used (bytes_eq r.id.source source) all.0).0;
  whole = λ r s on peer.
      let over = and_parts (is_used_over source span r) (passes r) on in
      let all = and_parts (r.used && bytes_eq r.id.source source) (overlap r.id.span span) over.0 in
      let two = and_parts r.used (bytes_eq r.id.source source) all.0 in
      let own = and_parts s.used (same_chunk s.id r.id) peer in
      let one = one_chunk s.id r.id own.1 in
      let source' = subst (λ z. bytes_eq z source ≡ true) (sym one.source) two.1 in
      let meets = subst (λ a. overlap a span ≡ true) (sym one.span) all.1 in
      and_both (is_used_over source span s) (passes s)
      (and_both (s.used && bytes_eq s.id.source source) (overlap s.id.span span) (and_both s.used (bytes_eq s.id.source source) own.0 source') meets)
      (h r s over.1 own.1);
}

-- ---- a segment more

lead_by : (used any : Bool) → used ≡ true → any ≡ false → (used && not any) ≡ true
lead_by true false p q = refl
lead_by true true p q = cc
lead_by false any p q = cc

-- where no leading segment passes, none leads the chunk of one that does
no_lead : (test : SegmentRow → Bool) → IsOfChunks test → (r : SegmentRow) → test r ≡ true → (es : List Entry) → find (leads_and test) es ≡ None → list_any (leads_in r.id) es ≡ false
no_lead test h r on [] none = refl
no_lead test h r on (d ∷ ds) none =
    elim (cases_Bool (leads_and test d)) [
      | inl hit ↦ (let clash : Some d ≡ None = rw hit at none in cc)
      | inr miss ↦
          (let rest = no_lead test h r on ds (rw miss at none) in
          elim (cases_Bool (leads_in r.id d)) [
            | inl peer ↦
                (let both = and_parts d.leads (is_used_in r.id d.row) peer in
                let clash : true ≡ false = sym (and_both d.leads (test d.row) both.0 (h.whole r d.row on both.1)) ∙ miss in
                cc)
            | inr off ↦ rw off rest
          ])
    ]

module _ (es : List Entry) (e : Entry) (led : AreLed es) (own : e.leads ≡ (e.row.used && not (list_any (leads_in e.row.id) es))) where
  last_same : (test : SegmentRow → Bool) → IsOfChunks test → (found : Option Entry) → find (leads_and test) es ≡ found
      → or_else found (cond (test e.row) (Some e) None) ≡ or_else found (cond (leads_and test e) (Some e) None)
  last_same test h (Some d) is = refl
  last_same test h None is =
      elim (cases_Bool (test e.row)) [
        | inl on ↦
            (let lead = own ∙ lead_by e.row.used (list_any (leads_in e.row.id) es) (h.used e.row on) (no_lead test h e.row on es is) in
            ap (λ b. cond b (Some e) None) (and_one e.leads (test e.row) lead))
        | inr off ↦ ap (λ b. cond b (Some e) None) (and_zero e.leads (test e.row) off)
      ]

  pub led_pushed : AreLed (es ++ e ∷ [])
  led_pushed test h =
      find_push (λ d. test d.row) es e
      ∙ (
      ap (λ found. or_else found (cond (test e.row) (Some e) None)) (led test h)
      ∙ (last_same test h (find (leads_and test) es) refl ∙ sym (find_push (leads_and test) es e))
      )

-- ---- segments that become unused

lies_same : (source : List ℕ) (span : Extent) (s z : List ℕ) (a b : Extent) → s ≡ z → a ≡ b → (bytes_eq s source && covers span a) ≡ (bytes_eq z source && covers span b)
lies_same source span s z a b p q = rw (p, q) refl

unused_whole : (source : List ℕ) (span : Extent) (test : SegmentRow → Bool) → IsOfChunks test → IsOfChunks (λ r. test (unused source span r))
unused_whole source span test h = record {
  used = λ r on. (and_parts r.used (not (lies_within source span r)) (h.used (unused source span r) on)).0;
  whole = λ r s on peer.
      let own = and_parts s.used (same_chunk s.id r.id) peer in
      let one = one_chunk s.id r.id own.1 in
      let out = (and_parts r.used (not (lies_within source span r)) (h.used (unused source span r) on)).1 in
      let lies : lies_within source span s ≡ lies_within source span r = lies_same source span s.id.source r.id.source s.id.span r.id.span one.source one.span in
      let out' : not (lies_within source span s) ≡ true = ap not lies ∙ out in
      h.whole (unused source span r) (unused source span s) on
      (and_both (s.used && not (lies_within source span s)) (same_chunk s.id r.id) (and_both s.used (not (lies_within source span s)) own.0 out') own.1);
}

pub led_unused : (source : List ℕ) (span : Extent) (es : List Entry) → AreLed es → AreLed (map (unused_entry source span) es)
led_unused source span es led test h =
    find_map (λ d. test d.row) (unused_entry source span) es
    ∙ (
    ap (option_map (unused_entry source span)) (led (λ r. test (unused source span r)) (unused_whole source span test h))
    ∙ sym (find_map (leads_and test) (unused_entry source span) es)
    )
