-- The leading segment of the greatest version is the first that is visible.
use Rattle.std.proofs.Common.{◌&&◌, ◌<ℤ◌, ◌≤ℤ◌, ◌≤◌, ◌∙◌, ◌∷◌, ◌||◌, ◌≡◌, Bool, List, None, Option, Some, [], ap, arith, bytes_eq, cond, false, find, inl, inr, int_le, int_lt, map, not, pos, refl, slice_get, subst, suc, sym, true, zero, ℕ, ℤ}
use Rattle.std.specs.List.{list_all}
use Rattle.std.specs.Option.{option_map}
use Rattle.std.proofs.lemmas.Bool.{and_parts, cases_Bool}
use Rattle.std.proofs.lemmas.Int.{ints}
use Rattle.iv_span.specs.Extent.{Extent, has, overlap}
use Rattle.book_rows.specs.Ids.{same_chunk}
use Rattle.book_rows.specs.Visible.{is_used_at, is_visible, tops}
use Rattle.book_rows.specs.declared.rows.SegmentRow.{SegmentRow}
use Rattle.row_table.proofs.PlaceLemmas.{found_at, none_at}
use Rattle.tab_segments.specs.Laws.{one_chunk}
use Rattle.tab_segments.specs.Leading.{AreLed, HaveRealSpans, IsAbove, IsOfChunks, IsReal, is_used_in, leads_and, leads_at, rows_in}
use Rattle.tab_segments.specs.SegmentRows.{visible_chunk}
use Rattle.tab_segments.specs.declared.entries.Entry.{Entry}
use Rattle.tab_segments.proofs.Led.{and_both, first_led}
use Rattle.tab_segments.proofs.Rows.{all_get}

left_out : (u b : Bool) → u ≡ true → (not u || b) ≡ true → b ≡ true
left_out true b p q = q
left_out false b p q = cc

-- ---- of two versions

none_above : (v w : ℤ) (n s : ℕ) → IsAbove (v, n) (w, s) → int_lt v w ≡ false
none_above v w n s (inl gt) = grind (arith, ints)
none_above v w n s (inr eq) = (let same : v ≡ w = eq.0 in grind (arith, ints))

above_first : (v w : ℤ) (n s : ℕ) → IsAbove (v, n) (w, s) → int_le v w ≡ true → n ≤ s
above_first v w n s (inl gt) on = (let off : int_le v w ≡ false = grind (arith, ints) in let clash : false ≡ true = sym off ∙ on in cc)
above_first v w n s (inr eq) on = eq.1

-- the entry of the place is a leading one at the instant, and none is above it
record IsNewest (source : List ℕ) (t : ℤ) (es : List Entry) (n : ℕ) (e : Entry) : Type 0 where
  got : slice_get es n ≡ Some e
  there : leads_at source t e ≡ true
  above : (s : ℕ) (d : Entry) → slice_get es s ≡ Some d → leads_at source t d ≡ true → IsAbove (e.row.id.version, n) (d.row.id.version, s)

-- the span begins at the instant and has it
pub record IsRound (t : ℤ) (around : Extent) : Type 0 where
  pub start : around.start ≡ t
  pub end : t <ℤ around.end

module _ (source : List ℕ) (t : ℤ) where
  -- what is used at the instant, and passes a test of versions, is so with its chunk
  at_whole : (test : ℤ → Bool) → IsOfChunks (λ r. is_used_at source t r && test r.id.version)
  at_whole test = record {
    used = λ r on.
        let both = and_parts (is_used_at source t r) (test r.id.version) on in
        let all = and_parts (r.used && bytes_eq r.id.source source) (has r.id.span t) both.0 in
        (and_parts r.used (bytes_eq r.id.source source) all.0).0;
    whole = λ r s on peer.
        let both = and_parts (is_used_at source t r) (test r.id.version) on in
        let all = and_parts (r.used && bytes_eq r.id.source source) (has r.id.span t) both.0 in
        let two = and_parts r.used (bytes_eq r.id.source source) all.0 in
        let own = and_parts s.used (same_chunk s.id r.id) peer in
        let one = one_chunk s.id r.id own.1 in
        let source' = subst (λ z. bytes_eq z source ≡ true) (sym one.source) two.1 in
        let there = subst (λ a. has a t ≡ true) (sym one.span) all.1 in
        let test' = subst (λ v. test v ≡ true) (sym one.version) both.1 in
        and_both (is_used_at source t s) (test s.id.version)
        (and_both (s.used && bytes_eq s.id.source source) (has s.id.span t) (and_both s.used (bytes_eq s.id.source source) own.0 source') there) test';
  }

  -- no used row of these at the instant is of a version above this one
  abbrev is_top : List SegmentRow → ℤ → Bool
  is_top rows v = list_all (λ q. not (is_used_at source t q) || int_le q.id.version v) rows

  pub visible_whole : (rows : List SegmentRow) → IsOfChunks (is_visible rows source t)
  visible_whole rows = at_whole (is_top rows)

  -- ---- none is above

  top_bit : (u : Bool) (v w : ℤ) → (u && int_lt v w) ≡ false → (not u || int_le w v) ≡ true
  top_bit true v w off = grind (arith, ints)
  top_bit false v w off = refl

  all_tops : (v : ℤ) (es : List Entry) → None ≡ find (λ d. is_used_at source t d.row && int_lt v d.row.id.version) es → is_top (rows_in es) v ≡ true
  all_tops v [] none = refl
  all_tops v (d ∷ ds) none =
      elim (cases_Bool (is_used_at source t d.row && int_lt v d.row.id.version)) [
        | inl hit ↦ (let clash : None ≡ Some d = rw hit at none in cc)
        | inr miss ↦ and_both (not (is_used_at source t d.row) || int_le d.row.id.version v) (is_top (rows_in ds) v) (top_bit (is_used_at source t d.row) v d.row.id.version miss) (all_tops v ds (rw miss at none))
      ]

  top_get : (v : ℤ) (es : List Entry) (n : ℕ) (e : Entry) → is_top (rows_in es) v ≡ true → slice_get es n ≡ Some e → is_used_at source t e.row ≡ true → int_le e.row.id.version v ≡ true
  top_get v [] n e on got there = cc
  top_get v (d ∷ ds) zero e on got there =
      let same : d ≡ e = cc in
      let first = (and_parts (not (is_used_at source t d.row) || int_le d.row.id.version v) (is_top (rows_in ds) v) on).0 in
      left_out (is_used_at source t e.row) (int_le e.row.id.version v) there (subst (λ x. (not (is_used_at source t x.row) || int_le x.row.id.version v) ≡ true) same first)
  top_get v (d ∷ ds) (suc n) e on got there = top_get v ds n e (and_parts (not (is_used_at source t d.row) || int_le d.row.id.version v) (is_top (rows_in ds) v) on).1 got there

  -- ---- the greatest of the leading ones

  newest_tops : (es : List Entry) (n : ℕ) (e : Entry) → AreLed es → IsNewest source t es n e → is_top (rows_in es) e.row.id.version ≡ true
  newest_tops es n e led new =
      let v = e.row.id.version in
      let above : SegmentRow → Bool = λ r. is_used_at source t r && int_lt v r.id.version in
      let none : None ≡ find (leads_and above) es =
      none_at (leads_and above) es (λ s d got on.
      let leads = and_parts d.leads (above d.row) on in
      let both = and_parts (is_used_at source t d.row) (int_lt v d.row.id.version) leads.1 in
      let off = none_above v d.row.id.version n s (new.above s d got (and_both d.leads (is_used_at source t d.row) leads.0 both.0)) in
      let clash : false ≡ true = sym off ∙ both.1 in
      cc) in
      all_tops v es (none ∙ sym (led above (at_whole (λ w. int_lt v w))))

  newest_first : (es : List Entry) (n : ℕ) (e : Entry) → IsNewest source t es n e → (s : ℕ) (d : Entry) → slice_get es s ≡ Some d → leads_and (is_visible (rows_in es) source t) d ≡ true → n ≤ s
  newest_first es n e new s d got on =
      let leads = and_parts d.leads (is_visible (rows_in es) source t d.row) on in
      let both = and_parts (is_used_at source t d.row) (tops (rows_in es) source t d.row) leads.1 in
      let own = and_parts e.leads (is_used_at source t e.row) new.there in
      above_first e.row.id.version d.row.id.version n s
      (new.above s d got (and_both d.leads (is_used_at source t d.row) leads.0 both.0))
      (top_get d.row.id.version es n e both.1 new.got own.1)

  newest_visible : (es : List Entry) (n : ℕ) (e : Entry) → AreLed es → IsNewest source t es n e → Some e ≡ find (leads_and (is_visible (rows_in es) source t)) es
  newest_visible es n e led new =
      let own = and_parts e.leads (is_used_at source t e.row) new.there in
      let visible = and_both (is_used_at source t e.row) (tops (rows_in es) source t e.row) own.1 (newest_tops es n e led new) in
      found_at (leads_and (is_visible (rows_in es) source t)) es n e new.got (and_both e.leads (is_visible (rows_in es) source t e.row) own.0 visible) (newest_first es n e new)

  -- ---- as the walk answers

  -- the entry of the place passes the walk's test, a span round the instant, and none that does is above it
  abbrev pub Newest : Extent → List Entry → Option ℕ → Type 0
  Newest around es best = (s : ℕ) (d : Entry) → slice_get es s ≡ Some d → (leads_at source t d && overlap d.row.id.span around) ≡ true
      → (b : ℕ) × (q : Entry) × (best ≡ Some b) × (slice_get es b ≡ Some q) × IsAbove (q.row.id.version, b) (d.row.id.version, s)

  meets_by : (a around : Extent) → around.start ≡ t → t <ℤ around.end → has a t ≡ true → overlap a around ≡ true
  meets_by a around start end on = grind (arith, ints)

  meets : (around : Extent) (d : Entry) → IsRound t around → leads_at source t d ≡ true → (leads_at source t d && overlap d.row.id.span around) ≡ true
  meets around d round on =
      let leads = and_parts d.leads (is_used_at source t d.row) on in
      let all = and_parts (d.row.used && bytes_eq d.row.id.source source) (has d.row.id.span t) leads.1 in
      and_both (leads_at source t d) (overlap d.row.id.span around) on (meets_by d.row.id.span around round.start round.end all.1)

  pub place_visible : (around : Extent) (es : List Entry) (best : Option ℕ) (n : ℕ) (e : Entry) → AreLed es → IsRound t around → best ≡ Some n → slice_get es n ≡ Some e → (leads_at source t e && overlap e.row.id.span around) ≡ true → Newest around es best
      → Some e ≡ find (leads_and (is_visible (rows_in es) source t)) es
  place_visible around es best n e led round is got on newest =
      newest_visible es n e led (record {
        got = got;
        there = (and_parts (leads_at source t e) (overlap e.row.id.span around) on).0;
        above = λ s d here passes.
            let top = newest s d here (meets around d round passes) in
            let same : Some n ≡ Some top.0 = sym is ∙ top.2 in
            let n' : top.0 ≡ n = cc in
            let own : slice_get es n ≡ Some top.1 = subst (λ k. slice_get es k ≡ Some top.1) n' top.3 in
            let q : Some top.1 ≡ Some e = sym own ∙ got in
            let e' : top.1 ≡ e = cc in
            subst (λ x. IsAbove (x.row.id.version, n) (d.row.id.version, s)) e' (subst (λ k. IsAbove (top.1.row.id.version, k) (d.row.id.version, s)) n' top.4);
      })

  pub none_visible : (around : Extent) (es : List Entry) (best : Option ℕ) → IsRound t around → best ≡ None → Newest around es best → None ≡ find (leads_and (is_visible (rows_in es) source t)) es
  none_visible around es best round is newest =
      none_at (leads_and (is_visible (rows_in es) source t)) es (λ s d got on.
      let leads = and_parts d.leads (is_visible (rows_in es) source t d.row) on in
      let both = and_parts (is_used_at source t d.row) (tops (rows_in es) source t d.row) leads.1 in
      let top = newest s d got (meets around d round (and_both d.leads (is_used_at source t d.row) leads.0 both.0)) in
      let clash : None ≡ Some top.0 = sym is ∙ top.2 in
      cc)

  -- no span has the greatest number
  past_end : (a : Extent) → a.end ≤ℤ pos 9223372036854775807 → pos 9223372036854775807 ≤ℤ t → has a t ≡ false
  past_end a low high = grind (arith, ints)

  pub none_at_end : (es : List Entry) → HaveRealSpans es → pos 9223372036854775807 ≤ℤ t → None ≡ find (leads_and (is_visible (rows_in es) source t)) es
  none_at_end es real high =
      none_at (leads_and (is_visible (rows_in es) source t)) es (λ s d got on.
      let leads = and_parts d.leads (is_visible (rows_in es) source t d.row) on in
      let both = and_parts (is_used_at source t d.row) (tops (rows_in es) source t d.row) leads.1 in
      let all = and_parts (d.row.used && bytes_eq d.row.id.source source) (has d.row.id.span t) both.0 in
      let off = past_end d.row.id.span (all_get (λ e. IsReal e.row.id.span) es s d real got).1 high in
      let clash : false ≡ true = sym off ∙ all.1 in
      cc)

  pub chunk_of_led : (es : List Entry) → AreLed es → option_map (λ e. (e.row.id.span, e.row.id.version)) (find (leads_and (is_visible (rows_in es) source t)) es) ≡ visible_chunk (rows_in es) source t
  chunk_of_led es led = first_led (λ r. (r.id.span, r.id.version)) (is_visible (rows_in es) source t) es led (visible_whole (rows_in es))
