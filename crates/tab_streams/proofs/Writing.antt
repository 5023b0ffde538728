-- What stands under a name is written, or put there.
use Rattle.std.proofs.Common.{◌==◌, ◌∙◌, ◌∷◌, ◌≡◌, Err, List, None, Ok, Option, Result, Some, [], ap, arith, length, refl, sym, true, ℕ, OnErr, OnOk}
use Rattle.std.specs.BTreeMap.{insert_entry, is_at}
use Rattle.std.specs.Map.{lookup, remove_entry, set_value}
use Rattle.std.proofs.lemmas.Bool.{eqb-true}
use Rattle.std.proofs.lemmas.Map.Steps.{set_value_same}
use Rattle.book_rows.specs.Offsets.{cleared, reset_to, row_for, set_row}
use Rattle.book_rows.specs.declared.rows.Offset.{Offset}
use Rattle.tab_streams.specs.ByName.{AreOrdered, all_rows, or_nothing, set_offset, set_offsets, under}
use Rattle.tab_streams.proofs.Around.{Sources, Streams}
use Rattle.tab_streams.proofs.NameSplit.{name_cmp, nothing_ordered, written}
use Rattle.tab_streams.proofs.StreamLaws.{removed_found, reset_found, set_found}

pub under_found : {X : Type 0} (name : List ℕ) (es : List (List ℕ × List X)) (o : Option (List X)) → lookup (is_at (name_cmp name)) es ≡ o → under name es ≡ or_nothing o
under_found name es o found = ap or_nothing found

-- ---- of one source

module _ {T E : Type 0} (result : Result T E) where
  pub write_ok : (name : List ℕ) (es new : Streams) (y w : List Offset) (o : Offset) → AreOrdered es → lookup (is_at (name_cmp name)) es ≡ Some y → new ≡ set_value (is_at (name_cmp name)) es w
      → OnOk result (w ≡ set_offset o y) → OnOk result (new ≡ insert_entry name_cmp es name (set_offset o (under name es)))
  write_ok name es new y w o sorted found e ok = by result ok where
    by : (r : Result T E) → OnOk r (w ≡ set_offset o y) → OnOk r (new ≡ insert_entry name_cmp es name (set_offset o (under name es)))
    by (Ok x) ok = e ∙ (written name es w y sorted found ∙ ap (λ (v : List Offset). insert_entry name_cmp es name v) (ok ∙ ap (set_offset o) (sym (ap or_nothing found))))
    by (Err x) ok = tt

  pub write_err : {X : Type 0} (name : List ℕ) (es new : List (List ℕ × X)) (y w : X) → lookup (is_at (name_cmp name)) es ≡ Some y → new ≡ set_value (is_at (name_cmp name)) es w
      → OnErr result (w ≡ y) → OnErr result (new ≡ es)
  write_err {X} name es new y w found e err = by result err where
    by : (r : Result T E) → OnErr r (w ≡ y) → OnErr r (new ≡ es)
    by (Ok x) err = tt
    by (Err x) err = e ∙ (ap (λ (v : X). set_value (is_at (name_cmp name)) es v) err ∙ set_value_same (is_at (name_cmp name)) es y found)

  -- ---- of all sources

  module _ (source stream : List ℕ) (es new : Sources) (y w : Streams) (outer : AreOrdered es) (inner : AreOrdered y) (found : lookup (is_at (name_cmp source)) es ≡ Some y) (e : new ≡ set_value (is_at (name_cmp source)) es w) where
    pub set_written : (o : Offset) → OnOk result (w ≡ insert_entry name_cmp y stream (set_offset o (under stream y))) → OnOk result (all_rows new ≡ set_row (row_for source stream o) (all_rows es))
    set_written o ok = by result ok where
      by : (r : Result T E) → OnOk r (w ≡ insert_entry name_cmp y stream (set_offset o (under stream y))) → OnOk r (all_rows new ≡ set_row (row_for source stream o) (all_rows es))
      by (Ok x) ok =
          ap all_rows (e ∙ (written source es w y outer found ∙ ap (λ (v : Streams). insert_entry name_cmp es source v) ok))
          ∙ set_found source stream es outer y (ap or_nothing found) inner o
      by (Err x) ok = tt

    pub reset_written : (ps os : List Offset) → ps ≡ set_offsets [] os → OnOk result (w ≡ insert_entry name_cmp y stream ps) → OnOk result (all_rows new ≡ reset_to (all_rows es) source stream os)
    reset_written ps os made ok = by result ok where
      by : (r : Result T E) → OnOk r (w ≡ insert_entry name_cmp y stream ps) → OnOk r (all_rows new ≡ reset_to (all_rows es) source stream os)
      by (Ok x) ok =
          ap all_rows (e ∙ (written source es w y outer found ∙ ap (λ (v : Streams). insert_entry name_cmp es source v) (ok ∙ ap (λ (v : List Offset). insert_entry name_cmp y stream v) made)))
          ∙ reset_found source stream es outer y (ap or_nothing found) inner os
      by (Err x) ok = tt

  pub unwritten : (source : List ℕ) (es new : Sources) (y w : Streams) → lookup (is_at (name_cmp source)) es ≡ Some y → new ≡ set_value (is_at (name_cmp source)) es w → OnErr result (w ≡ y) → OnErr result (all_rows new ≡ all_rows es)
  unwritten source es new y w found e err = by result err where
    by : (r : Result T E) → OnErr r (w ≡ y) → OnErr r (all_rows new ≡ all_rows es)
    by (Ok x) err = tt
    by (Err x) err = ap all_rows (e ∙ (ap (λ (v : Streams). set_value (is_at (name_cmp source)) es v) err ∙ set_value_same (is_at (name_cmp source)) es y found))

pub removed_written : (source stream : List ℕ) (es new : Sources) (y w : Streams) → AreOrdered es → AreOrdered y → lookup (is_at (name_cmp source)) es ≡ Some y → new ≡ set_value (is_at (name_cmp source)) es w
    → w ≡ remove_entry (is_at (name_cmp stream)) y → all_rows new ≡ cleared (all_rows es) source stream
removed_written source stream es new y w outer inner found e gone =
    ap all_rows (e ∙ (written source es w y outer found ∙ ap (λ (v : Streams). insert_entry name_cmp es source v) gone))
    ∙ removed_found source stream es outer y (ap or_nothing found) inner

-- ---- where nothing stood under the name

pub nothing_under : {X : Type 0} (name : List ℕ) (es old : List (List ℕ × List X)) → old ≡ es → lookup (is_at (name_cmp name)) es ≡ None → under name old ≡ []
nothing_under {X} name es old same none = ap (λ (xs : List (List ℕ × List X)). under name xs) same ∙ ap or_nothing none

pub add_ok : {T E : Type 0} (result : Result T E) (name : List ℕ) (es old new : Streams) (o : Offset) → old ≡ es → lookup (is_at (name_cmp name)) es ≡ None → OnOk result (new ≡ insert_entry name_cmp old name (set_offset o []))
    → OnOk result (new ≡ insert_entry name_cmp es name (set_offset o (under name es)))
add_ok (Ok x) name es old new o same none ok =
    ok ∙ (ap (λ (xs : Streams). insert_entry name_cmp xs name (set_offset o [])) same ∙ ap (λ (v : List Offset). insert_entry name_cmp es name (set_offset o v)) (sym (ap or_nothing none)))
add_ok (Err x) name es old new o same none ok = tt

module _ (source stream : List ℕ) (es new : Sources) (w ts : Streams) (outer : AreOrdered es) (none : under source es ≡ []) (empty : ts ≡ []) (e : new ≡ insert_entry name_cmp es source w) where
  pub source_set : (o : Offset) → w ≡ insert_entry name_cmp ts stream (set_offset o (under stream ts)) → all_rows new ≡ set_row (row_for source stream o) (all_rows es)
  source_set o made =
      ap all_rows (e ∙ ap (λ (v : Streams). insert_entry name_cmp es source v) (made ∙ ap (λ (xs : Streams). insert_entry name_cmp xs stream (set_offset o (under stream xs))) empty))
      ∙ set_found source stream es outer [] none nothing_ordered o

  pub source_put : (ps os : List Offset) → w ≡ insert_entry name_cmp ts stream ps → ps ≡ set_offsets [] os → all_rows new ≡ reset_to (all_rows es) source stream os
  source_put ps os made same =
      ap all_rows
      (e ∙ ap (λ (v : Streams). insert_entry name_cmp es source v) (made ∙ (ap (λ (xs : Streams). insert_entry name_cmp xs stream ps) empty ∙ ap (λ (v : List Offset). insert_entry name_cmp [] stream v) same)))
      ∙ reset_found source stream es outer [] none nothing_ordered os

pub none_left : {X : Type 0} (xs : List X) → (length xs == 0) ≡ true → xs ≡ []
none_left [] on = refl
none_left (x ∷ xs) on = let e = eqb-true (length (x ∷ xs)) 0 on in absurd (omega (arith, e))
