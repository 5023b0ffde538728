-- Parts under names: what a write leaves of other names.
use Rattle.std.proofs.Common.{Bool, List, [], ap, cond, false, refl, sym, true, ℕ, ◌∙◌, ◌∷◌, ◌≡◌, ◌≢◌}
use Rattle.std.specs.Prelude.{None, Option, Some}
use Rattle.std.specs.BTreeMap.{insert_entry, is_at}
use Rattle.std.specs.Cmp.Lexicographic.{slice_cmp}
use Rattle.std.specs.Map.{lookup, set_value}
use Rattle.std.specs.Ordering.{is_eq, match_ordering, nat_cmp}
use Rattle.std.specs.declared.cmp.Ordering.{Ordering}
use Rattle.std.specs.declared.cmp.Ordering.TheVariants.{Equal, Greater, Less}
use Rattle.std.proofs.lemmas.Bool.{false≢true}
use Rattle.std.proofs.lemmas.Cmp.{nat_list_cmp_total, tied_itself}
use Rattle.std.proofs.lemmas.Map.Lookups.{exact_bytes}
use Rattle.book_rows.specs.Shown.{ChunkPart}
use Rattle.laws_parts.proofs.Unique.{none_not_some, some_same}
use Rattle.timeline_kept.specs.Sources.{kept_parts, or_nothing}

abbrev pub name_cmp : List ℕ → List ℕ → Ordering
name_cmp = slice_cmp nat_cmp

abbrev is_named : List ℕ → List ℕ → Bool
is_named name = is_at (name_cmp name)

named_itself : (name : List ℕ) → is_named name name ≡ true
named_itself name = ap is_eq (tied_itself nat_list_cmp_total name)

means_equal : (o : Ordering) → is_eq o ≡ true → o ≡ Equal
means_equal Less e = absurd (false≢true e)
means_equal Equal e = refl
means_equal Greater e = absurd (false≢true e)

-- a key of one name isn't that of another
other_key : (a b key : List ℕ) → a ≢ b → is_named a key ≡ true → is_named b key ≡ false
other_key a b key apart on = go (is_named b key) refl where
  go : (x : Bool) → is_named b key ≡ x → x ≡ false
  go true e = absurd (apart (exact_bytes a key (means_equal (name_cmp a key) on) ∙ sym (exact_bytes b key (means_equal (name_cmp b key) e))))
  go false e = refl

module _ {X : Type 0} where
  pub set_own : (name : List ℕ) (es : List (List ℕ × X)) (y w : X) → lookup (is_named name) es ≡ Some y → lookup (is_named name) (set_value (is_named name) es w) ≡ Some w
  set_own name [] y w h = absurd (none_not_some None y refl h)
  set_own name (e ∷ es) y w h = go (is_named name e.0) refl h (set_own name es y w) where
    go : (b : Bool) → is_named name e.0 ≡ b → cond b (Some e.1) (lookup (is_named name) es) ≡ Some y → (lookup (is_named name) es ≡ Some y → lookup (is_named name) (set_value (is_named name) es w) ≡ Some w)
        → lookup (is_named name) (cond b ((e.0, w) ∷ es) (e ∷ set_value (is_named name) es w)) ≡ Some w
    go true on h rest = rw on refl
    go false off h rest = rw off (rest h)

  pub set_other : (name other : List ℕ) (es : List (List ℕ × X)) (w : X) → name ≢ other → lookup (is_named other) (set_value (is_named name) es w) ≡ lookup (is_named other) es
  set_other name other [] w apart = refl
  set_other name other (e ∷ es) w apart = go (is_named name e.0) refl (set_other name other es w apart) where
    go : (b : Bool) → is_named name e.0 ≡ b → lookup (is_named other) (set_value (is_named name) es w) ≡ lookup (is_named other) es
        → lookup (is_named other) (cond b ((e.0, w) ∷ es) (e ∷ set_value (is_named name) es w)) ≡ cond (is_named other e.0) (Some e.1) (lookup (is_named other) es)
    go true on rest = rw (other_key name other e.0 apart on) refl
    go false off rest = ap (λ (o : Option X). cond (is_named other e.0) (Some e.1) o) rest

  pub insert_own : (name : List ℕ) (es : List (List ℕ × X)) (w : X) → lookup (is_named name) (insert_entry name_cmp es name w) ≡ Some w
  insert_own name [] w = rw (named_itself name) refl
  insert_own name (e ∷ es) w = go (name_cmp name e.0) refl (insert_own name es w) where
    go : (o : Ordering) → name_cmp name e.0 ≡ o → lookup (is_named name) (insert_entry name_cmp es name w) ≡ Some w
        → lookup (is_named name) (match_ordering o ((name, w) ∷ e ∷ es) ((e.0, w) ∷ es) (e ∷ insert_entry name_cmp es name w)) ≡ Some w
    go Less at rest = rw (named_itself name) refl
    go Equal at rest = rw at refl
    go Greater at rest = rw at rest

  pub insert_other : (name other : List ℕ) (es : List (List ℕ × X)) (w : X) → name ≢ other → lookup (is_named other) (insert_entry name_cmp es name w) ≡ lookup (is_named other) es
  insert_other name other [] w apart = rw (other_key name other name apart (named_itself name)) refl
  insert_other name other (e ∷ es) w apart = go (name_cmp name e.0) refl (insert_other name other es w apart) where
    go : (o : Ordering) → name_cmp name e.0 ≡ o → lookup (is_named other) (insert_entry name_cmp es name w) ≡ lookup (is_named other) es
        → lookup (is_named other) (match_ordering o ((name, w) ∷ e ∷ es) ((e.0, w) ∷ es) (e ∷ insert_entry name_cmp es name w)) ≡ cond (is_named other e.0) (Some e.1) (lookup (is_named other) es)
    go Less at rest = rw (other_key name other name apart (named_itself name)) refl
    go Equal at rest = rw (other_key name other e.0 apart (ap is_eq at)) refl
    go Greater at rest = ap (λ (o : Option X). cond (is_named other e.0) (Some e.1) o) rest

  -- what stood there, written again
  set_same : (name : List ℕ) (es : List (List ℕ × X)) (y : X) → lookup (is_named name) es ≡ Some y → set_value (is_named name) es y ≡ es
  set_same name [] y h = refl
  set_same name (e ∷ es) y h = go (is_named name e.0) h (set_same name es y) where
    go : (b : Bool) → cond b (Some e.1) (lookup (is_named name) es) ≡ Some y → (lookup (is_named name) es ≡ Some y → set_value (is_named name) es y ≡ es) → cond b ((e.0, y) ∷ es) (e ∷ set_value (is_named name) es y) ≡ e ∷ es
    go true h rest = ap (λ (z : X). (e.0, z) ∷ es) (sym (some_same e.1 y h))
    go false h rest = ap (λ (xs : List (List ℕ × X)). e ∷ xs) (rest h)

-- ---- the kept parts

pub found : (name : List ℕ) (es : List (List ℕ × List ChunkPart)) (y : List ChunkPart) → lookup (is_named name) es ≡ Some y → kept_parts es name ≡ y
found name es y h = ap or_nothing h

pub missing : (name : List ℕ) (es : List (List ℕ × List ChunkPart)) → lookup (is_named name) es ≡ None → kept_parts es name ≡ []
missing name es h = ap or_nothing h

module _ (name : List ℕ) (es new : List (List ℕ × List ChunkPart)) (w : List ChunkPart) where
  pub written : (y : List ChunkPart) → lookup (is_named name) es ≡ Some y → new ≡ set_value (is_named name) es w → kept_parts new name ≡ w
  written y h e = ap (λ (xs : List (List ℕ × List ChunkPart)). kept_parts xs name) e ∙ ap or_nothing (set_own name es y w h)

  pub written_elsewhere : new ≡ set_value (is_named name) es w → (other : List ℕ) → name ≢ other → kept_parts new other ≡ kept_parts es other
  written_elsewhere e other apart = ap (λ (xs : List (List ℕ × List ChunkPart)). kept_parts xs other) e ∙ ap or_nothing (set_other name other es w apart)

  pub written_back : (y : List ChunkPart) → lookup (is_named name) es ≡ Some y → new ≡ set_value (is_named name) es w → w ≡ y → (other : List ℕ) → kept_parts new other ≡ kept_parts es other
  written_back y h e same other = ap (λ (xs : List (List ℕ × List ChunkPart)). kept_parts xs other) (e ∙ ap (set_value (is_named name) es) same ∙ set_same name es y h)

  pub inserted : new ≡ insert_entry name_cmp es name w → kept_parts new name ≡ w
  inserted e = ap (λ (xs : List (List ℕ × List ChunkPart)). kept_parts xs name) e ∙ ap or_nothing (insert_own name es w)

  pub inserted_elsewhere : new ≡ insert_entry name_cmp es name w → (other : List ℕ) → name ≢ other → kept_parts new other ≡ kept_parts es other
  inserted_elsewhere e other apart = ap (λ (xs : List (List ℕ × List ChunkPart)). kept_parts xs other) e ∙ ap or_nothing (insert_other name other es w apart)
