-- Entries under ascending names, split at a name.
use Rattle.std.proofs.Common.{◌++◌, ◌∙◌, ◌∷◌, ◌≡◌, Bool, List, None, Option, Some, [], ap, arith, cond, refl, sym, ℕ}
use Rattle.std.specs.BTreeMap.{insert_entry, is_at}
use Rattle.std.specs.Cmp.Lexicographic.{slice_cmp}
use Rattle.std.specs.List.{AllByRecursion}
use Rattle.std.specs.List.Sorted.{IsStrictlySortedBy}
use Rattle.std.specs.Map.{keys_of, lookup, remove_entry, set_value}
use Rattle.std.specs.Ordering.{is_eq, match_ordering, nat_cmp, ordering_reverse}
use Rattle.std.specs.declared.cmp.Ordering.{Ordering}
use Rattle.std.specs.declared.cmp.Ordering.TheVariants.{Equal, Greater, Less}
use Rattle.std.proofs.lemmas.Cmp.{nat_list_cmp_total}
use Rattle.std.proofs.lemmas.Map.{NonePasses, lookup-none}
use Rattle.std.proofs.lemmas.Map.Entries.{none_below_head}
use Rattle.std.proofs.lemmas.Map.Keys.{sorted_from_all_adjacent, sorted_head, sorted_tail}
use Rattle.std.proofs.lemmas.Map.Lookups.{exact_bytes}
use Rattle.tab_streams.specs.ByName.{AreOrdered}

abbrev pub name_cmp : List ℕ → List ℕ → Ordering
name_cmp = slice_cmp nat_cmp

-- no names ascend
pub nothing_ordered : IsStrictlySortedBy name_cmp []
nothing_ordered = sorted_from_all_adjacent nat_list_cmp_total [] [] (λ k lt. absurd (omega (arith, lt)))

module _ {X : Type 0} where
  -- the entry, where there is one
  abbrev pub entry_of : List ℕ → Option X → List (List ℕ × X)
  entry_of name None = []
  entry_of name (Some x) = (name, x) ∷ []

  -- those before the name and those after it, of what stands there and of what may
  pub record Split (name : List ℕ) (es : List (List ℕ × X)) : Type 0 where
    pub front : List (List ℕ × X)
    pub back : List (List ℕ × X)
    pub whole : es ≡ front ++ (entry_of name (lookup (is_at (name_cmp name)) es) ++ back)
    pub put : (x : X) → insert_entry name_cmp es name x ≡ front ++ ((name, x) ∷ back)
    pub removed : remove_entry (is_at (name_cmp name)) es ≡ front ++ back
    pub less : AllByRecursion (λ e. name_cmp e.0 name ≡ Less) front
    pub more : AllByRecursion (λ e. name_cmp name e.0 ≡ Less) back

  none_removed : (test : List ℕ → Bool) (es : List (List ℕ × X)) → NonePasses test es → remove_entry test es ≡ es
  none_removed test [] h = refl
  none_removed test (e ∷ es) h = ap (λ b. cond b es (e ∷ remove_entry test es)) h.0 ∙ ap (λ xs. e ∷ xs) (none_removed test es h.1)

  all_after : (name next : List ℕ) (es : List (List ℕ × X)) → name_cmp name next ≡ Less → AllByRecursion (λ y. name_cmp next y ≡ Less) (keys_of es) → AllByRecursion (λ e. name_cmp name e.0 ≡ Less) es
  all_after name next [] lt h = tt
  all_after name next (e ∷ es) lt h = (nat_list_cmp_total.trans name next e.0 lt h.0, all_after name next es lt h.1)

  all_like : (name next : List ℕ) (es : List (List ℕ × X)) → name_cmp name next ≡ Equal → AllByRecursion (λ y. name_cmp next y ≡ Less) (keys_of es) → AllByRecursion (λ e. name_cmp name e.0 ≡ Less) es
  all_like name next [] eq h = tt
  all_like name next (e ∷ es) eq h = (nat_list_cmp_total.congr name next e.0 eq ∙ h.0, all_like name next es eq h.1)

  pub split : (name : List ℕ) (es : List (List ℕ × X)) → AreOrdered es → Split name es
  split name [] sorted = record { front = []; back = []; whole = refl; put = λ x. refl; removed = refl; less = tt; more = tt }
  split name (e ∷ es) sorted = by (name_cmp name e.0) refl (split name es (sorted_tail name_cmp e.0 (keys_of es) sorted)) where
    rest : AllByRecursion (λ y. name_cmp e.0 y ≡ Less) (keys_of es)
    rest = sorted_head name_cmp e.0 (keys_of es) sorted

    by : (o : Ordering) → name_cmp name e.0 ≡ o → Split name es → Split name (e ∷ es)
    by Less lt later =
        let none : NonePasses (is_at (name_cmp name)) (e ∷ es) = none_below_head nat_list_cmp_total name e es sorted lt in
        record {
          front = [];
          back = e ∷ es;
          whole = ap (λ (o : Option X). entry_of name o ++ (e ∷ es)) (sym (lookup-none (is_at (name_cmp name)) (e ∷ es) none));
          put = λ x. ap (λ o. match_ordering o ((name, x) ∷ e ∷ es) ((e.0, x) ∷ es) (e ∷ insert_entry name_cmp es name x)) lt;
          removed = none_removed (is_at (name_cmp name)) (e ∷ es) none;
          less = tt;
          more = (lt, all_after name e.0 es lt rest);
        }
    by Equal eq later =
        let same : name ≡ e.0 = exact_bytes name e.0 eq in
        record {
          front = [];
          back = es;
          whole =
              ap (λ (n : List ℕ). (n, e.1) ∷ es) (sym same)
              ∙ ap (λ b. entry_of name (cond b (Some e.1) (lookup (is_at (name_cmp name)) es)) ++ es) (sym (ap is_eq eq));
          put = λ x. ap (λ o. match_ordering o ((name, x) ∷ e ∷ es) ((e.0, x) ∷ es) (e ∷ insert_entry name_cmp es name x)) eq ∙ ap (λ (n : List ℕ). (n, x) ∷ es) (sym same);
          removed = ap (λ b. cond b es (e ∷ remove_entry (is_at (name_cmp name)) es)) (ap is_eq eq);
          less = tt;
          more = all_like name e.0 es eq rest;
        }
    by Greater gt later =
        record {
          front = e ∷ later.front;
          back = later.back;
          whole =
              ap (λ xs. e ∷ xs) later.whole
              ∙ ap (λ b. e ∷ (later.front ++ (entry_of name (cond b (Some e.1) (lookup (is_at (name_cmp name)) es)) ++ later.back))) (sym (ap is_eq gt));
          put = λ x. ap (λ o. match_ordering o ((name, x) ∷ e ∷ es) ((e.0, x) ∷ es) (e ∷ insert_entry name_cmp es name x)) gt ∙ ap (λ xs. e ∷ xs) (later.put x);
          removed = ap (λ b. cond b es (e ∷ remove_entry (is_at (name_cmp name)) es)) (ap is_eq gt) ∙ ap (λ xs. e ∷ xs) later.removed;
          less = (nat_list_cmp_total.antisymm e.0 name ∙ ap ordering_reverse gt, later.less);
          more = later.more;
        }

  -- what is written where a name was found is what is put under it
  pub written : (name : List ℕ) (es : List (List ℕ × X)) (x y : X) → AreOrdered es → lookup (is_at (name_cmp name)) es ≡ Some y → set_value (is_at (name_cmp name)) es x ≡ insert_entry name_cmp es name x
  written name [] x y sorted found = cc
  written name (e ∷ es) x y sorted found = by (name_cmp name e.0) refl (written name es x y (sorted_tail name_cmp e.0 (keys_of es) sorted)) where
    by : (o : Ordering) → name_cmp name e.0 ≡ o → (lookup (is_at (name_cmp name)) es ≡ Some y → set_value (is_at (name_cmp name)) es x ≡ insert_entry name_cmp es name x) → set_value (is_at (name_cmp name)) (e ∷ es) x ≡ insert_entry name_cmp (e ∷ es) name x
    by Less lt later =
        let clash : None ≡ Some y = sym (lookup-none (is_at (name_cmp name)) (e ∷ es) (none_below_head nat_list_cmp_total name e es sorted lt)) ∙ found in
        absurd (cc)
    by Equal eq later =
        ap (λ b. cond b ((e.0, x) ∷ es) (e ∷ set_value (is_at (name_cmp name)) es x)) (ap is_eq eq)
        ∙ sym (ap (λ o. match_ordering o ((name, x) ∷ e ∷ es) ((e.0, x) ∷ es) (e ∷ insert_entry name_cmp es name x)) eq)
    by Greater gt later =
        let there : lookup (is_at (name_cmp name)) es ≡ Some y = sym (ap (λ b. cond b (Some e.1) (lookup (is_at (name_cmp name)) es)) (ap is_eq gt)) ∙ found in
        ap (λ b. cond b ((e.0, x) ∷ es) (e ∷ set_value (is_at (name_cmp name)) es x)) (ap is_eq gt)
        ∙ (ap (λ xs. e ∷ xs) (later there) ∙ sym (ap (λ o. match_ordering o ((name, x) ∷ e ∷ es) ((e.0, x) ∷ es) (e ∷ insert_entry name_cmp es name x)) gt))
