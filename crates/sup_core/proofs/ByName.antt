-- Sequences that are abandoned and pause name by name are what becomes of each.
use Rattle.std.proofs.Common.{◌&&◌, ◌++◌, ◌∙◌, ◌∷◌, ◌≡◌, ◌||◌, Bool, List, [], ap, bytes_eq, cond, false, map, refl, sym, true, ℕ}
use Rattle.std.proofs.lemmas.List.Folds.{list_any-append}
use Rattle.book_rows.specs.Kinds.{is_unpublished, same_state}
use Rattle.book_rows.specs.Sequences.{name_of}
use Rattle.book_rows.specs.declared.kinds.SeqState.{SeqState}
use Rattle.book_rows.specs.declared.kinds.SeqState.TheVariants as States
use Rattle.book_rows.specs.declared.rows.SequenceRow.{SequenceRow}
use Rattle.tab_sequences.specs.Changes.{abandoned_one, paused_one}
use Rattle.sup_core.specs.ByNames.{abandoned_by_name, abandoned_each, by_names, is_one_of, paused_by_name, paused_each}

map_self : {X : Type 0} (xs : List X) → xs ≡ map (λ x. x) xs
map_self [] = refl
map_self (x ∷ xs) = ap (λ ys. x ∷ ys) (map_self xs)

pub map_both : {X : Type 0} (f g h : X → X) → ((x : X) → f (g x) ≡ h x) → (xs : List X) → map f (map g xs) ≡ map h xs
map_both f g h same [] = refl
map_both f g h same (x ∷ xs) = ap (λ y. y ∷ map f (map g xs)) (same x) ∙ ap (λ ys. h x ∷ ys) (map_both f g h same xs)

-- ---- by whether it is the first name, or one of the others

abandoned_state : (e l : Bool) (st : SeqState) → cond (l && is_unpublished (cond (e && is_unpublished st) States.Abandoned st)) States.Abandoned (cond (e && is_unpublished st) States.Abandoned st) ≡ cond ((e || l) && is_unpublished st) States.Abandoned st
abandoned_state false l st = refl
abandoned_state true true States.Reading = refl
abandoned_state true true States.Paused = refl
abandoned_state true true States.Closed = refl
abandoned_state true true States.Published = refl
abandoned_state true true States.Abandoned = refl
abandoned_state true false States.Reading = refl
abandoned_state true false States.Paused = refl
abandoned_state true false States.Closed = refl
abandoned_state true false States.Published = refl
abandoned_state true false States.Abandoned = refl

abandoned_live : (e l : Bool) (st : SeqState) (live : List (List ℕ)) → cond (l && is_unpublished (cond (e && is_unpublished st) States.Abandoned st)) [] (cond (e && is_unpublished st) [] live) ≡ cond ((e || l) && is_unpublished st) [] live
abandoned_live false l st live = refl
abandoned_live true true States.Reading live = refl
abandoned_live true true States.Paused live = refl
abandoned_live true true States.Closed live = refl
abandoned_live true true States.Published live = refl
abandoned_live true true States.Abandoned live = refl
abandoned_live true false States.Reading live = refl
abandoned_live true false States.Paused live = refl
abandoned_live true false States.Closed live = refl
abandoned_live true false States.Published live = refl
abandoned_live true false States.Abandoned live = refl

paused_state : (e l : Bool) (st : SeqState) → cond (l && same_state (cond (e && same_state st States.Reading) States.Paused st) States.Reading) States.Paused (cond (e && same_state st States.Reading) States.Paused st) ≡ cond ((e || l) && same_state st States.Reading) States.Paused st
paused_state false l st = refl
paused_state true true States.Reading = refl
paused_state true true States.Paused = refl
paused_state true true States.Closed = refl
paused_state true true States.Published = refl
paused_state true true States.Abandoned = refl
paused_state true false States.Reading = refl
paused_state true false States.Paused = refl
paused_state true false States.Closed = refl
paused_state true false States.Published = refl
paused_state true false States.Abandoned = refl

pub abandoned_each_is : (names : List (List ℕ)) (us : List SequenceRow) → abandoned_each names us ≡ map (abandoned_by_name names) us
abandoned_each_is [] us = map_self us
abandoned_each_is (n ∷ ns) us = abandoned_each_is ns (map (abandoned_one n) us) ∙ map_both (abandoned_by_name ns) (abandoned_one n) (abandoned_by_name (n ∷ ns)) one us where
  one : (u : SequenceRow) → abandoned_by_name ns (abandoned_one n u) ≡ abandoned_by_name (n ∷ ns) u
  one u = λ i. record u { state = abandoned_state (bytes_eq (name_of u) n) (is_one_of ns u) u.state i; live = abandoned_live (bytes_eq (name_of u) n) (is_one_of ns u) u.state u.live i }

pub paused_each_is : (names : List (List ℕ)) (us : List SequenceRow) → paused_each names us ≡ map (paused_by_name names) us
paused_each_is [] us = map_self us
paused_each_is (n ∷ ns) us = paused_each_is ns (map (paused_one n) us) ∙ map_both (paused_by_name ns) (paused_one n) (paused_by_name (n ∷ ns)) one us where
  one : (u : SequenceRow) → paused_by_name ns (paused_one n u) ≡ paused_by_name (n ∷ ns) u
  one u = λ i. record u { state = paused_state (bytes_eq (name_of u) n) (is_one_of ns u) u.state i }

-- ---- two lists of names, one after the other

abandoned_twice : (ns ms : List (List ℕ)) (u : SequenceRow) → abandoned_by_name ms (abandoned_by_name ns u) ≡ abandoned_by_name (ns ++ ms) u
abandoned_twice ns ms u = tests ∙ ap (λ (b : Bool). record u { state = cond (b && is_unpublished u.state) States.Abandoned u.state; live = cond (b && is_unpublished u.state) [] u.live }) (sym (list_any-append (λ n. bytes_eq (name_of u) n) ns ms)) where
  tests : abandoned_by_name ms (abandoned_by_name ns u) ≡ record u { state = cond ((is_one_of ns u || is_one_of ms u) && is_unpublished u.state) States.Abandoned u.state; live = cond ((is_one_of ns u || is_one_of ms u) && is_unpublished u.state) [] u.live }
  tests = λ i. record u { state = abandoned_state (is_one_of ns u) (is_one_of ms u) u.state i; live = abandoned_live (is_one_of ns u) (is_one_of ms u) u.state u.live i }

paused_twice : (ns ms : List (List ℕ)) (u : SequenceRow) → paused_by_name ms (paused_by_name ns u) ≡ paused_by_name (ns ++ ms) u
paused_twice ns ms u = tests ∙ ap (λ (b : Bool). record u { state = cond (b && same_state u.state States.Reading) States.Paused u.state }) (sym (list_any-append (λ n. bytes_eq (name_of u) n) ns ms)) where
  tests : paused_by_name ms (paused_by_name ns u) ≡ record u { state = cond ((is_one_of ns u || is_one_of ms u) && same_state u.state States.Reading) States.Paused u.state }
  tests = λ i. record u { state = paused_state (is_one_of ns u) (is_one_of ms u) u.state i }

-- a sequence that pauses is abandoned all the same
turned_state : (a p : Bool) (st : SeqState)
    → cond (a && is_unpublished (cond (p && same_state st States.Reading) States.Paused st)) States.Abandoned (cond (p && same_state st States.Reading) States.Paused st)
    ≡ cond (p && same_state (cond (a && is_unpublished st) States.Abandoned st) States.Reading) States.Paused (cond (a && is_unpublished st) States.Abandoned st)
turned_state false p st = refl
turned_state true false st = refl
turned_state true true States.Reading = refl
turned_state true true States.Paused = refl
turned_state true true States.Closed = refl
turned_state true true States.Published = refl
turned_state true true States.Abandoned = refl

turned_live : (a p : Bool) (st : SeqState) (live : List (List ℕ)) → cond (a && is_unpublished (cond (p && same_state st States.Reading) States.Paused st)) [] live ≡ cond (a && is_unpublished st) [] live
turned_live false p st live = refl
turned_live true false st live = refl
turned_live true true States.Reading live = refl
turned_live true true States.Paused live = refl
turned_live true true States.Closed live = refl
turned_live true true States.Published live = refl
turned_live true true States.Abandoned live = refl

turned : (ns ms : List (List ℕ)) (u : SequenceRow) → abandoned_by_name ns (paused_by_name ms u) ≡ paused_by_name ms (abandoned_by_name ns u)
turned ns ms u = λ i. record u { state = turned_state (is_one_of ns u) (is_one_of ms u) u.state i; live = turned_live (is_one_of ns u) (is_one_of ms u) u.state u.live i }

pub by_names_more : (late over later more : List (List ℕ)) (u : SequenceRow) → by_names later more (by_names late over u) ≡ by_names (late ++ later) (over ++ more) u
by_names_more late over later more u =
    ap (λ v. paused_by_name more v) (turned later over (abandoned_by_name late u))
    ∙ (paused_twice over more (abandoned_by_name later (abandoned_by_name late u)) ∙ ap (λ v. paused_by_name (over ++ more) v) (abandoned_twice late later u))

pub each_by_names : (late over : List (List ℕ)) (us : List SequenceRow) → paused_each over (abandoned_each late us) ≡ map (by_names late over) us
each_by_names late over us =
    paused_each_is over (abandoned_each late us)
    ∙ (
    ap (λ vs. map (paused_by_name over) vs) (abandoned_each_is late us)
    ∙ map_both (paused_by_name over) (abandoned_by_name late) (by_names late over) (λ u. refl) us
    )

-- ---- by whether its name is among them

abbrev pub by_tests : Bool → Bool → SequenceRow → SequenceRow
by_tests a p u = record u {
  state = cond (p && same_state (cond (a && is_unpublished u.state) States.Abandoned u.state) States.Reading) States.Paused (cond (a && is_unpublished u.state) States.Abandoned u.state);
  live = cond (a && is_unpublished u.state) [] u.live;
}

pub tests_by_names : (late over : List (List ℕ)) (u : SequenceRow) (a p : Bool) → is_one_of late u ≡ a → is_one_of over u ≡ p → by_names late over u ≡ by_tests a p u
tests_by_names late over u a p d e = ap (λ (b : Bool). by_tests b (is_one_of over u) u) d ∙ ap (λ (b : Bool). by_tests a b u) e
