-- A table with one more row than before.
use Rattle.std.proofs.Common.{◌≡◌, ◌+◌, ◌∙◌, ℕ, Bool, true, false, cond, List, [], ◌∷◌, ◌++◌, length, nat_lt, refl, sym, ap, subst, length-append}
use Rattle.std.specs.Prelude.{Some}
use Rattle.book_rows.specs.Outcome.{changed, fitted, fitted_by, no_room, is_full}
use Rattle.book_rows.specs.Publications.{reset_publication}
use Rattle.book_rows.specs.PublishSteps.{after_reset}
use Rattle.book_rows.specs.declared.kinds.Table.{Table}
use Rattle.book_rows.specs.declared.kinds.Table.TheVariants as Tables
use Rattle.book_rows.specs.declared.replies.Refusal.TheVariants as Refusals
use Rattle.book_rows.specs.declared.replies.Reply.{Reply}
use Rattle.book_rows.specs.declared.replies.Reply.TheVariants as Replies
use Rattle.book_rows.specs.declared.rows.Book.{Book}
use Rattle.book_rows.specs.declared.rows.Offset.{Offset}
use Rattle.book_rows.specs.declared.rows.Publication.{Publication}
use Rattle.cases_rules.specs.LimitCases.{LastPublication, FullPublications, with_publications}
use Rattle.scenes.specs.Script.{t, w}

offsets : List Offset
offsets = record { partition = 0; offset = 5 } ∷ []

one_more : (ms : List Publication) (m : Publication) (n : ℕ) → length ms ≡ n → length (ms ++ m ∷ []) ≡ n + 1
one_more ms m n e = rw (length-append ms (m ∷ []), e) refl

-- the first table that the command adds to is too full
full_refuses : (table : Table) (rest : List Table) (b after : Book) (r : Reply) → is_full table after ≡ true → (fitted (table ∷ rest) b after r).reply ≡ Replies.Refused (Refusals.TableFull table)
full_refuses table rest b after r e =
    subst (λ (x : Bool). (fitted_by (cond x (Some table) (no_room rest after)) b (changed after r)).reply ≡ Replies.Refused (Refusals.TableFull table)) (sym e) refl

after : List Publication → Book
unfolding offsets
after ms = after_reset w t offsets (with_publications ms)

pub full_publications : FullPublications
unfolding offsets after
full_publications ms e =
    full_refuses Tables.Publications (Tables.Offsets ∷ []) (with_publications ms) (after ms) (Replies.Reset (length ms))
    (subst (λ (n : ℕ). nat_lt 262144 n ≡ true) (sym (one_more ms (reset_publication w t offsets) 262144 e)) refl)

pub last_publication : LastPublication
unfolding offsets after
last_publication ms e =
    subst (λ (x : Bool). (fitted_by (cond x (Some Tables.Publications) (no_room (Tables.Offsets ∷ []) (after ms))) (with_publications ms) (changed (after ms) (Replies.Reset (length ms)))).reply ≡ Replies.Reset (length ms))
    (sym (subst (λ (n : ℕ). nat_lt 262144 n ≡ false) (sym (one_more ms (reset_publication w t offsets) 262143 e)) refl)) refl
    ∙ ap Replies.Reset e
