-- What is promised of a call, out of what is known of the run.
use Rattle.std.proofs.Common.{◌≡◌, ◌<◌, ◌≤◌, ◌+◌, ◌⊎◌, inl, inr, ⊎_elim, ℕ, Bool, IsTrue, List, [], length, take, Result, OnOk, IfErr, Option, Some, None, refl, sym, ◌∙◌, ap, subst, arith}
use Rattle.std.proofs.lemmas.List.{append-nil}
use Rattle.std.specs.Result.{IsErrOf}
use Rattle.host_desk.specs.Desk.{Desk}
use Rattle.host_desk.specs.Since.{Since}
use Rattle.host_desk.proofs.Moments.{since_refl}
use Rattle.book_rows.specs.declared.rows.Book.{Book}
use Rattle.machine_run.specs.Rules.{state_after}
use Rattle.machine_run.specs.Opening.{Nothing, IsUntouched, StoreIs}
use Rattle.machine_run.specs.Stores.{is_bad, is_state, store_of}
use Rattle.machine_run.specs.Ends.{opened_as, HasOpened, HasRun}
use Rattle.machine_run.specs.declared.stop.Stop.{Stop}
use Rattle.machine_run.specs.declared.stop.Stop.TheVariants as stop
use Rattle.overlord_rules.specs.OverlordRules.{overlord_rules}
use Rattle.laws_runs.proofs.SoundRuns.{sound_show_what_was_put, store_books_are_sound}
use Rattle.overlord_run.specs.Ends.{Outside, Call, call, lines_in, batch, Stops, Ends, Completes}
use Rattle.overlord_run.specs.Promise.{Begins, IsPrefix, IsSoundStore, OpensStore, Promise}
use Rattle.overlord_run.specs.Statuses.{status_by}
use Rattle.overlord_run.specs.declared.status.Status.{Status}
use Rattle.overlord_run.specs.declared.status.Status.TheVariants.{Usage, NoMemory}
use Rattle.overlord_run.proofs.Endings.{ends_of, completes_of}

-- whatever bytes two files have, the book that they stand for is sound
pub sound_store : (said : List ℕ) (files : ℕ → List ℕ) (book : Book) → store_of overlord_rules (files 0) (files 1) ≡ is_state book → IsSoundStore said files
sound_store said files book opens =
    let sound = store_books_are_sound (files 0) (files 1) book opens in
    record { book = book; opens = opens; sound = sound; shows = sound_show_what_was_put book sound }

-- so it is at each moment at which a store is left
since_sound : (P : List ℕ → (ℕ → List ℕ) → Type 0) (old new : Desk) → ((said : List ℕ) (files : ℕ → List ℕ) → P said files → IsSoundStore said files) → Since P old new → Since IsSoundStore old new
since_sound P old new sound since = record { later = since.later; left = λ t said files le o. ⊎_elim (λ was. inl was) (λ is. inr (sound said files is)) (since.left t said files le o) }

sound_prefix : (c : Call) (begun : Book) (said : List ℕ) (files : ℕ → List ℕ) → IsPrefix c begun said files → IsSoundStore said files
sound_prefix c begun said files left = sound_store said files (state_after overlord_rules begun (take left.i (lines_in c))) left.opens

-- nothing was called
module _ (host_tells source_tells : Bool) (store : Option (List ℕ)) (log input : ℕ) (here : Outside) where
  abbrev still : Call
  still = call host_tells source_tells store log input here here

  promise_still : (status : Status) → ((name : List ℕ) → store ≡ Some name → OpensStore still name status) → Ends overlord_rules still status → ((status ≡ Usage → ⊥) → (book : Book) → Completes overlord_rules book still status) → Promise still status
  promise_still status opened ends complete = record {
    any_moment = λ t book begins. since_refl (IsPrefix still book) here.host;
    now = λ t book begins. record { i = 0; within = omega arith; opens = begins; out = 0; said_is = sym (append-nil here.host.said) };
    shown = λ t book begins. since_refl IsSoundStore here.host;
    shown_now = λ t book begins. sound_store here.host.said here.host.seen book begins;
    foreign = λ t file at bad. record { since = since_refl Nothing here.host; seen = refl; said = refl };
    opened = opened;
    ends = ends;
    complete = λ t runs book begins. complete runs book;
    within = λ t. omega arith;
  }

  pub promise_usage : store ≡ None → Promise still Usage
  promise_usage none = promise_still Usage (λ name some. absurd (let both : None ≡ Some name = sym none ∙ some in cc)) tt (λ runs book. absurd (runs refl))

  pub promise_memory : Promise still NoMemory
  promise_memory = promise_still NoMemory (λ name some. inr (refl, inr refl)) (λ t. inl (refl, refl), λ t. inl (refl, refl)) (λ runs book quiet room short. inr refl)

-- the store was run
module _ (c : Call) (name : List ℕ) (named : c.store ≡ Some name) (r : Result (Unit {0}) Stop) where
  pub opens_of : (c.after.host.opened ≡ opened_as name c.before.host.opened) ⊎ ((IsErrOf r stop.StoreFault) × (c.after.host.opened ≡ c.before.host.opened)) → (store : List ℕ) → c.store ≡ Some store → OpensStore c store (status_by r)
  opens_of opened store is =
      let both : Some name ≡ Some store = sym named ∙ is in
      let one : name ≡ store = cc in
      ⊎_elim (λ under. inl (subst (λ (n : List ℕ). c.after.host.opened ≡ opened_as n c.before.host.opened) one under)) (λ none. inr (none.1, inl (ap status_by none.0))) opened

  pub promise_run : (IsTrue c.host_tells → IsTrue c.source_tells → (book : Book) → Begins c book → Since (IsPrefix c book) c.before.host c.after.host)
      → (IsTrue c.host_tells → IsTrue c.source_tells → (book : Book) → Begins c book → IsPrefix c book c.after.host.said c.after.host.seen)
      → (IsTrue c.host_tells → (file at : ℕ) → StoreIs overlord_rules c.before.host ≡ is_bad file at → IsUntouched c.before.host c.after.host)
      → (c.after.host.opened ≡ opened_as name c.before.host.opened) ⊎ ((IsErrOf r stop.StoreFault) × (c.after.host.opened ≡ c.before.host.opened))
      → (IsTrue c.host_tells → OnOk r (HasOpened overlord_rules c.log c.before.host))
      → (IsTrue c.host_tells → IsTrue c.source_tells → OnOk r (HasRun overlord_rules batch c.log (lines_in c) c.before.host c.after.host))
      → (IsTrue c.source_tells → OnOk r ((c.after.left ≡ []) × (length c.before.left < c.input)))
      → IfErr r (Stops overlord_rules c)
      → (IsTrue c.source_tells → length c.before.left ≤ c.input + length c.after.left)
      → Promise c (status_by r)
  promise_run any_moment now foreign opened opens done read stops within = record {
    any_moment = λ t. any_moment t.0 t.1;
    now = λ t. now t.0 t.1;
    shown = λ t book begins. since_sound (IsPrefix c book) c.before.host c.after.host (sound_prefix c book) (any_moment t.0 t.1 book begins);
    shown_now = λ t book begins. sound_prefix c book c.after.host.said c.after.host.seen (now t.0 t.1 book begins);
    foreign = foreign;
    opened = opens_of opened;
    ends = ends_of overlord_rules c r opens (λ t. done t.0 t.1) read stops;
    complete = λ t runs book begins. completes_of overlord_rules c r stops t book begins;
    within = within;
  }
