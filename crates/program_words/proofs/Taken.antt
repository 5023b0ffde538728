-- What clap makes of the words of a form.
use Rattle.std.proofs.Common.{◌==◌, ◌∙◌, ◌∷◌, ◌≡◌, List, Some, [], ap, arith, codes, false, refl, true, ⊎_elim, ℕ}
use Rattle.std.proofs.lemmas.Bool.Decides.{nat_tests}
use Rattle.clap.specs.Words.{App, HasMatchesOf, Text, is_simple, subcommand_of, subcommand_rows_of, takes}
use Rattle.clap.specs.declared.parser.matches.ArgMatches.{ArgMatches}
use Rattle.clap.proofs.OnLiterals.{clap_on_literals}
use Rattle.program_words.specs.App.{overlord}
use Rattle.program_words.specs.Forms.{Form, form_of, given_by, is_store, load_with, run}
use Rattle.program_words.proofs.Digits.{IsPlainWord, load_numbers}
use Rattle.program_words.proofs.Spelled.{IsLoad, IsRun, spelled}

overlord_is_simple : is_simple overlord ≡ true
unfolding clap_on_literals
overlord_is_simple = refl

first_byte : (x : ℕ) (xs : List ℕ) → is_store (x ∷ xs) ≡ true → (x == 45) ≡ false
first_byte x xs h = grind (arith, nat_tests)

plain_store : (store : Text) → is_store store ≡ true → IsPlainWord store
plain_store [] on = absurd cc
plain_store (x ∷ xs) on = record { first = x; rest = xs; word_is = refl; plain = first_byte x xs on }

-- what clap answers words of a form: it takes them, and finds that form
record IsFound (words : List Text) (form : Form) : Type 0 where
  is_taken : takes overlord words ≡ true
  is_given : given_by (subcommand_of overlord words) ≡ Some form

-- ---- `run`

run_taken : (x : ℕ) (xs : List ℕ) → (x == 45) ≡ false → takes overlord (codes "run" ∷ (x ∷ xs) ∷ []) ≡ true
unfolding clap_on_literals
run_taken x xs h = simp h refl

run_given : (x : ℕ) (xs : List ℕ) → (x == 45) ≡ false → given_by (subcommand_of overlord (codes "run" ∷ (x ∷ xs) ∷ [])) ≡ Some (run (x ∷ xs))
unfolding clap_on_literals
run_given x xs h = simp h refl

run_found : (words : List Text) (form : Form) → IsRun words form → IsFound words form
run_found words form r =
    let store = plain_store r.store r.is_one in
    rw (r.words_are, r.form_is, store.word_is) (record { is_taken = run_taken store.first store.rest store.plain; is_given = run_given store.first store.rest store.plain })

-- ---- `load`

load_taken : (x y z : ℕ) (xs ys zs : List ℕ) → (x == 45) ≡ false → (y == 45) ≡ false → (z == 45) ≡ false → takes overlord (codes "load" ∷ (x ∷ xs) ∷ (y ∷ ys) ∷ (z ∷ zs) ∷ []) ≡ true
unfolding clap_on_literals
load_taken x y z xs ys zs h i j = simp (h, i, j) refl

load_given : (x y z : ℕ) (xs ys zs : List ℕ) → (x == 45) ≡ false → (y == 45) ≡ false → (z == 45) ≡ false → given_by (subcommand_of overlord (codes "load" ∷ (x ∷ xs) ∷ (y ∷ ys) ∷ (z ∷ zs) ∷ [])) ≡ load_with (x ∷ xs) (y ∷ ys) (z ∷ zs)
unfolding clap_on_literals
load_given x y z xs ys zs h i j = simp (h, i, j) refl

load_words : (number blocks store : Text) → IsPlainWord number → IsPlainWord blocks → IsPlainWord store → (form : Form) → load_with number blocks store ≡ Some form → IsFound (codes "load" ∷ number ∷ blocks ∷ store ∷ []) form
load_words number blocks store n b s form is = record {
  is_taken = rw (n.word_is, b.word_is, s.word_is) (load_taken n.first b.first s.first n.rest b.rest s.rest n.plain b.plain s.plain);
  is_given = rw (n.word_is, b.word_is, s.word_is) (load_given n.first b.first s.first n.rest b.rest s.rest n.plain b.plain s.plain) ∙ is;
}

load_found : (words : List Text) (form : Form) → IsLoad words form → IsFound words form
load_found words form l =
    let numbers = load_numbers l.number l.blocks l.store form l.form_is in
    rw l.words_are (load_words l.number l.blocks l.store numbers.number_is numbers.blocks_is (plain_store l.store l.is_one) form l.form_is)

found : (words : List Text) (form : Form) → form_of words ≡ Some form → IsFound words form
found words form is = ⊎_elim (λ r. run_found words form r) (λ l. load_found words form l) (spelled words form is)

-- On the words of a form clap fails for want of memory alone,
pub taken : (a : App) (words : List Text) → a ≡ overlord → (form : Form) → form_of words ≡ Some form → takes a words ≡ true
taken a words e form is = ap (λ (x : App). takes x words) e ∙ (found words form is).is_taken

-- and finds that form.
pub given : (a : App) (words : List Text) (m : ArgMatches) → a ≡ overlord → HasMatchesOf a words m → (form : Form) → form_of words ≡ Some form → given_by (subcommand_rows_of m) ≡ Some form
given a words m e h form is =
    ap given_by ((h (ap is_simple e ∙ overlord_is_simple)).1 ∙ ap (λ (x : App). subcommand_of x words) e) ∙ (found words form is).is_given
