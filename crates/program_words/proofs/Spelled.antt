-- Words that are spelled as a form is.
use Rattle.std.proofs.Common.{◌&&◌, ◌∷◌, ◌≡◌, ◌⊎◌, Bool, List, None, Some, [], cond, false, inl, inr, refl, true}
use Rattle.std.specs.Str.{bytes_eq}
use Rattle.std.specs.Prelude.{codes}
use Rattle.std.proofs.lemmas.Bool.{and_parts}
use Rattle.std.proofs.lemmas.Slice.Eq.{bytes_eq-Decides}
use Rattle.clap.specs.Words.{Text}
use Rattle.program_words.specs.Forms.{Form, form_of, is_store, load_with, run}

-- the words are `run` and the name of a store, and the form is that
pub record IsRun (words : List Text) (form : Form) : Type 0 where
  pub store : Text
  pub is_one : is_store store ≡ true
  pub words_are : words ≡ codes "run" ∷ store ∷ []
  pub form_is : form ≡ run store

-- the words are `load`, two words, and the name of a store, and the form is theirs
pub record IsLoad (words : List Text) (form : Form) : Type 0 where
  pub number : Text
  pub blocks : Text
  pub store : Text
  pub is_one : is_store store ≡ true
  pub words_are : words ≡ codes "load" ∷ number ∷ blocks ∷ store ∷ []
  pub form_is : load_with number blocks store ≡ Some form

run_passes : (name store : Text) (form : Form) (test : Bool) → (bytes_eq name (codes "run") && is_store store) ≡ test → cond test (Some (run store)) None ≡ Some form → IsRun (name ∷ store ∷ []) form
run_passes name store form false on is = cc
run_passes name store form true on is =
    let both = and_parts (bytes_eq name (codes "run")) (is_store store) on in
    let named : name ≡ codes "run" = (bytes_eq-Decides name (codes "run")).0 both.0 in
    let same : form ≡ run store = cc in
    record { store = store; is_one = both.1; words_are = rw named refl; form_is = same }

load_passes : (name number blocks store : Text) (form : Form) (test : Bool) → (bytes_eq name (codes "load") && is_store store) ≡ test → cond test (load_with number blocks store) None ≡ Some form → IsLoad (name ∷ number ∷ blocks ∷ store ∷ []) form
load_passes name number blocks store form false on is = cc
load_passes name number blocks store form true on is =
    let both = and_parts (bytes_eq name (codes "load")) (is_store store) on in
    let named : name ≡ codes "load" = (bytes_eq-Decides name (codes "load")).0 both.0 in
    record { number = number; blocks = blocks; store = store; is_one = both.1; words_are = rw named refl; form_is = is }

-- words of a form are spelled so
pub spelled : (words : List Text) (form : Form) → form_of words ≡ Some form → IsRun words form ⊎ IsLoad words form
unfolding form_of
spelled [] form is = cc
spelled (a ∷ []) form is = cc
spelled (a ∷ b ∷ []) form is = inl (run_passes a b form (bytes_eq a (codes "run") && is_store b) refl is)
spelled (a ∷ b ∷ c ∷ []) form is = cc
spelled (a ∷ b ∷ c ∷ d ∷ []) form is = inr (load_passes a b c d form (bytes_eq a (codes "load") && is_store d) refl is)
spelled (a ∷ b ∷ c ∷ d ∷ e ∷ rest) form is = cc
