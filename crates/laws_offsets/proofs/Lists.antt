-- Lists, options and texts, as the laws of offsets and of sequences read them.
use Rattle.std.proofs.Common.{◌≡◌, ℕ, Bool, true, List, ◌++◌, Option, Some, None, refl, ◌∙◌, bytes_eq}
use Rattle.std.specs.List.{list_all}
use Rattle.std.proofs.lemmas.Bool.{and_from}
use Rattle.std.proofs.lemmas.List.Folds.{list_all-append}
use Rattle.std.proofs.lemmas.Slice.Eq.{bytes_eq-Decides}
use Rattle.book_rows.specs.Lists.{or_else}

module _ {X : Type 0} where
  -- several elements more
  pub more_pass : (p : X → Bool) (xs ys : List X) → list_all p xs ≡ true → list_all p ys ≡ true → list_all p (xs ++ ys) ≡ true
  more_pass p xs ys a b = list_all-append p xs ys ∙ and_from (list_all p xs) (list_all p ys) a b

  pub some_is : (x y : X) → Some x ≡ Some y → x ≡ y
  some_is x y e = cc

  -- where there is nothing at all, neither part has anything
  pub or_else_none : (x y : Option X) → or_else x y ≡ None → (x ≡ None) × (y ≡ None)
  or_else_none None y e = (refl, e)
  or_else_none (Some why) y e = cc

pub same_text : (xs ys : List ℕ) → bytes_eq xs ys ≡ true → xs ≡ ys
same_text xs ys e = (bytes_eq-Decides xs ys).0 e

pub text_same : (xs ys : List ℕ) → xs ≡ ys → bytes_eq xs ys ≡ true
text_same xs ys e = (bytes_eq-Decides xs ys).1 e
