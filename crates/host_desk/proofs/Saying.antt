-- Calls of a host in memory that say, between two values of it.
use Rattle.std.proofs.Common.{◌≡◌, ◌<◌, ◌⊎◌, inl, inr, ℕ, true, false, List, take, Vec, refl, sym, subst, arith}
use Rattle.std.specs.Prelude.{◌==◌, if◌then◌else◌, Option}
use Rattle.std.proofs.lemmas.List.{append-nil}
use Rattle.std.proofs.lemmas.Bool.{cases_Bool, eqb-true}
use Rattle.std.specs.declared.alloc.Global.{Global}
use Rattle.host_desk.specs.Desk.{Says, SaysSome}
use Rattle.host_desk.specs.declared.call.Call.{Call}
use Rattle.host_desk.specs.Replay.{items_of, run, start, AddsSay}
use Rattle.host_desk.specs.ReplayLaws.{desk_of, opened_of, says_kept}

module _ (o o' : ℕ → Option (List ℕ)) (first first' : List (Vec ℕ Global)) (calls calls' : List Call) (whole : List ℕ) (a b a' b' : ℕ) (same_first : first' ≡ first) where
  -- a call that put out a piece
  pub says_by : (piece : List ℕ) (count : ℕ) → AddsSay piece calls calls' → piece ≡ take count whole → Says whole count (desk_of o (items_of first) calls a b) (desk_of o' (items_of first') calls' a' b')
  says_by piece count adds is = subst (λ (f : List (Vec ℕ Global)). Says whole count (desk_of o (items_of first) calls a b) (desk_of o' (items_of f) calls' a' b')) (sym same_first) (says_kept o o' first calls calls' whole piece count a b a' b' adds is)

  -- a call that wasn't kept
  pub says_none_by : calls' ≡ calls → SaysSome whole (desk_of o (items_of first) calls a b) (desk_of o' (items_of first') calls' a' b')
  says_none_by same = record { count = 0; within = omega arith; says = subst (λ (f : List (Vec ℕ Global)). Says whole 0 (desk_of o (items_of first) calls a b) (desk_of o' (items_of f) calls' a' b')) (sym same_first) (subst (λ (l : List Call). Says whole 0 (desk_of o (items_of first) calls a b) (desk_of o' (items_of first) l a' b')) (sym same) none) }
    where
      none : Says whole 0 (desk_of o (items_of first) calls a b) (desk_of o' (items_of first) calls a' b')
      none = record {
        said = sym (append-nil (run (start (items_of first)) calls).said);
        seen = refl;
        left = λ i c. (λ x. x, λ x. x);
        trusted = refl;
        time = record { later = omega arith; nothing_else = λ t said files le was. inl was; keeps = λ t said files le was. was };
      }

-- the first pair is opened beside what was opened
pub opened_first : (first second name : Option (List ℕ)) (pair : ℕ) → pair ≡ 0 → opened_of name second ≡ (λ p. if p == pair then name else opened_of first second p)
opened_first first second name pair zero = λ i p. subst (λ (q : ℕ). opened_of name second p ≡ (if p == q then name else opened_of first second p)) (sym zero) (at p (cases_Bool (p == 0))) i
  where
    at : (p : ℕ) → ((p == 0) ≡ true) ⊎ ((p == 0) ≡ false) → opened_of name second p ≡ (if p == 0 then name else opened_of first second p)
    at p (inl is) = rw is refl
    at p (inr not) = rw not refl

-- the second pair is opened beside what was opened
pub opened_second : (first second name : Option (List ℕ)) (pair : ℕ) → pair < 2 → (pair ≡ 0 → ⊥) → opened_of first name ≡ (λ p. if p == pair then name else opened_of first second p)
opened_second first second name pair less other = λ i p. at p i
  where
    is_one : pair ≡ 1
    is_one = omega arith

    at_one : (p : ℕ) → opened_of first name p ≡ (if p == 1 then name else opened_of first second p)
    at_one p = by_first (cases_Bool (p == 0)) (cases_Bool (p == 1))
      where
        by_first : ((p == 0) ≡ true) ⊎ ((p == 0) ≡ false) → ((p == 1) ≡ true) ⊎ ((p == 1) ≡ false) → opened_of first name p ≡ (if p == 1 then name else opened_of first second p)
        by_first (inl zero_is) (inl one_is) = absurd (omega (arith, eqb-true p 0 zero_is, eqb-true p 1 one_is))
        by_first (inl zero_is) (inr one_not) = rw (zero_is, one_not) refl
        by_first (inr zero_not) (inl one_is) = rw (zero_not, one_is) refl
        by_first (inr zero_not) (inr one_not) = rw (zero_not, one_not) refl

    at : (p : ℕ) → opened_of first name p ≡ (if p == pair then name else opened_of first second p)
    at p = subst (λ (q : ℕ). opened_of first name p ≡ (if p == q then name else opened_of first second p)) (sym is_one) (at_one p)
