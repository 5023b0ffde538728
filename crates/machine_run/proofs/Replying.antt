-- The replies to a batch are put out once its record is stored.
use Rattle.std.proofs.Common.{◌≡◌, inl, inr, ⊎_elim, ℕ, zero, suc, ◌<◌, ◌≤◌, List, [], ◌++◌, take, Option, Some, refl, ◌∙◌, ap}
use Rattle.host_desk.specs.Desk.{Desk, SaysSome}
use Rattle.host_desk.specs.Since.{Since}
use Rattle.host_desk.proofs.Moments.{since_then, since_says}
use Rattle.machine_run.specs.Stores.{Content, with_record, content_of}
use Rattle.machine_run.specs.Steps.{Between, Storing}
use Rattle.machine_run.proofs.OneLogSteps.{Reads}

take_nil : (k : ℕ) → take {A = ℕ} k [] ≡ []
take_nil zero = refl
take_nil (suc k) = refl

-- less is asked of each observation
pub since_weaken : (P Q : List ℕ → (ℕ → List ℕ) → Type 0) (a b : Desk) → Since P a b → ((s : List ℕ) (f : ℕ → List ℕ) → P s f → Q s f) → Since Q a b
since_weaken P Q a b run weaker = record { later = run.later; left = λ t s f le o. ⊎_elim (λ was. inl was) (λ is. inr (weaker s f is)) (run.left t s f le o) }

-- nothing is done yet
pub nothing_yet : (c : Content) (body : Option (List ℕ)) (replies : List ℕ) (desk : Desk) → content_of (desk.seen 0) (desk.seen 1) ≡ Some c → Reads desk → Between c body replies desk desk.said desk.seen
nothing_yet c body replies desk holds reads = record { others = λ i less high. reads i less; stage = inl (holds, refl) }

-- with replies that aren't begun
pub widen : (c : Content) (body : Option (List ℕ)) (replies : List ℕ) (old : Desk) (said : List ℕ) (files : ℕ → List ℕ) → Storing c body old said files → Between c body replies old said files
widen c body replies old said files b = record {
  others = b.others;
  stage = ⊎_elim (λ off. inl off) (λ on. inr (0, on.1, on.2 ∙ ap (λ (l : List ℕ). old.said ++ l) (take_nil on.0))) b.stage;
}

-- the replies are being put out
module _ (c : Content) (body : Option (List ℕ)) (replies : List ℕ) (old mid new : Desk) (said : mid.said ≡ old.said) (others : (i : ℕ) (f : List ℕ) → 2 ≤ i → mid.left i f → old.left i f) (some : SaysSome replies mid new) where
  pub say_since : ((f : ℕ → List ℕ) → ((i : ℕ) → i < 4 → mid.left i (f i)) → content_of (f 0) (f 1) ≡ Some (with_record c body)) → Since (Storing c body old) old mid → Since (Between c body replies old) old new
  say_since leaves so_far = since_then (Between c body replies old) old mid new (since_weaken (Storing c body old) (Between c body replies old) old mid so_far (widen c body replies old)) (since_says (Between c body replies old) replies some.count mid new some.says at_say)
    where
      at_say : (k : ℕ) (f : ℕ → List ℕ) → k ≤ some.count → ((i : ℕ) → i < 4 → mid.left i (f i)) → Between c body replies old (mid.said ++ take k replies) f
      at_say k f le left = record {
        others = λ i less high. others i (f i) high (left i less);
        stage = inr (k, leaves f left, ap (λ (l : List ℕ). l ++ take k replies) said);
      }

  pub said_some : new.said ≡ old.said ++ take some.count replies
  said_some = some.says.said ∙ ap (λ (l : List ℕ). l ++ take some.count replies) said

  pub still : content_of (mid.seen 0) (mid.seen 1) ≡ Some (with_record c body) → content_of (new.seen 0) (new.seen 1) ≡ Some (with_record c body)
  still holds = ap (λ (s : ℕ → List ℕ). content_of (s 0) (s 1)) some.says.seen ∙ holds

  pub say_now : content_of (mid.seen 0) (mid.seen 1) ≡ Some (with_record c body) → Reads new → Between c body replies old new.said new.seen
  say_now holds reads = record {
    others = λ i less high. others i (new.seen i) high ((some.says.left i (new.seen i)).0 (reads i less));
    stage = inr (some.count, still holds, said_some);
  }
