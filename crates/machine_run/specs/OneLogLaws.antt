-- A store that is one log holds what its files say.
use Rattle.std.proofs.Common.{◌≡◌, ℕ, ◌<◌, Bool, true, List, Some, sym, ◌∙◌, ap, subst, arith}
use Rattle.host_desk.specs.Desk.{Desk, Says}
use Rattle.gate_log.specs.Format.{opening_of, is_log, says}
use Rattle.gate_log.specs.Log.{Mark, Describes}
use Rattle.machine_run.specs.Stores.{Content, no_log, in_log, content_of, AreKept}
use Rattle.machine_run.specs.Steps.{IsJournal}
use Rattle.machine_run.specs.OneLogs.{IsStore}
use Rattle.machine_run.specs.Adding.{kept_none, kept_then}

-- what the files hold, by what the first says
pub content_says : (first second : List ℕ) (c : Content) (place : ℕ) → says first ≡ is_log c.generation c.snapshot c.bodies place → no_log (opening_of second) ≡ true → content_of first second ≡ Some c
unfolding content_of
content_says first second c place is none = rw none (ap in_log is)

module _ (log : Mark) (c : Content) (desk : Desk) (store : IsStore log c desk) where
  pub holds : content_of (desk.seen 0) (desk.seen 1) ≡ Some c
  holds = content_says (desk.seen 0) (desk.seen 1) c log.place store.says_is store.second

  -- of an open store a stop leaves what it holds
  pub holds_left : (f : ℕ → List ℕ) → ((i : ℕ) → i < 4 → desk.left i (f i)) → content_of (f 0) (f 1) ≡ Some c
  holds_left f left = (λ i. content_of ((store.settled 0 (omega arith)).only (f 0) (left 0 (omega arith)) i) ((store.settled 1 (omega arith)).only (f 1) (left 1 (omega arith)) i)) ∙ holds

  -- replies leave it
  pub holds_still : (new : Desk) (bytes : List ℕ) (n : ℕ) → Says bytes n desk new → IsStore log c new
  holds_still new bytes n said = record {
    file = store.file;
    settled = λ file less. record { only = λ f left. (store.settled file less).only f ((said.left file f).0 left) ∙ sym (ap (λ (s : ℕ → List ℕ). s file) said.seen); trusted = ap (λ (t : ℕ → Bool). t file) said.trusted ∙ (store.settled file less).trusted };
    second = ap (λ (s : ℕ → List ℕ). no_log (opening_of (s 1))) said.seen ∙ store.second;
    describes = subst (λ (s : ℕ → List ℕ). Describes log (s 0)) (sym said.seen) store.describes;
    says_is = ap (λ (s : ℕ → List ℕ). says (s 0)) said.seen ∙ store.says_is;
    length_is = store.length_is;
  }

pub one_log_laws : {J H : Type 0} (mark : J → Mark) (desk : H → Desk) (tells : Bool) → IsJournal desk tells (λ store c d. IsStore (mark store) c d) AreKept
one_log_laws mark desk tells = record {
  says = λ store c host is. holds (mark store) c (desk host) is;
  leaves = λ store c host files is left. holds_left (mark store) c (desk host) is files left;
  stays = λ store c a b bytes n is said. holds_still (mark store) c (desk a) is (desk b) bytes n said;
  begins = kept_none;
  goes_on = kept_then;
}
