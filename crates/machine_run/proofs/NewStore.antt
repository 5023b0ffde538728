-- A new store is made.
use Rattle.std.proofs.Common.{◌≡◌, ⊎_elim, ℕ, zero, suc, ◌<◌, ◌≤◌, Bool, true, false, List, [], Some, Result, Ok, Err, refl, sym, ◌∙◌, ap, arith}
use Rattle.std.proofs.Math.Dec.{ltb}
use Rattle.std.proofs.lemmas.Bool.{ltb-true, ltb-false}
use Rattle.host_desk.specs.Desk.{Desk, Stays, IsNow}
use Rattle.host_desk.specs.Since.{IsSettled, OnlyFile, Touches, Since}
use Rattle.host_desk.proofs.Moments.{since_then, since_touches, since_stays}
use Rattle.gate_log.specs.Format.{absent, opening_of, says, is_absent, is_log, new_file}
use Rattle.gate_log.specs.Log.{Mark, Describes, new_log}
use Rattle.gate_log.specs.Making.{CanBeMade, IsBeingMade}
use Rattle.gate_log.proofs.Laws.{says_new, says_absent, can_over_absent}
use Rattle.machine_run.specs.Rules.{Rules, IsKeptByRecords}
use Rattle.machine_run.specs.Stores.{new_content, is_state, no_log, in_log, store_of, content_of, state_in}
use Rattle.machine_run.specs.Opening.{Means, IsOpened, StoreIs}
use Rattle.machine_run.specs.OneLogLaws.{content_says}
use Rattle.machine_run.proofs.OpenedFiles.{opened_new, opened_by}
use Rattle.machine_run.proofs.Laws.{absent_opens, loaded, opens_of}

-- an answer is one of both
pub one_answer : {T E : Type 0} (r : Result T E) (x : T) (e : E) → r ≡ Ok x → r ≡ Err e → ⊥
one_answer r x e ok err = let both : Ok x ≡ Err e = sym ok ∙ err in absurd (cc)

-- what isn't below is at least
pub at_least : (low n : ℕ) → (n < low → ⊥) → low ≤ n
at_least low n above = by (ltb n low) refl
  where
    by : (below : Bool) → ltb n low ≡ below → low ≤ n
    by true e = absurd (above (ltb-true _ _ e))
    by false e = ltb-false _ _ e

-- two files of which neither has a log
content_none : (first second : List ℕ) → says first ≡ is_absent → no_log (opening_of second) ≡ true → content_of first second ≡ Some new_content
unfolding content_of
content_none first second is none = rw none (ap in_log is)

module _ {State Item : Type 0} (m : Rules State Item) (kept : IsKeptByRecords m) where
  -- a new store stands for the first state
  new_stands : state_in m new_content ≡ Some m.first
  new_stands = loaded m new_content m.first kept.loads

  module _ (a b : Desk) (looks : Stays a b) (empty : opening_of (a.seen 0) ≡ absent) (none : no_log (opening_of (a.seen 1)) ≡ true) where
    pub is_first : StoreIs m a ≡ is_state m.first
    is_first = absent_opens m (a.seen 0) (a.seen 1) empty none

    pub can_make : CanBeMade (b.seen 0)
    can_make = can_over_absent (b.seen 0) (ap (λ (s : ℕ → List ℕ). opening_of (s 0)) looks.seen ∙ empty)

    module _ (second : IsSettled a 1) where
      -- what a stop leaves of the first file while it is made a log
      stands : (first other : List ℕ) → IsBeingMade (b.seen 0) (new_file 1 []) first → a.left 1 other → store_of m first other ≡ StoreIs m a
      stands first other made left =
          let same : other ≡ a.seen 1 = second.only other left in
          let absent_still : no_log (opening_of other) ≡ true = ap (λ (l : List ℕ). no_log (opening_of l)) same ∙ none in
          ⊎_elim
          (λ was. let before : first ≡ a.seen 0 = was ∙ ap (λ (s : ℕ → List ℕ). s 0) looks.seen in (λ i. store_of m (before i) (same i)))
          (λ more. ⊎_elim (λ gone. opens_of m kept first other new_content m.first (content_none first other gone absent_still) new_stands ∙ sym is_first) (λ new. opens_of m kept first other new_content m.first (content_says first other new_content 26 (ap says new ∙ says_new 1 [] (omega arith) (omega arith)) absent_still) new_stands ∙ sym is_first) more) made

      module _ (c : Desk) (make : Touches 0 (IsBeingMade (b.seen 0) (new_file 1 [])) b c) where
        pub new_since : ((t : ℕ) (s : List ℕ) (f : ℕ → List ℕ) → t ≤ a.moment → IsNow a s f → a.observed t s f) → Since (Means m (StoreIs m a) a.said) a c
        new_since counts = since_then (Means m (StoreIs m a) a.said) a b c (since_stays (Means m (StoreIs m a) a.said) a b counts looks) (since_touches (Means m (StoreIs m a) a.said) 0 (IsBeingMade (b.seen 0) (new_file 1 [])) b c make here)
          where
            here : (s : List ℕ) (f : ℕ → List ℕ) → OnlyFile 0 b (IsBeingMade (b.seen 0) (new_file 1 [])) s f → Means m (StoreIs m a) a.said s f
            here s f o = record { said_is = o.told ∙ looks.said; store = stands (f 0) (f 1) o.this ((looks.left 1 (f 1)).0 (o.others 1 (omega arith) (λ e. omega arith))) }

        pub new_now : ((i : ℕ) → i < 4 → c.left i (c.seen i)) → Means m (StoreIs m a) a.said c.said c.seen
        new_now reads = record { said_is = make.said ∙ looks.said; store = stands (c.seen 0) (c.seen 1) (make.now (c.seen 0) (reads 0 (omega arith))) ((looks.left 1 (c.seen 1)).0 ((make.left 1 (c.seen 1) (λ e. omega arith)).0 (reads 1 (omega arith)))) }

        pub new_store : (limit : ℕ) (log : Mark) → 27 ≤ limit → log ≡ new_log 0 1 0 limit → c.seen 0 ≡ new_file 1 [] → says (c.seen 0) ≡ is_log 1 [] [] 26 → Describes log (c.seen 0) → IsSettled c 0 → IsOpened m a c m.first log
        new_store limit log room is made says_is describes settled = record {
          content = new_content;
          store = record {
            file = ap (λ (l : Mark). l.file) is;
            settled = still;
            second = ap (λ (l : List ℕ). no_log (opening_of l)) other ∙ none;
            describes = describes;
            says_is = says_is ∙ sym (ap (λ (l : Mark). is_log 1 [] [] l.place) is);
            length_is = let at : log.place ≡ 26 = ap (λ (l : Mark). l.place) is in omega (arith, at);
          };
          stands = new_stands;
          held = content_none (a.seen 0) (a.seen 1) (says_absent (a.seen 0) empty) none;
          stood = is_first;
          said = make.said ∙ looks.said;
          files = opened_by a.seen c.seen (made ∙ sym (opened_new (a.seen 0) (ap no_log empty))) (λ file other. make.seen file other ∙ ap (λ (s : ℕ → List ℕ). s file) looks.seen);
          made = λ none. let same : log.limit ≡ limit = ap (λ (l : Mark). l.limit) is in omega (arith, room, same);
        }
          where
            other : c.seen 1 ≡ a.seen 1
            other = make.seen 1 (λ e. omega arith) ∙ ap (λ (s : ℕ → List ℕ). s 1) looks.seen

            still : (i : ℕ) → i < 2 → IsSettled c i
            still zero less = settled
            still (suc zero) less = record {
              only = λ f left. second.only f ((looks.left 1 f).0 ((make.left 1 f (λ e. omega arith)).0 left)) ∙ sym other;
              trusted = make.trusted 1 (λ e. omega arith) ∙ ap (λ (t : ℕ → Bool). t 1) looks.trusted ∙ second.trusted;
            }
            still (suc (suc n)) less = absurd (omega (arith, less))
