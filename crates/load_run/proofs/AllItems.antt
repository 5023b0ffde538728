-- Items are taken until none is left.
use Rattle.std.proofs.Common.{◌+◌, ◌++◌, ◌∙◌, ◌∷◌, ◌≡◌, Bool, List, Some, [], ap, arith, false, inr, length, subst, sym, true, ℕ}
use Rattle.std.proofs.lemmas.List.{append-nil}
use Rattle.host_desk.specs.Desk.{Desk}
use Rattle.machine_run.specs.Fold.{Filling, closed}
use Rattle.machine_run.specs.Rules.{IsKeptByRecords, said_of, state_after}
use Rattle.machine_run.specs.Runs.{Holds, IsDone, LacksMemory, Opens, Plan, Running}
use Rattle.machine_run.specs.Stores.{Content}
use Rattle.machine_run.proofs.BatchSteps.{running_stands}
use Rattle.machine_run.proofs.Laws.{opens_of}
use Rattle.load_run.specs.Loads.{Loading, counted, tallied}
use Rattle.load_run.specs.Steps.{IsStep}
use Rattle.load_run.specs.declared.tally.Tally.{Tally}

module _ {State Item J Place : Type 0} (p : Plan State Item) (kept : IsKeptByRecords p.rules) (holds : J → Content → Desk → Type 0) (was : Place → List Item → Type 0) (old mid : Desk) (journal : J) (now : Place → List Item → Type 0) (left : List Item) (s : State) (running : Running p holds was now old mid journal left s) where
  -- where no item is left all are done
  pub running_done : left ≡ [] → IsDone p mid
  running_done none =
      let whole : running.done ≡ p.items = sym (running.split ∙ ap (λ (l : List Item). running.done ++ l) none ∙ append-nil running.done) in
      let opens : Opens p.rules mid (state_after p.rules p.first running.done) = opens_of p.rules kept (mid.seen 0) (mid.seen 1) running.stored.content (state_after p.rules p.first running.done) running.stored.seen (running.stored.stands ∙ ap (λ (u : State). Some u) running.state_is) in
      let holds_now : Holds p running.done mid = record {
        content = running.stored.content;
        holds = running.stored.seen;
        fold = λ c is. sym (ap (λ (f : Filling State). (closed p.turn f).content) (running.fold c is));
        had_room = running.had_room;
        kept = running.kept;
      } in
      record {
        opens = subst (λ (l : List Item). Opens p.rules mid (state_after p.rules p.first l)) whole opens;
        holds = subst (λ (l : List Item). Holds p l mid) whole holds_now;
        said_is = running.said_is ∙ ap (λ (l : List Item). p.before ++ said_of p.rules p.first l) whole;
      }

  -- memory lacks
  pub running_lacks : LacksMemory p (Unit {0}) mid
  running_lacks = record { stands = running_stands p kept holds was old mid journal now left s running; cause = inr tt }

-- one item more is counted
counted_more : (t : Tally) (refused : Bool) → (counted t refused).done + (counted t refused).refused ≡ t.done + t.refused + 1
counted_more t true = omega arith
counted_more t false = omega arith

module _ {State Item : Type 0} (l : Loading State Item) (before after : List Item) (s t : State) (changes : List ℕ) (was now : Tally) (step : IsStep l before after s t changes was now) where
  pub state_still : state_after l.rules t after ≡ state_after l.rules s before
  state_still = ap (λ (u : State). state_after l.rules u after) step.state_is ∙ sym (ap (λ (items : List Item). state_after l.rules s items) step.taken)

  pub tally_still : tallied l now t after ≡ tallied l was s before
  tally_still = (λ i. tallied l (step.tally_is i) (step.state_is i) after) ∙ sym (ap (λ (items : List Item). tallied l was s items) step.taken)

  pub count_still : now.done + now.refused + length after ≡ was.done + was.refused + length before
  count_still =
      let more : now.done + now.refused ≡ was.done + was.refused + 1 = ap (λ (k : Tally). k.done + k.refused) step.tally_is ∙ counted_more was (l.refuses s step.item) in
      let one : length before ≡ length (step.item ∷ after) = ap length step.taken in
      omega (arith, more, one)
