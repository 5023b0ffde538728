-- An item is a batch of its own, of which no reply is put out.
use Rattle.std.proofs.Common.{◌+◌, ◌∙◌, ◌∷◌, ◌≡◌, List, [], ap₂, inl, refl, subst, sym, true, ℕ}
use Rattle.std.proofs.lemmas.List.{append-nil}
use Rattle.machine_run.specs.Fold.{IsFilled, closed}
use Rattle.machine_run.specs.Rules.{Rules, body_of, bytes_of}
use Rattle.machine_run.specs.Stores.{HasRoom}
use Rattle.machine_run.specs.declared.filling.End.TheVariants.{Full}
use Rattle.load_run.specs.Loads.{Loading}
use Rattle.load_run.specs.Steps.{IsStep}
use Rattle.load_run.specs.declared.tally.Tally.{Tally}

-- where items break off nothing is asked
abbrev pub anything : {Item : Type 0} → Unit {0} → List Item → Type 0
anything place items = Unit {0}

one_filled : {State Item : Type 0} (m : Rules State Item) (s : State) (item : Item) (left : List Item) (changes : List ℕ) (t : State) → changes ≡ bytes_of (m.body s item) → t ≡ m.next s item → m.reply s item ≡ []
    → IsFilled m 1 s true (item ∷ left) left anything anything tt changes [] t Full
one_filled {State} m s item left changes t told gone silent = record {
  items = item ∷ [];
  rest = left;
  whole = inl (refl, refl);
  taken = λ tells. refl;
  rest_is = λ full. refl;
  done = λ tells e. absurd (cc);
  read = λ tells e place more is. tt;
  broken = λ tells stop e. absurd (cc);
  changes_is = told ∙ sym (append-nil (bytes_of (m.body s item)));
  replies_is = sym (append-nil (m.reply s item) ∙ silent);
  state_is = gone;
  count = 0 + 1;
  bytes = 0 + m.weigh item;
  fold = λ turn c. ap₂ (λ (ch : List ℕ) (u : State). closed turn (record { content = c; state = u; changes = ch; count = 0 + 1; bytes = 0 + m.weigh item })) (sym told) (sym gone);
  room = λ turn limit c. (
    λ h. subst (λ (ch : List ℕ). HasRoom limit c (body_of ch)) (sym told) h.0,
    λ h. (subst (λ (ch : List ℕ). HasRoom limit c (body_of ch)) told h, tt),
  );
}

pub step_filled : {State Item : Type 0} (l : Loading State Item) → ((s : State) (item : Item) → l.rules.reply s item ≡ []) → (before after : List Item) (s t : State) (changes : List ℕ) (was now : Tally) → IsStep l before after s t changes was now
    → IsFilled l.rules 1 s true before after anything anything tt changes [] t Full
step_filled {Item = Item} l silent before after s t changes was now step =
    subst (λ (b : List Item). IsFilled l.rules 1 s true b after anything anything tt changes [] t Full) (sym step.taken) (one_filled l.rules s step.item after changes t step.changes_is step.state_is (silent s step.item))
