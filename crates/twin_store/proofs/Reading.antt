-- The records of a store are read.
use Rattle.std.proofs.Common.{◌≡◌, ℕ, ◌<◌, Bool, true, false, IsTrue, IsFalse, List, refl, sym, ◌∙◌, ap, subst}
use Rattle.gate_log.specs.Format.{LogSays, opening_of}
use Rattle.gate_log.specs.Log.{Mark, Describes, HasNext, HasEnded, IsTorn}
use Rattle.twin_store.specs.Pairs.{in_log, other_of, side_of}
use Rattle.twin_store.specs.Stores.{IsBehind, IsCurrent, HasAll, IsWrongHere}
use Rattle.twin_store.proofs.Current.{current_says}

module _ (log : Mark) (files : ℕ → List ℕ) (current : IsCurrent log files) where
  module _ (four : log.file < 4) where
    pub has_all : HasEnded (files log.file) log → HasAll log files
    has_all ended = record {
      ended = ended;
      all = λ bodies read. current_says log files four current ∙ ap (λ (l : LogSays). in_log (side_of log.file) l) (ended.read bodies read);
    }

    pub wrong_here : IsTorn (files log.file) log → IsWrongHere log files
    wrong_here torn = record {
      torn = torn;
      bad = λ bodies read. current_says log files four current ∙ ap (λ (l : LogSays). in_log (side_of log.file) l) (torn.read bodies read);
    }

  -- the store is that of its file still, read up to another place
  moved_current : (after : Mark) → after ≡ record log { place = after.place } → Describes after (files log.file) → IsCurrent after files
  moved_current after is describes = record {
    describes = subst (λ (n : ℕ). Describes after (files n)) (sym (ap (λ (l : Mark). l.file) is)) describes;
    behind = subst (λ (l : Mark). IsBehind l.generation (opening_of (files (other_of l.file)))) (sym is) current.behind;
  }

  pub read_current : (after : Mark) (body : List ℕ) (more : Bool) → after ≡ record log { place = after.place } → (IsTrue more → HasNext (files log.file) log after body) → (IsFalse more → after ≡ log) → IsCurrent after files
  read_current after body true is next same = moved_current after is (next refl).describes
  read_current after body false is next same = subst (λ (l : Mark). IsCurrent l files) (sym (same refl)) current
