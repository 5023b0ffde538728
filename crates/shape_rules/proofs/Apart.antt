-- Elements of which none clashes with a later one.
use Rattle.std.proofs.Common.{Bool, List, Option, ap, false, not, refl, sym, true, ℕ, ◌∙◌, ◌≡◌}
use Rattle.std.specs.Prelude.{is_none, is_some}
use Rattle.laws_unsound.specs.Rows.{first_clashing}
use Rattle.laws_unsound.specs.ShapeRows.{no_clash}
use Rattle.row_search.proofs.Walking.{none_clash}

turned : (o : Option ℕ) (none : Bool) → is_some o ≡ not none → none ≡ is_none o
turned o true e = rw e refl
turned o false e = rw e refl

-- none is found to clash
pub apart : {T : Type 0} (clash : T → T → Bool) (xs : List T) (found : Option ℕ) (none : Bool) → found ≡ first_clashing 0 clash xs → is_some found ≡ not none → none ≡ no_clash clash xs
apart clash xs found none is on = turned found none on ∙ (ap (λ (o : Option ℕ). is_none o) is ∙ sym (none_clash 0 clash xs))
