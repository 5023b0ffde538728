-- The records of a switch tell its changes, and each of its states is good.
use Rattle.std.proofs.Common.{◌≡◌, ◌<◌, ℕ, Bool, true, false, List, [], ◌∷◌, ◌++◌, length, Some, None, refl, sym, ◌∙◌, ap, arith}
use Rattle.machine_run.specs.Rules.{HasGoodStates, IsKeptByRecords}
use Rattle.switch_run.specs.SwitchRules.{body_of, load_of, restore_of, switch_rules}

unchanged : (s order : Bool) → body_of s order ≡ None → order ≡ s
unchanged true true is = refl
unchanged true false is = absurd (cc)
unchanged false true is = absurd (cc)
unchanged false false is = refl

some : (s order : Bool) → body_of s order ≡ Some [] → ⊥
some true true is = absurd (cc)
some true false is = absurd (cc)
some false true is = absurd (cc)
some false false is = absurd (cc)

joins : (s order : Bool) (body more : List ℕ) (t : Bool) → body_of s order ≡ Some body → restore_of order more ≡ Some t → restore_of s (body ++ more) ≡ Some t
joins true true body more t is on = absurd (cc)
joins true false body more t is on = let same : 48 ∷ [] ≡ body = cc in ap (λ (l : List ℕ). restore_of true (l ++ more)) (sym same) ∙ on
joins false true body more t is on = let same : 49 ∷ [] ≡ body = cc in ap (λ (l : List ℕ). restore_of false (l ++ more)) (sym same) ∙ on
joins false false body more t is on = absurd (cc)

restores : (s order : Bool) (body : List ℕ) → body_of s order ≡ Some body → restore_of s body ≡ Some order
restores true true body is = absurd (cc)
restores true false body is = let same : 48 ∷ [] ≡ body = cc in ap (λ (l : List ℕ). restore_of true l) (sym same)
restores false true body is = let same : 49 ∷ [] ≡ body = cc in ap (λ (l : List ℕ). restore_of false l) (sym same)
restores false false body is = absurd (cc)

no_longer : (bytes : List ℕ) → 0 < length bytes → load_of bytes ≡ None
no_longer [] some = absurd (omega (arith, some))
no_longer (byte ∷ bytes) some = refl

pub kept_by_records : IsKeptByRecords switch_rules
kept_by_records = record { loads = refl; too_long = no_longer; unchanged = unchanged; some = some; restores = restores; joins = joins }

pub keeps_good : HasGoodStates switch_rules
keeps_good = record { first_good = tt; next_good = λ s order good. tt; load_good = λ bytes s is. tt; restore_good = λ s body t good is. tt }
