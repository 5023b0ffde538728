-- Both files of the pair are made stable, one after the other.
use Rattle.std.proofs.Common.{◌≡◌, ℕ, Bool, List, sym, ◌∙◌, ap, arith}
use Rattle.host_desk.specs.Desk.{Desk, Changes, Same, Only}
use Rattle.host_desk.specs.Since.{IsSettled}
use Rattle.machine_run.specs.Opening.{IsPairTrusted}

module _ (a b c : Desk) (pair : IsPairTrusted a) (first : b.trusted ≡ a.trusted) (then : c.trusted ≡ b.trusted) where
  trusted_still : c.trusted ≡ a.trusted
  trusted_still = then ∙ first

  pub first_settled : c.seen ≡ b.seen → Changes Same 1 b c → Only (b.seen 0) (b.left 0) → IsSettled c 0
  first_settled seen other only = record {
    only = λ f left. only f ((other.others_left 0 f (λ e. omega arith)).0 left) ∙ sym (ap (λ (s : ℕ → List ℕ). s 0) seen);
    trusted = ap (λ (t : ℕ → Bool). t 0) trusted_still ∙ pair.first;
  }

  pub second_settled : Only (c.seen 1) (c.left 1) → IsSettled c 1
  second_settled only = record { only = only; trusted = ap (λ (t : ℕ → Bool). t 1) trusted_still ∙ pair.second }
