-- A record is added to a store.
use Rattle.std.proofs.Common.{◌≡◌, inl, inr, ⊎_elim, ℕ, ◌+◌, ◌<◌, ◌/◌, List, [], ◌∷◌, ◌++◌, length, refl, sym, ◌∙◌, ap, subst}
use Rattle.host_desk.specs.Desk.{Desk}
use Rattle.host_desk.specs.Since.{Touches}
use Rattle.gate_log.specs.Format.{LogSays, is_log, says, opened, opening_of, EndsAt, with_body as log_with_body}
use Rattle.gate_log.specs.Log.{Mark, IsWithOrWithout}
use Rattle.gate_log.proofs.Laws.{opening_log}
use Rattle.twin_store.specs.Pairs.{StoreSays, is_store, in_log, with_body, other_of, side_of, store_in}
use Rattle.twin_store.specs.Moments.{TouchesPair, IsPairSettled}
use Rattle.twin_store.specs.Stores.{IsBehind, IsCurrent, WithOrWithout}
use Rattle.twin_store.proofs.Current.{file_says, other_below, other_apart}
use Rattle.twin_store.proofs.PairMoments.{touches_pair}

same_opened : (a m b n : ℕ) → opened a m ≡ opened b n → a ≡ b
same_opened a m b n same = cc

module _ (log : Mark) (old : Desk) (four : log.file < 4) (current : IsCurrent log old.seen) (ends : EndsAt (old.seen log.file) log.place) where
  generation_is : log.generation ≡ ends.generation
  generation_is = same_opened log.generation log.snapshot_length ends.generation (length ends.snapshot) (sym current.describes.header ∙ opening_log (old.seen log.file) ends.generation ends.snapshot ends.bodies log.place ends.is)

  -- with more bodies in the current file, and the other as it was
  says_bodies : (files : ℕ → List ℕ) (bodies : List (List ℕ)) (place : ℕ) → says (files log.file) ≡ is_log ends.generation ends.snapshot bodies place → files (other_of log.file) ≡ old.seen (other_of log.file) → store_in (log.file / 2) files ≡ is_store ends.generation ends.snapshot bodies
  says_bodies files bodies place is other =
      let behind : IsBehind ends.generation (opening_of (files (other_of log.file))) = subst (λ (l : List ℕ). IsBehind ends.generation (opening_of l)) (sym other) (subst (λ (g : ℕ). IsBehind g (opening_of (old.seen (other_of log.file)))) generation_is current.behind) in
      file_says files log.file four ends.generation (length ends.snapshot) (opening_log (files log.file) ends.generation ends.snapshot bodies place is) behind ∙ ap (λ (l : LogSays). in_log (side_of log.file) l) is

  says_before : store_in (log.file / 2) old.seen ≡ is_store ends.generation ends.snapshot ends.bodies
  says_before = says_bodies old.seen ends.bodies log.place ends.is refl

  module _ (body : List ℕ) where
    says_with : (files : ℕ → List ℕ) → says (files log.file) ≡ log_with_body (says (old.seen log.file)) body → files (other_of log.file) ≡ old.seen (other_of log.file) → store_in (log.file / 2) files ≡ with_body (store_in (log.file / 2) old.seen) body
    says_with files is other = says_bodies files (ends.bodies ++ body ∷ []) (log.place + 5 + length body) (is ∙ ap (λ (l : LogSays). log_with_body l body) ends.is) other ∙ sym (ap (λ (s : StoreSays). with_body s body) says_before)

    says_either : (files : ℕ → List ℕ) → IsWithOrWithout (says (old.seen log.file)) body (files log.file) → files (other_of log.file) ≡ old.seen (other_of log.file) → WithOrWithout (store_in (log.file / 2) old.seen) body (store_in (log.file / 2) files)
    says_either files either other = ⊎_elim (λ off. inl (says_bodies files ends.bodies log.place (off ∙ ends.is) other ∙ sym says_before)) (λ on. inr (says_with files on other)) either

    module _ (new : Desk) (run : Touches log.file (IsWithOrWithout (says (old.seen log.file)) body) old new) where
      pub append_moments : IsPairSettled log.file old → TouchesPair (log.file / 2) (WithOrWithout (store_in (log.file / 2) old.seen) body) old new
      append_moments settled = touches_pair (log.file / 2) log.file (other_of log.file) refl four (other_below log.file four) (other_apart log.file)
          (IsWithOrWithout (says (old.seen log.file)) body) (WithOrWithout (store_in (log.file / 2) old.seen) body) old new run
          (λ files either left. says_either files either (settled.other.only (files (other_of log.file)) left))

      pub append_says : says (new.seen log.file) ≡ log_with_body (says (old.seen log.file)) body → store_in (log.file / 2) new.seen ≡ with_body (store_in (log.file / 2) old.seen) body
      append_says added = says_with new.seen added (run.seen (other_of log.file) (other_apart log.file))
