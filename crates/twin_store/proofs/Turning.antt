-- A store turns to the other file.
use Rattle.std.proofs.Common.{◌≡◌, ◌≢◌, inl, inr, ⊎_elim, ℕ, ◌+◌, ◌^◌, ◌<◌, ◌/◌, List, [], length, refl, sym, ◌∙◌, ap, subst, arith}
use Rattle.host_desk.specs.Desk.{Desk}
use Rattle.host_desk.specs.Since.{IsSettled, Touches}
use Rattle.gate_log.specs.Format.{Opening, absent, corrupt, opened, opening_of, LogSays, is_log, says, new_file}
use Rattle.gate_log.specs.Log.{Mark, Describes, new_log}
use Rattle.gate_log.specs.Making.{CanBeMade, IsBeingMade}
use Rattle.gate_log.proofs.Laws.{opening_absent, can_over_absent, can_over_log, says_new, opening_new}
use Rattle.twin_store.specs.Pairs.{is_store, in_log, other_of, side_of, store_in}
use Rattle.twin_store.specs.Moments.{TouchesPair, IsPairSettled}
use Rattle.twin_store.specs.Stores.{IsBehind, IsCurrent, IsTurning}
use Rattle.twin_store.proofs.Current.{file_says, other_below, other_pair, other_apart, other_twice}
use Rattle.twin_store.proofs.PairMoments.{touches_pair}

-- a log may be made in a file that is behind
pub can_turn : (generation : ℕ) (bytes : List ℕ) → IsBehind generation (opening_of bytes) → CanBeMade bytes
can_turn generation bytes behind = by (opening_of bytes) refl behind
  where
    by : (o : Opening) → opening_of bytes ≡ o → IsBehind generation o → CanBeMade bytes
    by absent is behind = can_over_absent bytes is
    by (corrupt at) is never = absurd never
    by (opened older size) is less = can_over_log bytes older size is

-- what is touched, by the numbers of the other file and of the next generation
pub turn_run : (log : Mark) (snapshot : List ℕ) (old new : Desk) (file generation : ℕ) → file ≡ other_of log.file → generation ≡ log.generation + 1
    → Touches file (IsBeingMade (old.seen file) (new_file generation snapshot)) old new → Touches (other_of log.file) (IsBeingMade (old.seen (other_of log.file)) (new_file (log.generation + 1) snapshot)) old new
turn_run log snapshot old new file generation is next run =
    subst (λ (g : ℕ). Touches (other_of log.file) (IsBeingMade (old.seen (other_of log.file)) (new_file g snapshot)) old new) next (subst (λ (n : ℕ). Touches n (IsBeingMade (old.seen n) (new_file generation snapshot)) old new) is run)

pub log_turned : (log after : Mark) (size file generation limit : ℕ) → file ≡ other_of log.file → generation ≡ log.generation + 1 → limit ≡ log.limit → after ≡ new_log file generation size limit → after ≡ new_log (other_of log.file) (log.generation + 1) size log.limit
log_turned log after size file generation limit is next same made = made ∙ (λ i. new_log (is i) (next i) size (same i))

module _ (log : Mark) (snapshot : List ℕ) (old : ℕ → List ℕ) (four : log.file < 4) (current : IsCurrent log old) (fits : log.generation + 1 < 2 ^ 64) (small : length snapshot < 2 ^ 64) where
  abbrev pair : ℕ
  pair = log.file / 2

  abbrev other : ℕ
  other = other_of log.file

  -- the other file has no newer log yet
  says_old : (files : ℕ → List ℕ) → files log.file ≡ old log.file → IsBehind log.generation (opening_of (files other)) → store_in pair files ≡ in_log (side_of log.file) (says (old log.file))
  says_old files same behind = file_says files log.file four log.generation log.snapshot_length (ap (λ (l : List ℕ). opening_of l) same ∙ current.describes.header) behind ∙ ap (λ (l : List ℕ). in_log (side_of log.file) (says l)) same

  says_before : store_in pair old ≡ in_log (side_of log.file) (says (old log.file))
  says_before = says_old old refl current.behind

  -- the old file is behind the new one
  old_behind : (files : ℕ → List ℕ) → files log.file ≡ old log.file → IsBehind (log.generation + 1) (opening_of (files (other_of other)))
  old_behind files same =
      let header : opening_of (files (other_of other)) ≡ opened log.generation log.snapshot_length = ap (λ (n : ℕ). opening_of (files n)) (other_twice log.file) ∙ ap (λ (l : List ℕ). opening_of l) same ∙ current.describes.header in
      subst (λ (o : Opening). IsBehind (log.generation + 1) o) (sym header) (omega arith)

  says_turned : (files : ℕ → List ℕ) → files log.file ≡ old log.file → files other ≡ new_file (log.generation + 1) snapshot → store_in pair files ≡ is_store (log.generation + 1) snapshot []
  says_turned files same made =
      let header : opening_of (files other) ≡ opened (log.generation + 1) (length snapshot) = ap (λ (l : List ℕ). opening_of l) made ∙ opening_new (log.generation + 1) snapshot fits small in
      let log_is : says (files other) ≡ is_log (log.generation + 1) snapshot [] (26 + length snapshot) = ap (λ (l : List ℕ). says l) made ∙ says_new (log.generation + 1) snapshot fits small in
      ap (λ (p : ℕ). store_in p files) (sym (other_pair log.file four)) ∙ file_says files other (other_below log.file four) (log.generation + 1) (length snapshot) header (old_behind files same) ∙ ap (λ (l : LogSays). in_log (side_of other) l) log_is

  says_turning : (files : ℕ → List ℕ) → files log.file ≡ old log.file → IsBeingMade (old other) (new_file (log.generation + 1) snapshot) (files other) → IsTurning (store_in pair old) log.generation snapshot (store_in pair files)
  says_turning files same being = ⊎_elim
      (λ was. inl (says_old files same (subst (λ (l : List ℕ). IsBehind log.generation (opening_of l)) (sym was) current.behind) ∙ sym says_before))
      (λ more. ⊎_elim
      (λ none. inl (says_old files same (subst (λ (o : Opening). IsBehind log.generation o) (sym (opening_absent (files other) none)) tt) ∙ sym says_before))
      (λ made. inr (says_turned files same made)) more)
      being

pub turning_says : (log : Mark) (snapshot : List ℕ) (old files : ℕ → List ℕ) → log.file < 4 → log.generation + 1 < 2 ^ 64 → length snapshot < 2 ^ 64 → IsCurrent log old → files log.file ≡ old log.file
    → IsBeingMade (old (other_of log.file)) (new_file (log.generation + 1) snapshot) (files (other_of log.file)) → IsTurning (store_in (log.file / 2) old) log.generation snapshot (store_in (log.file / 2) files)
turning_says log snapshot old files four fits small current same being = says_turning log snapshot old four current fits small files same being

module _ (log : Mark) (snapshot : List ℕ) (old : Desk) (four : log.file < 4) (current : IsCurrent log old.seen) (fits : log.generation + 1 < 2 ^ 64) (small : length snapshot < 2 ^ 64) (new : Desk) (run : Touches (other_of log.file) (IsBeingMade (old.seen (other_of log.file)) (new_file (log.generation + 1) snapshot)) old new) where
  -- the old file is another than the one that is touched
  apart : log.file ≢ other_of log.file
  apart same = other_apart log.file (sym same)

  pub turn_moments : IsPairSettled log.file old → TouchesPair (log.file / 2) (IsTurning (store_in (log.file / 2) old.seen) log.generation snapshot) old new
  turn_moments settled = touches_pair (log.file / 2) (other_of log.file) log.file (other_pair log.file four) (other_below log.file four) four apart
      (IsBeingMade (old.seen (other_of log.file)) (new_file (log.generation + 1) snapshot)) (IsTurning (store_in (log.file / 2) old.seen) log.generation snapshot) old new run
      (λ files being left. turning_says log snapshot old.seen files four fits small current (settled.this.only (files log.file) left) being)

  pub turn_says : new.seen (other_of log.file) ≡ new_file (log.generation + 1) snapshot → store_in (log.file / 2) new.seen ≡ is_store (log.generation + 1) snapshot []
  turn_says made = says_turned log snapshot old.seen four current fits small new.seen (run.seen log.file apart) made

  pub turn_current : (after : Mark) → after ≡ new_log (other_of log.file) (log.generation + 1) (length snapshot) log.limit → Describes after (new.seen (other_of log.file)) → IsCurrent after new.seen
  turn_current after is describes = subst (λ (m : Mark). IsCurrent m new.seen) (sym is) (record {
    describes = subst (λ (m : Mark). Describes m (new.seen (other_of log.file))) is describes;
    behind = old_behind log snapshot old.seen four current fits small new.seen (run.seen log.file apart);
  })

  pub turn_settled : IsPairSettled log.file old → IsSettled new (other_of log.file) → IsPairSettled (other_of log.file) new
  turn_settled settled this = record { this = this; other = subst (λ (n : ℕ). IsSettled new n) (sym (other_twice log.file)) still }
    where
      still : IsSettled new log.file
      still = record {
        only = λ f left. settled.this.only f ((run.left log.file f apart).0 left) ∙ sym (run.seen log.file apart);
        trusted = run.trusted log.file apart ∙ settled.this.trusted;
      }
