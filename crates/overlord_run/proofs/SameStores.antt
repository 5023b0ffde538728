-- What the bytes of a store stand for is the same for commands as for lines.
use Rattle.std.proofs.Common.{◌+◌, ◌≡◌, ◌∷◌, Bool, List, None, Option, Some, [], drop, false, length, refl, take, true, ℕ}
use Rattle.gate_log.specs.Format.{Opening, absent, corrupt, opened, opening_of, records_at}
use Rattle.machine_run.specs.Stores.{behind, no_log, restored, store_alone, store_by, store_of}
use Rattle.book_rows.specs.declared.rows.Book.{Book}
use Rattle.overlord_rules.specs.OverlordRules.{overlord_rules, restore_of, load_of}
use Rattle.overlord_rules.specs.CommandRules.{command_rules}

same_restored : (at : ℕ) (b : Book) (bodies : List (List ℕ)) (whole : Bool) (place : ℕ) → restored command_rules at b bodies whole place ≡ restored overlord_rules at b bodies whole place
same_restored at b [] whole place = refl
same_restored at b (body ∷ bodies) whole place = by (restore_of b body) (λ next. same_restored (at + 5 + length body) next bodies whole place)
  where
    by : (o : Option Book) → ((next : Book) → restored command_rules (at + 5 + length body) next bodies whole place ≡ restored overlord_rules (at + 5 + length body) next bodies whole place)
        → behind o (λ next. restored command_rules (at + 5 + length body) next bodies whole place) at ≡ behind o (λ next. restored overlord_rules (at + 5 + length body) next bodies whole place) at
    by None again = refl
    by (Some next) again = again next

same_alone : (alone : Bool) (at : ℕ) (b : Book) (first : List ℕ) → store_alone command_rules alone at b first ≡ store_alone overlord_rules alone at b first
same_alone true at b first = (let records = records_at first at in same_restored at b records.bodies records.is_whole records.place)
same_alone false at b first = refl

same_by : (header : Opening) (alone : Bool) (first : List ℕ) → store_by command_rules header alone first ≡ store_by overlord_rules header alone first
same_by absent true first = refl
same_by absent false first = refl
same_by (corrupt at) alone first = refl
same_by (opened generation size) alone first = by (load_of (take size (drop 26 first)))
  where
    by : (o : Option Book) → behind o (λ b. store_alone command_rules alone (26 + size) b first) 18 ≡ behind o (λ b. store_alone overlord_rules alone (26 + size) b first) 18
    by None = refl
    by (Some b) = same_alone alone (26 + size) b first

pub same_stores : (first second : List ℕ) → store_of command_rules first second ≡ store_of overlord_rules first second
unfolding store_of
same_stores first second = same_by (opening_of first) (no_log (opening_of second)) first
