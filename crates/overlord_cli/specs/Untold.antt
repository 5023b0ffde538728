-- What is known of a host that tells nothing of its bytes.
use Rattle.std.specs.Prelude.{ℕ, List, [], Option, None, true, ◌==◌, if◌then◌else◌}
use Rattle.host_desk.specs.Desk.{Desk}

-- The names of the opened pairs and the two counts of faults. The rest of a desk has no meaning here.
abbrev pub untold : Option (List ℕ) → Option (List ℕ) → ℕ → ℕ → Desk
untold first second store say = record {
  opened = λ pair. if pair == 0 then first else (if pair == 1 then second else None);
  seen = λ i. [];
  said = [];
  left = λ i c. Unit {0};
  trusted = λ i. true;
  moment = 0;
  observed = λ t said files. Unit {0};
  store_faults = store;
  say_faults = say;
}
