-- Every command keeps all keys of a sound book.
use Rattle.laws_keys.specs.KeyLaws.{KeysStay}
use Rattle.laws_keys.proofs.Commits.{commits_stay_bounded}
use Rattle.laws_keys.proofs.Ids.{ids_stay_distinct}
use Rattle.laws_keys.proofs.Requests.{requests_stay_distinct}
use Rattle.laws_keys.proofs.Roots.{roots_stay_published}
use Rattle.laws_keys.proofs.SegmentChunks.{ids_stay_in_chunks}
use Rattle.laws_keys.proofs.SupervisedKeys.{sequences_stay_distinct, supervisors_stay_distinct}
use Rattle.laws_keys.proofs.Upgrades.{upgrades_stay_distinct}

pub keys_stay : KeysStay
keys_stay b c form s = record {
  commits = commits_stay_bounded b c form s;
  roots = roots_stay_published b c form s;
  chunks = ids_stay_in_chunks b c form s;
  ids = ids_stay_distinct b c form s;
  upgrades = upgrades_stay_distinct b c form s;
  requests = requests_stay_distinct b c form s;
  supervisors = supervisors_stay_distinct b c form s;
  sequences = sequences_stay_distinct b c form s;
}
