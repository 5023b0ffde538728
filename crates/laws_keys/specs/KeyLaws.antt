-- What every command keeps of the keys of a sound book.
use Rattle.std.specs.Prelude.{◌++◌, filter}
use Rattle.seg_names.specs.Ids.{same_id}
use Rattle.book_rows.specs.Allocation.{is_root}
use Rattle.book_rows.specs.Answer.{next}
use Rattle.book_rows.specs.Form.{KeepsForm}
use Rattle.book_rows.specs.Shape.{AreDistinct, HaveChunks, HaveCommits, HaveRoots, pending_ids, same_request, same_sequence, same_supervisor, same_upgrade, segment_ids}
use Rattle.book_rows.specs.Sound.{Sound}
use Rattle.book_rows.specs.declared.commands.Command.{Command}
use Rattle.book_rows.specs.declared.rows.Book.{Book}

-- a command that keeps its form leads from a sound book to one of which this holds
abbrev pub HoldsAfter : (Book → Type 0) → Type 0
HoldsAfter P = (b : Book) (c : Command) → KeepsForm c → Sound b → P (next b c)

-- commits are below the number of publications, and no lock or span counts more
abbrev pub AreCommitted : Book → Type 0
AreCommitted b = HaveCommits b.posses b.segments b.publications

abbrev pub CommitsStayBounded : Type 0
CommitsStayBounded = HoldsAfter AreCommitted

-- no two upgrade rows are of one lock and one root
abbrev pub HasDistinctUpgrades : Book → Type 0
HasDistinctUpgrades b = AreDistinct same_upgrade b.upgrades

abbrev pub UpgradesStayDistinct : Type 0
UpgradesStayDistinct = HoldsAfter HasDistinctUpgrades

-- no two root pendings are of one source, sequence and previous id
abbrev pub HasDistinctRequests : Book → Type 0
HasDistinctRequests b = AreDistinct same_request (filter is_root b.pendings)

abbrev pub RequestsStayDistinct : Type 0
RequestsStayDistinct = HoldsAfter HasDistinctRequests

-- each id of a segment, a pending or a publication has its chunk row, with a next part above its own
abbrev pub IdsStayInChunks : Type 0
IdsStayInChunks = HoldsAfter HaveChunks

-- tombstones are those of their publications, and the root of any other segment was added not after its own commit
abbrev pub RootsStayPublished : Type 0
RootsStayPublished = HoldsAfter HaveRoots

-- no two segments or pendings have one id
abbrev pub HasDistinctIds : Book → Type 0
HasDistinctIds b = AreDistinct same_id (segment_ids b.segments ++ pending_ids b.pendings)

abbrev pub IdsStayDistinct : Type 0
IdsStayDistinct = HoldsAfter HasDistinctIds

-- no two supervisors are of one source
abbrev pub HasDistinctSupervisors : Book → Type 0
HasDistinctSupervisors b = AreDistinct same_supervisor b.supervisors

abbrev pub SupervisorsStayDistinct : Type 0
SupervisorsStayDistinct = HoldsAfter HasDistinctSupervisors

-- no two sequences are of one source, group and index
abbrev pub HasDistinctSequences : Book → Type 0
HasDistinctSequences b = AreDistinct same_sequence b.sequences

abbrev pub SequencesStayDistinct : Type 0
SequencesStayDistinct = HoldsAfter HasDistinctSequences

-- ---- all of them

pub record AreKeyed (b : Book) : Type 0 where
  pub commits : HaveCommits b.posses b.segments b.publications
  pub roots : HaveRoots b
  pub chunks : HaveChunks b
  pub ids : HasDistinctIds b
  pub upgrades : HasDistinctUpgrades b
  pub requests : HasDistinctRequests b
  pub supervisors : HasDistinctSupervisors b
  pub sequences : HasDistinctSequences b

abbrev pub KeysStay : Type 0
KeysStay = HoldsAfter AreKeyed
