-- Room and the limits of rows, all at once.
use Rattle.laws_limits.specs.Limits.{LimitsStay}
use Rattle.laws_limits.proofs.IdRows.{id_rows_stay}
use Rattle.laws_limits.proofs.PublicationRows.{publication_rows_stay}
use Rattle.laws_limits.proofs.Rooms.{room_stays}
use Rattle.laws_limits.proofs.SequenceRows.{sequence_rows_stay}

pub limits_stay : LimitsStay
limits_stay b c form sound =
    let ids = id_rows_stay b c form sound in
    let publications = publication_rows_stay b c form sound in
    let sequences = sequence_rows_stay b c form sound in
    record {
      room = room_stays b c form sound.shape.limits.room;
      chunks = ids.chunks;
      segments = ids.segments;
      pendings = ids.pendings;
      upgrades = ids.upgrades;
      publications = publications.publications;
      supervisors = publications.supervisors;
      sequences = sequences.sequences;
      kinds = publications.kinds;
      states = sequences.states;
    }
