-- The rules on chunks don't read the clock, tasks, offsets, supervisors and sequences.
use Rattle.laws_chunks.specs.OtherTables.{OthersKeep}

pub others_keep : OthersKeep
others_keep clock ts os ss us b h = record {
  shape = record {
    numbers = h.shape.numbers;
    below = h.shape.below;
    versions = h.shape.versions;
    append_zero = h.shape.append_zero;
    upto = h.shape.upto;
    one_version = h.shape.one_version;
    sinces = h.shape.sinces;
    last_low = h.shape.last_low;
    chunk_upto = h.shape.chunk_upto;
    chunk_rows = h.shape.chunk_rows;
    chunk_spans = h.shape.chunk_spans;
    root_spans = h.shape.root_spans;
    upgrade_spans = h.shape.upgrade_spans;
    once = h.shape.once;
    added = h.shape.added;
    rows = h.shape.rows;
    parts = h.shape.parts;
  };
  compatible_locks = h.compatible_locks;
  one_span = h.one_span;
  below_locks = h.below_locks;
  rooted = h.rooted;
  upgrades = h.upgrades;
  cores = h.cores;
  copies = h.copies;
  carried = h.carried;
  shown_contents = h.shown_contents;
}
