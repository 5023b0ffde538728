use Rattle.std.proofs.Common.{drop, ◌≡◌}
use Rattle.offset_rules.specs.Marks.{history_from, history_of}
use Rattle.offset_rules.proofs.marks.Marks.of.Given as goal

-- what is read so far with the publications still to come is what all read
abbrev pub invariant-loop-publication : goal.invariant-loop-publication
invariant-loop-publication l = record {
  place_is : l.place ≡ l.publication-index;
  all : history_from l.place (drop l.publication-index l.publications) l.marks ≡ history_of l.publications;
}
