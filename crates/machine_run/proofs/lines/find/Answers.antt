use Rattle.std.proofs.Common.{ℕ, List, subst}
use Rattle.input_lines.specs.Reading.{Finds, unread}
use Rattle.input_lines.specs.declared.found.Found.{Found}
use Rattle.machine_run.proofs.ReadTo.{items_none, read_before}
use Rattle.machine_run.proofs.lines.find.Goals as goal

pub returns-in-Ok-End-clause-none : goal.returns-in-Ok-End-clause-none
returns-in-Ok-End-clause-none g c = λ told none.
    let before : List ℕ = unread c.args.reader.now (g.S.Source.remaining c.args.source.now) in
    let after : List ℕ = unread c.next_line.new.self (g.S.Source.remaining c.next_line.new.source) in
    let found = subst (λ (f : Found). Finds f before c.next_line.new.line.items after) c.in-Ok-End.field-0-is (c.in-Ok-End.ensures.found told) in
    items_none before found.0

pub returns-in-Ok-Line-clause-read : goal.returns-in-Ok-Line-clause-read
returns-in-Ok-Line-clause-read g c = λ told e left count broken.
    let before : List ℕ = unread c.args.reader.now (g.S.Source.remaining c.args.source.now) in
    let after : List ℕ = unread c.next_line.new.self (g.S.Source.remaining c.next_line.new.source) in
    let cut = c.in-Ok-Line.ensures.cut told broken.0 in
    (cut.0, read_before before after left count cut.1 broken.1)

pub returns-in-Ok-LongLine-clause-read : goal.returns-in-Ok-LongLine-clause-read
returns-in-Ok-LongLine-clause-read g c = λ told e left count broken.
    let before : List ℕ = unread c.args.reader.now (g.S.Source.remaining c.args.source.now) in
    let after : List ℕ = unread c.next_line.new.self (g.S.Source.remaining c.next_line.new.source) in
    let cut = c.in-Ok-LongLine.ensures.cut told broken.0 in
    (cut.0, read_before before after left count cut.1 broken.1)
