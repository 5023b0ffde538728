use Rattle.std.proofs.Common.{List, Option, ap, map, of_z, sym, to_z, w64, ℕ, ℤ, ◌∙◌, ◌≡◌}
use Rattle.std.proofs.lemmas.Int.{to_z-of_z}
use Rattle.book_rows.specs.Reports.{Ended, left_all}
use Rattle.book_rows.specs.Sequences.{abandoned, sequence_named}
use Rattle.book_rows.specs.declared.rows.SequenceRow.{SequenceRow}
use Rattle.sup_core.specs.Endings.{ending_of}
use Rattle.sup_core.specs.declared.ending.Ending.TheVariants as Endings
use Rattle.sup_core.proofs.Ended.{others_are, when_abandons, when_closes, when_stays}
use Rattle.sup_core.proofs.ending.end.Goals as goal

pub returns-in-Stays-clause-tasks : goal.returns-in-Stays-clause-tasks
returns-in-Stays-clause-tasks c =
    let us : List SequenceRow = c.args.sequences.now in
    let name : List ℕ = c.args.task.now.group in
    let task : List ℕ = c.args.task.now.task in
    let is : ending_of (sequence_named name us) task c.args.clock ≡ Endings.Stays =
    sym (c.in_ok-ending_of.ensures ∙ (ap (λ (o : Option SequenceRow). ending_of o task (to_z w64 (of_z w64 c.args.clock))) c.named.ensures.row ∙ ap (λ (t : ℤ). ending_of (sequence_named name us) task t) (to_z-of_z w64 c.args.clock c.ranges.clock))) ∙ c.in-Stays.is in
    c.new.ensures.items ∙ sym (ap (λ (e : Ended). e.tasks) (when_stays name task c.args.clock us c.named.ensures.distinct is))

pub returns-in-Stays-clause-rows : goal.returns-in-Stays-clause-rows
returns-in-Stays-clause-rows c =
    let us : List SequenceRow = c.args.sequences.now in
    let name : List ℕ = c.args.task.now.group in
    let task : List ℕ = c.args.task.now.task in
    let is : ending_of (sequence_named name us) task c.args.clock ≡ Endings.Stays =
    sym (c.in_ok-ending_of.ensures ∙ (ap (λ (o : Option SequenceRow). ending_of o task (to_z w64 (of_z w64 c.args.clock))) c.named.ensures.row ∙ ap (λ (t : ℤ). ending_of (sequence_named name us) task t) (to_z-of_z w64 c.args.clock c.ranges.clock))) ∙ c.in-Stays.is in
    c.leave.ensures ∙ sym (ap (λ (e : Ended). e.sequences) (when_stays name task c.args.clock us c.named.ensures.distinct is))

pub returns-in_ok-tasks-in-Abandons-clause-tasks : goal.returns-in_ok-tasks-in-Abandons-clause-tasks
returns-in_ok-tasks-in-Abandons-clause-tasks c =
    let us : List SequenceRow = c.args.sequences.now in
    let name : List ℕ = c.args.task.now.group in
    let task : List ℕ = c.args.task.now.task in
    let is : ending_of (sequence_named name us) task c.args.clock ≡ Endings.Abandons c.in-Abandons.source c.in-Abandons.group c.in-Abandons.from =
    sym (c.in_ok-ending_of.ensures ∙ (ap (λ (o : Option SequenceRow). ending_of o task (to_z w64 (of_z w64 c.args.clock))) c.named.ensures.row ∙ ap (λ (t : ℤ). ending_of (sequence_named name us) task t) (to_z-of_z w64 c.args.clock c.ranges.clock))) ∙ c.in-Abandons.is in
    c.in_ok-tasks-in-Abandons.ensures
    ∙ (
    others_are c.in-Abandons.source c.in-Abandons.group c.in-Abandons.from task us
    ∙ sym (ap (λ (e : Ended). e.tasks) (when_abandons name task c.args.clock us c.in-Abandons.source c.in-Abandons.group c.in-Abandons.from is))
    )

pub returns-in_ok-tasks-in-Abandons-clause-rows : goal.returns-in_ok-tasks-in-Abandons-clause-rows
returns-in_ok-tasks-in-Abandons-clause-rows c =
    let us : List SequenceRow = c.args.sequences.now in
    let name : List ℕ = c.args.task.now.group in
    let task : List ℕ = c.args.task.now.task in
    let is : ending_of (sequence_named name us) task c.args.clock ≡ Endings.Abandons c.in-Abandons.source c.in-Abandons.group c.in-Abandons.from =
    sym (c.in_ok-ending_of.ensures ∙ (ap (λ (o : Option SequenceRow). ending_of o task (to_z w64 (of_z w64 c.args.clock))) c.named.ensures.row ∙ ap (λ (t : ℤ). ending_of (sequence_named name us) task t) (to_z-of_z w64 c.args.clock c.ranges.clock))) ∙ c.in-Abandons.is in
    c.abandon.ensures
    ∙ (
    ap (λ (ws : List SequenceRow). map (abandoned c.in-Abandons.source c.in-Abandons.group c.in-Abandons.from) ws) c.leave-in-Abandons.ensures
    ∙ sym (ap (λ (e : Ended). e.sequences) (when_abandons name task c.args.clock us c.in-Abandons.source c.in-Abandons.group c.in-Abandons.from is))
    )

pub returns-in_ok-tell-in-Closes-clause-tasks : goal.returns-in_ok-tell-in-Closes-clause-tasks
returns-in_ok-tell-in-Closes-clause-tasks c =
    let us : List SequenceRow = c.args.sequences.now in
    let name : List ℕ = c.args.task.now.group in
    let task : List ℕ = c.args.task.now.task in
    let is : ending_of (sequence_named name us) task c.args.clock ≡ Endings.Closes c.in-Closes.closing =
    sym (c.in_ok-ending_of.ensures ∙ (ap (λ (o : Option SequenceRow). ending_of o task (to_z w64 (of_z w64 c.args.clock))) c.named.ensures.row ∙ ap (λ (t : ℤ). ending_of (sequence_named name us) task t) (to_z-of_z w64 c.args.clock c.ranges.clock))) ∙ c.in-Closes.is in
    c.new-in-Closes.ensures.items ∙ sym (ap (λ (e : Ended). e.tasks) (when_closes name task c.args.clock us c.in-Closes.closing c.named.ensures.distinct is))

pub returns-in_ok-tell-in-Closes-clause-rows : goal.returns-in_ok-tell-in-Closes-clause-rows
returns-in_ok-tell-in-Closes-clause-rows c =
    let us : List SequenceRow = c.args.sequences.now in
    let name : List ℕ = c.args.task.now.group in
    let task : List ℕ = c.args.task.now.task in
    let is : ending_of (sequence_named name us) task c.args.clock ≡ Endings.Closes c.in-Closes.closing =
    sym (c.in_ok-ending_of.ensures ∙ (ap (λ (o : Option SequenceRow). ending_of o task (to_z w64 (of_z w64 c.args.clock))) c.named.ensures.row ∙ ap (λ (t : ℤ). ending_of (sequence_named name us) task t) (to_z-of_z w64 c.args.clock c.ranges.clock))) ∙ c.in-Closes.is in
    c.leave-in-Closes.ensures
    ∙ (
    ap (λ (ws : List SequenceRow). left_all task ws) c.in_ok-tell-in-Closes.ensures.ok
    ∙ sym (ap (λ (e : Ended). e.sequences) (when_closes name task c.args.clock us c.in-Closes.closing c.named.ensures.distinct is))
    )
