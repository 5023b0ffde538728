use Rattle.row_index.specs.Index.{AllCome, AreInTurn}
use Rattle.row_index.proofs.firsts.first_key.Given as goal

abbrev pub invariant-loop-key : goal.invariant-loop-key
invariant-loop-key g l =
    (goal.iterator-loop-key g).can_next l.key-iterator
    × (goal.iterator-loop-key g).is_finite l.key-iterator
    × AreInTurn l.fn.range l.key-iterator
    × AllCome (g.R.Numbered.row_of l.rows) (g.Q.Query.passes l.query) l.fn.range l.keys.entries l.key-iterator
