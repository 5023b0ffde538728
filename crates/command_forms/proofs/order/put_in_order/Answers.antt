use Rattle.std.proofs.Common.{arith}
use Rattle.std.proofs.lemmas.Result.{on_ok_weaker}
use Rattle.std.proofs.lemmas.List.Sorted.{ranks_by}
use Rattle.command_forms.specs.Sorted.{less_by}
use Rattle.command_forms.proofs.Unique.{ordered_is}
use Rattle.command_forms.proofs.order.put_in_order.Goals as goal

pub returns-clause-ok : goal.returns-clause-ok
returns-clause-ok g c =
    on_ok_weaker c.sort.result (λ s. ordered_is (less_by g.T.Ord.cmp) (ranks_by g.met.T.Ord.total (λ x. x)) c.requires c.args.items.now.items c.sort.new.self.items c.sort.ensures.permutation s) c.sort.ensures.sorted
