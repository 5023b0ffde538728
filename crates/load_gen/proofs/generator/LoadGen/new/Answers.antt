use Rattle.std.proofs.Common.{List, ap}
use Rattle.load_gen.specs.declared.generator.Hour.{Hour}
use Rattle.load_gen.proofs.generator.LoadGen.new.Goals as goal

pub returns : goal.returns
returns c = ap (λ (l : List Hour). record { drawn = c.args.number; blocks = 0; hours = l }) (c.in_ok-vec.ensures.items_if_clones_equal (λ y same. same))
