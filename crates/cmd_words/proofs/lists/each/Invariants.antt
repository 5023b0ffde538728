use Rattle.std.proofs.Common.{◌≡◌, drop, ◌++◌, option_map}
use Rattle.serde_json.specs.View.{items_view}
use Rattle.cmd_words.specs.Lists.{each_of}
use Rattle.cmd_words.proofs.lists.each.Given as goal

-- the items so far, and those still to be passed, are those of the whole list
abbrev pub invariant-loop-value : goal.invariant-loop-value
invariant-loop-value g l = option_map (λ xs. l.items.items ++ xs) (each_of g.T.Item.reads (items_view (drop l.value-index l.list))) ≡ each_of g.T.Item.reads (items_view l.list)
