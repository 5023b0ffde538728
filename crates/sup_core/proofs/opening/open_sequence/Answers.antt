use Rattle.std.proofs.Common.{◌<◌, ◌^◌, rules}
use Rattle.sup_core.proofs.Texts.{replica_is_id, sequence_is_id}
use Rattle.sup_core.proofs.opening.open_sequence.Goals as goal

pub sequence_id-requires : goal.sequence_id-requires
sequence_id-requires c = sequence_is_id c.args.row.now.source c.args.group c.size_of-index.result c.bytes-source.ensures.name (search rules) (search rules)

pub replicas_of-requires : goal.replicas_of-requires
replicas_of-requires c k less =
    let few : k < 2 ^ 32 = search rules in
    rw c.in_ok-name.ensures (replica_is_id c.args.row.now.source c.args.group c.size_of-index.result k c.bytes-source.ensures.name (search rules) (search rules) few)
