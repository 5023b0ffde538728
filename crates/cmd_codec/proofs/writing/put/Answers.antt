use Rattle.cmd_codec.proofs.Limits.{submit_wants, append_ids, append_ranges, insert_lists, replace_lists, paused_offsets, checkpoint_offsets}
use Rattle.cmd_codec.proofs.writing.put.Goals as goal

pub put_submit-requires : goal.put_submit-requires
put_submit-requires c = submit_wants _ _ _ _ _ _ _ c.in-Submit.is c.requires.form

pub put_append-requires-clause-ids : goal.put_append-requires-clause-ids
put_append-requires-clause-ids c = append_ids _ _ _ _ c.in-Append.is c.requires.form

pub put_append-requires-clause-ranges : goal.put_append-requires-clause-ranges
put_append-requires-clause-ranges c = append_ranges _ _ _ _ c.in-Append.is c.requires.form

pub put_paused-requires : goal.put_paused-requires
put_paused-requires c = paused_offsets _ _ _ c.in-Paused.is c.requires.form

pub put_checkpoint-requires : goal.put_checkpoint-requires
put_checkpoint-requires c = checkpoint_offsets _ _ _ c.in-Checkpoint.is c.requires.form

pub put_insert-requires : goal.put_insert-requires
put_insert-requires c = insert_lists _ _ _ _ _ _ c.in-Insert.is c.requires.form

pub put_replace-requires : goal.put_replace-requires
put_replace-requires c = replace_lists _ _ _ _ _ _ c.in-Replace.is c.requires.form
