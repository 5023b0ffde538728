use Rattle.overlord_core.proofs.supervising.told_outcome.Goals as goal

pub returns-in_ok-sup_refusal-in-Err : goal.returns-in_ok-sup_refusal-in-Err
returns-in_ok-sup_refusal-in-Err c = rw c.in-Err.is (c.in_ok-sup_refusal-in-Err.field-0, c.in_ok-sup_refusal-in-Err.ensures, c.refused.ensures)
