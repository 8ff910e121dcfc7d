use Rattle.table_demo.proofs.uses.left_at_other.Goals as goal

pub returns : goal.returns
returns g c = cc
