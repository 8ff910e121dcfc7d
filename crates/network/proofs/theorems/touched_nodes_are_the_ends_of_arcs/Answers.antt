use Rattle.network.proofs.Touched.{touched_nodes_are_the_ends_of_arcs}
use Rattle.network.proofs.theorems.touched_nodes_are_the_ends_of_arcs.Goals as goal

pub returns : goal.returns
returns c = touched_nodes_are_the_ends_of_arcs
