use Rattle.linked_list.proofs.Popping.{pop_others}
use Rattle.linked_list.proofs.list.LinkedList.pop.Goals as goal

pub returns-clause-others : goal.returns-clause-others
returns-clause-others g c = pop_others _ _ _ _ _ c.in_ok-popped.was c.remove.ensures.answer c.remove.ensures.placed
