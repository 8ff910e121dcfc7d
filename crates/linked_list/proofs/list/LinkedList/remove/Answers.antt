use Rattle.std.proofs.Common.{sym, ◌∙◌}
use Rattle.linked_list.proofs.Removing.{removes, refused_list, listed_can}
use Rattle.linked_list.proofs.list.LinkedList.remove.Goals as goal

pub returns-then-not-can_remove-clause-granted : goal.returns-then-not-can_remove-clause-granted
returns-then-not-can_remove-clause-granted g c = λ l h e. c.if-not-can_remove.ensures ∙ listed_can _ _ l _ h e

pub returns-then-not-can_remove-clause-listed : goal.returns-then-not-can_remove-clause-listed
returns-then-not-can_remove-clause-listed g c = refused_list _ _ _ (sym c.if-not-can_remove.ensures)

pub returns-clause-listed : goal.returns-clause-listed
returns-clause-listed g c = (removes _ _ _ _ _ (sym c.if-not-can_remove.ensures) c.take_out.ensures.placed c.take_out.ensures.started).listed

pub returns-clause-others : goal.returns-clause-others
returns-clause-others g c = (removes _ _ _ _ _ (sym c.if-not-can_remove.ensures) c.take_out.ensures.placed c.take_out.ensures.started).others

pub returns-clause-elsewhere : goal.returns-clause-elsewhere
returns-clause-elsewhere g c = λ _. (removes _ _ _ _ _ (sym c.if-not-can_remove.ensures) c.take_out.ensures.placed c.take_out.ensures.started).elsewhere

pub returns-clause-status : goal.returns-clause-status
returns-clause-status g c = (removes _ _ _ _ _ (sym c.if-not-can_remove.ensures) c.take_out.ensures.placed c.take_out.ensures.started).status
