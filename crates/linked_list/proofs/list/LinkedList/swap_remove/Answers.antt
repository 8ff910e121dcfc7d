use Rattle.std.proofs.Common.{sym, ◌∙◌}
use Rattle.linked_list.proofs.Swapping.{swaps, listed_can_swap}
use Rattle.linked_list.proofs.list.LinkedList.swap_remove.Goals as goal

pub returns-then-not-can_swap-clause-granted : goal.returns-then-not-can_swap-clause-granted
returns-then-not-can_swap-clause-granted g c = λ l h e. c.if-not-can_swap.ensures ∙ listed_can_swap _ _ l _ h e

pub returns-clause-listed : goal.returns-clause-listed
returns-clause-listed g c = λ _. (swaps _ _ _ _ _ (sym c.if-not-can_swap.ensures) c.move_front.ensures.placed c.move_front.ensures.started).listed

pub returns-clause-others : goal.returns-clause-others
returns-clause-others g c = (swaps _ _ _ _ _ (sym c.if-not-can_swap.ensures) c.move_front.ensures.placed c.move_front.ensures.started).others

pub returns-clause-elsewhere : goal.returns-clause-elsewhere
returns-clause-elsewhere g c = λ f _. (swaps _ _ _ _ _ (sym c.if-not-can_swap.ensures) c.move_front.ensures.placed c.move_front.ensures.started).elsewhere f

pub returns-clause-freed : goal.returns-clause-freed
returns-clause-freed g c = λ _. (swaps _ _ _ _ _ (sym c.if-not-can_swap.ensures) c.move_front.ensures.placed c.move_front.ensures.started).freed

pub returns-clause-status : goal.returns-clause-status
returns-clause-status g c = (swaps _ _ _ _ _ (sym c.if-not-can_swap.ensures) c.move_front.ensures.placed c.move_front.ensures.started).status
