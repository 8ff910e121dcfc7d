use Rattle.std.proofs.Common.{sym}
use Rattle.linked_list.proofs.Pushing.{pushes}
use Rattle.linked_list.proofs.list.LinkedList.push_front.Goals as goal

pub returns-clause-listed : goal.returns-clause-listed
returns-clause-listed g c = λ _ l h. rw c.put_front.ensures.started ((pushes _ _ _ _ (sym c.if-not-can_push.ensures) c.put_front.ensures.placed).listed l h)

pub returns-clause-others : goal.returns-clause-others
returns-clause-others g c = (pushes _ _ _ _ (sym c.if-not-can_push.ensures) c.put_front.ensures.placed).others
