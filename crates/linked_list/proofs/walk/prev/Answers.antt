use Rattle.std.proofs.Common.{rules}
use Rattle.linked_list.proofs.Linking.{prev_is}
use Rattle.linked_list.proofs.walk.prev.Goals as goal

pub returns-in_err-position-clause-listed : goal.returns-in_err-position-clause-listed
returns-in_err-position-clause-listed g c = λ s a b h. let e = prev_is _ s a c.args.i b h in search rules

pub returns-clause-listed : goal.returns-clause-listed
returns-clause-listed g c = λ s a b h. let e = prev_is _ s a c.args.i b h in search rules
