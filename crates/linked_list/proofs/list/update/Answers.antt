use Rattle.std.proofs.Common.{refl, rules}
use Rattle.linked_list.proofs.list.update.Goals as goal
use Rattle.linked_list.proofs.list.update.Goals.{in-Some-position, in_default-position}

pub returns-after-position-clause-placed : goal.returns-after-position-clause-placed
returns-after-position-clause-placed g c = λ f h.
    elim c.match-position.branch [
      | in-Some-position w ↦
          let e = h w.in-Some-position.position w.change.new.arg2 (record { shown = _; shows = refl; left = _; met = w.change.ensures; leaves = refl }) in
          search rules
      | in_default-position w ↦ search rules
    ]
