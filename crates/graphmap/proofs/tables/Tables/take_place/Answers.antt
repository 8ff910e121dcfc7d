use Rattle.graphmap.specs.States.{state}
use Rattle.graphmap.proofs.Composing.{neighbors_kept, takes_unused, takes_fresh}
use Rattle.graphmap.proofs.tables.Tables.take_place.Goals as goal

pub returns-in-Some : goal.returns-in-Some
returns-in-Some g c =
    let pop = c.in-Some.ensures in
    let r = takes_unused (state c.args.self.now) _ _ _ (neighbors_kept c.args.self.now.links.slots.now c.pop.new.entries.slots.now pop.kept) c.in-Some.place
    (record { answer = pop.answer; placed = pop.placed; started = pop.started }) in
    record { place = r.0; state = r.1 }

pub returns : goal.returns
returns g c =
    let pop = c.in_default.ensures in
    let r = takes_fresh (state c.args.self.now) _ _ _ (neighbors_kept c.args.self.now.links.slots.now c.pop.new.entries.slots.now pop.kept)
    (record { answer = pop.answer; placed = pop.placed; started = pop.started }) in
    record { place = r.0; state = r.1 }
