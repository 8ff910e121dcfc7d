use Rattle.graphmap.specs.States.{state}
use Rattle.graphmap.proofs.Composing.{neighbors_kept, gives_place}
use Rattle.graphmap.proofs.tables.Tables.give_place.Goals as goal

pub returns : goal.returns
returns g c =
    let push = c.push_front-pushed.ensures in
    record {
      state = gives_place (state c.args.self.now) c.args.place _ _ _ _
          (neighbors_kept c.args.self.now.links.slots.now c.push_front-pushed.new.entries.slots.now push.kept) push.answer push.placed push.started;
    }
