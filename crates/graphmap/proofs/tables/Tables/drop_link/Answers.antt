use Rattle.std.proofs.Common.{sym, ap}
use Rattle.keyed_table.specs.Chains.{room_of}
use Rattle.graphmap.specs.States.{state}
use Rattle.graphmap.proofs.Composing.{neighbors_kept, drops_node}
use Rattle.graphmap.proofs.tables.Tables.drop_link.Goals as goal

pub returns : goal.returns
returns g c =
    let st = state c.args.self.now in
    let cut = c.remove-removed.ensures in
    record {
      state =
          drops_node st c.args.index c.args.place c.in-Some.node _ _ _ _ _ _ _
          (sym c.in-Some.ensures) (neighbors_kept c.args.self.now.links.slots.now c.remove-removed.new.entries.slots.now cut.kept) cut.answer cut.placed cut.started c.prev-oldest.ensures.answer
          c.insert.ensures.listing (ap room_of c.insert.ensures.size);
    }
