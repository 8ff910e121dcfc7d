use Rattle.std.proofs.Common.{unwrap_or, ap, ◌∙◌}
use Rattle.keyed_table.specs.Chains.{room_of}
use Rattle.map_layout.specs.Steps.{lone, node_at}
use Rattle.graphmap.specs.States.{state}
use Rattle.graphmap.proofs.Composing.{neighbors_kept, links_to_node}
use Rattle.graphmap.proofs.tables.Tables.link.Goals as goal

pub returns : goal.returns
returns g c =
    let st = state c.args.self.now in
    let push = c.push_front-pushed.ensures in
    let put = c.set_neighbor.ensures in
    let l1 = c.set_neighbor.new.links.slots.now in
    let l2 = c.push_front-pushed.new.entries.slots.now in
    record {
      state =
          links_to_node st c.args.node.index c.args.place (unwrap_or (node_at c.args.node.index.value st) (lone c.args.node.key)) c.node_or_new-old.result c.args.neighbor _ _ _ _ _ _ _ _
          c.node_or_new-old.ensures (neighbors_kept l1 l2 push.kept ∙ put.neighbors) put.positions push.answer push.placed push.started c.or.ensures
          c.insert.ensures.listing (ap room_of c.insert.ensures.size);
    }
