use Rattle.std.proofs.Common.{ap}
use Rattle.keyed_table.specs.Chains.{room_of}
use Rattle.graphmap.specs.States.{state}
use Rattle.graphmap.proofs.Composing.{lays_arc}
use Rattle.graphmap.proofs.tables.Tables.lay.Goals as goal

pub returns : goal.returns
returns g c =
    let ends = c.args.ends in
    let take = c.take_place-place.ensures in
    let link = c.link_both.ensures in
    let put = c.insert.ensures in
    record {
      state = lays_arc (state c.args.self.now) ends.source.index ends.target.index ends.source.key ends.target.key c.args.weight (state c.take_place-place.new.self) (state c.link_both.new.self) c.take_place-place.result c.indices.result _ _ c.indices.ensures
          take.place take.state link.state put.listing (ap room_of put.size);
    }
