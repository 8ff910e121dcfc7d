use Rattle.std.proofs.Common.{sym, refl, ap}
use Rattle.keyed_table.specs.Chains.{room_of}
use Rattle.graphmap.specs.States.{state}
use Rattle.graphmap.proofs.Composing.{swaps_node}
use Rattle.graphmap.proofs.tables.Tables.swap_out.Goals as goal

pub returns : goal.returns
returns g c =
    let st = state c.args.self.now in
    let swap = c.swap_link.ensures in
    record {
      state =
          swaps_node st c.args.index c.args.place c.in-Some.node _ _ _ _ _ _ _
          (sym c.in-Some.ensures) swap.kept refl swap.placed swap.started c.last_swapped.ensures
          c.insert.ensures.listing (ap room_of c.insert.ensures.size);
    }
