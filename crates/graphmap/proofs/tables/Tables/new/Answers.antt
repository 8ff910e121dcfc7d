use Rattle.graphmap.specs.Places.{neighbors, positions_of}
use Rattle.graphmap.proofs.tables.Tables.new.Goals as goal

pub returns : goal.returns
returns g c =
    let n = c.new.ensures in
    let a = c.new-2.ensures in
    let l = c.blank_all.ensures in
    let u = c.new-3.ensures.answer in
    record {
      state = λ x. record {
        nodes = n.listing x;
        arcs = a.listing x;
        neighbors = neighbors (l x);
        positions = positions_of (l x);
        unused = u x;
        fresh = 0;
        node_places = n.room x;
        arc_places = a.room x;
      };
    }
