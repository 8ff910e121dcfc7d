use Rattle.std.proofs.Common.{map, set, ap, ◌∙◌}
use lib.Seq.{map-set, map-set_same}
use Rattle.linked_list.proofs.slots.SlotsContainer.set_position.Goals as goal

pub returns-then-holds-clause-placed : goal.returns-then-holds-clause-placed
returns-then-holds-clause-placed g c =
    map-set g.T.Linked.place c.args.self.now.slots.now c.args.i c.set_position.new.self ∙ ap (set (map g.T.Linked.place c.args.self.now.slots.now) c.args.i) c.set_position.ensures.placed

pub returns-then-holds-clause-kept : goal.returns-then-holds-clause-kept
returns-then-holds-clause-kept g c =
    map-set_same g.T.Linked.blank c.args.self.now.slots.now c.args.i c.set_position.new.self _ c.set_position.ensures.kept
