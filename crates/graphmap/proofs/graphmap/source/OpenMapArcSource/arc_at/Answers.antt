use Rattle.std.proofs.Common.{sym, ap, ◌∙◌, rules, tests}
use Rattle.std.specs.Option.{option_map}
use Rattle.graphmap.specs.Maps.{map_model}
use Rattle.graphmap.specs.Sources.{shown_arc}
use Rattle.graphmap.proofs.Reading.{mapped, arc_shown_at}
use Rattle.graphmap.proofs.graphmap.source.OpenMapArcSource.arc_at.Goals as goal

pub returns : goal.returns
returns g c =
    let m = map_model c.args.self.now.map.now in
    mapped shown_arc c.edge_shown.result c.map.result c.map.ensures.cases (λ x y q. search (rules, tests)) ∙ ap (option_map shown_arc) c.edge_shown.ensures.answer ∙ sym (arc_shown_at m c.args.position)
