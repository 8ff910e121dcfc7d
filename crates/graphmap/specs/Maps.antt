-- The map that a graph map stands for.
use Rattle.map_model.specs.Model.{Model}
use Rattle.map_layout.specs.Layout.{model}
use Rattle.graphmap.specs.declared.graphmap.GraphMap.{GraphMap}
use Rattle.graphmap.specs.States.{state}

abbrev pub map_model : {N E : Type 0} → GraphMap N E → Model N E
map_model m = model (state m.tables)
