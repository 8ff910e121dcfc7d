-- The weight of an arc, as the tables have it.
use Rattle.std.proofs.Common.{◌≡◌, Some, None, Option, sym, refl, ap, ◌∙◌}
use Rattle.std.specs.Option.{option_map}
use Rattle.keys.specs.declared.node_index.NodeIndex.{NodeIndex}
use Rattle.keyed_table.specs.Listing.{value_at}
use Rattle.map_model.specs.Lists.{found}
use Rattle.map_model.specs.Model.{weight_of, weight_at}
use Rattle.map_layout.specs.declared.records.ArcRecord.{ArcRecord}
use Rattle.map_layout.specs.Layout.{State, ArcItem, numbered, model}
use Rattle.map_layout.specs.Edits.{ends_number}
use Rattle.map_layout.proofs.Items.{value_of, value_found}
use Rattle.map_layout.proofs.EdgeRemoving.{arc_found}

abbrev pub weight_in : {N E : Type 0} → ArcRecord N E → E
weight_in r = r.weight

module _ {N E : Type 0} (st : State N E) (i j : NodeIndex) where
  weight_by : (o : Option (ArcItem N E)) → found (numbered (ends_number i j)) st.arcs ≡ o → weight_at i.value j.value (model st).arcs ≡ option_map weight_in (option_map value_of o)
  weight_by None e = ap weight_of (arc_found st i j None e)
  weight_by (Some y) e = ap weight_of (arc_found st i j (Some y) e)

  pub weight_here : weight_at i.value j.value (model st).arcs ≡ option_map weight_in (value_at (ends_number i j) st.arcs)
  weight_here = weight_by _ refl ∙ ap (option_map weight_in) (sym (value_found (ends_number i j) st.arcs))
