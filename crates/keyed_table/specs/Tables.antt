-- What a table means.
use Rattle.std.specs.Prelude.{ℕ, List, length, drop}
use Rattle.keyed_table.specs.declared.slots.Item.{Item}
use Rattle.keyed_table.specs.declared.slots.Slot.{Slot}
use Rattle.keyed_table.specs.declared.table.KeyedTable.{KeyedTable}
use Rattle.keyed_table.specs.declared.table.items.Items.{Items}
use Rattle.keyed_table.specs.Chains.{listed, room_of}

-- the slots of a table as they stand
abbrev pub places : {K V : Type 0} → KeyedTable K V → List (Slot K V)
places t = t.slots.now

-- the items of a table, in table sequence
abbrev pub listing : {K V : Type 0} → KeyedTable K V → List (Item K V)
listing t = listed (places t) t.len

-- how many items a table can hold
abbrev pub room : {K V : Type 0} → KeyedTable K V → ℕ
room t = room_of (length (places t))

-- the items that an iterator over a table has not given yet
abbrev pub items_left : {K V : Type 0} → Items K V → List (Item K V)
items_left i = drop i.position (listing i.table.now)
