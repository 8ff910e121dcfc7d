-- The two directions in which an arc is seen.
use Rattle.network.specs.declared.direction.CompactDirection.{CompactDirection}
use Rattle.network.specs.declared.direction.CompactDirection.TheVariants.{Outgoing, Incoming}

abbrev pub opposite : CompactDirection → CompactDirection
opposite Outgoing = Incoming
opposite Incoming = Outgoing
