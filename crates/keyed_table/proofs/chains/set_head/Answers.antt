use Rattle.std.proofs.Common.{refl}
use lib.Seq.{map-set, map-set_same}
use Rattle.keyed_table.specs.Chains.{height}
use Rattle.keyed_table.proofs.chains.set_head.Goals as goal

pub returns-then-i-slots : goal.returns-then-i-slots
returns-then-i-slots g c =
    record {
      items = map-set_same (λ s. s.item) c.args.slots.now c.args.i _ _ refl;
      heads = map-set (λ s. height s.head) c.args.slots.now c.args.i _;
      nexts = map-set_same (λ s. height s.next) c.args.slots.now c.args.i _ _ refl;
    }
