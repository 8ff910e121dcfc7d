use Rattle.std.proofs.Common.{refl}
use Rattle.linked_list.proofs.Linking.{holds_length, holds_within, listed_in, lists_apart, holds_read}
use Rattle.linked_list.proofs.laws.lists_stand.Goals as goal

pub returns : goal.returns
returns c =
    record {
      answer = refl;
      bounded = holds_length;
      there = λ L s l i h e. (holds_within L s l i h e, listed_in L _ l i h.linked e);
      apart = lists_apart;
      read = holds_read;
    }
