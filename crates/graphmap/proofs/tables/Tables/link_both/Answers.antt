use Rattle.std.proofs.Common.{sym, ◌∙◌}
use Rattle.graphmap.specs.States.{state}
use Rattle.graphmap.proofs.Composing.{both_of_loop, both_of_two}
use Rattle.graphmap.proofs.tables.Tables.link_both.Goals as goal

pub returns-then-eq : goal.returns-then-eq
returns-then-eq g c =
    let ends = c.args.ends in
    record { state = both_of_loop (state c.args.self.now) ends.source.index ends.target.index ends.source.key ends.target.key c.args.place _ (sym c.eq.ensures ∙ c.if-eq.true) c.link.ensures.state }

pub returns : goal.returns
returns g c =
    let ends = c.args.ends in
    record {
      state =
          both_of_two (state c.args.self.now) ends.source.index ends.target.index ends.source.key ends.target.key c.args.place _ _ _ (sym c.eq.ensures ∙ c.if-eq.false) c.partner.ensures
          c.link.ensures.state c.link-2.ensures.state;
    }
