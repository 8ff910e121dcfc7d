use Rattle.std.proofs.Common.{map, refl, ap, ◌∙◌}
use Rattle.keyed_table.specs.Tables.{listing}
use Rattle.keyed_table.specs.Listing.{changed_at}
use Rattle.feedback_arc_set.proofs.Reading.{changed_values, changed_same}
use Rattle.feedback_arc_set.proofs.container.FasNodeContainer.set_node.Goals as goal

pub returns : goal.returns
returns c =
    let l = listing c.args.self.now.table in
    let e = c.set_at.ensures.listing ∙ ap (λ i. changed_at i c.args.node (listing c.args.self.now.table)) c.get.ensures in
    record {
      written = ap (map (λ x. x.value)) e ∙ changed_values l c.args.ix.value c.args.node;
      names = record {
        met = ap (map (λ x. x.number)) e ∙ changed_same (λ x. x.number) l c.args.ix.value c.args.node (λ x. refl);
        names = ap (map (λ x. x.key)) e ∙ changed_same (λ x. x.key) l c.args.ix.value c.args.node (λ x. refl);
        slots = c.set_at.ensures.size;
      };
    }
