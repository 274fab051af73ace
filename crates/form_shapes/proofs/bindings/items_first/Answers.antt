use Rattle.form_shapes.proofs.Counts.{leaf_items}
use Rattle.form_shapes.proofs.bindings.items_first.Goals as goal

pub returns-in-Leaf : goal.returns-in-Leaf
returns-in-Leaf c =
    record {
      is = leaf_items c.args.arguments.now _ c.in-Leaf.field-0 c.in-Leaf.field-1 c.in-Some.field-0-1 c.count.result (rw c.in-Leaf.is at c.in-Some.ensures.some) c.count.ensures.is c.rest-in-Leaf.ensures.is;
      small = c.rest-in-Leaf.ensures.small;
    }
