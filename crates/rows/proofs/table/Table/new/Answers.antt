-- Each field is laid by a function of its own, and the costs are laid already.
use Rattle.rows.proofs.table.Table.new.Goals as goal

pub returns : goal.returns
returns c =
    record {
      trains_held = c.trains.ensures;
      scale_held = c.scale.ensures;
      bound_held = c.published.ensures;
      sizes = c.sizes.ensures;
      ends = c.rows.ensures.ends;
      bases = c.rows.ensures.bases;
      begins = c.begins.ensures;
      rows = λ k d a h. c.requires k h d a;
    }
