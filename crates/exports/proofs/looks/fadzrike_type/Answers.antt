use Rattle.std.proofs.Common.{refl, ◌∙◌}
use Rattle.exports.specs.Looks.{absent, cannot, there}
use Rattle.exports.proofs.looks.fadzrike_type.Goals as goal

pub returns-in-Err : goal.returns-in-Err
returns-in-Err c = cannot c.in-Err.fault c.in-Err.ensures refl (c.no_type-in-Err.ensures ∙ c.end_of.ensures)

pub returns-in_default : goal.returns-in_default
returns-in_default c =
    let f = c.in-Ok.ensures in
    absent c.in-Ok.workload (f.0, f.1, f.2) c.in_default.ensures refl c.no_type-in_default.ensures

pub returns : goal.returns
returns c =
    let f = c.in-Ok.ensures in
    there c.in-Ok.workload (f.0, f.1, f.2)
    record {
      states = c.in-Some.ensures.1;
      root = c.in-Some-local_root.ensures.1;
      items = (c.in-Some-local_items.items, c.in-Some-local_items.ensures.1, c.put_set.ensures);
    }
    refl
