use Rattle.std.proofs.Common.{div-le_self}
use native.Mathlib.Nat.{dvd_refl, pos_of_dvd_of_pos}
use Rattle.clock.proofs.Periods.{groups_are}
use Rattle.clock.proofs.divider.count.fewest_groups.Goals as goal

pub nonzero_div-result : goal.nonzero_div-result
nonzero_div-result c =
    let g = c.greatest_common_divisor.result in
    pos_of_dvd_of_pos ((c.greatest_common_divisor.ensures g).1 (dvd_refl g)).1 c.requires.some_count

pub returns : goal.returns
returns c = record {
  is = groups_are _ c.requires c.greatest_common_divisor.result c.greatest_common_divisor.ensures;
  few = div-le_self c.args.k c.greatest_common_divisor.result;
}
