-- `Locator::is_locator` meets its contract: the run ends in the header where the last byte that it touches does. Assumes nothing.
use Rattle.locator.specs.Locator.{first_bit, locator_width, locator_header, is_locator}
use Rattle.number.specs.Numbers.{max_bytes}
use Rattle.locator.proofs.Reached.{inside_is, within-is}
use Rattle.locator.proofs.Locator.is_locator.Goals as goal

pub returns : goal.returns
unfolding is_locator
returns c =
    let p = c.args.self in
    rw (c.has_shape.ensures, c.over_max.ensures, c.byte_pos.ensures, c.touched.ensures, within-is (locator_header p) max_bytes, inside_is (first_bit p) (locator_width p) (locator_header p))
