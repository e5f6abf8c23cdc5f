-- The worked example, by computation. Assumes nothing.
use Rattle.std.proofs.Common.{refl}
use lib.Count.{ones, ones_in}
use Rattle.machine.specs.Examples.{CubeExample}

pub cube_example : CubeExample
unfolding ones ones_in
cube_example = record { plain = refl; waiting = refl }
