-- What errors of the splitting and of the other offset calls are to a call that tells its nearness.
use Rattle.mesh_split.specs.declared.count.SplitError.{SplitError}
use Rattle.mesh_split.specs.declared.count.SplitError.TheVariants as split
use Rattle.mesh_offset.specs.declared.error.IntNearnessError.{IntNearnessError}
use Rattle.mesh_offset.specs.declared.error.IntNearnessError.TheVariants.{CoordinateOutOfRange, OutOfMemory, TooManySplits}
use Rattle.mesh_offset.specs.declared.error.IntOutlineError.{IntOutlineError}
use Rattle.mesh_offset.specs.declared.error.IntOutlineError.TheVariants as offset

abbrev pub of_splitting : SplitError → IntNearnessError
of_splitting split.OutOfMemory = OutOfMemory
of_splitting split.TooManySplits = TooManySplits

abbrev pub of_offset : IntOutlineError → IntNearnessError
of_offset offset.CoordinateOutOfRange = CoordinateOutOfRange
of_offset offset.OutOfMemory = OutOfMemory
