-- Every refusal has a number above 0. Assumes nothing.
use Prim.Native.Nat.{◌<◌}
use native.Mathlib.Omega.{arith}
use Rattle.refusal.specs.declared.Refusal.{Refusal}
use Rattle.refusal.specs.declared.Refusal.TheVariants.{OffsetSize, LengthSize, Rank, PresentRank, MaximumRank}
use Rattle.refusal.specs.declared.Refusal.TheVariants.{ChunkLength, Unlimited, TooManyChunks, ListTooSmall, Corner}
use Rattle.refusal.specs.declared.Refusal.TheVariants.{PastEnd, HeaderSignature, HeaderVersion, IndexBlockSignature}
use Rattle.refusal.specs.declared.Refusal.TheVariants.{DataBlockSignature, SuperBlockSignature, Checksum}
use Rattle.refusal.specs.declared.Refusal.TheVariants.{HeaderNotServed, ElementSize, SizeField, Size, SpanOverflow}
use Rattle.refusal.specs.declared.Refusal.TheVariants.{NumbersNothing, OffsetOverflow, FixedHeaderSignature}
use Rattle.refusal.specs.declared.Refusal.TheVariants.{FixedDataBlockSignature}
use Rattle.refusal.specs.Numbers.{number_of}

pub number_above : (r : Refusal) → 0 < number_of r
unfolding number_of
number_above (OffsetSize _) = omega arith
number_above (LengthSize _) = omega arith
number_above Rank = omega arith
number_above PresentRank = omega arith
number_above MaximumRank = omega arith
number_above ChunkLength = omega arith
number_above Unlimited = omega arith
number_above TooManyChunks = omega arith
number_above (ListTooSmall _) = omega arith
number_above Corner = omega arith
number_above (PastEnd _ _) = omega arith
number_above HeaderSignature = omega arith
number_above (HeaderVersion _) = omega arith
number_above IndexBlockSignature = omega arith
number_above DataBlockSignature = omega arith
number_above SuperBlockSignature = omega arith
number_above (Checksum _ _) = omega arith
number_above HeaderNotServed = omega arith
number_above ElementSize = omega arith
number_above SizeField = omega arith
number_above (Size _) = omega arith
number_above (SpanOverflow _ _) = omega arith
number_above NumbersNothing = omega arith
number_above OffsetOverflow = omega arith
number_above FixedHeaderSignature = omega arith
number_above FixedDataBlockSignature = omega arith
