-- The numbers by which C and the documents name refusals.
use Rattle.std.specs.Prelude.{ℕ, List, [], ◌∷◌}
use Rattle.refusal.specs.declared.Refusal.{Refusal}
use Rattle.refusal.specs.declared.Refusal.TheVariants.{OffsetSize, LengthSize, Rank, PresentRank, MaximumRank}
use Rattle.refusal.specs.declared.Refusal.TheVariants.{ChunkLength, Unlimited, TooManyChunks, ListTooSmall, Corner}
use Rattle.refusal.specs.declared.Refusal.TheVariants.{PastEnd, HeaderSignature, HeaderVersion, IndexBlockSignature}
use Rattle.refusal.specs.declared.Refusal.TheVariants.{DataBlockSignature, SuperBlockSignature, Checksum}
use Rattle.refusal.specs.declared.Refusal.TheVariants.{HeaderNotServed, ElementSize, SizeField, Size, SpanOverflow}
use Rattle.refusal.specs.declared.Refusal.TheVariants.{NumbersNothing, OffsetOverflow, FixedHeaderSignature}
use Rattle.refusal.specs.declared.Refusal.TheVariants.{FixedDataBlockSignature}

-- The number of each refusal ..
unfoldable pub number_of : Refusal → ℕ
number_of (OffsetSize _) = 1
number_of (LengthSize _) = 2
number_of Rank = 3
number_of PresentRank = 4
number_of MaximumRank = 5
number_of ChunkLength = 6
number_of Unlimited = 7
number_of TooManyChunks = 8
number_of (ListTooSmall _) = 9
number_of Corner = 10
number_of (PastEnd _ _) = 20
number_of HeaderSignature = 21
number_of (HeaderVersion _) = 22
number_of IndexBlockSignature = 23
number_of DataBlockSignature = 24
number_of SuperBlockSignature = 25
number_of (Checksum _ _) = 26
number_of HeaderNotServed = 27
number_of ElementSize = 28
number_of SizeField = 29
number_of (Size _) = 30
number_of (SpanOverflow _ _) = 31
number_of NumbersNothing = 32
number_of OffsetOverflow = 33
number_of FixedHeaderSignature = 34
number_of FixedDataBlockSignature = 35

-- .. and its figures: 0 where it has none.
unfoldable pub first_of : Refusal → ℕ
first_of (OffsetSize size) = size
first_of (LengthSize size) = size
first_of (ListTooSmall needed) = needed
first_of (PastEnd end length) = end
first_of (HeaderVersion version) = version
first_of (Checksum stored computed) = stored
first_of (Size value) = value
first_of (SpanOverflow address length) = address
first_of _ = 0

unfoldable pub second_of : Refusal → ℕ
second_of (PastEnd end length) = length
second_of (Checksum stored computed) = computed
second_of (SpanOverflow address length) = length
second_of _ = 0

-- a refusal as it is told: its number, and its figures
abbrev pub told : Refusal → List ℕ
told r = number_of r ∷ first_of r ∷ second_of r ∷ []
