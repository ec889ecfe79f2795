-- Bob Jenkins' lookup3.c, hashlittle, on a list of bytes. A 32-bit word is a number below 2 ^ 32.
use Rattle.std.specs.Prelude.{ℕ, zero, suc, ◌+◌, ◌-◌, ◌*◌, ◌/◌, ◌%◌, ◌^◌, List, [], ◌∷◌, length, drop, bit_or, bit_xor}
use Rattle.fields.specs.LittleEndian.{le_at}
use Rattle.checksum.specs.declared.Words.{Words}

-- a + b and a - b in 32-bit words
abbrev pub add32 : ℕ → ℕ → ℕ
add32 a b = (a + b) % 2 ^ 32

abbrev pub sub32 : ℕ → ℕ → ℕ
sub32 a b = (a + (2 ^ 32 - b)) % 2 ^ 32

-- rot(x, k): (x << k) | (x >> (32 - k))
unfoldable pub rotated : ℕ → ℕ → ℕ
rotated x k = bit_or (x * 2 ^ k % 2 ^ 32) (x / 2 ^ (32 - k))

-- One line of mix, here a -= c; a ^= rot(c, k); c += b. Each line does to b, c, a what the line before did to a, b, c:
-- the words come back under the names that they have in the next line.
unfoldable pub mix_line : ℕ → Words → Words
mix_line k w = record { a = w.b; b = add32 w.c w.b; c = bit_xor (sub32 w.a w.c) (rotated w.c k) }

-- mix(a, b, c): six lines; after six the words have their own names again
unfoldable pub mixed : Words → Words
mixed w = mix_line 4 (mix_line 19 (mix_line 16 (mix_line 8 (mix_line 6 (mix_line 4 w)))))

-- One line of final, here c ^= b; c -= rot(b, k). Each line does to b, c, a what the line before did to a, b, c:
-- the words come back under the names that they have in the next line.
unfoldable pub final_line : ℕ → Words → Words
final_line k w = record { a = w.b; b = sub32 (bit_xor w.c w.b) (rotated w.b k); c = w.a }

-- final(a, b, c): seven lines, and the words back under their own names
unfoldable pub final_mixed : Words → Words
final_mixed w =
    let v = final_line 24
    (final_line 14 (final_line 4 (final_line 16 (final_line 25 (final_line 11 (final_line 14 w)))))) in
    record { a = v.c; b = v.a; c = v.b }

-- a += k[0]; b += k[1]; c += k[2], the first 12 bytes of s as three words. In the tail a byte that is not there adds
-- nothing.
unfoldable pub added : Words → List ℕ → Words
added w s = record { a = add32 w.a (le_at s 0 4); b = add32 w.b (le_at s 4 4); c = add32 w.c (le_at s 8 4) }

-- n blocks of 12 bytes, each added and mixed; then the tail, the last 1 to 12 bytes, added and mixed for the last
-- time: the hash is c
unfoldable pub blocks : ℕ → Words → List ℕ → ℕ
blocks zero w s = (final_mixed (added w s)).c
blocks (suc n) w s = blocks n (mixed (added w s)) (drop 12 s)

-- a = b = c = 0xdeadbeef + length + initval
abbrev pub seed : ℕ → ℕ → ℕ
seed n initval = (0xdead_beef + n + initval) % 2 ^ 32

abbrev pub seeded : ℕ → Words
seeded x = record { a = x; b = x; c = x }

-- hashlittle(s, length, initval): of no bytes the seed; otherwise blocks while more than 12 bytes are left
unfoldable pub hashlittle : List ℕ → ℕ → ℕ
hashlittle [] initval = seed 0 initval
hashlittle (x ∷ s) initval = blocks (length s / 12) (seeded (seed (suc (length s)) initval)) (x ∷ s)

-- HDF5's metadata checksum: start value 0
unfoldable pub lookup3 : List ℕ → ℕ
lookup3 s = hashlittle s 0
