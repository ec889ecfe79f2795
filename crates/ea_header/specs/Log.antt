-- The logarithm to base 2, rounded down.
use Rattle.std.specs.Prelude.{ℕ, zero, suc, ◌/◌, cond, ltb}

-- floor(log2 n) of an n from 1 on, in at most f halvings; 0 for n = 0
unfoldable pub log2_in : ℕ → ℕ → ℕ
log2_in zero n = 0
log2_in (suc f) n = let r = suc (log2_in f (n / 2)) in cond (ltb n 2) 0 r

-- 64 halvings are enough for every number below 2^65.
abbrev pub log2 : ℕ → ℕ
log2 n = log2_in 64 n
