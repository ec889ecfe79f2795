-- How many super blocks, data blocks, elements and pages there are: closed forms, and bounds for every served header.
-- Assumes nothing.
use Prim.Native.Nat.{ℕ, min, zero, suc, ◌+◌, ◌-◌, ◌*◌, ◌/◌, ◌%◌, ◌^◌, ◌<◌, ◌≤◌}
use mathlib.Core.Path.{◌≡◌, refl, sym, ap, subst, ◌∙◌}
use mathlib.Core.Bool.{true}
use native.Mathlib.Omega.{arith}
use native.Mathlib.Nat.{mul_comm, mul_left_comm, mul-add, mul-le-mul_left, div-le_self, div-mul-le_self}
use borrow.Author.Tests.{ltb-true}
use lib.Pow.{pow_pos, pow-add, pow_mono, shl-shr}
use Rattle.ea_header.specs.Log.{log2}
use Rattle.ea_header.specs.Values.{Served}
use Rattle.ea_header.specs.declared.Parameters.{Parameters}
use Rattle.refusal.proofs.Tests.{by_cond}
use Rattle.ea_header.proofs.Log.{exponent_lt}
use Rattle.ea_header.proofs.Served.{log_small}
use Rattle.ea_geometry.specs.Sizes.{super_blocks, blocks, block_elements, direct_super_blocks, blocks_before, direct_pointers, elements_before, page_elements, over_page, pages, bitmap_bytes}
use Rattle.structures.specs.PageBits.{bit_bytes}

-- what is left of n, before and after a turn of a loop
pub less : (n i : ℕ) → i < n → n - i ≡ suc (n - (i + 1))
less n i h = omega arith

pub next_power : (u : ℕ) → 2 ^ (u + 1) ≡ 2 * 2 ^ u
next_power u = pow-add 2 u 1 ∙ mul_comm (2 ^ u) 2

-- the data blocks of the super blocks before u
pub blocks_before_is : (u : ℕ) → blocks_before u ≡ 2 ^ ((u + 1) / 2) - 1 + (2 ^ (u / 2) - 1)
unfolding blocks_before blocks
blocks_before_is zero = refl
blocks_before_is (suc u) =
    let e : (suc u + 1) / 2 ≡ u / 2 + 1 = omega arith in
    let f : suc u / 2 ≡ (u + 1) / 2 = omega arith in
    let a = blocks_before_is u in
    let p = pow_pos (u / 2) in
    let q = pow_pos ((u + 1) / 2) in
    let t = next_power (u / 2) in
    rw (e, f) (omega arith)

pub blocks_before_le : (u v : ℕ) → u ≤ v → blocks_before u ≤ blocks_before v
blocks_before_le u v le =
    let a = blocks_before_is u in
    let b = blocks_before_is v in
    let p = pow_mono {i = (u + 1) / 2} {j = (v + 1) / 2} (omega arith) in
    let q = pow_mono {i = u / 2} {j = v / 2} (omega arith) in
    omega arith

-- the data blocks of super block u come before those of each later one
pub blocks_before_lt : (u v k : ℕ) → u < v → k < blocks u → blocks_before u + k < blocks_before v
unfolding blocks_before
blocks_before_lt u v k h lt = let a = blocks_before_le (suc u) v h in omega arith

-- the blocks of a super block have m * 2 ^ u elements together
pub in_all : (h : Parameters) (u : ℕ) → blocks u * block_elements h u ≡ h.min_dblk_nelmts * 2 ^ u
unfolding blocks block_elements
in_all h u =
    let e : u / 2 + (u + 1) / 2 ≡ u = omega arith in
    mul_left_comm (2 ^ (u / 2)) h.min_dblk_nelmts (2 ^ ((u + 1) / 2))
    ∙ ap (λ (x : ℕ). h.min_dblk_nelmts * x) (sym (pow-add 2 (u / 2) ((u + 1) / 2)) ∙ ap (λ (x : ℕ). 2 ^ x) e)

-- and those before it m * (2 ^ u - 1)
pub next_elements : (h : Parameters) (u : ℕ) → elements_before h u + blocks u * block_elements h u ≡ elements_before h (u + 1)
unfolding elements_before
next_elements h u =
    let p = pow_pos u in
    let q = next_power u in
    let half : 2 ^ u - 1 + 2 ^ u ≡ 2 ^ (u + 1) - 1 = omega arith in
    rw (in_all h u) (sym (mul-add h.min_dblk_nelmts (2 ^ u - 1) (2 ^ u)) ∙ ap (λ (x : ℕ). h.min_dblk_nelmts * x) half)

pub elements_before_mono : (h : Parameters) (u v : ℕ) → u ≤ v → elements_before h u ≤ elements_before h v
unfolding elements_before
elements_before_mono h u v le = mul-le-mul_left h.min_dblk_nelmts (omega (arith, pow_mono {i = u} {j = v} le))

-- the definition of which super blocks are named in the index block is opened here alone
pub direct_le : (h : Parameters) → direct_super_blocks h ≤ super_blocks h
unfolding direct_super_blocks
direct_le h = omega arith

module _ (h : Parameters) (v : Served h) where
  pub supers_few : super_blocks h ≤ 63
  unfolding super_blocks
  supers_few = let b = v.bits in omega arith

  -- the elements of a data block are a power of two
  pub elements_power : (u : ℕ) → block_elements h u ≡ 2 ^ (log2 h.min_dblk_nelmts + (u + 1) / 2)
  unfolding block_elements
  elements_power u = ap (λ (m : ℕ). m * 2 ^ ((u + 1) / 2)) v.power ∙ sym (pow-add 2 (log2 h.min_dblk_nelmts) ((u + 1) / 2))

  pub elements_pos : (u : ℕ) → 0 < block_elements h u
  elements_pos u = let e = elements_power u in let p = pow_pos (log2 h.min_dblk_nelmts + (u + 1) / 2) in omega arith

  -- up to the array's last element there are fewer than 2 ^ 63
  pub before_few : (u : ℕ) → u ≤ super_blocks h → h.min_dblk_nelmts * 2 ^ u ≤ 2 ^ 63
  unfolding super_blocks
  before_few u le =
      let l = log2 h.min_dblk_nelmts in
      let small = log_small h v in
      let b = v.bits in
      let m = pow_mono {i = l + u} {j = 63} (omega arith) in
      let e : h.min_dblk_nelmts * 2 ^ u ≡ 2 ^ (l + u) = ap (λ (m : ℕ). m * 2 ^ u) v.power ∙ sym (pow-add 2 l u) in
      omega arith

  pub elements_before_few : (u : ℕ) → u ≤ super_blocks h → elements_before h u ≤ 2 ^ 63
  unfolding elements_before
  elements_before_few u le =
      let fewer : 2 ^ u - 1 ≤ 2 ^ u = omega arith in
      omega (arith, mul-le-mul_left h.min_dblk_nelmts fewer, before_few u le)

  pub blocks_before_few : (u : ℕ) → u ≤ super_blocks h → blocks_before u < 2 ^ 33
  blocks_before_few u le =
      let few = supers_few in
      let a = blocks_before_is u in
      let p = pow_mono {i = (u + 1) / 2} {j = 32} (omega arith) in
      let q = pow_mono {i = u / 2} {j = 31} (omega arith) in
      omega arith

  pub direct_pointers_few : direct_pointers h < 2 ^ 33
  unfolding direct_pointers
  direct_pointers_few = blocks_before_few (direct_super_blocks h) (direct_le h)

  pub page_elements_few : page_elements h ≤ 2 ^ 32
  unfolding page_elements
  page_elements_few = pow_mono {i = h.max_dblk_nelmts_bits} {j = 32} v.page

  module _ (u : ℕ) (lt : u < super_blocks h) where
    pub blocks_few : blocks u ≤ 2 ^ 31
    unfolding blocks
    blocks_few = let few = supers_few in pow_mono {i = u / 2} {j = 31} (omega arith)

    pub elements_few : block_elements h u ≤ 2 ^ 35
    unfolding super_blocks
    elements_few =
        let l = log2 h.min_dblk_nelmts in
        let small = log_small h v in
        let b = v.bits in
        let e = elements_power u in
        let m = pow_mono {i = l + (u + 1) / 2} {j = 35} (omega arith) in
        omega arith

    -- a super block has at most 2 ^ 62 elements
    pub all_few : blocks u * block_elements h u ≤ 2 ^ 62
    all_few = let a = rw (next_power u) at (before_few (u + 1) (omega arith)) in omega (arith, in_all h u)

    pub pages_few : pages h u ≤ block_elements h u
    unfolding pages
    pages_few = div-le_self (block_elements h u) (page_elements h)

    pub bits_few : blocks u * pages h u ≤ 2 ^ 62
    bits_few = let a = mul-le-mul_left (blocks u) pages_few in let b = all_few in omega arith

    pub bitmap_few : blocks u * bit_bytes (pages h u) ≤ 2 ^ 62
    unfolding bit_bytes
    bitmap_few =
        let le : (pages h u + 7) / 8 ≤ pages h u = omega arith in
        let a = mul-le-mul_left (blocks u) le in
        let b = bits_few in
        omega arith

    pub bitmap_bytes_few : bitmap_bytes h u ≤ 2 ^ 62
    unfolding bitmap_bytes
    bitmap_bytes_few = by_cond (λ (n : ℕ). n ≤ 2 ^ 62) (over_page h u) (λ t. bitmap_few) (λ t. omega arith)

    -- the pages of a block hold no more elements than there are ..
    pub pages_fit : pages h u * page_elements h ≤ 2 ^ 35
    unfolding pages
    pages_fit = omega (arith, div-mul-le_self (block_elements h u) (page_elements h), elements_few)

    -- .. and those of a paged block fill it
    pub pages-exact : over_page h u ≡ true → pages h u * page_elements h ≡ block_elements h u
    unfolding pages page_elements over_page
    pages-exact t =
        let e = elements_power u in
        let x = log2 h.min_dblk_nelmts + (u + 1) / 2 in
        let g = h.max_dblk_nelmts_bits in
        let less : g < x = exponent_lt g x (subst (λ (k : ℕ). 2 ^ g < k) e (ltb-true (2 ^ g) (block_elements h u) t)) in
        let s : x - g + g ≡ x = omega arith in
        let q : block_elements h u ≡ 2 ^ (x - g) * 2 ^ g = e ∙ ap (λ (k : ℕ). 2 ^ k) (sym s) ∙ pow-add 2 (x - g) g in
        rw (q, shl-shr (2 ^ (x - g)) g) refl

-- bits in whole bytes, as the library rounds up
pub bytes_up : (n : ℕ) → n / 8 + min 1 (n % 8) ≡ bit_bytes n
unfolding bit_bytes
bytes_up n = omega arith
