-- What the grids that a reader is made of say of its rank, and of the corners of slots. Assumes nothing.
use Prim.Native.Nat.{ℕ, ◌*◌, ◌≤◌}
use mathlib.Core.Path.{◌≡◌, sym, ap, subst, ◌∙◌}
use mathlib.Core.List.{List}
use native.Mathlib.Omega.{arith}
use lib.ListN.{length, take}
use Rattle.std.specs.Prelude.{Ok, true}
use Rattle.refusal.specs.Refusals.{figure}
use Rattle.chunk_grid.specs.Grid.{Grid, offsets, given}
use Rattle.chunk_grid.specs.Values.{grid_of, GridNumbers, in_extent, offsets_of}
use Rattle.chunk_grid.specs.declared.numbering.Numbering.{Numbering}
use Rattle.chunk_grid.specs.Numberings.{NumbersOf, ExtentsOf}
use Rattle.chunk_grid.proofs.Numberings.{of_any}
use Rattle.chunk_slots.proofs.AnyGrid.{rank_small}
use Rattle.chunk_grid.proofs.Grids.{accepted as grid_accepted}
use Rattle.chunk_slots.specs.Values.{handed}
use Rattle.chunk_slots.proofs.Handed.{handed_corner}
use Rattle.elements.specs.declared.ElementReader.{ElementReader}
use Rattle.elements.specs.Elements.{product, chunk_bytes}
use Rattle.elements.specs.Values.{Reads}

-- of any grid with its numbers
module _ {rank u : ℕ} {chunk down : List ℕ} {g : Grid} (n : GridNumbers rank u chunk down g) where
  pub small : rank ≤ 32
  small = rw n.ranked (grid_accepted g n.built).small

  pub many : length (take rank chunk) ≡ rank
  many = ap length n.chunks ∙ (grid_accepted g n.built).chunked ∙ sym n.ranked

  begins : (s : ℕ) → offsets_of (in_extent g s) ≡ Ok true → (l l' : List ℕ) → length l ≡ 32 → l' ≡ handed g s l → take rank l' ≡ offsets g s
  begins s h l l' k e =
      let fits : rank ≤ length l = omega (arith, k, small) in
      rw (e, n.ranked) (handed_corner g s n.built h l (rw n.ranked at fits))

module _ (r : ElementReader) where
  pub reads_rank : r.numbering.now.grid.now.rank ≤ 32
  reads_rank = rank_small r.numbering.now

  -- It reads a grid that its numbering's numbers are of, ..
  pub reads_grid : (g : Grid) → NumbersOf r.numbering.now g → ExtentsOf r.numbering.now g → Reads r g r.element_bytes
  unfolding chunk_bytes grid_of given
  reads_grid g n x = record { chunked = r.chunked ∙ ap (λ (l : List ℕ). figure (product l * r.element_bytes)) n.chunks; numbered = n; extended = x }

  pub reads_made : {m : Numbering} → r.numbering.now ≡ m → {n : ℕ} → r.element_bytes ≡ n → {g : Grid} → NumbersOf m g → ExtentsOf m g → Reads r g n
  reads_made a b {g = g} k x =
      subst (Reads r g) b (reads_grid g (subst (λ (y : Numbering). NumbersOf y g) (sym a) k) (subst (λ (y : Numbering). ExtentsOf y g) (sym a) x))

  -- .. and there is one: what holds of each that it reads, holds.
  pub reads_any : {P : Type 0} → IsProp P → ((grid : Grid) (n : ℕ) → Reads r grid n → P) → P
  reads_any prop f = of_any r.numbering.now prop (λ g n k x. f g r.element_bytes (reads_grid g n x))

  -- the corner of a slot's chunk begins a lent array that its offsets are handed over in
  pub inside_corner : (g : Grid) → NumbersOf r.numbering.now g → (s : ℕ) → offsets_of (in_extent g s) ≡ Ok true → (l l' : List ℕ) → length l ≡ 32
      → l' ≡ handed g s l → take r.numbering.now.grid.now.rank l' ≡ offsets g s
  inside_corner g n = begins n
