-- What any grid that a numbering's numbers are of says of them. Assumes nothing.
use Prim.Native.Nat.{ℕ, ◌-◌, ◌*◌, ◌<◌, ◌≤◌}
use mathlib.Core.Path.{◌≡◌}
use native.Mathlib.Bridge.{le_prop}
use native.Mathlib.Nat.{ℕ_set}
use lib.ListN.{length, get_or, take}
use Rattle.refusal.specs.Refusals.{largest64}
use Rattle.chunk_grid.specs.declared.numbering.Numbering.{Numbering}
use Rattle.chunk_grid.proofs.Numberings.{of_any}
use Rattle.chunk_slots.proofs.Extents.{small, leads, rooms, bound_room, chunk_pos, down_pos, offset_fits, place_at as at_place, place_end as at_end, down_at}

module _ (m : Numbering) where
  abbrev rank : ℕ
  rank = m.grid.now.rank

  pub rank_small : rank ≤ 32
  rank_small = of_any m le_prop (λ g n k x. small g _ _ _ _ n)

  pub leads_low : m.rotated ≤ rank - 1
  leads_low = of_any m le_prop (λ g n k x. leads g _ _ _ _ n)

  pub arrays_room : (rank ≤ length m.grid.now.chunk) × (rank ≤ length m.bound) × (rank ≤ length m.down)
  arrays_room = (
    of_any m le_prop (λ g n k x. (rooms g _ _ _ _ n).0),
    of_any m le_prop (λ g n k x. bound_room g _ _ _ _ n _ _ x),
    of_any m le_prop (λ g n k x. (rooms g _ _ _ _ n).1),
  )

  pub length_pos : (d : ℕ) → d < rank → 0 < get_or m.grid.now.chunk d 0
  length_pos d h = of_any m le_prop (λ g n k x. chunk_pos g _ _ _ _ n d h)

  pub multiplier_pos : (i : ℕ) → i < rank → 0 < get_or m.down i 0
  multiplier_pos i h = of_any m le_prop (λ g n k x. down_pos g _ _ _ _ n i h)

  pub offset_small : (q d : ℕ) → d < rank → q < get_or m.bound d 0 → q * get_or m.grid.now.chunk d 0 ≤ largest64
  offset_small q d h lt = of_any m le_prop (λ g n k x. offset_fits g _ _ _ _ n _ _ x q d h lt)

  -- a place among the multipliers of the dimensions, and the end of them
  pub place_at : (i : ℕ) → i < length (take rank m.down) → i < rank
  place_at i h = of_any m le_prop (λ g n k x. at_place g _ _ _ _ n i h)

  pub place_end : (i : ℕ) → length (take rank m.down) ≤ i → rank ≤ i
  place_end i h = of_any m le_prop (λ g n k x. at_end g _ _ _ _ n i h)

  pub multiplier_at : (i : ℕ) → i < length (take rank m.down) → get_or (take rank m.down) i 0 ≡ get_or m.down i 0
  multiplier_at i h = of_any m (ℕ_set _ _) (λ g n k x. down_at g _ _ _ _ n i h)
