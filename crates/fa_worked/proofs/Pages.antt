-- The file with pages: its list and lookups, and files that hold nothing, all computed.
use Prim.Native.Nat.{ℕ}
use mathlib.Core.Path.{◌≡◌, refl}
use mathlib.Core.List.{List, [], ◌∷◌, map}
use lib.ListN.{length, replicate}
use Rattle.std.specs.Prelude.{None, Ok, Some}
use Rattle.fa_worked.specs.Files.{list_of, lookup_in}
use Rattle.fa_worked.specs.Pages.{file, grid, call_on, call, record_at_slot, chunks}
use Rattle.fa_worked.specs.Refused.{header_with, small}
use Rattle.fa_worked.proofs.Opened.{opened}

pub long : length file ≡ 101
unfolding opened file
long = refl

pub listed : list_of call ≡ Ok chunks
unfolding opened file grid call_on chunks
listed = refl

-- the chunks of slots 0, 4 and 6
pub found : map (lookup_in call) ((0 ∷ 0 ∷ []) ∷ (10 ∷ 5 ∷ []) ∷ (20 ∷ 0 ∷ []) ∷ [])
    ≡ Ok (Some (record_at_slot 0 (0 ∷ 0 ∷ []))) ∷ Ok (Some (record_at_slot 4 (10 ∷ 5 ∷ []))) ∷ Ok (Some (record_at_slot 6 (20 ∷ 0 ∷ []))) ∷ []
unfolding opened file grid call_on
found = refl

-- slot 1 with an undefined address, slot 3 in the clear page, slot 7 past the entries
pub absent : map (lookup_in call) ((0 ∷ 5 ∷ []) ∷ (10 ∷ 0 ∷ []) ∷ (20 ∷ 5 ∷ []) ∷ []) ≡ replicate 3 (Ok None)
unfolding opened file grid call_on
absent = refl

-- Where nothing was ever stored nothing is looked at but the page exponent: not the element size, nor a data block. An
-- array without entries holds nothing.
pub empty : map list_of (call_on (header_with 5 32 7 0xffff) ∷ call_on (small 8 0 []) ∷ []) ≡ replicate 2 (Ok [])
unfolding opened grid call_on header_with small
empty = refl

pub nothing_found : map (λ (f : List ℕ). lookup_in (call_on f) (10 ∷ 5 ∷ [])) (header_with 5 32 7 0xffff ∷ small 8 0 [] ∷ small 5 0 [] ∷ []) ≡ replicate 3 (Ok None)
unfolding opened grid call_on header_with small
nothing_found = refl
