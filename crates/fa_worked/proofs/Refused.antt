-- What a list and a lookup are refused with, and what they don't look at, all computed.
use Prim.Native.Nat.{ℕ}
use mathlib.Core.Path.{◌≡◌, refl}
use mathlib.Core.List.{List, [], ◌∷◌, ◌++◌, map}
use lib.ListN.{set, replicate}
use Rattle.std.specs.Prelude.{Err, Ok, Some}
use Rattle.fa_worked.specs.Files.{list_of, lookup_in, Case}
use Rattle.fa_worked.specs.Pages.{file, grid, call_on, call, record_at_slot, chunks}
use Rattle.fa_worked.specs.Refused.{header_with, small, sized, sized_record, on_path, beside_path, in_element, list_only, unread}
use Rattle.fa_worked.proofs.Opened.{opened}
use Rattle.refusal.specs.declared.Refusal.TheVariants.{Corner}

abbrev all : List Case
all = on_path ++ beside_path ++ in_element ++ list_only

pub refuses : map (λ (x : Case). list_of x.call) all ≡ map (λ (x : Case). Err x.refusal) all
unfolding opened file grid call_on header_with small on_path beside_path in_element list_only
refuses = refl

-- A lookup tests its path, and only that.
pub tested : map (λ (x : Case). lookup_in x.call (10 ∷ 5 ∷ [])) on_path ≡ map (λ (x : Case). Err x.refusal) on_path
unfolding opened file grid call_on header_with on_path
tested = refl

pub untested : map (λ (x : Case). lookup_in x.call (10 ∷ 5 ∷ [])) beside_path ≡ replicate 3 (Ok (Some (record_at_slot 4 (10 ∷ 5 ∷ []))))
unfolding opened file grid call_on beside_path
untested = refl

pub element-tested : map (λ (x : Case). lookup_in x.call (0 ∷ 0 ∷ [])) in_element ≡ map (λ (x : Case). Err x.refusal) in_element
unfolding opened file grid call_on header_with small in_element
element-tested = refl

-- nor the page that was never written
pub spares : map (λ (pos : ℕ). list_of (call_on (set file pos 0))) unread ≡ replicate 4 (Ok chunks)
unfolding opened file grid call_on chunks unread
spares = refl

-- no room for a size, and the largest size
pub sizes : map list_of (call_on (sized 6 0) ∷ call_on (sized 10 0xffff_ffff) ∷ []) ≡ Ok (sized_record 0 ∷ []) ∷ Ok (sized_record 0xffff_ffff ∷ []) ∷ []
unfolding opened grid call_on header_with small
sizes = refl

-- 10 for a corner of another rank, one that isn't aligned, and one not below the extents, though slot 5 is its
pub corners : map (lookup_in call) ((10 ∷ []) ∷ (10 ∷ 5 ∷ 0 ∷ []) ∷ (10 ∷ 6 ∷ []) ∷ (30 ∷ 0 ∷ []) ∷ (10 ∷ 10 ∷ []) ∷ []) ≡ replicate 5 (Err Corner)
unfolding opened file grid call_on
corners = refl
