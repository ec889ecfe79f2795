-- The file without pages: its list and lookups, and what they are refused with, all computed.
use Prim.Native.Nat.{ℕ}
use mathlib.Core.Path.{◌≡◌, refl}
use mathlib.Core.List.{[], ◌∷◌, ◌++◌, map}
use lib.ListN.{length, replicate}
use Rattle.std.specs.Prelude.{Err, None, Ok, Some}
use Rattle.fields.specs.LittleEndian.{le_bytes}
use Rattle.records.specs.Records.{list_content}
use Rattle.fa_worked.specs.Files.{list_of, list_in, lookup_in, Case}
use Rattle.fa_worked.specs.Unpaged.{file, grid, call_on, call, chunk, chunks, refusals}
use Rattle.fa_worked.proofs.Opened.{opened}
use Rattle.refusal.specs.declared.Refusal.TheVariants.{ListTooSmall}

pub long : length file ≡ 51
unfolding opened file
long = refl

pub listed : list_of call ≡ Ok chunks
unfolding opened file grid call_on chunks
listed = refl

-- slot 1 has an undefined address
pub found : map (λ (x : ℕ). lookup_in call (x ∷ [])) (0 ∷ 10 ∷ 20 ∷ 30 ∷ [])
    ≡ Ok (Some (chunk 4096 0)) ∷ Ok None ∷ Ok (Some (chunk 0xffff 20)) ∷ Ok (Some (chunk 8192 30)) ∷ []
unfolding opened file grid call_on
found = refl

-- 72 bytes hold the three records, one byte fewer is 9; bytes behind the last record stay.
pub fits : list_in call 72 ≡ Ok chunks
unfolding opened file grid call_on chunks
fits = refl

pub too_small : list_in call 71 ≡ Err (ListTooSmall 3)
unfolding opened file grid call_on
too_small = refl

pub written : list_content (list_in call 74) (replicate 74 7)
    ≡ le_bytes 8 4096 ++ le_bytes 4 40 ++ le_bytes 4 0 ++ le_bytes 8 0
    ++ le_bytes 8 0xffff ++ le_bytes 4 40 ++ le_bytes 4 0 ++ le_bytes 8 20
    ++ le_bytes 8 8192 ++ le_bytes 4 40 ++ le_bytes 4 0 ++ le_bytes 8 30
    ++ 7 ∷ 7 ∷ []
unfolding opened file grid call_on
written = refl

pub refuses : map (λ (x : Case). list_of x.call) refusals ≡ map (λ (x : Case). Err x.refusal) refusals
unfolding opened file grid call_on refusals
refuses = refl

pub tested : map (λ (x : Case). lookup_in x.call (30 ∷ [])) refusals ≡ map (λ (x : Case). Err x.refusal) refusals
unfolding opened file grid call_on refusals
tested = refl

-- ten elements of the largest size that a chunk's bytes can have
pub largest : lookup_in (call_on file 429_496_729) (30 ∷ [])
    ≡ Ok (Some (record { entry = record { address = 8192; size = 4_294_967_290; mask = 0 }; corner = 30 ∷ [] }))
unfolding opened file grid call_on
largest = refl
