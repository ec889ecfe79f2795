-- The list of the file with two chunks, computed.
use mathlib.Core.Path.{◌≡◌, refl}
use mathlib.Core.List.{[], ◌∷◌, ◌++◌}
use lib.ListN.{length, replicate}
use Rattle.std.specs.Prelude.{Err, Ok}
use Rattle.fields.specs.LittleEndian.{le_bytes}
use Rattle.records.specs.Records.{list_content}
use Rattle.ea_worked.specs.Files.{list_at, list_in}
use Rattle.ea_worked.specs.Worked.{file, grid, sample, chunks}
use Rattle.ea_worked.proofs.Opened.{opened}
use Rattle.refusal.specs.declared.Refusal.TheVariants.{ListTooSmall}

pub long : length file ≡ 504
unfolding opened file
long = refl

pub listed : list_at file 0 8 8 grid 4 ≡ Ok chunks
unfolding opened file grid chunks
listed = refl

-- 48 bytes hold the two records, one byte fewer is 9; bytes behind the last record stay.
pub fits : list_in sample 48 ≡ Ok chunks
unfolding opened file grid sample chunks
fits = refl

pub too_small : list_in sample 47 ≡ Err (ListTooSmall 2)
unfolding opened file grid sample
too_small = refl

pub written : list_content (list_in sample 50) (replicate 50 7)
    ≡ le_bytes 8 4096 ++ le_bytes 4 40 ++ le_bytes 4 0 ++ le_bytes 8 0 ++ le_bytes 8 8192 ++ le_bytes 4 40 ++ le_bytes 4 0 ++ le_bytes 8 20 ++ 7 ∷ 7 ∷ []
unfolding opened file grid sample
written = refl
