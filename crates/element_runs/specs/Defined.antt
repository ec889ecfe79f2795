-- Elements whose address is defined, among those of a run.
use Rattle.std.specs.Prelude.{ℕ, zero, suc, ◌+◌, ◌-◌, ◌^◌, Bool, cond, ◌&&◌, List, leb}
use Rattle.fields.specs.Fields.{undefined_at}
use Rattle.chunk_grid.specs.Grid.{Grid}
use Rattle.chunk_slots.specs.AllInside.{all_inside}
use Rattle.element_form.specs.declared.Form.{Form}
use Rattle.element_form.specs.Form.{filtered, size_bytes}
use Rattle.elements.specs.Elements.{chunk_bytes}

-- how many of n elements from pos on, of so many bytes each, are undefined in front of the first that is defined; o is
-- the size of an address
unfoldable pub undefined_run : List ℕ → ℕ → ℕ → ℕ → ℕ → ℕ
undefined_run file pos zero stride o = 0
undefined_run file pos (suc n) stride o =
    cond (undefined_at file pos o) (suc (undefined_run file (pos + stride) n stride o)) 0

-- how many of them are defined
unfoldable pub defined_count : List ℕ → ℕ → ℕ → ℕ → ℕ → ℕ
defined_count file pos zero stride o = 0
defined_count file pos (suc n) stride o =
    cond (undefined_at file pos o) 0 1 + defined_count file (pos + stride) n stride o

-- No size passes 2^32 − 1: filtered, it has 4 bytes at most; unfiltered, it is the chunk's bytes.
unfoldable pub sizes_fit : Form → Grid → ℕ → Bool
sizes_fit f g n = cond (filtered f) (leb (size_bytes f) 4) (leb (chunk_bytes g n) (2 ^ 32 - 1))

-- Nothing but an undefined address keeps an element of the first k slots from being a chunk's.
unfoldable pub all_chunks : Form → Grid → ℕ → ℕ → Bool
all_chunks f g n k = sizes_fit f g n && all_inside g k
