-- What the code's values stand for.
use Rattle.std.specs.Prelude.{◌^◌, ◌≤◌, ◌≡◌}
use Rattle.ea_header.specs.declared.Parameters.{Parameters}
use Rattle.ea_header.specs.Log.{log2}

-- what served parameters keep to, as facts, for functions that are called on them only
pub record Served (h : Parameters) : Type 0 where
  pub power : h.min_dblk_nelmts ≡ 2 ^ log2 h.min_dblk_nelmts
  pub least : h.min_dblk_nelmts ≤ 128
  pub bits : h.max_nelmts_bits ≤ 62
  pub minimum : h.super_blk_min_nelmts ≤ 32
  pub page : h.max_dblk_nelmts_bits ≤ 32
