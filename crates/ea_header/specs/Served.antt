-- Which parameters are served.
use Rattle.std.specs.Prelude.{◌^◌, Bool, not, ◌&&◌, eqb, leb}
use Rattle.refusal.specs.declared.Refusal.TheVariants.{HeaderNotServed}
use Rattle.refusal.specs.Refusals.{refuse, Checked}
use Rattle.ea_header.specs.Log.{log2}
use Rattle.ea_header.specs.declared.Parameters.{Parameters}

-- A served header has least block elements that are a power of two, 1 to 128, max bits up to 62, a super block
-- minimum up to 32 and a page exponent up to 32.
unfoldable pub served : Parameters → Bool
served h =
    eqb h.min_dblk_nelmts (2 ^ log2 h.min_dblk_nelmts) && leb h.min_dblk_nelmts 128
    && leb h.max_nelmts_bits 62 && leb h.super_blk_min_nelmts 32 && leb h.max_dblk_nelmts_bits 32

-- 27 header not served
unfoldable pub served_test : Parameters → Checked
served_test h = refuse HeaderNotServed (not (served h))
