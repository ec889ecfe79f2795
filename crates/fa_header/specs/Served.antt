-- Which headers of fixed arrays are served.
use Rattle.std.specs.Prelude.{Bool, not, leb}
use Rattle.refusal.specs.declared.Refusal.TheVariants.{HeaderNotServed}
use Rattle.refusal.specs.Refusals.{refuse, Checked}
use Rattle.fa_header.specs.declared.FixedArrayHeader.{FixedArrayHeader}

-- A served header has a page exponent up to 32.
unfoldable pub fixed_served : FixedArrayHeader → Bool
fixed_served h = leb h.max_nelmts_bits 32

-- 27 header not served
unfoldable pub fixed_served_test : FixedArrayHeader → Checked
fixed_served_test h = refuse HeaderNotServed (not (fixed_served h))
