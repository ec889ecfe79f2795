-- The form of an element: what stands in its bytes.
use Rattle.std.specs.Prelude.{ℕ, ◌+◌, ◌-◌, Bool, not, cond, ◌&&◌, eqb, ltb}
use Rattle.refusal.specs.declared.Refusal.TheVariants.{ElementSize}
use Rattle.refusal.specs.Refusals.{refuse, ◌then◌, Checked}
use Rattle.fields.specs.Fields.{offset_size_test}
use Rattle.element_form.specs.declared.Form.{Form}

-- Client 0 is unfiltered, any other client is filtered.
unfoldable pub filtered : Form → Bool
filtered f = not (eqb f.client_id 0)

-- Unfiltered, an element is an address; filtered, it has the bytes that the index says.
unfoldable pub stride : Form → ℕ
stride f = cond (filtered f) f.element_size f.offset_size

-- Filtered: address, size in (element size − offset size − 4) bytes, mask in 4.
unfoldable pub size_bytes : Form → ℕ
size_bytes f = f.element_size - (f.offset_size + 4)

-- 28 element size too small, ..
unfoldable pub room_test : Form → Checked
room_test f = refuse ElementSize (filtered f && ltb f.element_size (f.offset_size + 4))

-- .. before 1
unfoldable pub element_size_test : Form → Checked
element_size_test f = room_test f then offset_size_test f.offset_size
