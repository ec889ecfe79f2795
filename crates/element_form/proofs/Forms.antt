-- What the form of elements and the test of their size say of an element's bytes. Assumes nothing.
use Prim.Native.Nat.{ℕ, ◌+◌, ◌≤◌}
use mathlib.Core.Path.{◌≡◌, refl}
use mathlib.Core.Bool.{true, false}
use native.Mathlib.Omega.{arith}
use borrow.Author.Tests.{ltb-false, not-false}
use Rattle.std.specs.Prelude.{Ok}
use Rattle.refusal.proofs.Tests.{by_cond, refuse_inv, then_inv}
use Rattle.fields.specs.Fields.{is_width, width_test}
use Rattle.element_form.specs.declared.Form.{Form}
use Rattle.element_form.specs.Form.{filtered, stride, room_test, element_size_test}

module _ (f : Form) where
  -- the bytes of an element
  pub stride-plain : filtered f ≡ false → stride f ≡ f.offset_size
  unfolding stride
  stride-plain e = rw e refl

  pub stride-filtered : filtered f ≡ true → stride f ≡ f.element_size
  unfolding stride
  stride-filtered e = rw e refl

  -- what the test of their size leaves
  module _ (t : element_size_test f ≡ Ok tt) where
    pub sized_width : is_width f.offset_size ≡ true
    unfolding element_size_test width_test
    sized_width = not-false (is_width f.offset_size) (refuse_inv _ _ (then_inv _ _ t).1)

    pub sized-filtered : filtered f ≡ true → f.offset_size + 4 ≤ f.element_size
    unfolding element_size_test room_test
    sized-filtered e =
        let b = refuse_inv _ _ (then_inv _ _ t).0 in
        ltb-false f.element_size (f.offset_size + 4) (rw e at b)

    -- a filtered element that lies in n bytes
    pub filtered_room : filtered f ≡ true → (pos n : ℕ) → pos + stride f ≤ n → (f.offset_size + 4 ≤ f.element_size) × (pos + f.element_size ≤ n)
    filtered_room e pos n l = (sized-filtered e, omega (arith, stride-filtered e))

    -- an element begins with an address
    pub sized-stride : f.offset_size ≤ stride f
    unfolding stride
    sized-stride =
        by_cond (λ (n : ℕ). f.offset_size ≤ n) (filtered f) (λ e. omega (arith, sized-filtered e)) (λ e. omega arith)
