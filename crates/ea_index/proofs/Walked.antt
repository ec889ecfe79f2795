-- What an accepted walk of an array leaves to the walk that writes: what leads to the slots in use has passed its
-- tests. Assumes nothing.
use Prim.Native.Nat.{ℕ, ◌<◌}
use mathlib.Core.Path.{◌≡◌, refl, sym, ap, ◌∙◌}
use mathlib.Core.Bool.{Bool, true, false}
use mathlib.Core.List.{List}
use mathlib.Core.Logic.{⊎_elim}
use native.Mathlib.Omega.{arith}
use Rattle.std.specs.Prelude.{Err, Ok}
use Rattle.refusal.specs.declared.Refusal.{Refusal}
use Rattle.refusal.specs.Values.{counted_of}
use Rattle.refusal.proofs.Tests.{lt_or_ge}
use Rattle.refusal.proofs.Outcomes.{never, yields_inv}
use Rattle.refusal.proofs.Counts.{refused_inv}
use Rattle.fields.specs.Fields.{is_width}
use Rattle.element_form.specs.declared.Form.{Form}
use Rattle.elements.specs.Elements.{Elements}
use Rattle.located.proofs.Paths.{path-tested}
use Rattle.located.proofs.Walks.{Right}
use Rattle.walked_index.specs.Walked.{WalkedTo}
use Rattle.ea_geometry.specs.Extents.{form_of}
use Rattle.ea_blocks.specs.declared.ExtensibleArray.{ExtensibleArray}
use Rattle.ea_blocks.specs.Array.{Array}
use Rattle.ea_blocks.specs.Values.{IndexInFile, array_of}
use Rattle.ea_blocks.specs.Structures.{array_test}
use Rattle.ea_blocks.proofs.StructureTests.{array_passed, index_in_file}
use Rattle.ea_walk.specs.Walk.{located, from_inline, walk}
use Rattle.ea_walk.proofs.Walks.{walk_right}
use Rattle.ea_count.proofs.Heads.{unreadable_pointer, size_refused, unreadable_element}
use Rattle.ea_index.specs.Values.{PathTested}

module _ (f : List ℕ) (array : ExtensibleArray) (count s : ℕ)
    (w : WalkedTo (walk (array_of f array)) (form_of array.geometry.parameters array.geometry.offset_size) count f s) where
  abbrev a : Array
  a = array_of f array

  abbrev e : Elements
  e = w.elements

  right : Right (located a e) 0 w.list
  right = walk_right a e w.formed w.list w.accepts

  passed : (array_test a ≡ Ok tt) × (from_inline a e ≡ Ok w.list)
  unfolding walk
  passed = yields_inv _ _ w.list w.accepts

  not_refused : (q : Refusal) → Err q ≡ counted_of (from_inline a e) → ⊥
  not_refused q h = never q w.list (sym (refused_inv (from_inline a e) q h) ∙ passed.1)

  below : s < e.count
  below = omega (arith, w.below, w.counted)

  -- addresses have a width, since one is read
  wide : is_width a.offset_size ≡ true
  wide = go (is_width a.offset_size) refl
    where
      some : 0 < e.count
      some = omega (arith, below)

      go : (b : Bool) → is_width a.offset_size ≡ b → b ≡ true
      go true q = refl
      go false q =
          ⊎_elim
          (λ lt.
          let r = size_refused e.form (ap (λ (x : Form). is_width x.offset_size) (sym w.formed) ∙ q) in
          absurd (not_refused _ (unreadable_element a e some r.0 r.1 lt)))
          (λ ge. absurd (not_refused _ (unreadable_pointer a e some q (omega arith))))
          (lt_or_ge 0 a.parameters.idx_blk_elmts)

  -- the index block lies in the file, and the structures that lead to slot s have passed their tests
  pub walked_index : IndexInFile f array
  walked_index = let p = array_passed a passed.0 in index_in_file f array p.0 wide p.1

  pub walked_tested : PathTested (array_of f array) s
  walked_tested = path-tested (located a e) s _ (right.paths s (omega arith) below)
