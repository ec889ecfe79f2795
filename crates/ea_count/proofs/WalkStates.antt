-- What the counting walk has come to, and each step from there. Assumes nothing.
use Prim.Native.Nat.{ℕ, ◌+◌, ◌-◌, ◌*◌, ◌^◌, ◌<◌, ◌≤◌}
use mathlib.Core.Path.{◌≡◌, refl, sym, ap, subst, ◌∙◌}
use mathlib.Core.Bool.{true, false, ◌&&◌}
use mathlib.Core.List.{[]}
use mathlib.Core.Logic.{◌⊎◌, ⊎_elim}
use native.Mathlib.Omega.{arith}
use native.Mathlib.Nat.{mul-le-mul_right}
use lib.Dec.{leb}
use Rattle.std.specs.Prelude.{Err, None, Ok, Option, Some}
use Rattle.refusal.specs.Refusals.{Outcome}
use Rattle.refusal.specs.declared.Refusal.{Refusal}
use Rattle.refusal.specs.Values.{plus, counted_of}
use Rattle.refusal.proofs.Tests.{lt_or_ge}
use Rattle.refusal.proofs.Counts.{plus_none}
use Rattle.index.specs.Index.{Listing}
use Rattle.elements.specs.declared.ElementReader.{ElementReader}
use Rattle.elements.specs.Elements.{Elements}
use Rattle.elements.specs.Runs.{elements_from, pages_from}
use Rattle.chunk_grid.specs.Grid.{Grid}
use Rattle.elements.specs.Values.{elements_of, Reads}
use Rattle.elements.proofs.Runs.{run_count, run_refused}
use Rattle.elements.proofs.Pages as page_turns
use Rattle.ea_header.specs.declared.Parameters.{Parameters}
use Rattle.ea_header.specs.Values.{Served}
use Rattle.ea_geometry.specs.Sizes.{super_blocks, blocks, block_elements, direct_super_blocks, page_elements, pages}
use Rattle.ea_geometry.specs.Extents.{element_stride, element_at, block_element_at}
use Rattle.ea_geometry.specs.Place.{in_pages}
use Rattle.ea_geometry.specs.Slots.{first_slot}
use Rattle.ea_geometry.proofs.Counts.{elements_before_few, pages-exact}
use Rattle.ea_geometry.proofs.Places.{in_pages_over, next_slot}
use Rattle.ea_blocks.specs.declared.BoundedArray.{BoundedArray}
use Rattle.ea_blocks.specs.Array.{Array}
use Rattle.ea_blocks.specs.Values.{array_in}
use Rattle.ea_blocks.specs.Structures.{pages_of, is_direct, block_at}
use Rattle.ea_blocks.specs.Entered.{EnteredSuper, EnteredBlock, EnteredPage}
use Rattle.ea_blocks.proofs.StructureTests.{is_direct_lem, not_direct}
use Rattle.ea_walk.specs.Walk.{blocks_from, supers_from}
use Rattle.ea_walk.proofs.Turns as turns

module _ (array : BoundedArray) (r : ElementReader) (first begin end : ℕ) where
  abbrev h : Parameters
  h = array.extents.sizes.parameters

  abbrev a : Array
  a = array_in array

  -- the elements of a grid and element size, and what holds of those of each that the reader is made of
  abbrev read : Grid → ℕ → Elements
  read grid n = elements_of array.file.now r grid n

  abbrev Every : (Elements → Type 0) → Type 0
  Every P = (grid : Grid) (n : ℕ) → Reads r grid n → P (read grid n)

  -- the whole
  abbrev whole : Elements → Outcome ℕ
  whole es = plus first (supers_from a es (end - begin) begin (first_slot h begin) (Ok []))

  -- what is left behind super block u, and behind its data block k
  abbrev behind_super : ℕ → Elements → Listing
  behind_super u es = supers_from a es (end - (u + 1)) (u + 1) (first_slot h (u + 1)) (Ok [])

  abbrev behind_block : ℕ → ℕ → Elements → Listing
  behind_block u k es = blocks_from a es u (blocks u - (k + 1)) (k + 1) (first_slot h u + (k + 1) * block_elements h u) (behind_super u es)

  -- with what is counted, this is the whole
  abbrev Left : ℕ → (Elements → Listing) → Type 0
  Left total rest = Every (λ es. plus total (rest es) ≡ whole es)

  -- done, with this count or refusal
  abbrev pub Done : Outcome ℕ → Type 0
  Done answer = Every (λ es. answer ≡ whole es)

  -- n elements from pos on, of the slots from s on, are counted, or refused
  abbrev pub Counts : ℕ → ℕ → ℕ → Outcome ℕ → Type 0
  Counts pos j s x = Every (λ es. x ≡ counted_of (elements_from es pos j s (Ok [])))

  -- at super block u, `total` records counted
  pub record AtSuper (total slot u : ℕ) : Type 0 where
    pub few : total ≤ slot
    pub at : slot ≡ first_slot h u
    pub rest : Left total (λ es. supers_from a es (end - u) u slot (Ok []))

  -- at its data block k
  pub record AtBlock (total slot u : ℕ) (super : Option ℕ) (k : ℕ) : Type 0 where
    pub few : total ≤ slot
    pub at : slot ≡ first_slot h u + k * block_elements h u
    pub entered : EnteredSuper a u (Ok (Some super))
    pub rest : Left total (λ es. blocks_from a es u (blocks u - k) k slot (behind_super u es))

  -- at page p of it, which begins at slot `from`
  pub record AtPage (total from slot u : ℕ) (super : Option ℕ) (k block p : ℕ) : Type 0 where
    pub few : total ≤ from
    pub at : from ≡ slot + p * page_elements h
    pub begins : slot ≡ first_slot h u + k * block_elements h u
    pub entered : EnteredSuper a u (Ok (Some super))
    pub inside : EnteredBlock a u k (Ok (Some block))
    pub rest : Left total (λ es. pages_from es (pages_of a u k) (pages h u - p) p from (behind_block u k es))

  -- behind data block k
  pub record BehindBlock (total slot u : ℕ) (super : Option ℕ) (k : ℕ) : Type 0 where
    pub few : total ≤ slot + block_elements h u
    pub at : slot ≡ first_slot h u + k * block_elements h u
    pub entered : EnteredSuper a u (Ok (Some super))
    pub rest : Left total (behind_block u k)

  pub at_first : first ≤ first_slot h begin → AtSuper first (first_slot h begin) begin
  at_first le = record { few = le; at = refl; rest = λ grid n x. refl }

  module _ (total slot u : ℕ) (s : AtSuper total slot u) where
    pub supers_done : end ≤ u → Done (Ok total)
    supers_done le = λ grid n q. let es = read grid n in sym (plus_none total _ (turns.supers_none a es end u slot (Ok []) le)) ∙ s.rest grid n q

    pub super_ended : r.count ≤ slot → Done (Ok total)
    super_ended le = λ grid n q. let es = read grid n in sym (plus_none total _ (turns.supers_past a es (end - u) u slot (Ok []) le)) ∙ s.rest grid n q

    module _ (lt : u < end) (b : slot < r.count) where
      next_at : slot + blocks u * block_elements h u ≡ first_slot h (u + 1)
      next_at = ap (λ (x : ℕ). x + blocks u * block_elements h u) s.at ∙ next_slot h u

      pub super_skip : EnteredSuper a u (Ok None) → AtSuper total (slot + blocks u * block_elements h u) (u + 1)
      super_skip e = record {
        few = let x = s.few in omega arith;
        at = next_at;
        rest = λ grid n q. ap (plus total) (sym (turns.supers_undefined a (read grid n) end u slot (Ok []) lt b e.0 e.1)) ∙ s.rest grid n q;
      }

      pub super_refused : (x : Refusal) → EnteredSuper a u (Err x) → Done (Err x)
      unfolding plus
      super_refused x e = λ grid n q.
          ap (plus total) (sym (turns.supers_refused a (read grid n) end u slot (Ok []) lt b e.0 e.1 x e.2)) ∙ s.rest grid n q

      pub super_in : (super : Option ℕ) → EnteredSuper a u (Ok (Some super)) → AtBlock total slot u super 0
      super_in super e = record {
        few = s.few;
        at = let x = s.at in omega arith;
        entered = e;
        rest = λ grid n q.
            let es = read grid n in
            subst (λ (x : ℕ). plus total (blocks_from a es u (blocks u - 0) 0 slot (supers_from a es (end - (u + 1)) (u + 1) x (Ok []))) ≡ whole es) next_at
            (ap (plus total) (sym (into es refl)) ∙ s.rest grid n q);
      }
        where
          into : (es : Elements) → r.count ≡ es.count → supers_from a es (end - u) u slot (Ok [])
              ≡ blocks_from a es u (blocks u - 0) 0 slot (supers_from a es (end - (u + 1)) (u + 1) (slot + blocks u * block_elements h u) (Ok []))
          into es c = at_entered super e
            where
              below : slot < es.count
              below = omega arith

              at_entered : (o : Option ℕ) → EnteredSuper a u (Ok (Some o))
                  → supers_from a es (end - u) u slot (Ok [])
                  ≡ blocks_from a es u (blocks u - 0) 0 slot (supers_from a es (end - (u + 1)) (u + 1) (slot + blocks u * block_elements h u) (Ok []))
              at_entered None d = turns.supers_direct a es end u slot (Ok []) lt below d
              at_entered (Some at) d = turns.supers_tested a es end u slot (Ok []) lt below d.0 d.1 d.2

  -- behind the last data block
  pub blocks_done : (total slot u : ℕ) (super : Option ℕ) (k : ℕ) → AtBlock total slot u super k → k ≡ blocks u → AtSuper total slot (u + 1)
  blocks_done total slot u super k s e =
      let last : slot ≡ first_slot h (u + 1) = s.at ∙ ap (λ (x : ℕ). first_slot h u + x * block_elements h u) e ∙ next_slot h u in
      record {
        few = s.few;
        at = last;
        rest = λ grid n q.
            let es = read grid n in
            subst (λ (x : ℕ). plus total (supers_from a es (end - (u + 1)) (u + 1) x (Ok [])) ≡ whole es) (sym last)
            (ap (plus total) (sym (turns.blocks_none a es u (blocks u) k slot (behind_super u es) (let z : blocks u ≤ k = omega arith in z))) ∙ s.rest grid n q);
      }

  -- behind data block k comes the next
  pub block-behind : (total slot u : ℕ) (super : Option ℕ) (k : ℕ) → BehindBlock total slot u super k → AtBlock total (slot + block_elements h u) u super (k + 1)
  block-behind total slot u super k s = record {
    few = s.few;
    at = next s.at;
    entered = s.entered;
    rest = λ grid n q.
        let es = read grid n in
        subst (λ (x : ℕ). plus total (blocks_from a es u (blocks u - (k + 1)) (k + 1) x (behind_super u es)) ≡ whole es) (sym (next s.at)) (s.rest grid n q);
  }
    where
      next : slot ≡ first_slot h u + k * block_elements h u → slot + block_elements h u ≡ first_slot h u + (k + 1) * block_elements h u
      next e = omega arith

  module _ (total slot u : ℕ) (super : Option ℕ) (k : ℕ) (s : AtBlock total slot u super k) (lt : k < blocks u) where
    -- what is left behind this block, as the turn's law has it
    behind_is : (es : Elements) → blocks_from a es u (blocks u - (k + 1)) (k + 1) (slot + block_elements h u) (behind_super u es) ≡ behind_block u k es
    behind_is es =
        let e = s.at in
        let z : slot + block_elements h u ≡ first_slot h u + (k + 1) * block_elements h u = omega arith in
        ap (λ (x : ℕ). blocks_from a es u (blocks u - (k + 1)) (k + 1) x (behind_super u es)) z

    -- the count ends the data blocks that the index block names, and with them the walk
    pub block_ended : u < direct_super_blocks h → r.count ≤ slot → Done (Ok total)
    block_ended d le = λ grid n q.
        let es = read grid n in
        sym (plus_none total _ (turns.blocks_ended a es u (blocks u) k slot (behind_super u es) lt (is_direct_lem a u d) le ∙ turns.supers_past a es _ (u + 1) _ (Ok []) past))
        ∙ s.rest grid n q
      where
        past : r.count ≤ first_slot h (u + 1)
        past =
            let e = s.at in
            let m = mul-le-mul_right {m = k} {n = blocks u} (block_elements h u) (omega arith) in
            omega (arith, next_slot h u)

    -- the count doesn't end it
    module _ (open' : (u < direct_super_blocks h → slot < r.count)) (side : (u < direct_super_blocks h) ⊎ (direct_super_blocks h ≤ u)) where
      goes : (grid : Grid) (n : ℕ) → is_direct a u && leb r.count slot ≡ false
      goes grid n =
          ⊎_elim (λ (d : u < direct_super_blocks h). turns.below_count a (read grid n) u slot (is_direct_lem a u d) (open' d))
          (λ (d : direct_super_blocks h ≤ u). turns.not_direct a (read grid n) u slot (not_direct a u d)) side

      pub block_skip : EnteredBlock a u k (Ok None) → BehindBlock total slot u super k
      block_skip e = record {
        few = let x = s.few in omega arith;
        at = s.at;
        entered = s.entered;
        rest = λ grid n q.
            let es = read grid n in
            ap (plus total) (sym (behind_is es) ∙ sym (turns.blocks-undefined a es u (blocks u) k slot (behind_super u es) lt (goes grid n) e)) ∙ s.rest grid n q;
      }

      pub block_refused : (x : Refusal) → EnteredBlock a u k (Err x) → Done (Err x)
      unfolding plus
      block_refused x e = λ grid n q.
          let es = read grid n in
          ap (plus total) (sym (turns.blocks_refused a es u (blocks u) k slot (behind_super u es) lt (goes grid n) e.0 x e.1)) ∙ s.rest grid n q

      module _ (block : ℕ) (e : EnteredBlock a u k (Ok (Some block))) where
        -- read unpaged
        module _ (q : in_pages h u ≡ false) (pos : ℕ) (p : pos ≡ block_at a u k + block_element_at h a.offset_size 0) where
          turn : Left total (λ es. elements_from es pos (block_elements h u) slot (behind_block u k es))
          turn = λ grid n y.
              let es = read grid n in
              ap (plus total)
              (ap (λ (x : ℕ). elements_from es x (block_elements h u) slot (behind_block u k es)) p
              ∙ ap (elements_from es (block_at a u k + block_element_at h a.offset_size 0) (block_elements h u) slot) (sym (behind_is es))
              ∙ sym (turns.blocks_unpaged a es u (blocks u) k slot (behind_super u es) lt (goes grid n) e.0 e.1 q))
              ∙ s.rest grid n y

          pub block_run : (m : ℕ) → m ≤ block_elements h u → Counts pos (block_elements h u) slot (Ok m) → BehindBlock (total + m) slot u super k
          block_run m le c = record {
            few = let x = s.few in omega arith;
            at = s.at;
            entered = s.entered;
            rest = λ grid n y.
                let es = read grid n in
                sym (run_count es pos (block_elements h u) slot m (sym (c grid n y)) total (behind_block u k es)) ∙ turn grid n y;
          }

          pub block_run_refused : (x : Refusal) → Counts pos (block_elements h u) slot (Err x) → Done (Err x)
          block_run_refused x c = λ grid n y.
              let es = read grid n in
              sym (run_refused es pos (block_elements h u) slot x (sym (c grid n y)) total (behind_block u k es)) ∙ turn grid n y

        -- read by pages
        pub block-pages : in_pages h u ≡ true → AtPage total slot slot u super k block 0
        block-pages q = record {
          few = s.few;
          at = omega arith;
          begins = s.at;
          entered = s.entered;
          inside = e;
          rest = λ grid n y.
              let es = read grid n in
              ap (plus total)
              (ap (pages_from es (pages_of a u k) (pages h u - 0) 0 slot) (sym (behind_is es))
              ∙ sym (turns.blocks_paged a es u (blocks u) k slot (behind_super u es) lt (goes grid n) e.0 e.1 q))
              ∙ s.rest grid n y;
        }

  module _ (total from slot u : ℕ) (super : Option ℕ) (k block p : ℕ) (s : AtPage total from slot u super k block p) where
    -- behind the last page
    pub pages_done : pages h u ≤ p → pages h u * page_elements h ≡ block_elements h u → p ≤ pages h u → BehindBlock total slot u super k
    pages_done le exact ge =
        let z : p ≡ pages h u = omega arith in
        let y : from ≡ slot + block_elements h u = s.at ∙ ap (λ (x : ℕ). slot + x) (ap (λ (x : ℕ). x * page_elements h) z ∙ exact) in
        record {
          few = let x = s.few in omega arith;
          at = s.begins;
          entered = s.entered;
          rest = λ grid n q.
              let es = read grid n in
              ap (plus total) (sym (page_turns.pages_none es (pages_of a u k) (pages h u) p from (behind_block u k es) le)) ∙ s.rest grid n q;
        }

    module _ (lt : p < pages h u) where
      next_from : from + page_elements h ≡ slot + (p + 1) * page_elements h
      next_from = let e = s.at in omega arith

      -- what is left behind this page
      behind_page : Elements → Listing
      behind_page es = pages_from es (pages_of a u k) (pages h u - (p + 1)) (p + 1) (from + page_elements h) (behind_block u k es)

      pub page_skip : EnteredPage a u k p (Ok None) → AtPage total (from + page_elements h) slot u super k block (p + 1)
      page_skip e = record {
        few = let x = s.few in omega arith;
        at = next_from;
        begins = s.begins;
        entered = s.entered;
        inside = s.inside;
        rest = λ grid n q.
            let es = read grid n in
            ap (plus total) (sym (page_turns.pages_clear es (pages_of a u k) (pages h u) p from (behind_block u k es) lt e)) ∙ s.rest grid n q;
      }

      pub page_refused : (x : Refusal) → EnteredPage a u k p (Err x) → Done (Err x)
      unfolding plus
      page_refused x e = λ grid n q.
          let es = read grid n in
          ap (plus total) (sym (page_turns.pages_refused es (pages_of a u k) (pages h u) p from (behind_block u k es) lt e.0 x e.1)) ∙ s.rest grid n q

      module _ (pos : ℕ) (e : EnteredPage a u k p (Ok (Some pos))) where
        -- the page's elements in front of what is left, where the count ends in it and where it doesn't
        run_last : r.count < from + page_elements h → Left total (λ es. elements_from es pos (page_elements h) from (behind_block u k es))
        run_last past = λ grid n q.
            let es = read grid n in
            ap (plus total)
            (ap (λ (x : ℕ). elements_from es x (page_elements h) from (behind_block u k es)) e.2
            ∙ sym (page_turns.pages_last es (pages_of a u k) (pages h u) p from (behind_block u k es) lt e.0 e.1 past))
            ∙ s.rest grid n q

        run_on : from + page_elements h ≤ r.count → Left total (λ es. elements_from es pos (page_elements h) from (behind_page es))
        unfolding behind_page
        run_on le = λ grid n q.
            let es = read grid n in
            ap (plus total)
            (ap (λ (x : ℕ). elements_from es x (page_elements h) from (behind_page es)) e.2
            ∙ sym (page_turns.pages_set es (pages_of a u k) (pages h u) p from (behind_block u k es) lt e.0 e.1 le))
            ∙ s.rest grid n q

        pub page_run_refused : (x : Refusal) → Counts pos (page_elements h) from (Err x) → Done (Err x)
        page_run_refused x c = λ grid n q.
            let es = read grid n in
            ⊎_elim (λ (past : r.count < from + page_elements h). sym (run_refused es pos (page_elements h) from x (sym (c grid n q)) total _) ∙ run_last past grid n q)
            (λ (le : from + page_elements h ≤ r.count). sym (run_refused es pos (page_elements h) from x (sym (c grid n q)) total _) ∙ run_on le grid n q)
            (lt_or_ge r.count (from + page_elements h))

        module _ (m : ℕ) (le : m ≤ page_elements h) (c : Counts pos (page_elements h) from (Ok m)) where
          pub page_run_last : r.count < from + page_elements h → pages h u * page_elements h ≡ block_elements h u → BehindBlock (total + m) slot u super k
          page_run_last past exact =
              let x = s.few in
              let y = s.at in
              let z = mul-le-mul_right {m = p + 1} {n = pages h u} (page_elements h) (omega arith) in
              record {
                few = omega arith;
                at = s.begins;
                entered = s.entered;
                rest = λ grid n q.
                    let es = read grid n in
                    sym (run_count es pos (page_elements h) from m (sym (c grid n q)) total (behind_block u k es)) ∙ run_last past grid n q;
              }

          pub page_run_on : from + page_elements h ≤ r.count → AtPage (total + m) (from + page_elements h) slot u super k block (p + 1)
          unfolding behind_page
          page_run_on on = record {
            few = let x = s.few in omega arith;
            at = next_from;
            begins = s.begins;
            entered = s.entered;
            inside = s.inside;
            rest = λ grid n q. sym (run_count (read grid n) pos (page_elements h) from m (sym (c grid n q)) total _) ∙ run_on on grid n q;
          }

-- slots fit 64 bits
pub slot_few : (h : Parameters) → Served h → h.idx_blk_elmts ≤ 255 → (u : ℕ) → u ≤ super_blocks h → first_slot h u ≤ 2 ^ 63 + 255
unfolding first_slot
slot_few h v small u le = let x = elements_before_few h v u le in omega arith

-- and those of data block k of super block u
pub block_few : (h : Parameters) → Served h → h.idx_blk_elmts ≤ 255 → (u k : ℕ) → u < super_blocks h → k < blocks u
    → first_slot h u + k * block_elements h u + block_elements h u ≤ 2 ^ 63 + 255
block_few h v small u k lt hk =
    let x = slot_few h v small (u + 1) (omega arith) in
    let e = next_slot h u in
    let m = mul-le-mul_right {m = k + 1} {n = blocks u} (block_elements h u) (omega arith) in
    omega arith

-- a page of a paged block ends in the block
pub page_ends : (h : Parameters) (v : Served h) (u p slot from : ℕ) → u < super_blocks h → in_pages h u ≡ true → p < pages h u → from ≡ slot + p * page_elements h
    → from + page_elements h ≤ slot + block_elements h u
page_ends h v u p slot from lt q hp e =
    let x = pages-exact h v u lt (in_pages_over h u q) in
    let m = mul-le-mul_right {m = p + 1} {n = pages h u} (page_elements h) (omega arith) in
    omega arith

-- the elements of an unpaged block, from the first on
pub unpaged_room : (h : Parameters) (o at n m : ℕ) → at + block_element_at h o n ≤ m → at + block_element_at h o 0 + n * element_stride h o ≤ m
unfolding block_element_at element_at
unpaged_room h o at n m le = omega arith
