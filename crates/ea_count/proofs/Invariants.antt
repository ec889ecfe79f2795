-- The invariants of the walk's three loops, and what each turn needs and leaves. Assumes nothing.
use Prim.{tt}
use Prim.Native.Nat.{ℕ, ◌+◌, ◌*◌, ◌^◌, ◌<◌, ◌≤◌}
use mathlib.Core.Path.{◌≡◌, refl, sym, ap, subst, ◌∙◌}
use mathlib.Core.Bool.{true, false}
use mathlib.Core.Logic.{◌⊎◌, inl, inr, ⊎_elim}
use native.Mathlib.Bridge.{le_prop}
use native.Mathlib.Omega.{arith}
use lib.ListN.{length}
use Rattle.std.specs.Prelude.{Err, None, Ok, Option, Some}
use Rattle.std.specs.Option.{is_some, ForNone, ForSome}
use Rattle.refusal.specs.Refusals.{Outcome}
use Rattle.refusal.specs.declared.Refusal.{Refusal}
use Rattle.element_form.specs.Form.{stride}
use Rattle.elements.specs.declared.ElementReader.{ElementReader}
use Rattle.elements.specs.Values.{elements_of}
use Rattle.ea_header.specs.declared.Parameters.{Parameters}
use Rattle.ea_header.specs.Values.{Served}
use Rattle.ea_geometry.specs.Sizes as sizes
use Rattle.ea_geometry.specs.Sizes.{super_blocks, block_elements, direct_super_blocks, page_elements}
use Rattle.ea_geometry.specs.Extents.{element_stride, super_extent, block_element_at}
use Rattle.ea_geometry.specs.Place.{in_pages}
use Rattle.ea_geometry.specs.Slots.{first_slot}
use Rattle.ea_geometry.proofs.Counts.{all_few, pages-exact}
use Rattle.ea_geometry.proofs.Places.{in_pages_over, next_slot}
use Rattle.ea_blocks.specs.declared.BoundedArray.{BoundedArray}
use Rattle.structures.specs.declared.enter.Ahead.{Ahead}
use Rattle.ea_blocks.specs.Array.{Array}
use Rattle.ea_blocks.specs.Structures.{super_block_at, data_block, data_page, block_at}
use Rattle.ea_blocks.specs.Values.{NamedAt, array_in}
use Rattle.ea_blocks.specs.Entered.{EnteredSuper, EnteredBlock, EnteredPage, TestedAhead}
use Rattle.ea_blocks.proofs.Entering.{entered_at, entered_direct, paged_named, entered_super_room, entered_block_room, entered_head_room, entered_page_room}
use Rattle.elements.proofs.Readers.{reads_any}
use Rattle.elements.proofs.Runs.{count_few}
use Rattle.ea_count.specs.Values.{WalkFrom}
use Rattle.ea_count.proofs.WalkStates.{AtSuper, AtBlock, AtPage, BehindBlock, Done, Counts, at_first, supers_done, super_ended, super_skip, super_refused, super_in, blocks_done, block-behind, block_ended, block_skip, block_refused, block_run, block_run_refused, block-pages, pages_done, page_skip, page_refused, page_run_refused, page_run_last, page_run_on, slot_few, block_few, page_ends, unpaged_room}

-- a data block is open: the count doesn't end it, or its super block names it
abbrev pub Open : ℕ → ℕ → ℕ → ℕ → Type 0
Open u directs slot count = ((u < directs) × (slot < count)) ⊎ (directs ≤ u)

-- what the walk is made with: the function's parameters, and what it computes of them before its loops
pub record Setting : Type 0 where
  pub array : BoundedArray
  pub reader : ElementReader
  pub first : ℕ
  pub begin : ℕ
  pub end : ℕ
  pub count : ℕ
  pub directs : ℕ
  pub page : ℕ

abbrev h_of : Setting → Parameters
h_of w = w.array.extents.sizes.parameters

abbrev a_of : Setting → Array
a_of w = array_in w.array

-- the walk's states, and what it ends with
abbrev SuperAt : Setting → ℕ → ℕ → ℕ → Type 0
SuperAt w = AtSuper w.array w.reader w.first w.begin w.end

abbrev BlockAt : Setting → ℕ → ℕ → ℕ → Option ℕ → ℕ → Type 0
BlockAt w = AtBlock w.array w.reader w.first w.begin w.end

abbrev PageAt : Setting → ℕ → ℕ → ℕ → ℕ → Option ℕ → ℕ → ℕ → ℕ → Type 0
PageAt w = AtPage w.array w.reader w.first w.begin w.end

abbrev Behind : Setting → ℕ → ℕ → ℕ → Option ℕ → ℕ → Type 0
Behind w = BehindBlock w.array w.reader w.first w.begin w.end

abbrev pub Ends : Setting → Outcome ℕ → Type 0
Ends w = Done w.array w.reader w.first w.begin w.end

abbrev pub Run : Setting → ℕ → ℕ → ℕ → Outcome ℕ → Type 0
Run w = Counts w.array w.reader w.first w.begin w.end

-- what doesn't change in the walk
pub record Fixed (w : Setting) : Type 0 where
  pub walk : WalkFrom w.array w.reader w.first w.begin w.end
  pub counts : w.count ≡ w.reader.count
  pub direct_ones : w.directs ≡ direct_super_blocks (h_of w)
  pub page_size : w.page ≡ page_elements (h_of w)
  pub inline_few : (h_of w).idx_blk_elmts ≤ 255
  pub small : length w.array.file.now < 2 ^ 63

-- at super block u: what is counted, and the walk from there on, are the whole
pub record InSupers (w : Setting) (total slot u : ℕ) : Type 0 where
  pub fixed : Fixed w
  pub upto : u ≤ w.end
  pub state : SuperAt w total slot u

-- at its data block k
pub record InBlocks (w : Setting) (u blocks elements : ℕ) (super : Option ℕ) (total slot : ℕ) (ahead : Option Ahead) (k : ℕ) : Type 0 where
  pub fixed : Fixed w
  pub super_lt : u < w.end
  pub blocks_are : blocks ≡ sizes.blocks u
  pub elements_are : elements ≡ block_elements (h_of w) u
  pub upto : k ≤ blocks
  pub state : BlockAt w total slot u super k
  pub ahead_is : TestedAhead (a_of w) (data_block u) ahead

-- at page p of it
pub record InPages (w : Setting) (u blocks elements : ℕ) (super : Option ℕ) (k at pages slot total from : ℕ) (ahead : Option Ahead) (p : ℕ) : Type 0 where
  pub fixed : Fixed w
  pub super_lt : u < w.end
  pub blocks_are : blocks ≡ sizes.blocks u
  pub elements_are : elements ≡ block_elements (h_of w) u
  pub block_lt : k < blocks
  pub pages_are : pages ≡ sizes.pages (h_of w) u
  pub paged : in_pages (h_of w) u ≡ true
  pub upto : p ≤ pages
  pub state : PageAt w total from slot u super k at p
  pub ahead_is : TestedAhead (a_of w) (data_page u k) ahead

module _ {w : Setting} where
  served : Fixed w → Served (h_of w)
  served x = w.array.extents.sizes.served

  run_few : Fixed w → (pos j s m : ℕ) → Run w pos j s (Ok m) → m ≤ j
  run_few x pos j s m c =
      reads_any w.reader le_prop (λ grid n r. count_few (elements_of w.array.file.now w.reader grid n) pos j s m (c grid n r))

  own_stride : Fixed w → element_stride (h_of w) (a_of w).offset_size ≡ stride w.reader.form
  own_stride x = ap stride x.walk.formed

  run_in_file : Fixed w → (pos n : ℕ) → pos + n * element_stride (h_of w) (a_of w).offset_size ≤ length w.array.file.now → pos + n * stride w.reader.form ≤ length w.array.file.now
  run_in_file x pos n le = subst (λ (z : ℕ). pos + n * z ≤ length w.array.file.now) (own_stride x) le

  pub supers_first : (slot : ℕ) → Fixed w → slot ≡ first_slot (h_of w) w.begin → InSupers w w.first slot w.begin
  supers_first slot x e = record {
    fixed = x;
    upto = x.walk.ordered;
    state = subst (λ (s : ℕ). SuperAt w w.first s w.begin) (sym e) (at_first _ _ _ _ _ x.walk.few);
  }

  -- at a super block
  module _ {total slot u : ℕ} (i : InSupers w total slot u) where
    pub supers_ends : w.end ≤ u → Ends w (Ok total)
    supers_ends le = supers_done _ _ _ _ _ _ _ _ i.state le

    pub count_ends : w.count ≤ slot → Ends w (Ok total)
    count_ends le = super_ended _ _ _ _ _ _ _ _ i.state (let e = i.fixed.counts in omega arith)

    module _ (lt : u < w.end) where
      super_of_lem : u < super_blocks (h_of w)
      super_of_lem = let e = i.fixed.walk.supers in omega arith

      pub super_there : u < super_blocks (h_of w)
      super_there = super_of_lem

      pub super_fits : (blocks elements : ℕ) → blocks ≡ sizes.blocks u → elements ≡ block_elements (h_of w) u
          → (blocks * elements ≤ 2 ^ 63) × (slot + blocks * elements ≤ 2 ^ 63 + 255)
      super_fits blocks elements b e =
          let v = served i.fixed in
          let s = super_of_lem in
          let z = slot_few (h_of w) v i.fixed.inline_few (u + 1) (omega arith) in
          let n = next_slot (h_of w) u in
          let t = i.state.at in
          rw (b, e) (omega (arith, all_few (h_of w) v u super_of_lem), omega arith)

      module _ (below : slot < w.count) where
        abbrev open_here : slot < w.reader.count
        open_here = let e = i.fixed.counts in omega arith

        pub super_absent : {blocks elements : ℕ} → blocks ≡ sizes.blocks u → elements ≡ block_elements (h_of w) u → EnteredSuper (a_of w) u (Ok None)
            → InSupers w total (slot + blocks * elements) (u + 1)
        super_absent b e x =
            rw (b, e) (record { fixed = i.fixed; upto = omega arith; state = super_skip _ _ _ _ _ _ _ _ i.state lt open_here x })

        pub super_ends : (x : Refusal) → EnteredSuper (a_of w) u (Err x) → Ends w (Err x)
        super_ends x e = super_refused _ _ _ _ _ _ _ _ i.state lt open_here x e

        pub blocks-first : {blocks elements : ℕ} {super : Option ℕ} → blocks ≡ sizes.blocks u → elements ≡ block_elements (h_of w) u → EnteredSuper (a_of w) u (Ok (Some super))
            → InBlocks w u blocks elements super total slot None 0
        blocks-first b e x = record {
          fixed = i.fixed;
          super_lt = lt;
          blocks_are = b;
          elements_are = e;
          upto = omega arith;
          state = super_in _ _ _ _ _ _ _ _ i.state lt open_here _ x;
          ahead_is = tt;
        }

  -- at a data block
  module _ {u blocks elements : ℕ} {super : Option ℕ} {total slot : ℕ} {ahead : Option Ahead} {k : ℕ} (i : InBlocks w u blocks elements super total slot ahead k) where
    super_block_at_lem : u < super_blocks (h_of w)
    super_block_at_lem = let e = i.fixed.walk.supers in let l = i.super_lt in omega arith

    pub super_here : u < super_blocks (h_of w)
    super_here = super_block_at_lem

    pub row_direct : ForNone super (u < direct_super_blocks (h_of w))
    row_direct = entered_direct (a_of w) u super i.state.entered

    pub paged_super : in_pages (h_of w) u ≡ true → is_some super ≡ true
    paged_super q = paged_named (a_of w) u super i.state.entered q

    pub row_inside : ForSome super (λ (at : ℕ). (direct_super_blocks (h_of w) ≤ u) × (at + super_extent (h_of w) (a_of w).offset_size u ≤ length w.array.file.now))
    row_inside = entered_super_room (a_of w) u super i.state.entered

    -- behind the last one
    pub supers_next : blocks ≤ k → InSupers w total slot (u + 1)
    supers_next le =
        let b = i.blocks_are in
        let l = i.upto in
        let z : k ≡ sizes.blocks u = omega arith in
        let m = i.super_lt in
        record { fixed = i.fixed; upto = omega arith; state = blocks_done _ _ _ _ _ _ _ _ _ _ i.state z }

    module _ (lt : k < blocks) where
      abbrev block_of : k < sizes.blocks u
      block_of = let b = i.blocks_are in omega arith

      pub block_there_lem : k < sizes.blocks u
      block_there_lem = block_of

      pub block_found : (found : Outcome (Option ℕ)) (next : Option Ahead)
          → (NamedAt (a_of w) u super → TestedAhead (a_of w) (data_block u) ahead → EnteredBlock (a_of w) u k found × TestedAhead (a_of w) (data_block u) next)
          → EnteredBlock (a_of w) u k found × TestedAhead (a_of w) (data_block u) next
      block_found found next e = e (entered_at (a_of w) u super i.state.entered) i.ahead_is

      pub block-fits : slot + elements ≤ 2 ^ 63 + 255
      block-fits =
          let z = block_few (h_of w) (served i.fixed) i.fixed.inline_few u k super_block_at_lem block_of in
          let t = i.state.at in
          let e = i.elements_are in
          omega arith

      pub direct_ends : u < w.directs → w.count ≤ slot → Ends w (Ok total)
      direct_ends d le =
          let c = i.fixed.counts in
          let e = i.fixed.direct_ones in
          block_ended _ _ _ _ _ _ _ _ _ _ i.state block_of (omega arith) (omega arith)

      -- behind it, whichever way
      pub blocks_next : {total' n : ℕ} {next : Option Ahead} → total' ≡ n → Behind w n slot u super k → TestedAhead (a_of w) (data_block u) next
          → InBlocks w u blocks elements super total' (slot + elements) next (k + 1)
      blocks_next d b t = rw (i.elements_are, d) (record {
        fixed = i.fixed;
        super_lt = i.super_lt;
        blocks_are = i.blocks_are;
        elements_are = refl;
        upto = omega arith;
        state = block-behind _ _ _ _ _ _ _ _ _ _ b;
        ahead_is = t;
      })

      module _ (o : Open u w.directs slot w.count) where
        opens : (u < direct_super_blocks (h_of w) → slot < w.reader.count) × ((u < direct_super_blocks (h_of w)) ⊎ (direct_super_blocks (h_of w) ≤ u))
        opens =
            let c = i.fixed.counts in
            let e = i.fixed.direct_ones in
            ⊎_elim (λ q. let y = q.1 in let z = q.0 in ((λ d. omega arith), inl (omega arith))) (λ q. ((λ d. absurd (omega arith)), inr (omega arith))) o

        pub block_absent : EnteredBlock (a_of w) u k (Ok None) → Behind w total slot u super k
        block_absent e = block_skip _ _ _ _ _ _ _ _ _ _ i.state block_of opens.0 opens.1 e

        pub block_ends : (x : Refusal) → EnteredBlock (a_of w) u k (Err x) → Ends w (Err x)
        block_ends x e = block_refused _ _ _ _ _ _ _ _ _ _ i.state block_of opens.0 opens.1 x e

        module _ {at : ℕ} (e : EnteredBlock (a_of w) u k (Ok (Some at))) where
          pub pages-first : {pages : ℕ} → in_pages (h_of w) u ≡ true → pages ≡ sizes.pages (h_of w) u → InPages w u blocks elements super k at pages slot total slot None 0
          pages-first q n = record {
            fixed = i.fixed;
            super_lt = i.super_lt;
            blocks_are = i.blocks_are;
            elements_are = i.elements_are;
            block_lt = lt;
            pages_are = n;
            paged = q;
            upto = omega arith;
            state = block-pages _ _ _ _ _ _ _ _ _ _ i.state block_of opens.0 opens.1 _ e q;
            ahead_is = tt;
          }

          pub pages_inside : in_pages (h_of w) u ≡ true → at ≤ length w.array.file.now
          pages_inside q = let r = entered_head_room (a_of w) u at k e q in omega arith

          -- read unpaged, from `in_block` bytes behind its begin on
          module _ (q : in_pages (h_of w) u ≡ false) {in_block : ℕ} (p : in_block ≡ block_element_at (h_of w) (a_of w).offset_size 0) where
            unpaged_inside : at + in_block + elements * element_stride (h_of w) (a_of w).offset_size ≤ length w.array.file.now
            unpaged_inside = rw (p, i.elements_are) (unpaged_room (h_of w) (a_of w).offset_size at (block_elements (h_of w) u) (length w.array.file.now) (entered_block_room (a_of w) u at k e q))

            pub unpaged_begins : at + in_block < 2 ^ 63
            unpaged_begins = let n = unpaged_inside in let l = i.fixed.small in omega arith

            pub unpaged_run : (at + in_block) + elements * stride w.reader.form ≤ length w.array.file.now
            unpaged_run = run_in_file i.fixed _ _ unpaged_inside

            begins : at + in_block ≡ block_at (a_of w) u k + block_element_at (h_of w) (a_of w).offset_size 0
            begins = ap (λ (x : ℕ). x + in_block) e.2 ∙ ap (λ (x : ℕ). block_at (a_of w) u k + x) p

            counted : (x : Outcome ℕ) → Run w (at + in_block) elements slot x → Run w (at + in_block) (block_elements (h_of w) u) slot x
            counted x c = subst (λ (n : ℕ). Run w (at + in_block) n slot x) i.elements_are c

            pub unpaged_ends : (x : Refusal) → Run w (at + in_block) elements slot (Err x) → Ends w (Err x)
            unpaged_ends x c = block_run_refused _ _ _ _ _ _ _ _ _ _ i.state block_of opens.0 opens.1 _ e q _ begins x (counted (Err x) c)

            module _ {m : ℕ} (c : Run w (at + in_block) elements slot (Ok m)) where
              pub unpaged_fits : total + m ≤ 2 ^ 63 + 255
              unpaged_fits =
                  let n = run_few i.fixed _ _ _ m c in
                  let t = i.state.few in
                  let z = block-fits in
                  omega arith

              pub unpaged_behind : Behind w (total + m) slot u super k
              unpaged_behind =
                  block_run _ _ _ _ _ _ _ _ _ _ i.state block_of opens.0 opens.1 _ e q _ begins m (run_few i.fixed _ _ _ m (counted (Ok m) c)) (counted (Ok m) c)

  -- at a page
  module _ {u blocks elements : ℕ} {super : Option ℕ} {k at pages slot total from : ℕ} {ahead : Option Ahead} {p : ℕ}
      (i : InPages w u blocks elements super k at pages slot total from ahead p) where
    super_in_pages : u < super_blocks (h_of w)
    super_in_pages = let e = i.fixed.walk.supers in let l = i.super_lt in omega arith

    abbrev block_there : k < sizes.blocks u
    block_there = let b = i.blocks_are in let l = i.block_lt in omega arith

    exact : sizes.pages (h_of w) u * page_elements (h_of w) ≡ block_elements (h_of w) u
    exact = pages-exact (h_of w) (served i.fixed) u super_in_pages (in_pages_over (h_of w) u i.paged)

    pub pages-behind : pages ≤ p → Behind w total slot u super k
    pages-behind le =
        let n = i.pages_are in
        let l = i.upto in
        pages_done _ _ _ _ _ _ _ _ _ _ _ _ _ i.state (omega arith) exact (omega arith)

    module _ (lt : p < pages) where
      abbrev page_of_lem : p < sizes.pages (h_of w) u
      page_of_lem = let n = i.pages_are in omega arith

      pub page_there : p < sizes.pages (h_of w) u
      page_there = page_of_lem

      pub page_found : {super_at : ℕ} → super ≡ Some super_at → (found : Outcome (Option ℕ)) (next : Option Ahead)
          → (super_at ≡ super_block_at (a_of w) u → at ≡ block_at (a_of w) u k → TestedAhead (a_of w) (data_page u k) ahead → EnteredPage (a_of w) u k p found × TestedAhead (a_of w) (data_page u k) next)
          → EnteredPage (a_of w) u k p found × TestedAhead (a_of w) (data_page u k) next
      page_found s found next e = e (entered_at (a_of w) u super i.state.entered _ s) i.state.inside.2 i.ahead_is

      pub page_fits : from + w.page ≤ 2 ^ 63 + 255
      page_fits =
          let v = served i.fixed in
          let e = page_ends (h_of w) v u p slot from super_in_pages i.paged page_of_lem i.state.at in
          let z = block_few (h_of w) v i.fixed.inline_few u k super_in_pages block_there in
          let t = i.state.begins in
          let y = i.fixed.page_size in
          omega arith

      -- the next page, with this state
      next_page_lem : {total' : ℕ} {next : Option Ahead} → PageAt w total' (from + page_elements (h_of w)) slot u super k at (p + 1)
          → TestedAhead (a_of w) (data_page u k) next → InPages w u blocks elements super k at pages slot total' (from + w.page) next (p + 1)
      next_page_lem {total'} s t = record {
        fixed = i.fixed;
        super_lt = i.super_lt;
        blocks_are = i.blocks_are;
        elements_are = i.elements_are;
        block_lt = i.block_lt;
        pages_are = i.pages_are;
        paged = i.paged;
        upto = omega arith;
        state = subst (λ (n : ℕ). PageAt w total' (from + n) slot u super k at (p + 1)) (sym i.fixed.page_size) s;
        ahead_is = t;
      }

      pub pages_clear : {next : Option Ahead} → EnteredPage (a_of w) u k p (Ok None) → TestedAhead (a_of w) (data_page u k) next
          → InPages w u blocks elements super k at pages slot total (from + w.page) next (p + 1)
      pages_clear e t = next_page_lem (page_skip _ _ _ _ _ _ _ _ _ _ _ _ _ i.state page_of_lem e) t

      pub page_ends_walk : (x : Refusal) → EnteredPage (a_of w) u k p (Err x) → Ends w (Err x)
      page_ends_walk x e = page_refused _ _ _ _ _ _ _ _ _ _ _ _ _ i.state page_of_lem x e

      module _ {pos : ℕ} (e : EnteredPage (a_of w) u k p (Ok (Some pos))) where
        pub page_run : pos + w.page * stride w.reader.form ≤ length w.array.file.now
        page_run = run_in_file i.fixed pos w.page (rw i.fixed.page_size (entered_page_room (a_of w) u pos k p e))

        counted_page : (x : Outcome ℕ) → Run w pos w.page from x → Run w pos (page_elements (h_of w)) from x
        counted_page x c = subst (λ (n : ℕ). Run w pos n from x) i.fixed.page_size c

        pub page_run_ends : (x : Refusal) → Run w pos w.page from (Err x) → Ends w (Err x)
        page_run_ends x c = page_run_refused _ _ _ _ _ _ _ _ _ _ _ _ _ i.state page_of_lem pos e x (counted_page (Err x) c)

        module _ {m : ℕ} (c : Run w pos w.page from (Ok m)) where
          few : m ≤ page_elements (h_of w)
          few = run_few i.fixed pos (page_elements (h_of w)) from m (counted_page (Ok m) c)

          pub page_total_fits : total + m ≤ 2 ^ 63 + 255
          page_total_fits =
              let n = few in
              let t = i.state.few in
              let y = i.fixed.page_size in
              let z = page_fits in
              omega arith

          -- the count ends in it, or the next page comes
          pub page_last : w.count < from + w.page → Behind w (total + m) slot u super k
          page_last past =
              let y = i.fixed.page_size in
              let d = i.fixed.counts in
              page_run_last _ _ _ _ _ _ _ _ _ _ _ _ _ i.state page_of_lem pos e m few (counted_page (Ok m) c) (omega arith) exact

          pub pages_on : {next : Option Ahead} → from + w.page ≤ w.count → TestedAhead (a_of w) (data_page u k) next
              → InPages w u blocks elements super k at pages slot (total + m) (from + w.page) next (p + 1)
          pages_on le t =
              let y = i.fixed.page_size in
              let d = i.fixed.counts in
              next_page_lem (page_run_on _ _ _ _ _ _ _ _ _ _ _ _ _ i.state page_of_lem pos e m few (counted_page (Ok m) c) (omega arith)) t
