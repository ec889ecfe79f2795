-- Every definition that a small file's list and lookup are computed by: a proof that says `unfolding opened` opens
-- them all.
use Rattle.refusal.specs.Refusals.{figure, refuse, ◌then◌}
use Rattle.refusal.specs.Outcome.{◌yields◌, in_room, also}
use Rattle.fields.specs.LittleEndian.{le_value, le_at, le_bytes}
use Rattle.fields.specs.Fields.{size_test, is_width, width_test, in_file, undefined, address_at, undefined_at}
use Rattle.checksum.specs.Trailing.{trailing_test}
use Rattle.chunk_grid.specs.Grid.{pairwise, every, any, ceil_div, count_of, counts, first_unlimited, leading_in, leading, to_front, from_front, ordered, multiplier, multipliers, has_zero, numbers_nothing, quotients, offsets, overflows, below, offsets_test, aligned, is_chunk, corner_test, total, slot_from, slot_of, shapes_test, multiplier_test, product_test, grid_test}
use Rattle.structures.specs.Structures.{signature_test, structure_test}
use Rattle.structures.specs.PageBits.{bit_bytes, bit_byte, bit_mask, page_bit}
use Rattle.structures.specs.Header.{form_test, sizes_test, signed_header_test}
use Rattle.element_form.specs.Form.{filtered, stride, size_bytes, room_test, element_size_test}
use Rattle.elements.specs.Elements.{product, chunk_bytes, size_at, mask_at, entry_at, entry_test, element}
use Rattle.elements.specs.Runs.{also_element, elements_from, pages_from}
use Rattle.records.specs.Records.{record_length, offset_bytes, record_bytes, list_bytes, list_content}
use Rattle.located.specs.Located.{held_in, path, slot_path}
use Rattle.fa_header.specs.Header.{fixed_header_at, fixed_header_test}
use Rattle.fa_header.specs.Served.{fixed_served, fixed_served_test}
use Rattle.fa_geometry.specs.Layout.{fixed_page_elements, is_paged, fixed_pages, fixed_prefix, fixed_element_at, fixed_block_extent, fixed_head_extent, fixed_page_stride, fixed_page_at, page_entries, fixed_page_extent, page_of_slot, fixed_place, fixed_tested_extent}
use Rattle.fa_blocks.specs.FixedArray.{never_stored}
use Rattle.fa_blocks.specs.Blocks.{fixed_block_test, fixed_page_position, fixed_page_set, fixed_page_test, in_set_page, fixed_reached, fixed_path_test, fixed_position}
use Rattle.fa_walk.specs.Walk.{fixed_in_block, fixed_walk, fixed_list, fixed_lookup}
use Rattle.fa_worked.specs.Files.{sealed, undefined_bytes, array_from, header_in, array_in, elements_in, list_of, list_in, lookup_in}

unfoldable pub opened : Unit {0}
unfolding figure refuse ◌then◌ ◌yields◌ in_room also le_value le_at le_bytes size_test is_width width_test in_file undefined address_at undefined_at trailing_test pairwise every any ceil_div count_of counts first_unlimited leading_in leading to_front from_front ordered multiplier multipliers has_zero numbers_nothing quotients offsets overflows below offsets_test aligned is_chunk corner_test total slot_from slot_of shapes_test multiplier_test product_test grid_test signature_test structure_test bit_bytes bit_byte bit_mask page_bit form_test sizes_test signed_header_test filtered stride size_bytes room_test element_size_test product chunk_bytes size_at mask_at entry_at entry_test element also_element elements_from pages_from record_length offset_bytes record_bytes list_bytes list_content held_in path slot_path fixed_header_at fixed_header_test fixed_served fixed_served_test fixed_page_elements is_paged fixed_pages fixed_prefix fixed_element_at fixed_block_extent fixed_head_extent fixed_page_stride fixed_page_at page_entries fixed_page_extent page_of_slot fixed_place fixed_tested_extent never_stored fixed_block_test fixed_page_position fixed_page_set fixed_page_test in_set_page fixed_reached fixed_path_test fixed_position fixed_in_block fixed_walk fixed_list fixed_lookup sealed undefined_bytes array_from header_in array_in elements_in list_of list_in lookup_in
opened = tt
