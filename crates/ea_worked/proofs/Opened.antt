-- Every definition that a small file's list and lookup are computed by: a proof that says `unfolding opened` opens
-- them all.
use Rattle.refusal.specs.Refusals.{figure, refuse, ◌then◌}
use Rattle.refusal.specs.Outcome.{◌yields◌, in_room, also}
use Rattle.fields.specs.LittleEndian.{le_value, le_at, le_bytes}
use Rattle.fields.specs.Fields.{size_test, is_width, width_test, in_file, undefined, address_at, undefined_at}
use Rattle.checksum.specs.Trailing.{trailing_test}
use Rattle.chunk_grid.specs.Grid.{pairwise, every, any, ceil_div, count_of, counts, first_unlimited, leading_in, leading, to_front, from_front, ordered, multiplier, multipliers, has_zero, numbers_nothing, quotients, offsets, overflows, below, offsets_test, aligned, is_chunk, corner_test, total, slot_from, slot_of, shapes_test, multiplier_test, product_test, grid_test}
use Rattle.structures.specs.Structures.{signature_test, structure_test}
use Rattle.structures.specs.PageBits.{bit_bytes, bit_byte, bit_mask, page_bit}
use Rattle.structures.specs.Header.{form_test, sizes_test, signed_header_test}
use Rattle.element_form.specs.Form.{filtered, stride, size_bytes, room_test, element_size_test}
use Rattle.elements.specs.Elements.{product, chunk_bytes, size_at, mask_at, entry_at, entry_test, element}
use Rattle.elements.specs.Values.{found_of}
use Rattle.elements.specs.Runs.{also_element, elements_from, pages_from}
use Rattle.records.specs.Records.{record_length, offset_bytes, record_bytes, list_bytes, list_content}
use Rattle.located.specs.Located.{path, slot_path}
use Rattle.ea_header.specs.Log.{log2_in}
use Rattle.ea_header.specs.Header.{statistic, parameters_at, header_at, header_test}
use Rattle.ea_header.specs.Served.{served, served_test}
use Rattle.ea_geometry.specs.Sizes.{super_blocks, blocks, block_elements, direct_super_blocks, blocks_before, direct_pointers, super_pointers, elements_before, page_elements, over_page, pages, bitmap_bytes, bit_number}
use Rattle.ea_geometry.specs.Extents.{element_at, pointer_at, index_prefix, inline_element_at, direct_pointers_at, super_pointers_at, index_extent, direct_pointer_at, super_pointer_at, block_prefix, block_pointer_at, super_extent, block_element_at, data_extent, paged_head_extent, page_extent, page_at, paged_element_at}
use Rattle.ea_geometry.specs.Place.{super_of, in_pages, place_in, in_super_block, place}
use Rattle.ea_blocks.specs.Structures.{is_direct, super_named_at, super_block_at, block_named_at, block_at, data_page_at, super_undefined, block_undefined, bit_set, page_set, kind_of, start_of, extent_of, test_of, array_test}
use Rattle.ea_blocks.specs.Places.{block_reached, reached, position_of, leading_to, structures, pointer_test, tested, place_test}
use Rattle.ea_walk.specs.Walk.{block, blocks_from, supers_from, behind_inline, walk, list}
use Rattle.ea_lookup.specs.Lookup.{lookup}
use Rattle.ea_worked.specs.Files.{undefined_bytes, sample_on, sample_at, list_at, lookup_at}

unfoldable pub opened : Unit {0}
unfolding figure refuse ◌then◌ ◌yields◌ le_value le_at le_bytes size_test is_width width_test in_file undefined address_at undefined_at trailing_test pairwise every any ceil_div count_of counts first_unlimited leading_in leading to_front from_front ordered multiplier multipliers has_zero numbers_nothing quotients offsets overflows below offsets_test aligned is_chunk corner_test total slot_from slot_of shapes_test multiplier_test product_test grid_test log2_in statistic parameters_at header_at form_test sizes_test signed_header_test header_test served served_test super_blocks blocks block_elements direct_super_blocks blocks_before direct_pointers super_pointers elements_before page_elements over_page pages bit_bytes bitmap_bytes filtered stride element_at pointer_at index_prefix inline_element_at direct_pointers_at super_pointers_at index_extent direct_pointer_at super_pointer_at block_prefix block_pointer_at super_extent block_element_at data_extent paged_head_extent page_extent page_at paged_element_at bit_number bit_byte bit_mask page_bit super_of in_pages place_in in_super_block place signature_test structure_test is_direct super_named_at super_block_at block_named_at block_at data_page_at super_undefined block_undefined bit_set page_set kind_of start_of extent_of test_of array_test product chunk_bytes size_bytes size_at mask_at entry_at room_test element_size_test entry_test element found_of block_reached reached position_of leading_to structures pointer_test tested place_test path slot_path also also_element elements_from pages_from block blocks_from supers_from behind_inline walk list record_length offset_bytes record_bytes list_bytes in_room list_content lookup undefined_bytes sample_on sample_at list_at lookup_at
opened = tt
