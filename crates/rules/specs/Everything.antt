-- One name that unfolds every definition of the rules, so that a fact about a given image is computed.
use Rattle.endian.specs.Bytes.{be16, be32, put16, put32, stored, cleared}
use Rattle.disk.specs.Blocks.{block_of, with_block}
use Rattle.disk.specs.Root.{root_in, put_root, slot_in, slot_of}
use Rattle.disk.specs.AnodeBlocks.{anode_header_in, put_anode_header, anode_in, put_anode, listed, anodes_in, anode_slots, anode_at, anode_of, set_anode}
use Rattle.directory.specs.Entries.{directory_header_in, put_directory_header, kind_read, good_name_byte, all_bytes, good_name, good_comment, entry_length, name_length, comment_length, name_in, entry_shaped, entry_in, walked_at, put_entry}
use Rattle.rules.specs.Counting.{first_of, one_at, sum_below, any_below, least, sum_list, occurrences, any_in, gather, last_of, changed, same_bytes}
use Rattle.rules.specs.Folding.{fold, folded}
use Rattle.rules.specs.Anodes.{exists_by, fields_of, anodes_of, is_free, same_anode, store_changed, with_anodes}
use Rattle.rules.specs.Chains.{chain_of, followed, preds, one_if_head, head_of, one_if_covers, one_if_holds, system_by, owners, run, blocks_of, block_count, cut, side}
use Rattle.rules.specs.Walk.{entries_from, entries_in, is_block_of, blocks_for, wrong_anode, wrong_file_size, item_of, items_for, items_by, as_twin, twins, items_of, sub_dirs, fault_of, scan, visited, walk, walk_of, reached_dirs, reached, naming}
use Rattle.rules.specs.Accepted.{disk_size, wrong_size, short_tables, wrong_type, last_reserved, wrong_root, wrong_slot, wrong_slots, wrong_fixed, half_cleared, wrong_extent, out_of_range, wrong_link, wrong_at, has_pred, wrong_links, not_above, not_up_to, wrong_free_list, owners_of, two_owners, no_owner, unnamed, unnamed_chain, tree_fault, damage_in, check_answer}
use Rattle.rules.specs.Tables.{chain_head, anode_entry, anode_table, head_where, owner_head, entry_or, block_entry, block_table, table_left, blocks_left, anodes_left}
use Rattle.rules.specs.Lookup.{no_directory, entries_of, name_at, is_named, first_named, entry_named, nth, not_empty, bytes_of, contents}
use Rattle.rules.specs.Plans.{after, ◌and_then◌, repeated, at_slots, regrown, afresh}
use Rattle.rules.specs.Space.{rewritten, inserted_after, unlinked, emptied, without_run, without_first, without_tail, crosses, upper_run, lower_run, run_length, extent_at, first_found, first_extent, last_extent, free_extent, side_of, free, fill_or, grow_or, grow_before_or, join_or, join_with, chain_end, side_end, lowest_free, append, need_anode, put, join, move_back, head_back, before_head, with_spare, put_to, take_from, take_block, take_many, release, give_run, give_runs, give_blocks, give_all, on_chain, dropped}
use Rattle.rules.specs.Growth.{empty_slot, slot_from, grown}
use Rattle.rules.specs.Searched.{anodes_read, searched, after_read, slot_start, through_used, through_slots, searched_by_slots}
use Rattle.rules.specs.Format.{wrong_format, format_answer, with_slots, root_block, lower_anode, upper_anode, list_head, first_anodes, empty_anode_block, anode_block, with_anode_blocks, new_directory_block, formatted}
use Rattle.rules.specs.Table.{in_block, slot_block, with_slot, store_slots, with_table}
use Rattle.rules.specs.Changes.{with_blocks, zero_tail, with_size, zero_taken, resized_image, resize_plan, resized, end_from, entries_end, first_room, parent_of, entry_of, made_image, room_for, needed_block, made, spread, written, gap_closed, without_entry, removed_image, removed}
use Rattle.rules.specs.Calls.{settled, done_or, check_outcome, file_count, dir_count, summary_of, summary_outcome, format_outcome, span_refusal, resize_refusal, remove_refusal, wrong_entry, make_refusal, list_refusal, read_answer, read_outcome, field_list, fields_at, list_answer, list_outcome, make_outcome, resize_outcome, write_outcome, remove_outcome}
use Rattle.rules.specs.Totals.{free_blocks, file_blocks, directory_blocks, chain_blocks, anode_blocks, total_in, total}

-- unfolds them all
unfoldable pub everything : Unit {0}
unfolding be16 be32 put16 put32 stored cleared block_of with_block root_in put_root slot_in slot_of anode_header_in put_anode_header anode_in put_anode listed anodes_in anode_slots anode_at anode_of set_anode directory_header_in put_directory_header kind_read good_name_byte all_bytes good_name good_comment entry_length name_length comment_length name_in entry_shaped entry_in walked_at put_entry first_of one_at sum_below any_below least sum_list occurrences any_in gather last_of changed same_bytes fold folded exists_by fields_of anodes_of is_free same_anode store_changed with_anodes chain_of followed preds one_if_head head_of one_if_covers one_if_holds system_by owners run blocks_of block_count cut side entries_from entries_in is_block_of blocks_for wrong_anode wrong_file_size item_of items_for items_by as_twin twins items_of sub_dirs fault_of scan visited walk walk_of reached_dirs reached naming disk_size wrong_size short_tables wrong_type last_reserved wrong_root wrong_slot wrong_slots wrong_fixed half_cleared wrong_extent out_of_range wrong_link wrong_at has_pred wrong_links not_above not_up_to wrong_free_list owners_of two_owners no_owner unnamed unnamed_chain tree_fault damage_in check_answer chain_head anode_entry anode_table head_where owner_head entry_or block_entry block_table table_left blocks_left anodes_left no_directory entries_of name_at is_named first_named entry_named nth not_empty bytes_of contents after ◌and_then◌ repeated at_slots regrown afresh rewritten inserted_after unlinked emptied without_run without_first without_tail crosses upper_run lower_run run_length extent_at first_found first_extent last_extent free_extent side_of free fill_or grow_or grow_before_or join_or join_with chain_end side_end lowest_free append need_anode put join move_back head_back before_head with_spare put_to take_from take_block take_many release give_run give_runs give_blocks give_all on_chain dropped empty_slot slot_from grown anodes_read searched after_read slot_start through_used through_slots searched_by_slots wrong_format format_answer with_slots root_block lower_anode upper_anode list_head first_anodes empty_anode_block anode_block with_anode_blocks new_directory_block formatted in_block slot_block with_slot store_slots with_table with_blocks zero_tail with_size zero_taken resized_image resize_plan resized end_from entries_end first_room parent_of entry_of made_image room_for needed_block made spread written gap_closed without_entry removed_image removed settled done_or check_outcome file_count dir_count summary_of summary_outcome format_outcome span_refusal resize_refusal remove_refusal wrong_entry make_refusal list_refusal read_answer read_outcome field_list fields_at list_answer list_outcome make_outcome resize_outcome write_outcome remove_outcome free_blocks file_blocks directory_blocks chain_blocks anode_blocks total_in total
everything = tt
