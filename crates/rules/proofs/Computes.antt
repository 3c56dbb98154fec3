-- A name that opens every definition of the rules at once, for what is shown by computation.
use Prim.Native.Nat.{ℕ}
use lib.Count.{ones_in}
use Rattle.bits.specs.Bits.{count_ones, and_low, fresh_unacked_bits, and_into, bits_empty, bits_cardinality, word_count, bits_below}
use Rattle.rules.specs.Permits.{reading, above_zero, less, total_in_range}
use Rattle.rules.specs.Table.{find, put, keep, all, any, distinct, member, count, is_empty, is_some, or_else}
use Rattle.rules.specs.State.{same_id, same_pair, by_kind, new_dispatcher, topic_of, consumer_of, dispatcher_of, ledger_of, dispatcher, insert, with_topics, with_consumers, with_dispatchers, put_consumer, put_dispatcher}
use Rattle.rules.specs.Ledger.{position_of, holds_id, message_at, batch_size_of, at_or_after, after_id, insert_id, first_at_or_after, seek_position, appended}
use Rattle.rules.specs.Dispatcher.{with_attached, with_next, with_cursor, with_mark_delete, with_total, with_places, with_marks, held_by, without_holder, is_hold, mark_at, complete_at, is_outside, bits_left, ack_entry, ack_mark, ack_id, drop_complete, leading_complete, advance_mark_delete, dispatch_gate_open, cost, live_under, add_permits, sum_permits, balance_check}
use Rattle.rules.specs.Groups.{at_most_groups, groups}
use Rattle.rules.specs.Outcome.{guard, found_or_4, with_live}
use Rattle.rules.specs.Commands.{with_new_entry, append, new_consumer, joined, subscribe, with_permits, flow, ack_groups, ack_shared, with_groups, ack, target_position, with_reading, seek, raised, redeliver_id, redeliver_groups, found_positions, redeliver_plain, redeliver, total_after_close, next_in_ring, left_by, without_consumer, close_consumer, close_found, close}
use Rattle.rules.specs.Push.{choose_ready, first_ready, choose, slot_after, dispatch_of, hand_out, hand_out_next, serve_choice, shared_turn, send_plain, send_plain_next, plain_turn_of, plain_turn, after_turn, turns, serve_dispatcher, plain_backlog, serve_plain, serve_each, push_pending_shared, push_pending, push, flat, flat_records}
use Rattle.rules.specs.Valid.{is_byte, is_word, valid_id, valid_message, valid_topic, ascending, valid_consumer, valid_mark, valid_marks, valid_ring, valid_places, ascending_ids, valid_outside, valid_dispatcher, sound, valid}
use Rattle.rules.specs.Calls.{needed, opened, opening, rule, state_after, run, kind_from, target_from, target_fits, fits, bit_of, value_number, answer_word}
use Rattle.rules.specs.Readings.{record_numbers, all_record_numbers, value_numbers, outcome_numbers, then, entry_1, ring_1, word_numbers, readings}
use Rattle.rules.specs.Histories.Views.{each, unknown_ids, down_from, again, settings, ring, head, queue, flight_numbers, flight, mark_numbers, marks, stored, id_numbers, outsiders, consumer_numbers, own, receivers, handed, set_words, flat_words, on, then_seen, checked}
use Rattle.rules.specs.Histories.Joins.{open_rows, append_rows, subscribe_rows}
use Rattle.rules.specs.Histories.Grants.{flow_rows, close_rows, balance_rows}
use Rattle.rules.specs.Histories.Acks.{list_rows, ack_rows}
use Rattle.rules.specs.Histories.Returns.{redeliver_rows, seek_rows}
use Rattle.rules.specs.Histories.Pushes.{shared_rows, plain_rows, word_rows}
use Rattle.rules.specs.Histories.Spelt.{up_to, spelt_rows, spelt_dispatcher_rows, width_rows}
use Rattle.rules.specs.Histories.{histories}

-- `unfolding computes` lets a history run
unfoldable pub computes : ℕ
unfolding ones_in count_ones and_low fresh_unacked_bits and_into bits_empty bits_cardinality word_count bits_below
    reading above_zero less total_in_range
    find put keep all any distinct member count is_empty is_some or_else
    same_id same_pair by_kind new_dispatcher topic_of consumer_of dispatcher_of ledger_of dispatcher insert with_topics with_consumers with_dispatchers put_consumer put_dispatcher
    position_of holds_id message_at batch_size_of at_or_after after_id insert_id first_at_or_after seek_position appended
    with_attached with_next with_cursor with_mark_delete with_total with_places with_marks held_by without_holder is_hold mark_at complete_at is_outside bits_left ack_entry ack_mark ack_id drop_complete leading_complete advance_mark_delete dispatch_gate_open cost live_under add_permits sum_permits balance_check
    at_most_groups groups
    guard found_or_4 with_live
    with_new_entry append new_consumer joined subscribe with_permits flow ack_groups ack_shared with_groups ack target_position with_reading seek raised redeliver_id redeliver_groups found_positions redeliver_plain redeliver total_after_close next_in_ring left_by without_consumer close_consumer close_found close
    choose_ready first_ready choose slot_after dispatch_of hand_out hand_out_next serve_choice shared_turn send_plain send_plain_next plain_turn_of plain_turn after_turn turns serve_dispatcher plain_backlog serve_plain serve_each push_pending_shared push_pending push flat flat_records
    is_byte is_word valid_id valid_message valid_topic ascending valid_consumer valid_mark valid_marks valid_ring valid_places ascending_ids valid_outside valid_dispatcher sound valid
    needed opened opening rule state_after run kind_from target_from target_fits fits bit_of value_number answer_word
    record_numbers all_record_numbers value_numbers outcome_numbers then entry_1 ring_1 word_numbers readings
    each unknown_ids down_from again settings ring head queue flight_numbers flight mark_numbers marks stored id_numbers outsiders consumer_numbers own receivers handed set_words flat_words on then_seen checked
    open_rows append_rows subscribe_rows flow_rows close_rows balance_rows list_rows ack_rows
    redeliver_rows seek_rows shared_rows plain_rows word_rows up_to spelt_rows spelt_dispatcher_rows width_rows histories
computes = 0
