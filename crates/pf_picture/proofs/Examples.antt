-- The worked examples, computed.
use Rattle.std.proofs.Common.{refl}
use Rattle.std.specs.Fmt.{digits}
use Rattle.pf_window.specs.Window.{release_of, deadline_of, bit_of}
use Rattle.pf_window.specs.Group.{group_of}
use Rattle.pf_order.specs.Priority.{priority_cmp}
use Rattle.pf_place.specs.Occupancy.{row_of}
use Rattle.pf_scenario.specs.Event.{run_cmp}
use Rattle.pf_scenario.specs.Scenario.{events_of}
use Rattle.pf_run.specs.Record.{done, in_force}
use Rattle.pf_run.specs.Inside.{inside, load_of, count_of, shift_of, member_of, ready}
use Rattle.pf_run.specs.Computed.{course_of}
use Rattle.pf_run.specs.RunRows.{rows_in, denials_in}
use Rattle.pf_tally.specs.Clock.{clock_of}
use Rattle.pf_tally.specs.Misses.{miss_cmp, misses_of}
use Rattle.pf_courses.specs.Course.{tracks_of}
use Rattle.pf_courses.specs.Listing.{listings_of}
use Rattle.pf_picture.specs.Boxes.{quantum_words, window_words, group_words, late_words, place_colour, class_text, rect_text, box_text, number_if_room}
use Rattle.pf_picture.specs.Brackets.{early_text, bracket_text, late_text, quantum_text, ran_text, window_at}
use Rattle.pf_picture.specs.Drawing.{weight_text, weight_behind, drawings_of}
use Rattle.pf_picture.specs.Frame.{opening_text, title_line, settings_words, counts_words, style_text, background_text, length_words, range_line, strips_words, settings_line, tasks_line, front_text}
use Rattle.pf_picture.specs.Grid.{shift_text, unit_text, line_text, slot_number, grid_text, block_front}
use Rattle.pf_picture.specs.Legend.{item_place, item_words, window_items, missed_items, style_items, stop_items, event_items, legend_text}
use Rattle.pf_picture.specs.Lines.{stop_text, group_in, group_if, lag_y, lag_step, lag_start, lag_path, lag_text, join_text, leave_text, denial_words, denied_at, denied_text}
use Rattle.pf_picture.specs.Picture.{picture_text_of}
use Rattle.pf_picture.specs.Processors.{processor_name, turn_text, processor_text}
use Rattle.pf_picture.specs.Shapes.{stretch_shape, drop_shape, mark_shape, bracket_start, bracket_end, field_shape, label_shape, words_shape}
use Rattle.pf_picture.specs.Stairs.{shared_text, shared_if, row_label}
use Rattle.pf_picture.specs.Task.{both_words, words_in, name_text, lag_label, strip_text, stairs_text, windows_in, course_text, admitted_text, task_text_of}
use Rattle.pf_vocabulary.specs.Names.Titled.{number_label}
use Rattle.pf_picture.specs.Examples.{WorkedPictures}

pub worked_pictures : WorkedPictures
unfolding digits release_of deadline_of bit_of group_of priority_cmp row_of run_cmp events_of done in_force inside load_of count_of shift_of member_of ready course_of rows_in denials_in clock_of miss_cmp misses_of tracks_of listings_of
    number_label
    quantum_words window_words group_words late_words place_colour class_text rect_text box_text number_if_room
    early_text bracket_text late_text quantum_text ran_text window_at
    weight_text weight_behind drawings_of
    opening_text title_line settings_words counts_words style_text background_text length_words range_line strips_words settings_line tasks_line front_text
    shift_text unit_text line_text slot_number grid_text block_front
    item_place item_words window_items missed_items style_items stop_items event_items legend_text
    stop_text group_in group_if lag_y lag_step lag_start lag_path lag_text join_text leave_text denial_words denied_at denied_text
    picture_text_of
    processor_name turn_text processor_text
    stretch_shape drop_shape mark_shape bracket_start bracket_end field_shape label_shape words_shape
    shared_text shared_if row_label
    both_words words_in name_text lag_label strip_text stairs_text windows_in course_text admitted_text task_text_of
worked_pictures = record {
  three_tasks = refl;
  delay = refl;
  stairs = refl;
  over_capacity = refl;
  leave_first = refl;
  late_delay = refl;
}
