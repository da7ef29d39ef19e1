-- The worked examples of words, computed.
use Rattle.std.proofs.Common.{refl, inl, inr}
use Rattle.clap.proofs.OnLiterals.{clap_on_literals}
use Rattle.clap.specs.declared.error.kind.ErrorKind.TheVariants as kind
use Rattle.pf_arguments.specs.CommandLine.{kinds_of}
use Rattle.pf_arguments.specs.Help.{lesson_named, topic_asked, topic_named}
use Rattle.pf_arguments.specs.Mistakes.Hints.{format_like}
use Rattle.pf_text.specs.Quoted.{quoted}
use Rattle.pf_arguments.specs.Asked.{IsShown, task_asked, pair_asked, desk_asked, file_asked, telling_asked}
use Rattle.pf_vocabulary.specs.Names.Text.{is_text}
use Rattle.pf_text.specs.Numbers.{number_of}
use Rattle.pf_vocabulary.specs.Names.Slots.{unit_named}
use Rattle.pf_convert.specs.List.Times.{blanks_length, few_digits, number_in, number_length, time_in, unit_after}
use Rattle.pf_convert.specs.Words.Fits.{fit_of}
use Rattle.pf_convert.specs.Words.Reading.{arrivals_named, conversion_of, first_not_above, format_named, has_quantum, quanta_from, words_from}
use Rattle.pf_vocabulary.specs.TaskWords.Reading.{with_items}
use Rattle.pf_arguments.specs.Examples.{Runs, Ranged, Pictured, Styled, Listed, FailingRuns, Files, Drilled, Differences, Compared, Conversions, Reasons, Fitting, Desks, Helped, Told, Mistaken, Showable, WorkedWords}

runs : Runs
unfolding clap_on_literals kinds_of topic_asked task_asked
runs = record { none = refl; run = refl; tables = refl; json = refl; schedule = refl; lags = refl; script = refl; of_file = refl }

ranged : Ranged
unfolding clap_on_literals kinds_of topic_asked task_asked number_of
ranged = record { both = refl; from = refl; turned = refl; unranged = (refl, refl); tables = (refl, refl); jobs = (refl, refl); no_number = (refl, refl) }

pictured : Pictured
unfolding clap_on_literals kinds_of topic_asked task_asked number_of
pictured = record {
  usual = refl;
  cell = refl;
  least = refl;
  most = refl;
  narrow = (refl, refl);
  wide = (refl, refl);
  no_number = (refl, refl);
  chart = (refl, refl);
  tables = (refl, refl);
}

styled : Styled
unfolding clap_on_literals kinds_of topic_asked task_asked number_of
styled = record {
  wrap = refl;
  stairs = refl;
  strips = refl;
  none = (refl, refl);
  many = (refl, refl);
  paper = (refl, refl);
  wrapped_chart = (refl, refl);
  styled_chart = (refl, refl);
  cell_first = (refl, refl);
  wrap_next = (refl, refl);
}

listed : Listed
unfolding clap_on_literals kinds_of topic_asked task_asked with_items number_of is_text
listed = record {
  one = refl;
  several = refl;
  failing = refl;
  empty = (refl, refl);
  turned = (refl, refl);
  nobody = (refl, refl);
  large = (refl, refl);
  no_name = (refl, refl);
  tables = (refl, refl);
  list_first = (refl, refl);
}

unknown_is_not_shown : ¬ IsShown kind.UnknownArgument
unknown_is_not_shown (inl help) = cc
unknown_is_not_shown (inr version) = cc

missing_is_not_shown : ¬ IsShown kind.MissingRequiredArgument
missing_is_not_shown (inl help) = cc
missing_is_not_shown (inr version) = cc

many_is_not_shown : ¬ IsShown kind.TooManyValues
many_is_not_shown (inl help) = cc
many_is_not_shown (inr version) = cc

invalid_is_not_shown : ¬ IsShown kind.InvalidValue
invalid_is_not_shown (inl help) = cc
invalid_is_not_shown (inr version) = cc

conflict_is_not_shown : ¬ IsShown kind.ArgumentConflict
conflict_is_not_shown (inl help) = cc
conflict_is_not_shown (inr version) = cc

failing : FailingRuns
unfolding clap_on_literals kinds_of topic_asked task_asked
failing = record {
  refused = refl;
  denied = refl;
  both = refl;
  twice = refl;
  all = refl;
  none = (refl, refl);
  empty = (refl, refl);
  other = (refl, refl);
  spaced = (refl, refl);
  format = (refl, refl);
  check = (kind.UnknownArgument, unknown_is_not_shown, inl refl, refl);
}

files : Files
unfolding clap_on_literals kinds_of topic_asked file_asked
files = record { run = refl; before = refl; check = refl; dash = refl; none = refl }

showable : Showable
showable = record { most = refl; too_many = refl; part = refl; chart = refl; behind = refl; turned = refl }

drilled : Drilled
unfolding clap_on_literals kinds_of topic_asked task_asked file_asked
drilled = record {
  alone = refl;
  none = refl;
  of_file = (kind.UnknownArgument, unknown_is_not_shown, inl refl, refl);
  in_format = (kind.UnknownArgument, unknown_is_not_shown, inl refl, refl);
  help = inl refl;
}

differences : Differences
unfolding clap_on_literals kinds_of topic_asked task_asked file_asked number_of
differences = record {
  last = refl;
  since = refl;
  of_file = refl;
  dash = refl;
  no_number = (refl, refl);
  no_record = (refl, refl);
  summed = refl;
  judged = refl;
  valued = (kind.TooManyValues, many_is_not_shown, inl refl, refl);
  twice = (kind.ArgumentConflict, conflict_is_not_shown, inl refl, refl);
  in_format = (kind.UnknownArgument, unknown_is_not_shown, inl refl, refl);
  of_a_run = (kind.UnknownArgument, unknown_is_not_shown, inl refl, refl);
  help = inl refl;
}

compared : Compared
unfolding clap_on_literals kinds_of topic_asked task_asked pair_asked desk_asked file_asked number_of
compared = record {
  both = refl;
  told = refl;
  input_first = refl;
  input_second = refl;
  no_task = refl;
  one = refl;
  files_read = refl;
  input_read = refl;
  alone_read = refl;
  since = (refl, refl);
  input_twice = (refl, refl);
  since_first = (refl, refl);
  no_number = (refl, refl);
  three = (kind.UnknownArgument, unknown_is_not_shown, inl refl, refl);
  checked = (kind.UnknownArgument, unknown_is_not_shown, inl refl, refl);
}

conversions : Conversions
unfolding clap_on_literals kinds_of topic_asked task_asked file_asked conversion_of format_named arrivals_named words_from quanta_from has_quantum first_not_above time_in number_in number_length unit_after blanks_length few_digits unit_named
conversions = record {
  alone = refl;
  several = refl;
  in_json = refl;
  of_file = refl;
  dash = refl;
  found = refl;
  nothing = (refl, refl);
  twice = (refl, refl);
  many = (refl, refl);
  switch = (refl, refl);
  of_two = (refl, refl);
  format = (refl, refl);
  of_a_run = (kind.UnknownArgument, unknown_is_not_shown, inl refl, refl);
  ranged = (kind.UnknownArgument, unknown_is_not_shown, inl refl, refl);
  help = inl refl;
}

reasons : Reasons
unfolding clap_on_literals kinds_of topic_asked task_asked file_asked number_of is_text
reasons = record {
  slot = refl;
  of_file = refl;
  dash = refl;
  task = refl;
  named = refl;
  no_slot = (kind.MissingRequiredArgument, missing_is_not_shown, inl refl, refl);
  twice = (kind.UnknownArgument, unknown_is_not_shown, inl refl, refl);
  no_number = (refl, refl);
  no_format = (refl, refl);
  no_task = (refl, refl);
  no_name = (refl, refl);
  help = inl refl;
}

fitting : Fitting
unfolding clap_on_literals kinds_of topic_asked task_asked file_asked fit_of conversion_of words_from quanta_from has_quantum first_not_above time_in number_in number_length unit_after blanks_length few_digits
fitting = record {
  alone = refl;
  text = refl;
  json = refl;
  of_list = refl;
  of_file = refl;
  dash = refl;
  unknown = (refl, refl);
  nothing = (refl, refl);
  in_range = (kind.UnknownArgument, unknown_is_not_shown, inl refl, refl);
  help = inl refl;
}

desks : Desks
unfolding clap_on_literals kinds_of topic_asked task_asked pair_asked desk_asked file_asked
desks = record {
  alone = refl;
  json = refl;
  quiet = refl;
  kept = refl;
  begun = refl;
  no_task = refl;
  no_desk = refl;
  input_read = refl;
  unnamed = (kind.InvalidValue, invalid_is_not_shown, inl refl, refl);
  journals = (kind.ArgumentConflict, conflict_is_not_shown, inl refl, refl);
  twice = (kind.UnknownArgument, unknown_is_not_shown, inl refl, refl);
  in_format = (kind.UnknownArgument, unknown_is_not_shown, inl refl, refl);
  noted = (kind.UnknownArgument, unknown_is_not_shown, inl refl, refl);
  help = inl refl;
}

subcommand_is_not_shown : ¬ IsShown kind.InvalidSubcommand
subcommand_is_not_shown (inl help) = cc
subcommand_is_not_shown (inr version) = cc

helped : Helped
unfolding clap_on_literals kinds_of topic_asked topic_named lesson_named
helped = record {
  plan = refl;
  status = refl;
  command = refl;
  asked = inl refl;
  lesson = refl;
  behind = refl;
  whole = refl;
  more = (kind.InvalidSubcommand, subcommand_is_not_shown, inr (inl refl), refl);
  alone = (kind.UnknownArgument, unknown_is_not_shown, inl refl, refl);
  no_hint = refl;
}

told : Told
unfolding clap_on_literals kinds_of topic_asked telling_asked
told = record {
  none = refl;
  of_file = refl;
  dash = refl;
  asked = refl;
  checked = refl;
  quiet = refl;
  second = refl;
  list = refl;
  either = refl;
  fits = refl;
  of_a_fit = (kind.UnknownArgument, unknown_is_not_shown, inl refl, refl);
  of_a_check = (kind.UnknownArgument, unknown_is_not_shown, inl refl, refl);
}

mistaken : Mistaken
unfolding clap_on_literals kinds_of quoted format_like number_of with_items is_text
mistaken = record {
  cell = refl;
  short = refl;
  format = refl;
  end = refl;
  like = refl;
  quiet = refl;
  slot = refl;
  tasks = refl;
  no_tasks = refl;
  version = refl;
  json = refl;
  several = refl;
  list = refl;
}

pub worked_words : WorkedWords
unfolding clap_on_literals kinds_of topic_asked task_asked
worked_words = record {
  runs = runs;
  ranged = ranged;
  pictured = pictured;
  styled = styled;
  listed = listed;
  failing = failing;
  files = files;
  drilled = drilled;
  differences = differences;
  compared = compared;
  conversions = conversions;
  reasons = reasons;
  fitting = fitting;
  desks = desks;
  helped = helped;
  told = told;
  mistaken = mistaken;
  showable = showable;
  check = refl;
  check_run = refl;
  unknown = (refl, refl);
  option_alone = (kind.UnknownArgument, unknown_is_not_shown, inl refl, refl);
  alone = (kind.UnknownArgument, unknown_is_not_shown, inl refl, refl);
  twice = (kind.UnknownArgument, unknown_is_not_shown, inl refl, refl);
  check_format = (kind.UnknownArgument, unknown_is_not_shown, inl refl, refl);
  help = inl refl;
  version = inl refl;
  version_by_letter = inl refl;
}
