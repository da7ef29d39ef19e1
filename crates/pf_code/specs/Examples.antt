-- Worked examples of tables.
use Rattle.std.specs.Prelude.{◌≡◌, [], ◌∷◌, ◌++◌, codes}
use Rattle.pf_scenario.specs.declared.event.Event.TheVariants.{Join}
use Rattle.pf_vocabulary.specs.Names.Titled.{untitled}
use Rattle.pf_vocabulary.specs.Options.Ranges.{whole}
use Rattle.pf_run.specs.Examples.{plan_with, three_joins, two_joins}
use Rattle.pf_report.specs.Examples.{seen_after}
use Rattle.pf_code.specs.Array.{c_text}
use Rattle.pf_code.specs.Symbol.{usual_symbol}

pub record WorkedArrays : Type 0 where
  -- three tasks of weight 2/3 on two processors
  pub three_tasks : c_text (seen_after 0 (plan_with 2 3 6 three_joins) 3) untitled whole usual_symbol ≡
      codes "/* PD2 schedule, slots 0 to 3 of 3, 2 processors, base 3. A row is a slot, a column a processor; 0 is nobody. */\n"
      ++ codes "/* It repeats: the tasks of slot t are those of row t mod 3, for ever. */\n"
      ++ codes "#ifndef PFAIR_SCHEDULE_H\n#define PFAIR_SCHEDULE_H\n#include <stdint.h>\n"
      ++ codes "enum { PFAIR_PROCESSORS = 2, PFAIR_FROM = 0, PFAIR_SLOTS = 3, PFAIR_REPEATS = 3 };\nenum {\n"
      ++ codes "    PFAIR_TASK_1 = 1, /* 2 of 3 slots */\n    PFAIR_TASK_2 = 2, /* 2 of 3 slots */\n    PFAIR_TASK_3 = 3 /* 2 of 3 slots */\n"
      ++ codes "};\ntypedef uint8_t pfair_task;\n"
      ++ codes "static const pfair_task pfair_schedule[3][2] = {\n    {1, 2},\n    {1, 3},\n    {2, 3},\n};\n#endif\n"
  -- more is asked for than there is
  pub overload : c_text (seen_after 0 (plan_with 1 1 2 two_joins) 4) untitled whole usual_symbol ≡
      codes "/* PD2 schedule, slots 0 to 4 of 4, 1 processors, base 1. A row is a slot, a column a processor; 0 is nobody. */\n"
      ++ codes "/* It is not known to repeat: the load is above the processors. */\n"
      ++ codes "#ifndef PFAIR_SCHEDULE_H\n#define PFAIR_SCHEDULE_H\n#include <stdint.h>\n"
      ++ codes "enum { PFAIR_PROCESSORS = 1, PFAIR_FROM = 0, PFAIR_SLOTS = 4, PFAIR_REPEATS = 0 };\nenum {\n"
      ++ codes "    PFAIR_TASK_1 = 1, /* 1 of 1 slots */\n    PFAIR_TASK_2 = 2 /* 1 of 1 slots */\n};\ntypedef uint8_t pfair_task;\n"
      ++ codes "static const pfair_task pfair_schedule[4][1] = {\n    {1},\n    {2},\n    {1},\n    {2},\n};\n#endif\n"
  -- no slot was stepped
  pub none : c_text (seen_after 0 (plan_with 3 6 12 (Join 0 1 1 2 0 ∷ [])) 0) untitled whole usual_symbol ≡
      codes "/* PD2 schedule, slots 0 to 0 of 0, 3 processors, base 6. A row is a slot, a column a processor; 0 is nobody. */\n"
      ++ codes "/* It is not known to repeat: no slot was stepped. */\n"
      ++ codes "#ifndef PFAIR_SCHEDULE_H\n#define PFAIR_SCHEDULE_H\n#include <stdint.h>\n"
      ++ codes "enum { PFAIR_PROCESSORS = 3, PFAIR_FROM = 0, PFAIR_SLOTS = 0, PFAIR_REPEATS = 0 };\ntypedef uint8_t pfair_task;\n"
      ++ codes "static const pfair_task pfair_schedule[1][3] = {\n    {0, 0, 0},\n};\n#endif\n"
