-- Worked examples of charts.
use Rattle.std.specs.Prelude.{◌≡◌, ℕ, [], ◌∷◌, ◌++◌, codes}
use Rattle.pf_scenario.specs.Scenario.{Plan}
use Rattle.pf_scenario.specs.declared.event.Event.TheVariants.{Join, Leave, Delay, Limit}
use Rattle.pf_run.specs.RunRows.{rows_in, denials_in}
use Rattle.pf_run.specs.Examples.{plan_with}
use Rattle.pf_desk.specs.Desk.{Seen}
use Rattle.pf_vocabulary.specs.Names.Titled.{untitled}
use Rattle.pf_chart.specs.Chart.{chart_text_of, legend_text, task_chart_text_of, task_legend_text}

-- what is seen of the scenario after n slots and so many entries
abbrev pub seen_after : ℕ → Plan → ℕ → Seen
seen_after entries s n =
    record { version = entries; state = record { plan = s; now = n }; rows = rows_in s n; denials = denials_in s n }

pub record WorkedCharts : Type 0 where
  -- three tasks of weight 2/3 on two processors
  pub three_tasks : chart_text_of (seen_after 6 (plan_with 2 3 6 (Join 0 1 2 3 0 ∷ Join 0 2 2 3 0 ∷ Join 0 3 2 3 0 ∷ [])) 3) untitled 0 3 ≡
      codes "slots 0 to 3 of 3; processors 2; base 3; cap 6\n\n            0\n            |..\np0          112\n"
      ++ codes "p1          233\n1 task 1    00\n  windows   [X]\n  lag       =--\n  marks     >\n2 task 2    1.0\n"
      ++ codes "  windows   [X]\n  lag       =-+\n  marks     >\n3 task 3    .11\n  windows   [X]\n  lag       =++\n"
      ++ codes "  marks     >\n" ++ legend_text
  -- a delay stops a clock, and holds back what would run early
  pub delay : chart_text_of (seen_after 10 (plan_with 1 4 4 (Join 0 1 1 4 4 ∷ Delay 1 1 3 ∷ [])) 8) untitled 0 8 ≡
      codes "slots 0 to 8 of 8; processors 1; base 4; cap 4\n\n            0\n            |....:..\np0          1--1---1\n"
      ++ codes "1 task 1    0  0   0\n  windows   [--]   [\n  lag       =---aaaa\n  marks     >   ~~~\n" ++ legend_text
  -- a join is denied
  pub over_capacity : chart_text_of (seen_after 5 (plan_with 2 6 12 (Join 0 1 2 3 0 ∷ Join 0 2 2 3 0 ∷ Join 0 3 2 3 0 ∷ Join 0 4 1 6 0 ∷ [])) 1) untitled 0 1 ≡
      codes "slots 0 to 1 of 1; processors 2; base 6; cap 12\n\n            0\n            |\np0          1\n"
      ++ codes "p1          2\n1 task 1    0\n  windows   [\n  lag       =\n  marks     >\n2 task 2    1\n  windows   [\n"
      ++ codes "  lag       =\n  marks     >\n3 task 3    .\n  windows   [\n  lag       =\n  marks     >\n4 task 4\n"
      ++ codes "  marks     x\n" ++ legend_text
  -- a leave makes room for a join
  pub leave_first : chart_text_of (seen_after 7 (plan_with 1 2 2 (Join 0 1 1 1 0 ∷ Leave 3 1 ∷ Join 3 2 1 1 0 ∷ [])) 4) untitled 0 4 ≡
      codes "slots 0 to 4 of 4; processors 1; base 2; cap 2\n\n            0\n            |...\np0          1112\n"
      ++ codes "1 task 1    000\n  windows   III\n  lag       ===\n  marks     >  <\n2 task 2       0\n  windows      I\n"
      ++ codes "  lag          =\n  marks        >\n" ++ legend_text
  -- a delay is denied
  pub late_delay : chart_text_of (seen_after 5 (plan_with 1 2 4 (Join 0 1 1 1 0 ∷ Join 0 2 1 2 0 ∷ Delay 1 2 1 ∷ [])) 2) untitled 0 2 ≡
      codes "slots 0 to 2 of 2; processors 1; base 2; cap 4\n\n            0\n            |.\np0          11\n"
      ++ codes "1 task 1    00\n  windows   II\n  lag       ==\n  marks     >\n2 task 2    ..\n  windows   []\n"
      ++ codes "  lag       =+\n  marks     >x\n" ++ legend_text
  -- more is asked for than there is
  pub overload : chart_text_of (seen_after 15 (plan_with 2 4 9 (Join 0 1 3 4 0 ∷ Join 0 2 3 4 0 ∷ Join 0 3 3 4 0 ∷ [])) 12) untitled 0 12 ≡
      codes "slots 0 to 12 of 12; processors 2; base 4; cap 9\n\n            0         10\n            |....:....|.\n"
      ++ codes "p0          112233112233\np1          233112233112\n1 task 1    00.11.00.11.\n  windows   [XX][XX][XX]\n"
      ++ codes "  lag       =--+=-++=+++\n  marks     >\n2 task 2    1.00.11.00.1\n  windows   [XX][XX][XX]\n"
      ++ codes "  lag       =-++=+++1++1\n  marks     >       ^  ^\n3 task 3    .11.00.11.00\n  windows   [XX][XX][XX]\n"
      ++ codes "  lag       =+++1++11+11\n  marks     >   ^  ^^ ^^\n" ++ legend_text
  -- processors go out of use, and subtasks run after their deadlines
  pub out_of_use : chart_text_of (seen_after 18 (plan_with 3 6 18 (Join 0 1 2 3 0 ∷ Join 0 2 2 3 0 ∷ Join 0 3 1 2 0 ∷ Join 0 4 1 1 0 ∷ Limit 4 1 ∷ Limit 7 3 ∷ [])) 12) untitled 0 12 ≡
      codes "slots 0 to 12 of 12; processors 3; base 6; cap 18\n\n            0         10\n            |....:....|.\n"
      ++ codes "p0          444441233111\np1          1122###44444\np2          2331###12232\n1 task 1    11 2.0.2.000\n"
      ++ codes "  windows   [X][X][X][X]\n  lag       =--=-+=++1++\n  marks     >        ^\n2 task 2    2.11..0.22.2\n"
      ++ codes "  windows   [X][X][X][X]\n  lag       =-+=-+1+11+1\n  marks     >     ^ ^^ ^\n3 task 3    .22 ..!00.2.\n"
      ++ codes "  windows   [][][][][][]\n  lag       =+=-=+111+1+\n  marks     >      ^^ ^\n4 task 4    00000.!11111\n"
      ++ codes "  windows   IIIIIIIIIIII\n  lag       ======122222\n  marks     >      ^^^^^\n" ++ legend_text
  -- the slots from 6 on
  pub from_six : chart_text_of (seen_after 28 (plan_with 2 60 120 (Join 0 1 5 12 0 ∷ Join 0 2 1 4 0 ∷ Join 0 3 1 2 0 ∷ Join 0 4 2 3 0 ∷ [])) 24) untitled 6 12 ≡
      codes "slots 6 to 12 of 24; processors 2; base 60; cap 120\n\n                10\n            ....|.\n"
      ++ codes "p0          44344-\np1          31213-\n1 task 1     1 1\n  windows   -X-X-]\n  lag       ------\n"
      ++ codes "2 task 2      1\n  windows   -][--]\n  lag       --=---\n3 task 3    1 0 1\n  windows   [][][]\n"
      ++ codes "  lag       =-=-=-\n4 task 4    00 00\n  windows   [X][X]\n  lag       =--=--\n" ++ legend_text
  -- the second of three tasks alone
  pub second_alone : task_chart_text_of (seen_after 6 (plan_with 2 3 6 (Join 0 1 2 3 0 ∷ Join 0 2 2 3 0 ∷ Join 0 3 2 3 0 ∷ [])) 3) untitled (record { first = 2; last = 2 } ∷ []) 0 3 ≡
      codes "slots 0 to 3 of 3; processors 2; base 3; cap 6; tasks 1 of 3\n\n            0\n            |..\n"
      ++ codes "p0          ..1\np1          1..\n1 task 2    1.0\n  windows   [X]\n  lag       =-+\n  marks     >\n" ++ task_legend_text
