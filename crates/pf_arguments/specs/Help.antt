-- What help tells: the lesson of a command, a topic, and which of them a word that is neither may mean.
use Rattle.std.specs.Prelude.{ℕ, if◌then◌else◌, List, [], ◌∷◌, ◌++◌, Option, None, Some, codes}
use Rattle.std.specs.Str.{bytes_eq}
use Rattle.clap.specs.Words.{Text}
use Rattle.pf_message.specs.Nearness.{near_name}
use Rattle.pf_arguments.specs.declared.lessons.check.TheConstants.{CHECK}
use Rattle.pf_arguments.specs.declared.lessons.convert.TheConstants.{CONVERT}
use Rattle.pf_arguments.specs.declared.lessons.desk.TheConstants.{DESK}
use Rattle.pf_arguments.specs.declared.lessons.diff.TheConstants.{DIFF}
use Rattle.pf_arguments.specs.declared.lessons.drill.TheConstants.{DRILL}
use Rattle.pf_arguments.specs.declared.lessons.fit.TheConstants.{FIT}
use Rattle.pf_arguments.specs.declared.lessons.program.TheConstants.{PROGRAM}
use Rattle.pf_arguments.specs.declared.lessons.run.TheConstants.{RUN}
use Rattle.pf_arguments.specs.declared.lessons.why.TheConstants.{WHY}
use Rattle.pf_arguments.specs.declared.topics.formats.TheConstants.{FORMATS}
use Rattle.pf_arguments.specs.declared.topics.list.TheConstants.{LIST}
use Rattle.pf_arguments.specs.declared.topics.plan.TheConstants.{PLAN}
use Rattle.pf_arguments.specs.declared.topics.script.TheConstants.{SCRIPT}
use Rattle.pf_arguments.specs.declared.topics.status.TheConstants.{STATUS}

-- the lesson of the command of this name; that of the program where there is none
unfoldable pub lesson_named : Text → Text
lesson_named name =
    if bytes_eq name (codes "fit") then FIT.now
    else if bytes_eq name (codes "run") then RUN.now
    else if bytes_eq name (codes "why") then WHY.now
    else if bytes_eq name (codes "check") then CHECK.now
    else if bytes_eq name (codes "diff") then DIFF.now
    else if bytes_eq name (codes "convert") then CONVERT.now
    else if bytes_eq name (codes "desk") then DESK.now
    else if bytes_eq name (codes "drill") then DRILL.now
    else PROGRAM.now

-- the lesson that words ask for: the command is the first of them, or the one after `help`
abbrev pub lesson_of : List Text → Text
lesson_of [] = PROGRAM.now
lesson_of (first ∷ []) = lesson_named first
lesson_of (first ∷ second ∷ words) = if bytes_eq first (codes "help") then lesson_named second else lesson_named first

-- the topic of this name
unfoldable pub topic_named : Text → Option Text
topic_named name =
    if bytes_eq name (codes "plan") then Some PLAN.now
    else if bytes_eq name (codes "list") then Some LIST.now
    else if bytes_eq name (codes "formats") then Some FORMATS.now
    else if bytes_eq name (codes "status") then Some STATUS.now
    else if bytes_eq name (codes "script") then Some SCRIPT.now
    else None

-- what holds of the one word after `help`; else the other
abbrev pub behind_help : {A : Type 0} → (Text → A) → A → List Text → A
behind_help told other [] = other
behind_help told other (first ∷ []) = other
behind_help told other (first ∷ second ∷ []) = if bytes_eq first (codes "help") then told second else other
behind_help told other (first ∷ second ∷ third ∷ words) = other

-- the topic that words ask for
unfoldable pub topic_asked : List Text → Option Text
topic_asked words = behind_help topic_named None words

-- commands and topics
abbrev pub help_names : List Text
help_names =
    codes "fit" ∷ codes "run" ∷ codes "why" ∷ codes "check" ∷ codes "diff" ∷ codes "convert" ∷ codes "desk" ∷ codes "drill"
    ∷ codes "plan" ∷ codes "list" ∷ codes "formats" ∷ codes "status" ∷ codes "script" ∷ []

-- help of the one that is near, or of the program
abbrev pub help_near : Option Text → List ℕ
help_near None = codes "pfair --help"
help_near (Some name) = codes "pfair help " ++ name

abbrev pub help_meant : Text → List ℕ
help_meant word = help_near (near_name word help_names)
