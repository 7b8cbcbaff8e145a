-- The command line in the terms of `clap`, and what arguments ask for.
use Rattle.std.specs.Prelude.{◌≡◌, ◌≢◌, ◌⊎◌, ⊤, ℕ, Bool, List, [], ◌∷◌, Option, Some, None, false, true}
use Rattle.std.specs.Prelude.{bytes_eq, codes, option_map, unwrap_or}
use Rattle.clap.specs.Lexer.{usize_max}
use Rattle.clap.specs.Walk.{Row, Rule, Text, all_of, first_of, texts}
use Rattle.clap.specs.Simple.{App, new_app, new_rule, on_top, subcommand_of, with_rule}
use Rattle.clap.specs.Simple.{subcommand_rows_of, with_subcommand}
use Rattle.clap.specs.Faults.{fault_of}
use Rattle.clap.specs.Kinds.{IsAmong}
use Rattle.clap.specs.declared.builder.action.ArgAction.TheVariants.{Append, Set, SetTrue}
use Rattle.clap.specs.declared.parser.matches.ArgMatches.{ArgMatches}
use Rattle.clap.specs.declared.error.kind.ErrorKind.{ErrorKind}
use Rattle.clap.specs.declared.error.kind.ErrorKind.TheVariants.{DisplayHelp, DisplayVersion, OutOfMemory}
use Rattle.command_line.specs.Number.{Spells}
use Rattle.command_line.specs.declared.options.AdoptOptions.{AdoptOptions}
use Rattle.command_line.specs.declared.options.CertifyOptions.{CertifyOptions}
use Rattle.command_line.specs.declared.options.CheckOptions.{CheckOptions}
use Rattle.command_line.specs.declared.options.EnactOptions.{EnactOptions}
use Rattle.command_line.specs.declared.options.PlanOptions.{PlanOptions}
use Rattle.command_line.specs.declared.options.ExploreOptions.{ExploreOptions}
use Rattle.command_line.specs.declared.options.LimitOptions.{LimitOptions}
use Rattle.command_line.specs.declared.options.StartOptions.{StartOptions}
use Rattle.command_line.specs.declared.options.SuperviseOptions.{SuperviseOptions}
use Rattle.command_line.specs.declared.Request.{Request}
use Rattle.command_line.specs.declared.Request.TheVariants.{Adopt, Certify, Check, Child, Enact, Explain, Explore, Plan, Show, Supervise}
use Rattle.command_line.specs.declared.refusal.Refusal.{Refusal}
use Rattle.command_line.specs.declared.refusal.Refusal.TheVariants.{Usage, Memory}

-- ---- the command line

-- `--NAME VALUE`
abbrev pub option_rule : Text → Rule
option_rule name = record (new_rule name) {
  long = Some name;
  action = Some Set;
  value_names = 1;
}

-- `--NAME VALUE`, as often as it is given
abbrev pub repeated_rule : Text → Rule
repeated_rule name = record (option_rule name) {
  action = Some Append;
}

-- `--NAME`
abbrev pub flag_rule : Text → Rule
flag_rule name = record (new_rule name) {
  long = Some name;
  action = Some SetTrue;
}

-- `VALUE`, which must be there
abbrev pub required_rule : Text → Rule
required_rule name = record (new_rule name) {
  required = true;
  value_names = 1;
}

-- `VALUE..`, of which one must be there
abbrev pub several_rule : Text → Rule
several_rule name = record (required_rule name) {
  range = Some (record { start_inclusive = 1; end_inclusive = usize_max });
  action = Some Append;
}

-- `WORD..`
abbrev pub words_rule : Rule
words_rule = several_rule (codes "words")

-- `WORD`
abbrev pub word_rule : Rule
word_rule = record (required_rule (codes "word")) {
  action = Some Set;
}

-- `[CODE]`
abbrev pub code_rule : Rule
code_rule = record (new_rule (codes "code")) {
  action = Some Set;
  value_names = 1;
}

-- `[--from FILE] [--to FILE]`
abbrev pub with_files : App → App
with_files app = with_rule (with_rule app (option_rule (codes "from"))) (option_rule (codes "to"))

-- `[--from FILE] [--to FILE]..`
abbrev pub with_goals : App → App
with_goals app = with_rule (with_rule app (option_rule (codes "from"))) (repeated_rule (codes "to"))

-- `[--workers N] [--bare] [--why]`
abbrev pub with_running : App → App
with_running app = with_rule (with_rule (with_rule app (option_rule (codes "workers"))) (flag_rule (codes "bare"))) (flag_rule (codes "why"))

-- `[--from FILE] [--to FILE] [--workers N] [--bare] [--why] [--json]`
abbrev pub with_start : App → App
with_start app = with_running (with_files app)

abbrev pub with_answer : App → App
with_answer app = with_rule (with_start app) (flag_rule (codes "json"))

abbrev pub enact_app : App
enact_app = with_rule (with_rule (with_rule (with_answer (new_app (codes "enact"))) (option_rule (codes "held"))) (flag_rule (codes "state"))) words_rule

abbrev pub plan_app : App
plan_app = with_rule (with_rule (with_answer (new_app (codes "plan"))) (flag_rule (codes "dot"))) word_rule

-- those of a start, `[--held ADDRESS] [--list] [--progress] [--deaths]`
abbrev pub with_list : App → App
with_list app =
    with_rule
    (with_rule (with_rule (with_rule (with_answer app) (option_rule (codes "held"))) (flag_rule (codes "list"))) (flag_rule (codes "progress")))
    (flag_rule (codes "deaths"))

-- `[--events K] [--turns TEXT] [--limit N] [--forbid END] [--require END] [--least N]`
abbrev pub with_runs : App → App
with_runs app =
    with_rule (with_rule (with_rule (with_rule app (option_rule (codes "events"))) (option_rule (codes "turns"))) (option_rule (codes "limit"))) (option_rule (codes "forbid"))

abbrev pub with_demands : App → App
with_demands app = with_rule (with_rule app (option_rule (codes "require"))) (option_rule (codes "least"))

abbrev pub explore_app : App
explore_app = with_rule (with_demands (with_runs (with_list (new_app (codes "explore"))))) word_rule

abbrev pub certify_app : App
certify_app =
    with_rule (with_rule (with_rule (with_running (with_goals (new_app (codes "certify")))) (flag_rule (codes "json"))) (flag_rule (codes "life")))
    (option_rule (codes "held"))

abbrev pub check_app : App
check_app = with_rule (with_rule (new_app (codes "check")) (flag_rule (codes "json"))) (several_rule (codes "files"))

-- `--program PROGRAM`, which must be there
abbrev pub program_rule : Rule
program_rule = record (option_rule (codes "program")) { required = true }

-- `[--answer-within SECONDS] [--ready-within SECONDS]`
abbrev pub with_limits : App → App
with_limits app = with_rule (with_rule app (option_rule (codes "answer-within"))) (option_rule (codes "ready-within"))

abbrev pub with_family : App → App
with_family app = with_limits (with_rule (with_files app) program_rule)

abbrev pub supervise_app : App
supervise_app = with_rule (with_rule (with_family (new_app (codes "supervise"))) (flag_rule (codes "verbose"))) (flag_rule (codes "why"))

abbrev pub adopt_app : App
adopt_app = with_limits (with_rule (new_app (codes "adopt")) (option_rule (codes "program")))

abbrev pub child_app : App
child_app = new_app (codes "child")

abbrev pub explain_app : App
explain_app = with_rule (new_app (codes "explain")) code_rule

-- the program without its subcommands
abbrev pub bare_app : App
bare_app = on_top (λ top. record top {
  has_version = true;
  subcommand_required = true;
  disable_help_subcommand = true;
}) (new_app (codes "prefork"))

-- the subcommands to which control words are told
abbrev pub with_words : App → App
with_words app = with_subcommand (with_subcommand (with_subcommand app enact_app.top) plan_app.top) explore_app.top

-- the subcommands that are masters and workers
abbrev pub with_children : App → App
with_children app = with_subcommand (with_subcommand (with_subcommand app supervise_app.top) adopt_app.top) child_app.top

abbrev pub with_readers : App → App
with_readers app = with_subcommand (with_subcommand (with_subcommand app certify_app.top) check_app.top) explain_app.top

abbrev pub prefork_app : App
prefork_app = with_readers (with_children (with_words bare_app))

-- ---- what a subcommand is given

-- how a master starts, and which files it reads
pub record Start : Type 0 where
  pub from : Option Text
  pub to : Option Text
  pub workers : Option ℕ
  pub bare : Bool
  pub why : Bool
  pub json : Bool

-- what `enact` is given
pub record Enactment : Type 0 where
  pub start : Start
  pub held : Option Text
  pub state : Bool
  pub words : List Text

-- what `plan` is given
pub record Planning : Type 0 where
  pub start : Start
  pub dot : Bool
  pub word : Text

-- what `explore` is given
pub record Exploration : Type 0 where
  pub start : Start
  pub held : Option Text
  pub events : Option ℕ
  pub turns : Option Text
  pub limit : Option ℕ
  pub forbid : Option Text
  pub require : Option Text
  pub least : Option ℕ
  pub list : Bool
  pub progress : Bool
  pub deaths : Bool
  pub word : Text

-- what `certify` is given; the goals are all files of `--to`, of which the start names the first
pub record Certification : Type 0 where
  pub start : Start
  pub held : Option Text
  pub goals : List Text
  pub life : Bool

-- what `check` is given
pub record Checking : Type 0 where
  pub files : List Text
  pub json : Bool

-- how long a child may keep its master waiting, in seconds
pub record Limiting : Type 0 where
  pub answer_within : Option ℕ
  pub ready_within : Option ℕ

-- what `supervise` is given
pub record Supervision : Type 0 where
  pub program : Text
  pub from : Option Text
  pub to : Option Text
  pub limits : Limiting
  pub verbose : Bool
  pub why : Bool

-- what `adopt` is given
pub record Adoption : Type 0 where
  pub program : Option Text
  pub limits : Limiting

abbrev pub start_of : StartOptions → Start
start_of options = record {
  from = option_map (λ text. text.now) options.from;
  to = option_map (λ text. text.now) options.to;
  workers = options.workers;
  bare = options.bare;
  why = options.why;
  json = options.json;
}

abbrev pub enactment_of : EnactOptions → Enactment
enactment_of options = record {
  start = start_of options.start;
  held = option_map (λ text. text.now) options.held;
  state = options.state;
  words = texts options.words.items;
}

abbrev pub planning_of : PlanOptions → Planning
planning_of options = record {
  start = start_of options.start;
  dot = options.dot;
  word = options.word.now;
}

abbrev pub exploration_of : ExploreOptions → Exploration
exploration_of options = record {
  start = start_of options.start;
  held = option_map (λ text. text.now) options.held;
  events = options.events;
  turns = option_map (λ text. text.now) options.turns;
  limit = options.limit;
  forbid = option_map (λ text. text.now) options.forbid;
  require = option_map (λ text. text.now) options.require;
  least = options.least;
  list = options.list;
  progress = options.progress;
  deaths = options.deaths;
  word = options.word.now;
}

abbrev pub certification_of : CertifyOptions → Certification
certification_of options = record {
  start = start_of options.start;
  held = option_map (λ text. text.now) options.held;
  goals = texts options.goals.items;
  life = options.life;
}

abbrev pub checking_of : CheckOptions → Checking
checking_of options = record {
  files = texts options.files.items;
  json = options.json;
}

abbrev pub limiting_of : LimitOptions → Limiting
limiting_of options = record {
  answer_within = options.answer_within;
  ready_within = options.ready_within;
}

abbrev pub supervision_of : SuperviseOptions → Supervision
supervision_of options = record {
  program = options.program.now;
  from = option_map (λ text. text.now) options.from;
  to = option_map (λ text. text.now) options.to;
  limits = limiting_of options.limits;
  verbose = options.verbose;
  why = options.why;
}

abbrev pub adoption_of : AdoptOptions → Adoption
adoption_of options = record {
  program = option_map (λ text. text.now) options.program;
  limits = limiting_of options.limits;
}

-- ---- what `clap` finds for a subcommand

-- the value of an option that takes a number is one, or there is none
abbrev pub IsNumber : Option Text → Option ℕ → Type 0
IsNumber None None = ⊤
IsNumber (Some text) (Some n) = Spells text n
IsNumber _ _ = ⊥

-- a flag is given where `clap` finds it true
abbrev pub is_given : Option Text → Bool
is_given None = false
is_given (Some text) = bytes_eq text (codes "true")

pub record FindsStart (rows : List Row) (start : Start) : Type 0 where
  pub from : start.from ≡ first_of (codes "from") rows
  pub to : start.to ≡ first_of (codes "to") rows
  pub workers : IsNumber (first_of (codes "workers") rows) start.workers
  pub bare : start.bare ≡ is_given (first_of (codes "bare") rows)
  pub why : start.why ≡ is_given (first_of (codes "why") rows)
  pub json : start.json ≡ is_given (first_of (codes "json") rows)

pub record FindsEnactment (rows : List Row) (values : Enactment) : Type 0 where
  pub start : FindsStart rows values.start
  pub held : values.held ≡ first_of (codes "held") rows
  pub state : values.state ≡ is_given (first_of (codes "state") rows)
  pub words : all_of (codes "words") rows ≡ Some values.words

pub record FindsPlanning (rows : List Row) (values : Planning) : Type 0 where
  pub start : FindsStart rows values.start
  pub dot : values.dot ≡ is_given (first_of (codes "dot") rows)
  pub word : first_of (codes "word") rows ≡ Some values.word

pub record FindsExploration (rows : List Row) (values : Exploration) : Type 0 where
  pub start : FindsStart rows values.start
  pub held : values.held ≡ first_of (codes "held") rows
  pub events : IsNumber (first_of (codes "events") rows) values.events
  pub turns : values.turns ≡ first_of (codes "turns") rows
  pub limit : IsNumber (first_of (codes "limit") rows) values.limit
  pub forbid : values.forbid ≡ first_of (codes "forbid") rows
  pub require : values.require ≡ first_of (codes "require") rows
  pub least : IsNumber (first_of (codes "least") rows) values.least
  pub list : values.list ≡ is_given (first_of (codes "list") rows)
  pub progress : values.progress ≡ is_given (first_of (codes "progress") rows)
  pub deaths : values.deaths ≡ is_given (first_of (codes "deaths") rows)
  pub word : first_of (codes "word") rows ≡ Some values.word

pub record FindsCertification (rows : List Row) (values : Certification) : Type 0 where
  pub start : FindsStart rows values.start
  pub held : values.held ≡ first_of (codes "held") rows
  pub goals : values.goals ≡ unwrap_or (all_of (codes "to") rows) []
  pub life : values.life ≡ is_given (first_of (codes "life") rows)

pub record FindsChecking (rows : List Row) (values : Checking) : Type 0 where
  pub files : all_of (codes "files") rows ≡ Some values.files
  pub json : values.json ≡ is_given (first_of (codes "json") rows)

pub record FindsLimiting (rows : List Row) (limits : Limiting) : Type 0 where
  pub answer_within : IsNumber (first_of (codes "answer-within") rows) limits.answer_within
  pub ready_within : IsNumber (first_of (codes "ready-within") rows) limits.ready_within

pub record FindsSupervision (rows : List Row) (values : Supervision) : Type 0 where
  pub program : first_of (codes "program") rows ≡ Some values.program
  pub from : values.from ≡ first_of (codes "from") rows
  pub to : values.to ≡ first_of (codes "to") rows
  pub limits : FindsLimiting rows values.limits
  pub verbose : values.verbose ≡ is_given (first_of (codes "verbose") rows)
  pub why : values.why ≡ is_given (first_of (codes "why") rows)

pub record FindsAdoption (rows : List Row) (values : Adoption) : Type 0 where
  pub program : values.program ≡ first_of (codes "program") rows
  pub limits : FindsLimiting rows values.limits

-- ---- what arguments ask for

-- `clap` takes the arguments as those of a subcommand, and finds what the test says
pub record AsksFor (name : Text) (Finds : List Row → Type 0) (arguments : List Text) : Type 0 where
  pub rows : List Row
  pub taken : fault_of prefork_app arguments ≡ []
  pub command : subcommand_of prefork_app arguments ≡ Some (name, rows)
  pub values : Finds rows

abbrev pub AsksEnact : List Text → Enactment → Type 0
AsksEnact arguments values = AsksFor (codes "enact") (λ rows. FindsEnactment rows values) arguments

abbrev pub AsksPlan : List Text → Planning → Type 0
AsksPlan arguments values = AsksFor (codes "plan") (λ rows. FindsPlanning rows values) arguments

abbrev pub AsksExplore : List Text → Exploration → Type 0
AsksExplore arguments values = AsksFor (codes "explore") (λ rows. FindsExploration rows values) arguments

abbrev pub AsksCertify : List Text → Certification → Type 0
AsksCertify arguments values = AsksFor (codes "certify") (λ rows. FindsCertification rows values) arguments

-- the files that are to be looked at
abbrev pub AsksCheck : List Text → Checking → Type 0
AsksCheck arguments values = AsksFor (codes "check") (λ rows. FindsChecking rows values) arguments

abbrev pub AsksSupervise : List Text → Supervision → Type 0
AsksSupervise arguments values = AsksFor (codes "supervise") (λ rows. FindsSupervision rows values) arguments

abbrev pub AsksAdopt : List Text → Adoption → Type 0
AsksAdopt arguments values = AsksFor (codes "adopt") (λ rows. FindsAdoption rows values) arguments

abbrev pub AsksChild : List Text → Type 0
AsksChild arguments = AsksFor (codes "child") (λ rows. ⊤) arguments

-- the code that is to be explained, if there is one
abbrev pub AsksExplain : List Text → Option Text → Type 0
AsksExplain arguments code = AsksFor (codes "explain") (λ rows. code ≡ first_of (codes "code") rows) arguments

-- `clap` answers the arguments with the help or the version
abbrev pub AsksText : List Text → Type 0
AsksText arguments = IsAmong DisplayHelp (fault_of prefork_app arguments)
    ⊎ IsAmong DisplayVersion (fault_of prefork_app arguments)

-- `clap` takes the arguments, or answers them with the help or the version
abbrev pub Takes : List Text → Type 0
Takes arguments = (fault_of prefork_app arguments ≡ []) ⊎ AsksText arguments

abbrev pub Asks : List Text → Request → Type 0
Asks arguments (Enact options) = AsksEnact arguments (enactment_of options)
Asks arguments (Plan options) = AsksPlan arguments (planning_of options)
Asks arguments (Explore options) = AsksExplore arguments (exploration_of options)
Asks arguments (Certify options) = AsksCertify arguments (certification_of options)
Asks arguments (Check options) = AsksCheck arguments (checking_of options)
Asks arguments (Supervise options) = AsksSupervise arguments (supervision_of options)
Asks arguments (Adopt options) = AsksAdopt arguments (adoption_of options)
Asks arguments Child = AsksChild arguments
Asks arguments (Explain options) = AsksExplain arguments (option_map (λ text. text.now) options.code)
Asks arguments (Show text) = AsksText arguments

-- the arguments ask for no master that runs, nor for one of its children
pub record AsksForNoChild (arguments : List Text) : Type 0 where
  pub no_supervise : (values : Supervision) → ¬ AsksSupervise arguments values
  pub no_adopt : (values : Adoption) → ¬ AsksAdopt arguments values
  pub no_child : ¬ AsksChild arguments

-- the arguments ask for nothing: neither for a subcommand nor for a text alone
pub record IsUsageFault (arguments : List Text) : Type 0 where
  pub no_enact : (values : Enactment) → ¬ AsksEnact arguments values
  pub no_plan : (values : Planning) → ¬ AsksPlan arguments values
  pub no_explore : (values : Exploration) → ¬ AsksExplore arguments values
  pub no_certify : (values : Certification) → ¬ AsksCertify arguments values
  pub no_check : (values : Checking) → ¬ AsksCheck arguments values
  pub no_child : AsksForNoChild arguments
  pub no_explain : (code : Option Text) → ¬ AsksExplain arguments code
  pub no_help : fault_of prefork_app arguments ≢ DisplayHelp ∷ []
  pub no_version : fault_of prefork_app arguments ≢ DisplayVersion ∷ []

abbrev pub IsRefusedBy : List Text → Refusal → Type 0
IsRefusedBy arguments Usage = IsUsageFault arguments
IsRefusedBy arguments Memory = ⊤

-- what `clap` tells is want of memory, or a text that is to be written
abbrev pub TakesMemory : ErrorKind → Type 0
TakesMemory OutOfMemory = ⊤
TakesMemory DisplayHelp = ⊤
TakesMemory DisplayVersion = ⊤
TakesMemory _ = ⊥

-- what `clap` found is what it finds in the arguments
pub record AreMatchesOf (arguments : List Text) (matches : ArgMatches) : Type 0 where
  pub taken : fault_of prefork_app arguments ≡ []
  pub command : subcommand_rows_of matches ≡ subcommand_of prefork_app arguments
