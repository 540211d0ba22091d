-- What the shell does for a script: a fold over its lines, from a host that holds nothing.
use Rattle.std.specs.Prelude.{ℕ, zero, suc, ◌+◌, Bool, true, false, ◌||◌, List, [], ◌∷◌, ◌++◌, length, take, if◌then◌else◌, Result, Ok, Err}
use Rattle.std.specs.declared.option.Option.{Option}
use Rattle.std.specs.declared.option.Option.TheVariants.{Some, None}
use Rattle.std.specs.Option.{option_and_then, option_map}
use Rattle.std.specs.List.{flat_map}
use Rattle.dataset_tree.specs.declared.refusal.Refusal.{Refusal}
use Rattle.dataset_tree.specs.declared.snap_name.SnapName.{SnapName}
use Rattle.edge_io.specs.Entropy.{is_short}
use Rattle.edge_io.specs.KeyFiles.{fetched}
use Rattle.encryption_roots.specs.declared.props.Location.{Location}
use Rattle.encryption_roots.specs.declared.props.Location.TheVariants.{Prompt, File}
use Rattle.encryption_roots.specs.declared.kit.Fetched.{Fetched}
use Rattle.encryption_roots.specs.declared.kit.Fetched.TheVariants as fetches
use Rattle.encryption_roots.specs.declared.kit.SeedGot.{SeedGot}
use Rattle.encryption_roots.specs.declared.kit.SeedGot.TheVariants as seeds
use Rattle.encryption_roots.specs.declared.kit.LineKit.{LineKit}
use Rattle.encryption_roots.specs.declared.command.KeyCmd.{KeyCmd}
use Rattle.key_machine.specs.Reply.{Reply, Refused}
use Rattle.key_machine.specs.Step.{refusal_of, wanted}
use Rattle.key_machine.specs.Told.{Wanted}
use Rattle.shell_lines.specs.declared.line.Line.{Line}
use Rattle.shell_lines.specs.Grammar.{line_of}
use Rattle.shell_run.specs.declared.found.FoundEntry.{FoundEntry}
use Rattle.shell_run.specs.declared.job.SpotName.{SpotName}
use Rattle.shell_run.specs.declared.task.Report.{Report}
use Rattle.shell_run.specs.declared.found.FoundKind.{FoundKind}
use Rattle.shell_run.specs.declared.found.FoundKind.TheVariants.{OldKey, NewKey, Seed}
use Rattle.host_state.specs.FileLines.{FileStepped, file_step}
use Rattle.host_state.specs.Hosts.{HostState, HostStepped, host_step, no_host}
use Rattle.host_state.specs.SpotLines.{clone_step, destroy_snap_step, destroy_step, refused_host, snapshot_step}
use Rattle.shell_run.specs.Outer.{Outer, left_after}
use Rattle.shell_run.specs.Script.{Script, ToldScript, Given, Gives, Stops, past_line, prompted, script_of, script_told, within_limits}
use Rattle.shell_run.specs.Takings.{Taking, entries_of, has_entry, fills_of}
use Rattle.shell_run.specs.Jobs.{Job, on_clone, on_destroy, on_files, on_keys, on_snapshot, job_of}
use Rattle.shell_run.specs.Reports.{is_refusal, reply_output, reported, closing, file_output}
use Rattle.shell_run.specs.Texts.{bad_line, usage_line}
use Rattle.shell_run.specs.Words.{default_limit, limit_of}

-- ---- the world

-- what a script works on: the present host, the key files, the entropy that is left, and what is left of the script
pub record World : Type 0 where
  pub present : HostState
  pub files : List (List ℕ × List ℕ)
  pub entropy : List ℕ
  pub script : Script

abbrev pub world_of : HostState → List (List ℕ × List ℕ) → List ℕ → Script → World
world_of present files entropy script =
    record { present = present; files = files; entropy = entropy; script = script }

-- the world of this host, where its shelves, key files, entropy and script are told
abbrev pub told_world : HostState → Outer → ToldScript → Option World
told_world present outer script =
    if present.tells then
    option_and_then (λ (files : List (List ℕ × List ℕ)). option_and_then (λ (left : List ℕ).
    option_map (world_of present files left) (script_told script)) outer.entropy) outer.files
    else None

-- ---- what a command takes

-- the part of a line that makes takings, with the line's own entries
pub record Spot : Type 0 where
  pub line : ℕ
  pub part : ℕ
  pub entries : List FoundEntry

-- a taking there, which fails where the line's entries have it
abbrev pub taking_at : Spot → FoundKind → Taking
taking_at spot what =
    let entry : FoundEntry = record { line = spot.line; part = spot.part; what = what } in
    record { entry = entry; fails = has_entry entry spot.entries }

-- a seed, which fails too where fewer than 32 bytes are left
abbrev pub seed_at : Spot → List ℕ → Taking
seed_at spot left = let listed = taking_at spot Seed in record listed { fails = listed.fails || is_short left }

-- the taking is made where the place is a file
abbrev pub fetch_at : Taking → Option Location → List Taking
fetch_at taking None = []
fetch_at taking (Some Prompt) = []
fetch_at taking (Some (File path)) = taking ∷ []

abbrev pub material_of : Option (List ℕ) → Fetched
material_of None = fetches.Missing
material_of (Some bytes) = fetches.Got bytes

abbrev pub at_prompt : Given (List ℕ) → Given Fetched
at_prompt (Gives material left) = Gives (fetches.Got material) left
at_prompt (Stops number at) = Stops number at

abbrev pub material_at : Taking → List (List ℕ × List ℕ) → Script → Option Location → Given Fetched
material_at taking files script None = Gives fetches.NotAsked script
material_at taking files script (Some Prompt) = at_prompt (prompted script)
material_at taking files script (Some (File path)) =
    Gives (if taking.fails then fetches.Fault else material_of (fetched path files)) script

abbrev pub fill_at : Taking → Bool → List Taking
fill_at taking false = []
fill_at taking true = taking ∷ []

abbrev pub seed_from : Taking → List ℕ → Bool → SeedGot
seed_from taking left false = seeds.NotAsked
seed_from taking left true = if taking.fails then seeds.Fault else seeds.Got (take 32 left)

-- old material, new material and a seed, each that is wanted, whatever the others gave
abbrev pub takings_of : Spot → List ℕ → Wanted → List Taking
takings_of spot left wants =
    fetch_at (taking_at spot OldKey) wants.old_place ++ fetch_at (taking_at spot NewKey) wants.new_place
    ++ fill_at (seed_at spot left) wants.seed

-- What a command takes: a kit, which leaves so much of the script; or a prompt ends the run, behind these takings.
pub data Supply : Type 0 where
  Has : (kit : LineKit) (left : Script) (takings : List Taking) → Supply
  Lacks : (number at : ℕ) (takings : List Taking) → Supply

abbrev pub with_new : Spot → List ℕ → Wanted → (old : Fetched) → Given Fetched → Supply
with_new spot left wants old (Stops number at) = Lacks number at (fetch_at (taking_at spot OldKey) wants.old_place)
with_new spot left wants old (Gives new script) =
    Has (record {
      old_key = old;
      new_key = new;
      seed = seed_from (seed_at spot left) left wants.seed;
    }) script (takings_of spot left wants)

abbrev pub with_old : Spot → List (List ℕ × List ℕ) → List ℕ → Wanted → Given Fetched → Supply
with_old spot files left wants (Stops number at) = Lacks number at []
with_old spot files left wants (Gives old script) =
    with_new spot left wants old (material_at (taking_at spot NewKey) files script wants.new_place)

abbrev pub kit_of : Spot → List (List ℕ × List ℕ) → List ℕ → Script → Wanted → Supply
kit_of spot files left script wants =
    with_old spot files left wants (material_at (taking_at spot OldKey) files script wants.old_place)

-- ---- a command

-- what a command leaves, its reply, and the takings that it makes
pub record Commanded : Type 0 where
  pub world : World
  pub reply : Reply
  pub takings : List Taking

-- A command is carried out; or a prompt ends the run at a place of the line of this number, and leaves this
-- world after these takings.
pub data Outcome : Type 0 where
  Does : (done : Commanded) → Outcome
  Halts : (number at : ℕ) (world : World) (takings : List Taking) → Outcome

-- the host's step under what the command has taken
abbrev pub supplied : World → KeyCmd → Supply → Outcome
supplied w command (Lacks number at takings) = Halts number at w takings
supplied w command (Has kit left takings) =
    let step = host_step w.present command kit in
    Does (record {
      world = world_of step.state w.files (left_after (fills_of takings) w.entropy) left;
      reply = step.reply;
      takings = takings;
    })

abbrev pub refused_at_once : World → Refusal → Outcome
refused_at_once w why = Does (record { world = w; reply = Refused why; takings = [] })

-- A command that the state refuses takes nothing.
abbrev pub unless_refused : Spot → World → KeyCmd → Option Refusal → Outcome
unless_refused spot w command (Some why) = refused_at_once w why
unless_refused spot w command None =
    supplied w command (kit_of spot w.files w.entropy w.script (wanted w.present.keys command))

abbrev pub commanded : Spot → World → KeyCmd → Outcome
commanded spot w command = unless_refused spot w command (refusal_of w.present.keys command)

-- ---- a line

-- a line's turn: what it leaves, what it prints, and the takings that it makes
pub record Turn : Type 0 where
  pub world : World
  pub output : List ℕ
  pub takings : List Taking

-- A line has its turn; or it ends the run at a place of the line of this number, and leaves this world after
-- these takings.
pub data Answer : Type 0 where
  Goes : (turn : Turn) → Answer
  Ends : (number at : ℕ) (world : World) (takings : List Taking) → Answer

-- what the commands of a line have done so far: the turn that they make, how many were tried, and how many went well
pub record Performed : Type 0 where
  pub turn : Turn
  pub tried : ℕ
  pub well : ℕ

abbrev pub begun : World → Performed
begun w = record { turn = record { world = w; output = []; takings = [] }; tried = 0; well = 0 }

-- one command more
abbrev pub with_done : ℕ → Report → KeyCmd → Performed → Commanded → Performed
with_done n report command before done = record {
  turn = record {
    world = done.world;
    output = before.turn.output ++ reported n done.world.present.keys report command done.reply;
    takings = before.turn.takings ++ done.takings;
  };
  tried = before.tried + 1;
  well = if is_refusal done.reply then before.well else before.well + 1;
}

-- behind all commands
abbrev pub closed : ℕ → Report → Performed → Turn
closed n report done =
    record done.turn { output = done.turn.output ++ closing n done.turn.world.present report done.well done.tried }

-- where a command halts, what those before it did stays done
abbrev pub unless_halted : Performed → Outcome → (Commanded → Answer) → Answer
unless_halted before (Does done) rest = rest done
unless_halted before (Halts number at w takings) rest = Ends number at w (before.turn.takings ++ takings)

-- Commands of line n one after another, each of a part of its own, behind what was done before them.
abbrev pub performed : ℕ → List FoundEntry → Report → Performed → List KeyCmd → Answer
performed n entries report before [] = Goes (closed n report before)
performed n entries report before (command ∷ later) =
    unless_halted before (commanded (record {
      line = n;
      part = before.tried;
      entries = entries;
    }) before.turn.world command)
    (λ done. performed n entries report (with_done n report command before done) later)

-- A command about files takes nothing: it is the host's step alone.
abbrev pub filed : ℕ → World → FileStepped → Turn
filed n w step = record {
  world = record w { present = step.state };
  output = file_output n step.state.keys.tree.rows step.reply;
  takings = [];
}

-- a host's step that takes nothing, of which the reply is printed
abbrev pub stepped_turn : ℕ → World → HostStepped → Turn
stepped_turn n w step = record {
  world = record w { present = step.state };
  output = reply_output n step.state.keys step.reply;
  takings = [];
}

-- a snapshot of this name, or why it is the name of none
abbrev pub named_snapshot : HostState → Result SnapName Refusal → SeedGot → HostStepped
named_snapshot h (Ok name) seed = snapshot_step h name.set name.snap seed
named_snapshot h (Err why) seed = refused_host h why

-- A snapshot takes a seed, whatever refuses it.
abbrev pub snapshot_turn : ℕ → World → Taking → Result SnapName Refusal → Turn
snapshot_turn n w taking name =
    let step = named_snapshot w.present name (seed_from taking w.entropy true) in
    record {
      world = record w { present = step.state; entropy = left_after (fills_of (taking ∷ [])) w.entropy };
      output = reply_output n step.state.keys step.reply;
      takings = taking ∷ [];
    }

abbrev pub destroyed_at : HostState → (set : List ℕ) → Option (List ℕ) → HostStepped
destroyed_at h set None = destroy_step h set
destroyed_at h set (Some part) = destroy_snap_step h set part

-- a dataset that goes, or a snapshot
abbrev pub destroyed : HostState → SpotName → HostStepped
destroyed h spot = destroyed_at h spot.set spot.snap

-- the only part of a line of one command
abbrev pub only_part : ℕ → List FoundEntry → Spot
only_part n entries = record { line = n; part = 0; entries = entries }

abbrev pub answer_to : ℕ → List FoundEntry → World → Job → Answer
answer_to n entries w (on_keys asked) = performed n entries asked.report (begun w) asked.commands
answer_to n entries w (on_files command) = Goes (filed n w (file_step w.present command))
answer_to n entries w (on_snapshot name) = Goes (snapshot_turn n w (seed_at (only_part n entries) w.entropy) name)
answer_to n entries w (on_clone from name) = Goes (stepped_turn n w (clone_step w.present from.set from.snap name))
answer_to n entries w (on_destroy spot) = Goes (stepped_turn n w (destroyed w.present spot))

-- line n, taken from the world's script, where its own failed takings are these
abbrev pub answer_of : ℕ → List FoundEntry → World → Line → Answer
answer_of n entries w line = answer_to n entries w (job_of w.present.keys line)

-- the bytes spell a line of the language
abbrev pub checked : ℕ → List ℕ → Result Line ℕ
checked n bytes = within_limits n bytes (λ at. Err at) (line_of bytes 0)

abbrev pub answer_if : ℕ → List FoundEntry → World → Result Line ℕ → Answer
answer_if n entries w (Ok line) = answer_of n entries w line
answer_if n entries w (Err at) = Ends n at w []

-- ---- a run

-- the turns of a script's lines, the status, and the last line, which says why the run ended before the script did
pub record Run : Type 0 where
  pub turns : List Turn
  pub status : ℕ
  pub last : List ℕ

abbrev pub replies_of : List Turn → List ℕ
replies_of turns = flat_map (λ turn. turn.output) turns

abbrev pub made_in : List Turn → List Taking
made_in turns = flat_map (λ turn. turn.takings) turns

-- all that is printed
abbrev pub output_of : Run → List ℕ
output_of run = replies_of run.turns ++ run.last

abbrev pub preceded : List Turn → Run → Run
preceded turns run = record { turns = turns ++ run.turns; status = run.status; last = run.last }

-- A line has its turn, and then those behind it have theirs; or the run is over, and nothing of that line is printed.
abbrev pub goes_on : Answer → (Turn → Run) → Run
goes_on (Goes turn) rest = preceded (turn ∷ []) (rest turn)
goes_on (Ends number at w takings) rest =
    record { turns = record { world = w; output = []; takings = takings } ∷ []; status = 3; last = bad_line number at }

abbrev pub run_over : Run
run_over = record { turns = []; status = 0; last = [] }

-- from the line on that stands next, where these are its lines
abbrev pub run_before : List FoundEntry → World → List (List ℕ) → (Turn → Run) → Run
run_before found w [] rest = run_over
run_before found w (bytes ∷ later) rest =
    let n = w.script.next in
    goes_on (answer_if n (entries_of n found) (record w { script = past_line w.script later }) (checked n bytes)) rest

-- the lines that are left of the world's script, of which at most so many have their turn
abbrev pub run_within : (bound : ℕ) → List FoundEntry → World → Run
run_within zero found w = run_over
run_within (suc bound) found w = run_before found w w.script.ahead (λ turn. run_within bound found turn.world)

-- each turn takes a line at least
abbrev pub run_from : List FoundEntry → World → Run
run_from found w = run_within (length w.script.ahead) found w

-- the world in which a salt of a new family serves so many draws
abbrev pub with_limit : ℕ → World → World
with_limit limit w = record w { present = record w.present { limit = limit } }

-- a faulty command line gives the usage alone
abbrev pub run_under : Option ℕ → List FoundEntry → World → Run
run_under None found w = record { turns = []; status = 2; last = usage_line }
run_under (Some limit) found w = run_from found (with_limit limit w)

-- The whole run under these words, from this world on, where these takings fail.
abbrev pub transcript : (words : List (List ℕ)) → List FoundEntry → World → Run
transcript words found w = run_under (limit_of words) found w

-- the run of a host that holds nothing, whose shelves tell what was put on them or not, where script, key files and
-- entropy are told
abbrev pub told_transcript : (tells : Bool) → (words : List (List ℕ)) → Option (List ℕ) → Outer → List FoundEntry
    → Option Run
told_transcript tells words script outer found =
    option_map (transcript words found) (told_world (no_host tells default_limit) outer (script_of 1 script))
