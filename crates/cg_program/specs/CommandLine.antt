-- The command line: the program's `clap` command as data.
use Rattle.std.specs.Prelude.{List, [], ◌∷◌, Some, true, false, codes, map, Bool, if◌then◌else◌}
use Rattle.std.specs.Borrow.{Bor}
use Rattle.cg_program.specs.declared.help.Row.{Row}
use Rattle.clap.specs.Words.{App, Rule, Text, new_app, new_rule, with_rule, with_subcommand}
use Rattle.clap.specs.declared.builder.action.ArgAction.TheVariants.{Set, SetTrue}
use Rattle.clap.specs.declared.builder.value_parser.ValueParser.TheVariants as vp

-- `--NAME N`, with N a number of 64 bits
abbrev pub count_rule : Text → Rule
count_rule name = record (new_rule name) {
  long = Some name;
  action = Some Set;
  parser = Some (vp.Unsigned 0 18446744073709551615);
  value_names = 1;
}

-- names that the program lends to `clap`: the texts, and the places where they lie
abbrev pub Lent : Type 0
Lent = Bor (List (Bor Text))

abbrev pub texts_of : Lent → List Text
texts_of names = map (λ name. name.now) names.now

-- `--profile P`, with P one of these names
abbrev pub profile_rule : Lent → Rule
profile_rule names = record (new_rule (codes "profile")) {
  long = Some (codes "profile");
  action = Some Set;
  parser = Some (vp.Names names);
  value_names = 1;
}

-- `--NAME`, which has no value
abbrev pub flag_rule : Text → Rule
flag_rule name = record (new_rule name) { long = Some name; action = Some SetTrue }

abbrev pub name_rule : Rule
name_rule = record (new_rule (codes "NAME")) { action = Some Set; required = true }

-- the options that stand before a command's word and after it
abbrev pub with_options : Lent → App → App
with_options names a = with_rule (with_rule (with_rule (with_rule (with_rule (with_rule a (profile_rule names))
    (count_rule (codes "max-record")))
    (count_rule (codes "max-lines")))
    (count_rule (codes "max-stream")))
    (flag_rule (codes "explain")))
    (flag_rule (codes "keep-going"))

-- NAME and `--known`, where a file is named
abbrev pub with_name : (takes_name : Bool) → App → App
with_name takes_name a = if takes_name then with_rule (with_rule a name_rule) (flag_rule (codes "known")) else a

-- the words of the commands, and which of them name a file
abbrev pub commands : List (Text × Bool)
commands = (codes "file", true)
    ∷ (codes "setting", true)
    ∷ (codes "show", false)
    ∷ (codes "json", false)
    ∷ (codes "plan", false)
    ∷ (codes "check", false)
    ∷ (codes "kinds", false)
    ∷ []

abbrev pub commands_of : List Row → List (Text × Bool)
commands_of rows = map (λ (row : Row). (row.word.now, row.takes_name)) rows

-- the subcommand of one of them
abbrev pub sub_app : Lent → Text × Bool → App
sub_app names c = with_options names (with_name c.1 (new_app c.0))

abbrev pub with_commands : Lent → List (Text × Bool) → App → App
with_commands names [] a = a
with_commands names (c ∷ cs) a = with_commands names cs (with_subcommand a (sub_app names c).top)

abbrev pub start_app : App
start_app = let a = new_app (codes "cgfile") in record a {
  top = record a.top {
    no_binary_name = true;
    subcommand_required = true;
    disable_help_subcommand = true;
    has_version = true;
  };
}

-- the program's command: its options and its subcommands
unfoldable pub cgfile_app : Lent → App
cgfile_app names = with_commands names commands (with_options names start_app)
