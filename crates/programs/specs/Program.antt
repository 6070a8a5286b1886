-- What a program says where it ends early.
use Rattle.std.specs.Prelude.{ℕ, List, ◌++◌, Option, Some, None, codes, string_bytes}
use Rattle.programs.specs.Arguments.{source_text}
use Rattle.programs.specs.Help.{help_text}
use Rattle.player.specs.Texts.{bad_line_text}
use Rattle.programs.specs.declared.program.Failure.{Failure}
use Rattle.programs.specs.declared.program.Failure.TheVariants.{NoFile, UnknownOption, Arguments, Output, Unread, Bad}

-- how many things happen in a world at most
abbrev pub most_things : ℕ
most_things = 65536

-- its help, that there is no such option, or which line of what it read is bad, and why; what the system says is left open
abbrev pub failure_text : Failure → Option (List ℕ)
failure_text (NoFile help) = Some (help_text help)
failure_text (UnknownOption called option) = Some (codes "no option '" ++ (string_bytes option ++ (codes "': try '" ++ (string_bytes called ++ (codes " --help', or './" ++ (string_bytes option ++ codes "' for a file"))))))
failure_text (Arguments program error) = None
failure_text (Output program error) = None
failure_text (Unread source error) = None
failure_text (Bad source bad) = Some (source_text source ++ (codes ":" ++ bad_line_text bad))
