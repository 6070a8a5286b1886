-- What a program says of itself.
use Rattle.std.specs.Prelude.{◌≡◌, ℕ, List, ◌++◌, codes, string_bytes}
use Rattle.programs.specs.declared.help.Help.{Help}

-- the line that is typed in with the example's world, up to the program
abbrev pub example_typed : List ℕ
example_typed = codes "    (echo 3 offices, 8 parcels; echo at 0: accept for 2, 50; echo at 0: send 0 to 1) | "

-- how a program is called, what it does, an example, and where to read on
abbrev pub help_text : Help → List ℕ
help_text help =
    codes "usage: " ++ (string_bytes help.called ++ (codes " FILE..\n\n" ++ (help.does.now ++ (codes " A FILE says what happens at a few post offices, line by line; '-' is standard input.\n\nTo get started, type in\n\n" ++ (example_typed ++ (string_bytes help.called ++ (codes " -\n\nIt prints\n\n" ++ (help.prints.now ++ codes "\n\ndocs/FORMATS.md has each line that a FILE can have, docs/NUMBERS.md why a call is refused."))))))))

-- the help of a program that was called by this name, does this, and prints this of the example
abbrev pub IsHelp : List ℕ → List ℕ → List ℕ → Help → Type 0
IsHelp called does prints help = (string_bytes help.called ≡ called) × (help.does.now ≡ does) × (help.prints.now ≡ prints)
