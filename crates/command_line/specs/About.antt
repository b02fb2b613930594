-- The answers of a program about itself.
use Rattle.std.specs.Prelude.{ℕ, List, ◌++◌, codes}
use Rattle.command_line.specs.declared.about.Question.{Question}
use Rattle.command_line.specs.declared.about.Question.TheVariants.{Help, Version}

-- the version after the program's name, and the toolchain that it was proved with
abbrev pub version_lines : List ℕ
version_lines = codes " 0.1.0\nproved with Rattle logic dac8208d650f15bf\n"

abbrev pub printed : List ℕ → List ℕ → Question → List ℕ
printed name help Help = help
printed name help Version = name ++ version_lines
