-- What the program says and answers where it fails.
use Rattle.std.specs.Prelude.{ℕ, List, ◌++◌, codes}
use Rattle.std.specs.Fmt.{decimal}
use Rattle.pdb_list.specs.declared.report.Fault.{Fault}
use Rattle.pdb_list.specs.declared.report.Fault.TheVariants.{Usage, Read, Open, Memory, Write}
use Rattle.pdb_list.specs.declared.engine.RunError.{RunError}
use Rattle.pdb_list.specs.declared.engine.RunError.TheVariants as run
use Rattle.pdb_text.specs.declared.words.WordsError.{WordsError}
use Rattle.pdb_text.specs.declared.words.WordsError.TheVariants as words
use Rattle.pdb_file.specs.declared.reading.FetchError.{FetchError}
use Rattle.pdb_file.specs.declared.reading.FetchError.TheVariants as fetch
use Rattle.pdb.specs.Refusal.{number_of}

-- what a stopped run is to the program
abbrev pub fault_of_run : RunError → Fault
fault_of_run run.OutOfMemory = Memory
fault_of_run (run.Open e) = Open (number_of e)
fault_of_run run.Read = Read
fault_of_run run.Write = Write

-- what a read that failed is to the program
abbrev pub fault_of_fetch : FetchError → Fault
fault_of_fetch fetch.Read = Read
fault_of_fetch fetch.Memory = Memory

-- what words are that spell no commands
abbrev pub fault_of_words : WordsError → Fault
fault_of_words (words.BadWord argument) = Usage
fault_of_words words.OutOfMemory = Memory

-- the line on standard error
abbrev pub fault_line : Fault → List ℕ
fault_line Usage = codes "usage: pdb_list FILE COMMAND..\n"
fault_line Read = codes "cannot read file\n"
fault_line (Open n) = codes "cannot open: " ++ decimal n ++ codes "\n"
fault_line Memory = codes "out of memory\n"
fault_line Write = codes "cannot write\n"

-- the exit status
abbrev pub status_of : Fault → ℕ
status_of Usage = 2
status_of Read = 3
status_of (Open n) = 4
status_of Memory = 5
status_of Write = 6
